pub mod Judging
pub mod Grounding
