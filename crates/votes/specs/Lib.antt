pub mod Entries
pub mod Laws
pub mod Meanings
pub mod VoteLaws
pub mod Counts
pub mod Only
