pub mod Flaws
pub mod Names
pub mod Numbers
pub mod Steps
pub mod Texts
