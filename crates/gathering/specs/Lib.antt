pub mod Letters
pub mod Gathering
