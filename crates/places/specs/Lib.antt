pub mod Numbers
pub mod Faults
pub mod Answers
pub mod Texts
pub mod Entries
