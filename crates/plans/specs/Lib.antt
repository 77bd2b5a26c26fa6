pub mod Numbers
pub mod Schedules
pub mod Tables
pub mod Faults
pub mod Answers
pub mod Texts
