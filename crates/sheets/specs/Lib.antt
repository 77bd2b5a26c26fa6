pub mod Asked
pub mod Topics
pub mod Questions
pub mod Lines
pub mod Reading
