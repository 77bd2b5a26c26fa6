pub mod Converting
pub mod Steps
