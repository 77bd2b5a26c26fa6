pub mod Levels
pub mod Index
pub mod Free
pub mod Table
pub mod Bounds
pub mod Fans
