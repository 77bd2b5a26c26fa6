pub mod Widths
pub mod Sequences
pub mod Units
pub mod Sizes
pub mod Tables
pub mod Walks
