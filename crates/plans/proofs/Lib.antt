pub mod Numbers
pub mod Blocks
pub mod Table
pub mod Texts
