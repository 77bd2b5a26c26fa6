pub mod Cells
pub mod Laid
pub mod Sweeps
pub mod Local
