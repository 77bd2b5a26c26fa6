pub mod Lines
pub mod Piles
pub mod Scripts
pub mod Laws
pub mod States
pub mod Faults
pub mod Calls
