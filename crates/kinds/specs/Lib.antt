pub mod Models
pub mod Ranges
pub mod Rights
pub mod Triggers
pub mod RightCodes
pub mod RangeFacts
pub mod TriggerCodes
pub mod Texts
