pub mod SameCode
