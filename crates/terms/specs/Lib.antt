pub mod Letters
pub mod Points
pub mod Refusals
pub mod Faults
pub mod Rounding
