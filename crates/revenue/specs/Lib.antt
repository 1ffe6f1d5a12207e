pub mod Limits
pub mod Closings
pub mod Checks
pub mod Law
