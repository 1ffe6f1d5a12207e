pub mod Turns
pub mod Runs
pub mod Outputs
