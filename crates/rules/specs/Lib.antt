pub mod Limits
pub mod Points
pub mod Weights
pub mod Plain
pub mod Runs
pub mod Promises
pub mod Laws
