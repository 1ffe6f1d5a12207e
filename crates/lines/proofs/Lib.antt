pub mod Sheets
pub mod Splits
pub mod Places
pub mod Digits
pub mod Decimals
pub mod Commands
pub mod Inverse
