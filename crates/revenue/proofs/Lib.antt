pub mod Balances
