pub mod Firsts
pub mod Makings
pub mod Tables
pub mod Roads
pub mod Stages
pub mod Passes
pub mod Lays
