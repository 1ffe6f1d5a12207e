pub mod Halves
pub mod Rulings
