pub mod Printed
pub mod Meaning
pub mod Steps
