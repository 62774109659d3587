pub mod Digits
pub mod Place
pub mod Step
