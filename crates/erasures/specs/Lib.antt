pub mod Agreement
pub mod Elimination
