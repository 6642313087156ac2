pub mod Meaning
pub mod Answers
pub mod Polynomials
pub mod Pairs
