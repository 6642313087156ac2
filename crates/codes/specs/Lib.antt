pub mod Words
pub mod Answers
pub mod Systematic
pub mod Arrays
pub mod Theorems
