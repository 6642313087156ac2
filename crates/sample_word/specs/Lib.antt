pub mod Sample
pub mod Numbers
pub mod Answers
