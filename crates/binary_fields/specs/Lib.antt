pub mod Tables
pub mod Laws
