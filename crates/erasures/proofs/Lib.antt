pub mod Products
pub mod Reducing
pub mod Correcting
pub mod Agreeing
pub mod Repairing
pub mod Eliminating
