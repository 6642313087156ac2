pub mod Products
pub mod Lists
pub mod Calls
pub mod Words
pub mod Refusals
