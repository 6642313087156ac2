pub mod Lists
pub mod Starting
pub mod Filling
pub mod Stepping
pub mod Deciding
