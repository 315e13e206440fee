pub mod Words
pub mod Faults
pub mod Lists
pub mod Orders
pub mod Judging
