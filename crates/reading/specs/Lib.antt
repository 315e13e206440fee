pub mod Forms
pub mod Read
pub mod Laws
pub mod Faults
pub mod Told
pub mod Steps
pub mod Line
