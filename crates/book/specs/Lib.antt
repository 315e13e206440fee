pub mod Books
pub mod Calls
pub mod Secrets
pub mod Slates
pub mod States
pub mod Values
