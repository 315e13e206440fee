pub mod Causes
pub mod Masks
pub mod Promises
pub mod Rebuilding
pub mod Shares
