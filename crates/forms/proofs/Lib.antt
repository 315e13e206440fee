pub mod Asked
pub mod Taking
pub mod Valued
