pub mod Desks
pub mod Faults
pub mod Texts
pub mod Sheets
pub mod Taking
