pub mod Pairing
pub mod Privacy
pub mod Runs
pub mod Totals
pub mod Lives
