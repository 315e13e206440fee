pub mod Lines
pub mod Answered
pub mod Taken
pub mod Stepping
