pub mod Answering
pub mod Filling
pub mod Weighing
