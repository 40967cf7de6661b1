pub mod Lines
pub mod Checks
