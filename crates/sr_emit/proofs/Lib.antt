pub mod Lines
pub mod Quiet
pub mod Verified
