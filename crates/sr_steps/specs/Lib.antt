pub mod Kept
pub mod Groups
pub mod Places
pub mod Adding
