pub mod Completing
pub mod Rejecting
