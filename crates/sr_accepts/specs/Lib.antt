pub mod Accepting
pub mod Running
