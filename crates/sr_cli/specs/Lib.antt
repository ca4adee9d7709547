pub mod Commands
pub mod Demo
pub mod Words
pub mod Check
pub mod Runs
pub mod Touching
pub mod Run
