pub mod Occurring
pub mod Candidates
