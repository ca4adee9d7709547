pub mod Trail
pub mod Storage
pub mod Ends
pub mod Indexing
pub mod Candidates
pub mod Ready
pub mod Checking
pub mod Trials
