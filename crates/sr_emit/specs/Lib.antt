pub mod Status
pub mod Flaws
pub mod FileNames
pub mod Names
pub mod Help
pub mod Sentences
pub mod Reasons
pub mod Report
