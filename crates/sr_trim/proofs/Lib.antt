pub mod Standings
pub mod Opened
pub mod Found
pub mod Passed
pub mod Wrote
pub mod Unverified
