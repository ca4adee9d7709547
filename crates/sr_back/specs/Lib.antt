pub mod Queued
pub mod Citing
pub mod Testing
pub mod Tries
pub mod Pass
pub mod Turning
