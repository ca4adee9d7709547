pub mod Said
pub mod Trimming
pub mod Deciding
pub mod Outputs
pub mod Finding
pub mod Lines
pub mod Passing
pub mod Reporting
