pub mod Reading
pub mod Never
