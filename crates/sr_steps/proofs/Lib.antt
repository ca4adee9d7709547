pub mod Lying
pub mod Sorting
pub mod Growing
pub mod Reading
