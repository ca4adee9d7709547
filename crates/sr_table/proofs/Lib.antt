pub mod Paging
pub mod Numbering
