pub mod Plain
pub mod Steps
pub mod Numbers
pub mod Fronts
pub mod WriteLemmas
