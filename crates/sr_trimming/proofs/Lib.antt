pub mod Reordered
pub mod Loaded
pub mod Rewritten
pub mod ProofsRewritten
pub mod Placed
pub mod Leanness
pub mod Evidence
pub mod Written
pub mod CoreFirst
pub mod Origins
pub mod PivotFirst
mod OrderExamples
mod LoadingExamples
