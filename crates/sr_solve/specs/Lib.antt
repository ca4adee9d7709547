pub mod Ordering
pub mod Learning
pub mod Cutting
pub mod Levels
pub mod Solving
pub mod SolvingLaws
