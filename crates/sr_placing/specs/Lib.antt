pub mod Marks
pub mod Uses
pub mod Placing
pub mod Parts
pub mod Counting
pub mod Sinking
pub mod SinkLaws
