pub mod Replay
pub mod LinesRead
pub mod Fitting
pub mod StepsWithin
pub mod Loads
pub mod Counting
pub mod Accepts
pub mod Running
