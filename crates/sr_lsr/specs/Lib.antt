pub mod Reads
pub mod Told
pub mod Frames
pub mod Steps
pub mod Items
pub mod Written
