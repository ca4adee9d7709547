pub mod Literal
pub mod LiteralCode
pub mod Limits
pub mod Contents
pub mod Words
