pub mod Left
pub mod Lexeme
pub mod Machine
pub mod Front
pub mod Binary
pub mod BinaryLeft
pub mod Written
