pub mod Holes
pub mod Places
pub mod Laws
