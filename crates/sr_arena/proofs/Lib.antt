pub mod Clauses
pub mod Laying
pub mod Moving
pub mod Standing
pub mod Weighing
