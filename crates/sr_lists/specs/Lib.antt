pub mod Stacks
pub mod Chains
pub mod Family
pub mod Walk
