pub mod NumberLemmas
pub mod RunLemmas
pub mod LiteralLemmas
pub mod SplitLemmas
pub mod WriteLemmas
