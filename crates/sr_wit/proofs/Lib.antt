pub mod PieceLemmas
pub mod GroupLemmas
pub mod PartLemmas
pub mod WitnessLemmas
pub mod KeptLemmas
pub mod ReduceLemmas
pub mod SlotLemmas
