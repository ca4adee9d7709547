pub mod FrameLemmas
pub mod BeginLemmas
pub mod WriteLemmas
