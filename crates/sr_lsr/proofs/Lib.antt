pub mod DropLemmas
pub mod HintLemmas
pub mod StepLemmas
pub mod BeginLemmas
pub mod ItemLemmas
pub mod WriteLemmas
