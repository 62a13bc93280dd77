pub mod StandingLemmas
pub mod ShownLemmas
pub mod ContextLemmas
pub mod Planned
pub mod Lending
pub mod Searches
pub mod IndexLemmas
pub mod StepLemmas
