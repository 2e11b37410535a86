pub mod TopLemmas
pub mod DiskLemmas
pub mod OnlineLemmas
pub mod ObeyLemmas
