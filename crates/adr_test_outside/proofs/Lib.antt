pub mod ConnectionLemmas
