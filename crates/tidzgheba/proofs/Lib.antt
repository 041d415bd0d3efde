pub mod WantLemmas
