pub mod UptoLemmas
