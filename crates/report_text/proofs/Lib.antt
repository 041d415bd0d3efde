pub mod ShownLemmas
