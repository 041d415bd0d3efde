pub mod PieceLemmas
pub mod OrderLemmas
pub mod TextLemmas
pub mod StatedLemmas
