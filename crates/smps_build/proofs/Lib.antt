pub mod BelowLemmas
pub mod CoreFits
pub mod Gathering
pub mod EndLaws
pub mod MapLoops
