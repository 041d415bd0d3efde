pub mod Chances
pub mod Sums
pub mod Trees
