pub mod Turns
pub mod Equations
pub mod Program
pub mod Points
pub mod Multipliers
pub mod Lost
pub mod Meaning
