pub mod Walks
pub mod Gathered
pub mod Answers
pub mod Laws
pub use Rattle.scen_nodes.specs.Derived
