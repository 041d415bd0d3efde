pub mod HoldsLemmas
