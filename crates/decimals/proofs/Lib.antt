pub mod DigitSteps
pub mod RoundLemmas
pub mod NearestLemmas
