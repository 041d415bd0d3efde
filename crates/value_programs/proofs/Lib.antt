pub mod LineKeeps
pub mod OneScenarioKeeps
pub mod FixedKeeps
pub mod MeanSteps
pub mod MeanSums
pub mod MeanKeeps
