pub mod Line
pub mod OneScenario
pub mod Fixed
pub mod Mean
