pub mod EndFindings
pub mod Directions
pub mod Passing
pub mod Tests
pub mod Claims
pub mod Unsettled
pub mod Printed
pub mod Telling
