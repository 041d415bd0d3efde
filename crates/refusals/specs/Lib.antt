pub mod Cause
pub mod Results
