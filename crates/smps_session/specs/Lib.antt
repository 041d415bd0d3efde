pub mod Reasons
pub mod Lists
pub mod Whole
pub mod Shorter
pub mod Comes
pub mod Told
pub mod Based
pub mod Courses
