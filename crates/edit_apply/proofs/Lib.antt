pub mod Homes
pub mod Counting
pub mod Grown
pub mod Numbers
pub mod Marks
pub mod Ends
pub mod Keeping
