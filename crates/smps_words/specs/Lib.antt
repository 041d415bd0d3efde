pub mod Line
pub mod Seen
pub mod Field
pub mod Names
pub mod Entries
pub mod Words
pub mod WordRows
