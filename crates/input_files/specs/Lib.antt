pub mod Fetched
pub mod Unfetched
