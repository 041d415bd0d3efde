pub mod Seen
pub mod Blank
pub mod Shows
pub mod Findings
pub mod Truth
pub mod Laws
