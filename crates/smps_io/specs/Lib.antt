pub mod Faults
pub mod Files
pub mod Fetches
pub mod Puts
pub mod Memory
pub mod MemoryShelf
pub mod MemorySink
pub mod Real
