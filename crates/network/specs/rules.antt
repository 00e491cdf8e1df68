pub mod ByOperation
pub mod Clocks
pub mod Network
