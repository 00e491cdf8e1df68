pub mod Code
pub mod Lowest
pub mod Parts
pub mod Rise
pub mod Split
