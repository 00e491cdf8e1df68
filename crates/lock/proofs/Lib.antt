pub mod laws
pub mod claim
pub mod examples
