pub mod examples
pub mod claim
pub mod laws
