pub mod Answer
pub mod Cover
pub mod Search
