pub mod Causes
pub mod RunLaws
