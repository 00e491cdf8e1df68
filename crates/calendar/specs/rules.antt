pub mod Back
pub mod Calendar
pub mod Hours
pub mod Windows
