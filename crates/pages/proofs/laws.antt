pub mod CauseLaws
pub mod CountLaws
pub mod Histories
pub mod Isolation
pub mod PlannersLaws
pub mod RowLaws
pub mod RunLaws
