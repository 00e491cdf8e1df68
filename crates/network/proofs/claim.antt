pub mod RunsHistory
