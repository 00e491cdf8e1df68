pub mod DriftExample
pub mod HistoryExample
pub mod PatienceExample
pub mod Seen
pub mod StepCountExample
pub mod UntrueExample
pub mod WholeCase
