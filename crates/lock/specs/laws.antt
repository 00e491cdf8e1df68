pub mod Active
pub mod ByKind
pub mod OwnTests
pub mod PieceSteps
pub mod Placed
pub mod ReadableLaws
pub mod Rows
pub mod StepLaws
