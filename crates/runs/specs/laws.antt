pub mod AheadLaws
pub mod AlongLaws
pub mod AnswerLaws
pub mod FirstDue
pub mod GivesBack
pub mod LaidLaws
pub mod OperationLists
pub mod Standing
