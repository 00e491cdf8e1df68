pub mod CallLaws
pub mod CauseLaws
pub mod Causes
pub mod OpeningLaws
pub mod WantedLaws
