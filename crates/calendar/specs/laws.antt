pub mod Closed
pub mod Days
pub mod Figures
pub mod HoursLaws
pub mod Told
