pub mod Lent
pub mod Wanted
