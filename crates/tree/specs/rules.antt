pub mod Lists
pub mod Tree
