pub mod rules
