pub mod FieldsAtOnce
pub mod Masks
pub mod laws
