pub mod AddFields
pub mod Bits
pub mod Fields
pub mod Inner
pub mod Leaf
pub mod Swap
