pub mod Format
pub mod Log
pub mod Refusal
pub mod Running
pub mod Text
