pub mod AllRight
