pub mod Parts
pub mod Emitted
pub mod BoundLemmas
