pub mod Depths
pub mod Popped
pub mod RunLemmas
pub mod RangeLemmas
pub mod IntPairs
pub mod Tests
pub mod FrameLemmas
pub mod TakeLemmas
