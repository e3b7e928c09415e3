pub mod Lines
pub mod Counting
pub mod Placing
pub mod Putting
pub mod Standing
pub mod Leading
