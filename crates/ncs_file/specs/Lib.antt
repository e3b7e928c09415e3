pub mod Loading
pub mod Marks
pub mod Laws
