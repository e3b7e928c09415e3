pub mod Table
pub mod Look
pub mod Words
pub mod Fronts
pub mod Grammar
pub mod Steps
pub mod Ranges
