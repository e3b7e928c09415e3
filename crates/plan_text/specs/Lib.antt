pub mod Fields
pub mod Words
pub mod Plans
pub mod Steps
pub mod Drafts
