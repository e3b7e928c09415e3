pub mod Drive
pub mod Tree
