pub mod Template
pub mod Form
pub mod Told
pub mod Rules
