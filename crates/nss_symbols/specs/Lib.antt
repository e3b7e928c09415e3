pub mod Terminals
pub mod Symbols
pub mod Tokens
pub mod Spellings
pub mod Outcome
pub mod Cursor
pub mod Nest
pub mod Levels
