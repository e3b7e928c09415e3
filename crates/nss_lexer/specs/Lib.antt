-- What tokens are, and how a file is split into them.
pub mod Bytes
pub mod Lexemes
pub mod Strings
pub mod Splitting
pub mod Reading
pub mod Computed
