-- What a header is, which table it has, and where it is at fault.
pub mod Names
pub mod Known
pub mod Symbols
pub mod Grammar
pub mod Headers
pub mod Turns
pub mod Held
pub mod Laws
pub mod KeptTables
