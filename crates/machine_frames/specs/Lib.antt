pub mod Tops
pub mod Operations
pub mod Takes
