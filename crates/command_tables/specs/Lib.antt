pub mod Lists
pub mod Tables
pub mod Reads
pub mod Reading
pub mod Laws
