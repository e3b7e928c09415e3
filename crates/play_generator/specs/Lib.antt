pub mod Made
pub mod Zero
pub mod Reads
