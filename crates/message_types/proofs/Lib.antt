pub mod Telling
mod Members
