pub mod Inputs
pub mod Saves
pub mod Resumes
pub mod Tellings
pub mod Laws
