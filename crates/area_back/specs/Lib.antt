pub mod Back
pub mod Current
pub mod Laws
