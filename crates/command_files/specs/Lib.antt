pub mod Trees
pub mod Codes
pub mod Assemblies
pub mod Texts
pub mod Commands
pub mod Laws
pub mod Checks
pub mod CheckLaws
