pub mod Scanning
mod SignLemmas
pub mod StringLaws
mod StringBytes
pub mod GapLaws
pub mod FormLaws
pub mod FoundLaws
pub mod FirstLaws
pub mod SomeSplit
pub mod ComputedLaws
mod Examples
