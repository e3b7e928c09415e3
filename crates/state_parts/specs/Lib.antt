pub mod World
pub mod Told
pub mod ShortTexts
pub mod Keeping
pub mod KeepingLemmas
pub mod PuttingLemmas
