pub mod Together
pub mod PlaysRun
pub mod Machines
pub mod EndTexts
pub mod TypedScripts
