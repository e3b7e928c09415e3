pub mod Facts
pub mod Inference
pub mod Costs
pub mod Rings
pub mod Checked
pub mod Fitting
