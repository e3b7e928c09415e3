mod EffectLemmas
mod RangeLemmas
pub mod ReachLemmas
mod Rows
mod RuleLemmas
mod Tops
