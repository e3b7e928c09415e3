pub mod ThingsLemmas
pub mod RandomLemmas
pub mod TurnLemmas
pub mod NameLemmas
pub mod EffectLemmas
pub mod BeginLemmas
pub mod DelayLemmas
