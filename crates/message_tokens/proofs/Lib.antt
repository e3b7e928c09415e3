pub mod GoingOn
mod KindLemmas
pub mod Bodies
