pub mod Laws
pub mod FaultLaws
