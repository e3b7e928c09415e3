pub mod UnitTokens
