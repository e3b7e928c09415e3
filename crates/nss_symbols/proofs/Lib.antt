pub mod CursorLemmas
pub mod TerminalLemmas
pub mod NestLaws
pub mod WalkLaws
pub mod NameLemmas
pub mod SeenLemmas
mod LiteralLemmas
pub mod TerminalsRead
