use Rattle.std.proofs.Common.{subst}
use Rattle.std.specs.Prelude.{◌<◌, All}
use Rattle.engine_table.proofs.symbol.text_symbol.Goals as goal

pub returns-clause-bounds : goal.returns-clause-bounds
returns-clause-bounds c = (c.bytes.ensures.bound, subst (All (λ b. b < 256)) c.bytes.ensures.same c.are_bytes.ensures)
