use Rattle.std.proofs.Common.{subst, sym}
use Rattle.ncs_code.specs.Spelling.{HasRow}
use Rattle.ncs_emit.proofs.Placing.{has_row_jump}
use Rattle.ncs_emit.proofs.finishing.put_jump.Goals as goal

pub encode-requires : goal.encode-requires
encode-requires c = subst HasRow (sym c.jump_over.ensures) (has_row_jump c.args.jump _)
