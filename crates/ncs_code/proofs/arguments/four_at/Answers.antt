use Rattle.std.proofs.Common.{arith}
use Rattle.ncs_code.proofs.Pieces.{four_read}
use Rattle.ncs_code.proofs.arguments.four_at.Goals as goal

pub returns : goal.returns
returns c = four_read c.args.args.now c.args.at _ (λ i. omega (arith, c.type_inv.args i)) c.requires c.from_be_bytes.ensures
