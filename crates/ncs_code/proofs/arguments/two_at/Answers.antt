use Rattle.std.proofs.Common.{arith}
use Rattle.ncs_code.proofs.Pieces.{two_read}
use Rattle.ncs_code.proofs.arguments.two_at.Goals as goal

pub returns : goal.returns
returns c = two_read c.args.args.now c.args.at _ (λ i. omega (arith, c.type_inv.args i)) c.requires c.from_be_bytes.ensures
