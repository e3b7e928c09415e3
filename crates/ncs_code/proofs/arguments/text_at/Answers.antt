use Rattle.std.proofs.Common.{arith}
use Rattle.ncs_code.proofs.Pieces.{text_read, part_bytes}
use Rattle.ncs_code.proofs.arguments.text_at.Goals as goal

pub returns-clause-spelled : goal.returns-clause-spelled
returns-clause-spelled c = text_read c.args.args.now _ (λ i. omega (arith, c.type_inv.args i)) c.requires.has_length c.requires.long c.from_be_bytes-size.ensures

pub returns-clause-bytes : goal.returns-clause-bytes
returns-clause-bytes c = part_bytes c.args.args.now 2 _ (λ i. omega (arith, c.type_inv.args i))
