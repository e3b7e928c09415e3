use Rattle.code_places.proofs.Seeking.{last, one_more}
use Rattle.code_places.proofs.lines.pass_and.Goals as goal

pub returns : goal.returns
returns c = one_more _ _ _ c.pass.ensures (last _ _ c.pass-2.ensures)
