use Rattle.code_places.proofs.Seeking.{last, one_more}
use Rattle.code_places.proofs.lines.pass_or.Goals as goal

pub returns : goal.returns
returns c = one_more _ _ _ c.pass.ensures (one_more _ _ _ c.pass-seek.ensures (one_more _ _ _ c.pass-2.ensures
    (one_more _ _ _ c.pass-seek-2.ensures (last _ _ c.pass-3.ensures))))
