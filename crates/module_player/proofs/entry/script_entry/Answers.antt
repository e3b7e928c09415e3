use Rattle.module_player.proofs.Cutting.{division_cut, inside, on_err}
use Rattle.module_player.proofs.entry.script_entry.Goals as goal

pub returns-in_err-ended-clause-cut : goal.returns-in_err-ended-clause-cut
returns-in_err-ended-clause-cut g c = on_err _ _ (inside (λ v. v) _ _ _ _ c.in_err-ended.ensures.cut)

pub returns-in_err-stopped-clause-cut : goal.returns-in_err-stopped-clause-cut
returns-in_err-stopped-clause-cut g c =
    on_err _ _ (inside (λ v. v) _ _ _ _ (division_cut _ _ _ _ _ _ _ _ _ _ c.in_ok-ended.ensures.run c.in_err-stopped.ensures.divided c.in_err-stopped.ensures.kept))
