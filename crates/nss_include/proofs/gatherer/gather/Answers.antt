use Rattle.std.proofs.Common.{◌≡◌, ap, subst}
use Rattle.nwq_outside.specs.Outside.{content}
use Rattle.nss_include.specs.Gather.{HoldsFiles, Claims}
use Rattle.nss_include.specs.Units.{Lookup}
use Rattle.nss_include.specs.Progress.{ComesTo}
use Rattle.nss_include.proofs.ProgressLemmas.{begins-unit, begins-fails, begins-stops}
use Rattle.nss_include.proofs.gatherer.gather.Goals as goal

pub returns-in-Err-clause-told : goal.returns-in-Err-clause-told
returns-in-Err-clause-told g c = λ told. begins-fails _ c.args.name.now c.in-Err.fault c.in-Err.ensures.fails.is (c.in-Err.ensures.fails.told told)

pub returns-in-Err-run-clause-told : goal.returns-in-Err-run-clause-told
returns-in-Err-run-clause-told g c = λ told.
    let outside : content (g.F.Files.contents c.begin.new.files) ≡ content (g.F.Files.contents c.args.files.now) = ap content c.in-Ok.ensures.same
    in begins-stops c.one_first.ensures.one c.some_split.ensures.some _ _ (content (g.F.Files.contents c.args.files.now)) c.args.name.now c.in-Ok.gatherer c.in-Err-run.fault
    c.in-Ok.ensures.begins (c.in-Ok.ensures.begins.holds told)
    (subst (λ (o : Lookup). HoldsFiles o c.in-Ok.gatherer.unit.files → Claims c.in-Err-run.fault (ComesTo o c.in-Ok.gatherer c.in-Err-run.fault)) outside
    (c.in-Err-run.ensures.stops told) (c.in-Ok.ensures.begins.holds told))

pub returns-in-Ok-run-clause-unit : goal.returns-in-Ok-run-clause-unit
returns-in-Ok-run-clause-unit g c = λ lookup held.
    begins-unit c.one_first.ensures.one c.some_split.ensures.some _ _ lookup c.args.name.now c.in-Ok.gatherer _ _ _ _ c.in-Ok.ensures.begins
    (c.in-Ok-run.ensures.keeps lookup held) (c.in-Ok-run.ensures.whole lookup held)

pub returns-in-Ok-run-clause-told : goal.returns-in-Ok-run-clause-told
returns-in-Ok-run-clause-told g c = λ told.
    let outside : content (g.F.Files.contents c.begin.new.files) ≡ content (g.F.Files.contents c.args.files.now) = ap content c.in-Ok.ensures.same
    in let lookup : Lookup = content (g.F.Files.contents c.args.files.now)
    in let held = subst (λ (o : Lookup). HoldsFiles o c.in-Ok.gatherer.unit.files → HoldsFiles o c.run.new.self.unit.files) outside
    (c.in-Ok-run.ensures.holds told) (c.in-Ok.ensures.begins.holds told)
    in begins-unit c.one_first.ensures.one c.some_split.ensures.some _ _ lookup c.args.name.now c.in-Ok.gatherer _ _ _ _
    c.in-Ok.ensures.begins (c.in-Ok.ensures.begins.holds told) (c.in-Ok-run.ensures.whole lookup held)
