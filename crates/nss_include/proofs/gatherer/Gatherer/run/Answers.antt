use Rattle.std.proofs.Common.{◌≡◌, List, ◌∷◌, ap, subst, ◌∙◌}
use Rattle.nwq_outside.specs.Outside.{content}
use Rattle.nss_include.specs.declared.opened.Open.{Open}
use Rattle.nss_include.specs.declared.gatherer.Gatherer.{Gatherer}
use Rattle.nss_include.specs.Units.{Lookup}
use Rattle.nss_include.specs.Progress.{Explains, RunSoFar}
use Rattle.nss_include.proofs.ProgressLemmas.{run-more, run-stops, run-whole}
use Rattle.nss_include.proofs.gatherer.Gatherer.run.Goals as goal

pub loop-here-preserved : goal.loop-here-preserved
loop-here-preserved g c =
    let at : List Open → Gatherer = λ (s : List Open). record { unit = c.loop-here.self.unit; stack = s; count = c.loop-here.self.count }
    in let is : c.loop-here.self ≡ at (c.in-Some.here ∷ c.pop.new.self) = ap at (c.in-Some.ensures {u = tt})
    in let outside : content (g.F.Files.contents c.loop-here.files) ≡ content (g.F.Files.contents c.args.files.now) = ap content c.loop-here.invariant.1
    in (
      run-more _ _ c.args.self.now c.loop-here.self (at c.pop.new.self) c.advance.new.self c.in-Some.here c.loop-here.invariant.0 is
          (subst (λ (o : Lookup). RunSoFar g.F.Files.tells o (at (c.in-Some.here ∷ c.pop.new.self)) c.advance.new.self) outside
          c.in-Ok.ensures.advances.so),
      c.in-Ok.ensures.same ∙ c.loop-here.invariant.1,
      c.in-Ok.ensures.counts ∙ c.loop-here.invariant.2,
      λ start is. c.in-Ok.ensures.once start (c.loop-here.invariant.3 start is),
    )

pub returns-in-Err-clause-stops : goal.returns-in-Err-clause-stops
returns-in-Err-clause-stops g c = λ told held.
    let at : List Open → Gatherer = λ (s : List Open). record { unit = c.loop-here.self.unit; stack = s; count = c.loop-here.self.count }
    in let is : c.loop-here.self ≡ at (c.in-Some.here ∷ c.pop.new.self) = ap at (c.in-Some.ensures {u = tt})
    in let outside : content (g.F.Files.contents c.loop-here.files) ≡ content (g.F.Files.contents c.args.files.now) = ap content c.loop-here.invariant.1
    in run-stops _ _ c.args.self.now c.loop-here.self (at c.pop.new.self) c.in-Some.here c.in-Err.fault c.loop-here.invariant.0 is told held
    c.in-Err.ensures.halts.stops (subst (λ (o : Lookup). Explains o c.in-Err.fault) outside (c.in-Err.ensures.halts.told told))

pub returns-clause-whole : goal.returns-clause-whole
returns-clause-whole g c = run-whole _ _ _ c.loop-here.self c.loop-here.invariant.0 c.in_default.ensures.0
