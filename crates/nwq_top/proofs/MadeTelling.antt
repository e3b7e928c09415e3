-- What is told of the play that is made from a number.
use Rattle.std.proofs.Common.{◌≡◌, inl, inr, ℕ, ◌*◌, List, ◌++◌, length, Result, sym, ap, ◌∙◌}
use Rattle.nwq_outside.specs.Outside.{Contents}
use Rattle.typing_rules.specs.Typed.{TypedUnit}
use Rattle.saved_state.specs.declared.saved.Saved.{Saved}
use Rattle.world_rules.specs.Pure.{CellLookup}
use Rattle.world_rules.specs.declared.data.Line.{Line}
use Rattle.world_rules.specs.Trace.{trace_text}
use Rattle.world_rules.specs.Plays.{Played}
use Rattle.world_rules.specs.EndText.{end_line}
use Rattle.source_meaning.specs.Evaluation.{Deferred}
use Rattle.source_meaning.specs.Scripts.{Setting}
use Rattle.source_laws.specs.Carries.{Carries}
use Rattle.play_meaning.specs.Together.{PlaysAlike}
use Rattle.play_generator.specs.Made.{creatures_of, rounds_of}
use Rattle.command_work.specs.declared.status.Status.{Status}
use Rattle.command_work.specs.Work.{IsCut, Does, Finished}
use Rattle.command_generate.specs.Generated.{made_line, summary, tells, plays_made}
use Rattle.command_meaning.specs.Units.{code_of}
use Rattle.command_meaning.specs.Runs.{answer_by, EndsAreAnswered}
use Rattle.nwq_top.specs.SourcePlans.{code_plan_played}
use Rattle.nwq_top.specs.Generated.{code_made, source_summary}

-- its summary was put, and its answer is as it ends
pub record Told (n : ℕ) (p : Played Saved) (c : Contents) (t : List ℕ) (r : Result Finished Status) (c' : Contents) (t' : List ℕ) : Type 0 where
  pub taken : t' ≡ t ++ summary n p
  pub answer : r ≡ answer_by p.ending
  pub contents : c' ≡ c

told : EndsAreAnswered → (n : ℕ) (p : Played Saved) (c : Contents) (t : List ℕ) (r : Result Finished Status) (c' : Contents) (t' : List ℕ) → (IsCut r → ⊥)
    → Does (tells n p) c t r c' t' → Told n p c t r c' t'
told answered n p c t r c' t' whole (inl x) = absurd (whole x.0)
told answered n p c t r c' t' whole (inr does) =
    let e = answered p.ending c (t ++ summary n p) r c' t' does in record { taken = e.1.1; answer = e.0; contents = e.1.0 }

pub made_told : EndsAreAnswered → (cell : CellLookup) (n : ℕ) (unit : TypedUnit) (c : Contents) (t : List ℕ) (r : Result Finished Status) (c' : Contents) (t' : List ℕ)
    → (IsCut r → ⊥) → Does (plays_made cell n (code_of unit)) c t r c' t' → Told n (code_made cell n unit) c t r c' t'
unfolding plays_made code_plan_played
made_told answered cell n unit c t r c' t' whole does = told answered n (code_made cell n unit) c t r c' t' whole does

-- the summaries of plays that are alike are one, but for the number of instructions
pub same_summary : (s : Setting) (n : ℕ) (code : Played Saved) (source : Played Deferred) → PlaysAlike (Carries s) code source
    → summary n code ≡ source_summary n code.last.count source
unfolding summary
same_summary s n code source alike =
    let clock : code.last.world.clock ≡ source.last.world.clock = ap (λ u. u.clock) (sym alike.world.left) ∙ ap (λ u. u.clock) alike.world.right in
    let made : List Line → List ℕ = λ x. made_line (creatures_of n) (creatures_of n * rounds_of n) (length x) (length (trace_text x)) in
    ap (λ x. made x ++ end_line code.ending code.last.world.clock code.last.entries code.last.count) alike.trace
    ∙ ap (λ x. made source.last.trace ++ end_line x code.last.world.clock code.last.entries code.last.count) alike.ending
    ∙ ap (λ x. made source.last.trace ++ end_line source.ending x code.last.entries code.last.count) clock
    ∙ ap (λ x. made source.last.trace ++ end_line source.ending source.last.world.clock x code.last.count) alike.entries
