-- What the lines of a plan begin, one line after the other.
use Rattle.std.proofs.Common.{◌≡◌, ◌≤◌, ◌<◌, ◌+◌, ℕ, zero, suc, List, [], ◌∷◌, ◌++◌, map, length, get_or, take, refl, sym, ap, ◌∙◌, subst, arith}
use Rattle.std.proofs.lemmas.List.{take_all, map_push, map_more}
use Rattle.std.specs.List.{AllByRecursion}
use Rattle.area_rules.specs.Area.{PlainArea}
use Rattle.plan_text.specs.declared.plan.Line.{Line}
use Rattle.plan_text.specs.Plans.{IsLine}
use Rattle.world_rules.specs.Turns.{Planned}
use Rattle.world_core.specs.Calls.{planned}
use Rattle.world_core.specs.declared.start.Start.{Start}
use Rattle.play_worlds.specs.Worlds.{begun_by}

module _ (area : PlainArea) (lines : List Line) where
  pub none_begun : map planned [] ≡ map (begun_by area) (take 0 lines)
  none_begun = refl

  pub one_begun : (i : ℕ) (line d : Line) (events : List Start) (start : Start) → i < length lines → line ≡ get_or lines i d
      → map planned events ≡ map (begun_by area) (take i lines) → planned start ≡ begun_by area line
      → map planned (events ++ start ∷ []) ≡ map (begun_by area) (take (i + 1) lines)
  one_begun i line d events start lt is before this =
      map_push planned events start
      ∙ (ap (λ (ps : List Planned). ps ++ planned start ∷ []) before
      ∙ (ap (λ (p : Planned). map (begun_by area) (take i lines) ++ p ∷ []) (this ∙ ap (begun_by area) is)
      ∙ sym (map_more (begun_by area) lines i d lt)))

  pub all_begun : (i : ℕ) (events : List Start) → length lines ≤ i → map planned events ≡ map (begun_by area) (take i lines)
      → map planned events ≡ map (begun_by area) lines
  all_begun i events over before = before ∙ ap (λ (ls : List Line). map (begun_by area) ls) (take_all i lines over)

pub line_at : (lines : List Line) (i : ℕ) (line d : Line) → AllByRecursion IsLine lines → i < length lines → line ≡ get_or lines i d → IsLine line
line_at [] i line d all lt is = absurd (omega (arith, lt))
line_at (l ∷ lines) zero line d all lt is = subst IsLine (sym is) all.0
line_at (l ∷ lines) (suc i) line d all lt is = line_at lines i line d all.1 (omega (arith, lt)) is

pub ruleset begins = (none_begun, one_begun, all_begun, line_at)
