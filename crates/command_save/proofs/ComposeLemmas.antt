-- The state after more entries is the state of the play that goes on from the one before.
use Rattle.std.proofs.Common.{arith, ◌≡◌, ◌≢◌, ◌≤◌, ◌+◌, ◌-◌, ℕ, List, [], ap, sym, subst, ◌∙◌}
use Rattle.std.specs.Prelude.{min}
use Rattle.nwq_value.specs.Engine.{EngineTable}
use Rattle.plan_text.specs.declared.plan.Plan.{Plan}
use Rattle.saved_state.specs.declared.saved.Saved.{Saved}
use Rattle.world_rules.specs.Pure.{CellLookup}
use Rattle.world_rules.specs.World.{World}
use Rattle.world_rules.specs.Plays as plays
use Rattle.world_rules.specs.Plays.{Bounds, Runner, Progress, Played, plays as plays_from, unplayed}
use Rattle.machine_rules.specs.Machine.{Script}
use Rattle.module_player.specs.CodePlays.{code_runner, code_play_on}
use Rattle.state_format.specs.Fields.{parts_bytes}
use Rattle.state_format.specs.declared.parts.Parts.{Parts}
use Rattle.play_save.specs.Rules.{IsHeaderOf}
use Rattle.play_save.specs.States.{resting, IsWorldOf}
use Rattle.command_plays.specs.Plays.{host_of, played_first}
use Rattle.command_save.specs.declared.inputs.HeaderFile.{HeaderFile}
use Rattle.command_save.specs.Saves.{IsStateAt}
use Rattle.command_save.specs.Resumes.{Going, GoesFrom, played_further}
use Rattle.command_save.specs.Laws.{SameStates, SavesCompose}
use Rattle.command_save.proofs.OneState.{OneLaws, one_saved, one_going}
use Rattle.command_save.proofs.GoingLemmas.{stops_same, stays_quiet, upto, rests_upto, left_of, left_upto}
use Rattle.command_save.proofs.SavedLemmas.{going, goes_from}

-- a play stands as another one does, but for what was told and the number of an event that is over
record StandsAs (p q : Progress Saved) : Type 0 where
  entries : p.entries ≡ q.entries
  count : p.count ≡ q.count
  world : resting p.world ≡ resting q.world

stands_back : (p q : Progress Saved) → StandsAs p q → StandsAs q p
stands_back p q same = record { entries = sym same.entries; count = sym same.count; world = sym same.world }

state_too : (header : HeaderFile) (file : List ℕ) (plan : Plan) (scripts : List Script) (p q : Progress Saved) (t : Parts) → StandsAs p q
    → IsStateAt header file plan scripts p t → IsStateAt header file plan scripts q t
state_too header file plan scripts p q t same is = record {
  form = is.form;
  accepted = is.accepted;
  play = is.play;
  spelled = is.spelled;
  come = record { taken = is.come.taken ∙ same.entries; done = is.come.done ∙ same.count };
  world = subst (IsWorldOf t) same.world is.world;
}

same_states : OneLaws → (header : HeaderFile) (file : List ℕ) (plan : Plan) (scripts : List Script) (p q : Progress Saved) → StandsAs p q → SameStates header file plan scripts p q
same_states laws header file plan scripts p q same = record {
  alike = λ t. (state_too header file plan scripts p q t same, state_too header file plan scripts q p t (stands_back p q same));
  bytes = λ t u is too. ap parts_bytes (one_saved laws header file plan scripts p t u is (state_too header file plan scripts q p u (stands_back p q same) too));
}

min_below : (n k : ℕ) → min n k ≤ k
min_below n k = omega arith

min_more : (n m k : ℕ) → min n k ≤ min (n + m) k
min_more n m k = omega arith

module _ (cell : CellLookup) (table : EngineTable) (plan : Plan) (scripts : List Script) (n m : ℕ) (w : World Saved) (quiet : w.trace ≡ []) where
  abbrev runner : Runner Saved
  runner = code_runner (host_of cell table scripts) plan.limit

  abbrev bounds : Bounds
  bounds = record { entries = plan.entries; until = plan.until; stop = plan.entries }

  abbrev total : ℕ
  total = min (n + m) plan.entries

  abbrev first : Played Saved
  first = played_first cell table plan scripts n w

  abbrev front : Played Saved
  front = plays_from runner bounds (min n plan.entries) (unplayed w)

  front_is : first ≡ front
  front_is =
      let none : min n plan.entries - 0 ≡ min n plan.entries = omega arith in
      stops_same runner plan.entries plan.until (min n plan.entries) plan.entries (min n plan.entries - 0) (unplayed w)
      ∙ ap (λ (k : ℕ). plays_from runner bounds k (unplayed w)) none

  abbrev more : Progress Saved → Played Saved
  more p = code_play_on (host_of cell table scripts) plan.limit plan.entries plan.until total p.entries p.count (resting p.world)

  whole_is : played_first cell table plan scripts (n + m) w ≡ upto runner bounds total (unplayed w)
  whole_is = stops_same runner plan.entries plan.until total plan.entries (total - 0) (unplayed w)

  more_is : (p : Progress Saved) → upto runner bounds total (left_of runner bounds p) ≡ more p
  more_is p = stops_same runner plan.entries plan.until plan.entries total (total - p.entries) (left_of runner bounds p)

  stands : front.ending ≢ plays.StoppedInside → StandsAs (played_first cell table plan scripts (n + m) w).last (more front.last).last
  stands inside =
      let on = rests_upto runner bounds total (min n plan.entries) (unplayed w) (omega (arith, min_below n plan.entries)) (omega (arith, min_more n m plan.entries)) inside in
      let rest = left_upto runner bounds total front.last (stays_quiet runner bounds (min n plan.entries) (unplayed w) quiet) in
      let whole = whole_is ∙ on ∙ rest.is in
      let after : Played Saved = upto runner bounds total (left_of runner bounds front.last) in
      let same = more_is front.last in
      record {
        entries = ap (λ (p : Played Saved). p.last.entries) whole ∙ ap (λ (p : Played Saved). p.last.entries) same;
        count = ap (λ (p : Played Saved). p.last.count) whole ∙ ap (λ (p : Played Saved). p.last.count) same;
        world = ap (λ (p : Played Saved). resting p.last.world) whole ∙ ap (λ (p : Played Saved). resting p.last.world) same;
      }

  stands_on : first.ending ≢ plays.StoppedInside → StandsAs (played_first cell table plan scripts (n + m) w).last (more first.last).last
  stands_on inside =
      subst (λ (p : Played Saved). StandsAs (played_first cell table plan scripts (n + m) w).last (more p.last).last) (sym front_is)
      (stands (subst (λ (p : Played Saved). p.ending ≢ plays.StoppedInside) front_is inside))

module _ (laws : OneLaws) (cell : CellLookup) (header : HeaderFile) (file : List ℕ) (plan : Plan) (scripts : List Script) (p : Progress Saved) (s : Parts)
    (headed : IsHeaderOf header.text header.table) (is : IsStateAt header file plan scripts p s) where
  abbrev on_from : ℕ → Played Saved
  on_from total = code_play_on (host_of cell header.table scripts) plan.limit plan.entries plan.until (min total plan.entries) p.entries p.count (resting p.world)

  further_is : (total : ℕ) (g : Going) → GoesFrom s g → played_further cell s g total ≡ on_from total
  further_is total g goes =
      ap (λ (h : Going). played_further cell s h total) (one_going laws s g (going laws cell header file plan scripts p s headed is) goes (goes_from laws cell header file plan scripts p s headed is))
      ∙ ap (λ (k : ℕ). code_play_on (host_of cell header.table scripts) k s.entries s.until (min total s.entries) s.taken s.done (resting p.world)) is.play.limit
      ∙ ap (λ (k : ℕ). code_play_on (host_of cell header.table scripts) plan.limit k s.until (min total k) s.taken s.done (resting p.world)) is.play.entries
      ∙ ap (λ (k : ℕ). code_play_on (host_of cell header.table scripts) plan.limit plan.entries k (min total plan.entries) s.taken s.done (resting p.world)) is.play.until
      ∙ ap (λ (k : ℕ). code_play_on (host_of cell header.table scripts) plan.limit plan.entries plan.until (min total plan.entries) k s.done (resting p.world)) is.come.taken
      ∙ ap (λ (k : ℕ). code_play_on (host_of cell header.table scripts) plan.limit plan.entries plan.until (min total plan.entries) p.entries k (resting p.world)) is.come.done

pub saves_compose : OneLaws → SavesCompose
saves_compose laws cell header file plan scripts n m w headed quiet inside s is g goes =
    let p = (played_first cell header.table plan scripts n w).last in
    let same = stands_on cell header.table plan scripts n m w quiet inside in
    let further = further_is laws cell header file plan scripts p s headed is (n + m) g goes in
    let alike : StandsAs (played_first cell header.table plan scripts (n + m) w).last (played_further cell s g (n + m)).last =
    subst (λ (q : Played Saved). StandsAs (played_first cell header.table plan scripts (n + m) w).last q.last) (sym further) same in
    same_states laws header file plan scripts (played_first cell header.table plan scripts (n + m) w).last (played_further cell s g (n + m)).last alike
