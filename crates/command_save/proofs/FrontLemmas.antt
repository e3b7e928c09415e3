-- The first entries of a play are a front of it.
use Rattle.std.proofs.Common.{arith, ◌≡◌, ◌≤◌, ◌+◌, ◌-◌, ℕ, ap, ◌∙◌}
use Rattle.std.specs.Prelude.{min}
use Rattle.saved_state.specs.declared.saved.Saved.{Saved}
use Rattle.world_rules.specs.Plays.{Bounds, Runner, Played, plays, unplayed}
use Rattle.world_rules.specs.GoingOn.{PlaysGoOn, continued}
use Rattle.module_player.specs.CodePlays.{code_runner}
use Rattle.command_plays.specs.Plays.{host_of, played_first}
use Rattle.command_save.specs.Laws.{FrontsGoOn}
use Rattle.command_save.proofs.GoingLemmas.{stops_same}

min_below : (n m : ℕ) → min n m ≤ m
min_below n m = omega arith

pub fronts_go_on : PlaysGoOn Saved → FrontsGoOn
fronts_go_on on cell header plan scripts n w =
    let runner : Runner Saved = code_runner (host_of cell header scripts) plan.limit in
    let all : Bounds = record { entries = plan.entries; until = plan.until; stop = plan.entries + 1 } in
    let first : ℕ = min n plan.entries in
    let more : ℕ = plan.entries + 1 - min n plan.entries in
    let count : plan.entries + 1 - 0 ≡ first + more = omega (arith, min_below n plan.entries) in
    let none : first ≡ first - 0 = omega arith in
    let front : plays runner all first (unplayed w) ≡ played_first cell header plan scripts n w =
    stops_same runner plan.entries plan.until (plan.entries + 1) first first (unplayed w)
    ∙ ap (λ (k : ℕ). plays runner (record { entries = plan.entries; until = plan.until; stop = first }) k (unplayed w)) none in
    ap (λ (k : ℕ). plays runner all k (unplayed w)) count ∙ (on runner all first more (unplayed w)
    ∙ ap (λ (p : Played Saved). continued runner all more p.ending p) front)
