-- Plays of files end in worlds that can be saved.
use Rattle.std.proofs.Common.{arith, ◌≡◌, ◌≢◌, ◌≤◌, ◌<◌, ◌+◌, ◌-◌, ℕ, List, [], ◌∷◌, sym, subst}
use Rattle.std.specs.Prelude.{◌^◌, ◌⊎◌}
use Rattle.std.specs.List.{AllByRecursion}
use Rattle.nwq_value.specs.Engine.{EngineTable}
use Rattle.nwq_value.specs.Limits.{random_limit, time_limit}
use Rattle.delay_agenda.specs.declared.entry.Entry.{Entry}
use Rattle.hook_table.specs.declared.hook.Known.{Known}
use Rattle.saved_state.specs.declared.saved.Saved.{Saved}
use Rattle.world_rules.specs.Changes.{longest_delay}
use Rattle.world_rules.specs.Plays.{Bounds, Progress, Played, StoppedInside}
use Rattle.world_rules.specs.Settled.{HasSettled, KeepsToEngine, PlaysSettle}
use Rattle.ncs_machine.specs.declared.scripts.Begin.TheVariants.{Start, Stored}
use Rattle.ncs_machine.specs.declared.scripts.Loaded.{Loaded}
use Rattle.ncs_machine.specs.Host.{engine_view, scripts_of}
use Rattle.ncs_machine.specs.Leading.{RunsLead}
use Rattle.module_player.specs.CodePlays.{code_play_on, code_runner, host_of, played_before}
use Rattle.module_player.specs.Resting.{CanGoOn, CanRest, PlaysCanRest}

-- however the machine runs scripts of files, it keeps to the engine
code_keeps : RunsLead → (scripts : List Loaded) (table : EngineTable) (hooks : List Known) (limit : ℕ)
    → KeepsToEngine (code_runner (host_of scripts table hooks) limit)
unfolding code_runner
code_keeps lead scripts table hooks limit = record {
  script = λ script self w h most. lead (scripts_of scripts) (engine_view table hooks) limit script Start self w h most;
  stored = λ saved self w h most. lead (scripts_of scripts) (engine_view table hooks) limit 0 (Stored saved) self w h most;
}

due_sooner : (es : List (Entry Saved)) → AllByRecursion (λ (e : Entry Saved). e.due ≤ time_limit) es
    → AllByRecursion (λ (e : Entry Saved). e.due ≤ time_limit + longest_delay) es
due_sooner [] all = tt
due_sooner (e ∷ es) all = (let soon = all.0 in omega (arith, soon), due_sooner es all.1)

due_early : (es : List (Entry Saved)) → AllByRecursion (λ (e : Entry Saved). e.due ≤ time_limit + longest_delay) es
    → AllByRecursion (λ (e : Entry Saved). e.due < 2 ^ 61) es
due_early [] all = tt
due_early (e ∷ es) all = (let soon = all.0 in omega (arith, soon), due_early es all.1)

settled_rests : (bounds : Bounds) (left : ℕ) (p : Progress Saved) (q : Played Saved) → bounds.until ≤ time_limit → p.entries ≤ bounds.entries
    → CanGoOn bounds.until p.world → HasSettled bounds left p q → q.ending ≢ StoppedInside → CanRest p.world.area.tree bounds.entries bounds.until q.last
settled_rests bounds left p q early within start h whole =
    let settled = (h.between whole).settled in
    record {
      file = h.plan.tree;
      version = subst (λ n. (n ≡ 1) ⊎ (n ≡ 2)) (sym h.plan.version) start.version;
      random = h.plan.random random_limit start.random;
      due = due_early q.last.world.agenda.entries (h.plan.due start.clock (time_limit + longest_delay) (omega (arith, early))
          (due_sooner p.world.agenda.entries start.due));
      turns = λ o. (settled o).turns;
      idle = λ o. (settled o).idle;
      clock = h.plan.clock start.clock;
      entries = h.entries within;
    }

pub plays_can_rest : PlaysSettle Saved → RunsLead → PlaysCanRest
plays_can_rest settle lead scripts table hooks limit entries until stop taken done w early within start whole =
    let bounds : Bounds = record { entries = entries; until = until; stop = stop } in
    settled_rests bounds (stop - taken) (played_before taken done w) (code_play_on (host_of scripts table hooks) limit entries until stop taken done w)
    early within start
    (settle (code_runner (host_of scripts table hooks) limit) bounds (stop - taken) (played_before taken done w) (code_keeps lead scripts table hooks limit) start.between)
    whole
