-- So do the runs of an entry's scripts.
use Rattle.std.proofs.Common.{ℕ, zero, suc, Bool, true, false, List, [], ◌∷◌, length, Option, None, Some}
use Rattle.std.specs.Prelude.{if◌then◌else◌, nat_lt}
use Rattle.std.specs.Option.{option_map, option_and_then}
use Rattle.ncs_code.specs.Plain.{PlainOp}
use Rattle.saved_state.specs.declared.saved.Saved.{Saved}
use Rattle.world_rules.specs.AlikeLaws.{call}
use Rattle.world_rules.specs.World.{World}
use Rattle.world_rules.specs.Engine.{may_run, too_deep}
use Rattle.world_rules.specs.declared.data.Told.TheVariants as line
use Rattle.machine_rules.specs.Frames.{Frame, started, continued}
use Rattle.machine_rules.specs.Act.{Act, Moves, Asks, Executes, Returns, Divides, act}
use Rattle.machine_rules.specs.Machine.{Script, State, Next, Goes, Ends, Divided, waiting_limit, script_named, script_begun, executed, over, followed, next_op, step}
use Rattle.machine_rules.specs.Runs.{Ran, after_step, run, entry, run_script, run_stored}
use Rattle.ncs_machine.specs.Host.{EngineView, host}
use Rattle.trace_lines.specs.Lines.{HasPlainNames}
use Rattle.trace_lines.proofs.Calls.{Plain, told_plain, engine_plain}

abbrev Machine : Type 0
Machine = State (World Saved)

abbrev NextPlain : Next (World Saved) → Type 0
NextPlain (Goes t) = Plain t.world
NextPlain Ends = Unit {0}
NextPlain Divided = Unit {0}

abbrev StepPlain : Option (Next (World Saved)) → Type 0
StepPlain None = Unit {0}
StepPlain (Some next) = NextPlain next

over_plain : (waiting : List Frame) (s : Machine) → Plain s.world → NextPlain (over waiting s)
over_plain [] s h = tt
over_plain (f ∷ waiting) s h = h

module _ (scripts : List Script) (e : EngineView) (names : HasPlainNames e.table) where
  begun_plain : (number : Option ℕ) (name : List ℕ) (target : ℕ) (f : Frame) (s : Machine) → Plain s.world → Plain (script_begun (host scripts e) number name target f s).world
  unfolding host
  begun_plain None name target f s h = told_plain target (line.NoScript name) s.world tt h
  begun_plain (Some script) name target f s h = on (nat_lt (length s.waiting) waiting_limit)
    where
      on : (b : Bool) → Plain (if b then record s { running = started script target; waiting = f ∷ s.waiting } else record s { running = f; world = too_deep target name s.world }).world
      on true = h
      on false = told_plain target (line.Deep name) s.world tt h

  executed_plain : (name : List ℕ) (target : ℕ) (f : Frame) (s : Machine) → Plain s.world → Plain (executed (host scripts e) name target f s).world
  unfolding host
  executed_plain [] target f s h = h
  executed_plain (b ∷ name) target f s h = on (may_run f.self target s.world)
    where
      on : (c : Bool) → Plain (if c then script_begun (host scripts e) (script_named scripts (b ∷ name)) (b ∷ name) target f s else record s { running = f }).world
      on true = begun_plain (script_named scripts (b ∷ name)) (b ∷ name) target f s h
      on false = h

  followed_plain : (s : Machine) (a : Act) → Plain s.world → NextPlain (followed (host scripts e) s a)
  unfolding host
  followed_plain s (Moves f) h = h
  followed_plain s (Asks n values action f) h = engine_plain e.table e.cell n (call f.self values action) s.world names h
  followed_plain s (Executes name target f) h = executed_plain name target f s h
  followed_plain s Returns h = over_plain s.waiting s h
  followed_plain s Divides h = tt

  act_plain : (s : Machine) (a : Option Act) → Plain s.world → StepPlain (option_map (followed (host scripts e) s) a)
  act_plain s None h = tt
  act_plain s (Some a) h = followed_plain s a h

  op_plain : (s : Machine) (op : Option PlainOp) → Plain s.world
      → StepPlain (option_and_then (λ op. option_map (followed (host scripts e) s) (act (host scripts e).table op s.running)) op)
  op_plain s None h = tt
  op_plain s (Some op) h = act_plain s (act (host scripts e).table op s.running) h

  step_plain : (s : Machine) → Plain s.world → StepPlain (step (host scripts e) s)
  unfolding step
  step_plain s h = op_plain s (next_op (host scripts e).scripts s.running) h

  after_plain : (next : Option (Next (World Saved))) (s : Machine) (go : Machine → Ran (World Saved)) → StepPlain next → Plain s.world
      → ((t : Machine) → Plain t.world → Plain (go t).last.world) → Plain (after_step next s go).last.world
  after_plain None s go k h rest = h
  after_plain (Some (Goes t)) s go k h rest = rest t k
  after_plain (Some Ends) s go k h rest = h
  after_plain (Some Divided) s go k h rest = h

  run_plain : (limit : ℕ) (s : Machine) → Plain s.world → Plain (run (host scripts e) limit s).last.world
  run_plain zero s h = h
  run_plain (suc limit) s h = after_plain (step (host scripts e) s) s (run (host scripts e) limit) (step_plain s h) h (run_plain limit)

  pub script_plain : (limit script self : ℕ) (w : World Saved) → Plain w → Plain (run_script (host scripts e) limit script self w).last.world
  script_plain limit script self w h = run_plain limit (entry (started script self) w) h

  pub stored_plain : (limit : ℕ) (saved : Saved) (self : ℕ) (w : World Saved) → Plain w → Plain (run_stored (host scripts e) limit saved self w).last.world
  stored_plain limit saved self w h = run_plain limit (entry (continued saved self) w) h
