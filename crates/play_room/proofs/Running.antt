-- Runs of scripts keep the values of frames and worlds.
use Rattle.std.proofs.Common.{◌≡◌, ℕ, zero, suc, ◌≤◌, List, [], ◌∷◌, map, length, reverse, Option, Some, None, arith, refl}
use Rattle.std.specs.Prelude.{slice_get, nat_lt}
use Rattle.std.specs.Char.{to_ascii_lowercase}
use Rattle.std.specs.Str.{bytes_eq}
use Rattle.std.specs.List.{AllByRecursion}
use Rattle.std.specs.Option.{option_map}
use Rattle.std.proofs.lemmas.List.Quantifiers.{position-Some}
use Rattle.nwq_value.specs.declared.value.Value.{Value}
use Rattle.nwq_value.specs.Engine.{EngineTable, IsTable}
use Rattle.nwq_value.specs.Limits.{script_limit}
use Rattle.ncs_code.specs.File.{IsCode, op_at}
use Rattle.saved_state.specs.declared.cell.Cell.{Cell}
use Rattle.saved_state.specs.declared.cell.Cell.TheVariants.{Value as Holds, Base}
use Rattle.saved_state.specs.declared.saved.Saved.{Saved}
use Rattle.machine_rules.specs.Frames.{Frame, started, continued}
use Rattle.machine_rules.specs.Act.{Act, Moves, Asks, Executes, Returns, Divides, act}
use Rattle.machine_rules.specs.Machine.{Script, State, Next, Goes, Ends, Divided, waiting_limit, script_begun, script_named, executed, followed, next_op, over, step, with_answer}
use Rattle.machine_rules.specs.Runs.{after_step, run, entry, run_script, run_stored}
use Rattle.world_rules.specs.Pure.{CellLookup}
use Rattle.world_rules.specs.World.{World}
use Rattle.world_rules.specs.Engine.{may_run, too_deep}
use Rattle.ncs_machine.specs.Host.{EngineView, engine_answer, host}
use Rattle.state_format.specs.Parts.{IsMaybe, IsNumber}
use Rattle.play_room.specs.Room.{CellHasRoom, SavedHasRoom}
use Rattle.play_room.specs.Kept.{StackedHasRoom, CellsAreBytes, MaybeValueHasRoom, WorldIsKept}
use Rattle.play_room.proofs.Keeps.{WorldKeepsValues}
use Rattle.play_room.proofs.Lists.{all_append, all_reverse, some_of, mapped, after, either}
use Rattle.play_room.proofs.Cells.{CellsHaveRoom}
use Rattle.play_room.proofs.Acting.{FrameIsKept, ActIsKept, StandsWell, stands_well, act_kept}

-- ---- states

pub record StateIsKept (s : State (World Saved)) : Type 0 where
  pub running : FrameIsKept s.running
  pub waiting : AllByRecursion FrameIsKept s.waiting
  pub world : WorldIsKept s.world

abbrev NextIsKept : Next (World Saved) → Type 0
NextIsKept (Goes s) = StateIsKept s
NextIsKept Ends = Unit {0}
NextIsKept Divided = Unit {0}

-- another frame runs, in the same world
runs_on : (f : Frame) (s : State (World Saved)) → FrameIsKept f → StateIsKept s → StateIsKept (record s { running = f })
runs_on f s h k = record { running = h; waiting = k.waiting; world = k.world }

over_kept : (waiting : List Frame) (s : State (World Saved)) → AllByRecursion FrameIsKept waiting → StateIsKept s → NextIsKept (over waiting s)
over_kept [] s all k = tt
over_kept (f ∷ waiting) s all k = record { running = all.0; waiting = all.1; world = k.world }

answer_kept : (value : Option Value) (f : Frame) → MaybeValueHasRoom value → FrameIsKept f → FrameIsKept (with_answer value f)
answer_kept None f room k = k
answer_kept (Some v) f room k = record { script = k.script; cells = (room, k.cells); pending = k.pending; self = k.self }

-- ---- how frames begin

pub started_kept : (script self : ℕ) → IsNumber 4 script → IsNumber 4 self → FrameIsKept (started script self)
started_kept script self number object = record { script = number; cells = tt; pending = tt; self = object }

stacked_of : (cells : List Cell) → AllByRecursion CellHasRoom cells → CellsHaveRoom cells
stacked_of [] all = tt
stacked_of (Holds v ∷ cells) all = (all.0, stacked_of cells all.1)
stacked_of (Base bp ∷ cells) all = absurd all.0

pub continued_kept : (saved : Saved) (self : ℕ) → SavedHasRoom saved → IsNumber 4 self → FrameIsKept (continued saved self)
continued_kept saved self room object = record {
  script = room.script;
  cells = all_append StackedHasRoom (reverse saved.locals) (Base 0 ∷ reverse saved.globals)
      (all_reverse StackedHasRoom saved.locals (stacked_of saved.locals room.locals))
      (tt, all_reverse StackedHasRoom saved.globals (stacked_of saved.globals room.globals));
  pending = tt;
  self = object;
}

-- ---- steps

module _ (laws : WorldKeepsValues) (cell : CellLookup) (table : EngineTable) (bytes : CellsAreBytes cell) (is : IsTable table)
    (scripts : List Script) (codes : AllByRecursion (λ (s : Script). IsCode s.code) scripts) (few : length scripts ≤ script_limit) where
  abbrev view : EngineView
  view = record { table = table; cell = cell }

  listed_number : (name : List ℕ) (number : ℕ) → script_named scripts name ≡ Some number → IsNumber 4 number
  listed_number name number h =
      let found = position-Some (λ (s : Script). bytes_eq (map to_ascii_lowercase name) s.name) scripts number (record { name = []; code = [] }) h in
      let within = found.0 in
      omega (arith, within, few)

  begun_kept : (found : Option ℕ) (name : List ℕ) (target : ℕ) (f : Frame) (s : State (World Saved)) → ((number : ℕ) → found ≡ Some number → IsNumber 4 number)
      → IsNumber 4 target → FrameIsKept f → StateIsKept s → StateIsKept (script_begun (host scripts view) found name target f s)
  unfolding host
  begun_kept None name target f s fits object h k = record { running = h; waiting = k.waiting; world = laws.no_script target name s.world k.world }
  begun_kept (Some script) name target f s fits object h k =
      either StateIsKept (nat_lt (length s.waiting) waiting_limit) (record s { running = started script target; waiting = f ∷ s.waiting })
      (record s { running = f; world = too_deep target name s.world })
      (record { running = started_kept script target (fits script refl) object; waiting = (h, k.waiting); world = k.world })
      (record { running = h; waiting = k.waiting; world = laws.too_deep target name s.world k.world })

  executed_kept : (name : List ℕ) (target : ℕ) (f : Frame) (s : State (World Saved)) → IsNumber 4 target → FrameIsKept f → StateIsKept s
      → StateIsKept (executed (host scripts view) name target f s)
  unfolding host
  executed_kept [] target f s object h k = runs_on f s h k
  executed_kept (b ∷ name) target f s object h k =
      either StateIsKept (may_run f.self target s.world) (script_begun (host scripts view) (script_named scripts (b ∷ name)) (b ∷ name) target f s) (record s { running = f })
      (begun_kept (script_named scripts (b ∷ name)) (b ∷ name) target f s (listed_number (b ∷ name)) object h k) (runs_on f s h k)

  followed_kept : (s : State (World Saved)) → StateIsKept s → (a : Act) → ActIsKept a → NextIsKept (followed (host scripts view) s a)
  unfolding host
  followed_kept s k (Moves f) h = runs_on f s h k
  followed_kept s k (Asks routine values action f) h =
      let given = laws.calls cell table bytes is routine f.self values action s.world h.frame.self h.given h.stored k.world in
      record { running = answer_kept (engine_answer view routine f.self values action s.world).value f given.0 h.frame; waiting = k.waiting; world = given.1 }
  followed_kept s k (Executes name target f) h = executed_kept name target f s h.0 h.1 k
  followed_kept s k Returns h = over_kept s.waiting s k.waiting k
  followed_kept s k Divides h = tt

  next_well : (f : Frame) → IsMaybe (StandsWell f.place) (next_op scripts f)
  next_well f =
      after (StandsWell f.place) (λ (s : Script). IsCode s.code) (λ (s : Script). op_at s.code f.place) (λ s code. stands_well s.code f.place code) (slice_get scripts f.script)
      (some_of (λ (s : Script). IsCode s.code) scripts f.script codes)

  step_kept : (s : State (World Saved)) → StateIsKept s → IsMaybe NextIsKept (step (host scripts view) s)
  unfolding step host
  step_kept s k =
      after NextIsKept (StandsWell s.running.place) (λ op. option_map (followed (host scripts view) s) (act table op s.running))
      (λ op well. mapped NextIsKept ActIsKept (followed (host scripts view) s) (followed_kept s k) (act table op s.running) (act_kept table op s.running well k.running))
      (next_op scripts s.running) (next_well s.running)

  -- ---- runs

  on_from : (limit : ℕ) (o : Option (Next (World Saved))) → IsMaybe NextIsKept o → (s : State (World Saved)) → StateIsKept s
      → ((t : State (World Saved)) → StateIsKept t → StateIsKept (run (host scripts view) limit t).last) → StateIsKept (after_step o s (run (host scripts view) limit)).last
  on_from limit None h s k rest = k
  on_from limit (Some (Goes t)) h s k rest = rest t h
  on_from limit (Some Ends) h s k rest = k
  on_from limit (Some Divided) h s k rest = k

  run_kept : (limit : ℕ) (s : State (World Saved)) → StateIsKept s → StateIsKept (run (host scripts view) limit s).last
  run_kept zero s k = k
  run_kept (suc limit) s k = on_from limit (step (host scripts view) s) (step_kept s k) s k (run_kept limit)

  pub script_kept : (limit script o : ℕ) (w : World Saved) → IsNumber 4 script → IsNumber 4 o → WorldIsKept w → WorldIsKept (run_script (host scripts view) limit script o w).last.world
  script_kept limit script o w number object k =
      (run_kept limit (entry (started script o) w) (record { running = started_kept script o number object; waiting = tt; world = k })).world

  pub saved_kept : (limit : ℕ) (saved : Saved) (o : ℕ) (w : World Saved) → SavedHasRoom saved → IsNumber 4 o → WorldIsKept w
      → WorldIsKept (run_stored (host scripts view) limit saved o w).last.world
  saved_kept limit saved o w room object k =
      (run_kept limit (entry (continued saved o) w) (record { running = continued_kept saved o room object; waiting = tt; world = k })).world

  pub named_number : (name : List ℕ) (number : ℕ) → script_named scripts name ≡ Some number → IsNumber 4 number
  named_number = listed_number
