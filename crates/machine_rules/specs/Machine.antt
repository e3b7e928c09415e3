-- The machine: running scripts in a world, step by step.
use Rattle.std.specs.Prelude.{ℕ, List, [], ◌∷◌, map, length, slice_get, Option, None, Some, Bool, nat_lt, if◌then◌else◌}
use Rattle.std.specs.Option.{option_map, option_and_then}
use Rattle.std.specs.Char.{to_ascii_lowercase}
use Rattle.std.specs.List.{position}
use Rattle.std.specs.Str.{bytes_eq}
use Rattle.nwq_value.specs.declared.value.Value.{Value}
use Rattle.nwq_value.specs.Engine.{EngineTable}
use Rattle.ncs_code.specs.Plain.{PlainOp}
use Rattle.ncs_code.specs.File.{op_at}
use Rattle.saved_state.specs.declared.cell.Cell.TheVariants.{Value as Holds}
use Rattle.saved_state.specs.declared.saved.Saved.{Saved}
use Rattle.machine_rules.specs.Frames.{Frame, started}
use Rattle.machine_rules.specs.Act.{Act, Moves, Asks, Executes, Returns, Divides, act}

-- how many scripts at most wait for one that they execute
abbrev pub waiting_limit : ℕ
waiting_limit = 8

-- a listed script, under its name in lower case
pub record Script : Type 0 where
  pub name : List ℕ
  pub code : List PlainOp

-- what the engine gives to a call: a value, where the routine has a result, and the world after the
-- call
pub record Answered (W : Type 0) : Type 0 where
  pub value : Option Value
  pub world : W

-- What a machine runs in: the listed scripts, the header's routines, and an engine over any kind of
-- world.
pub record Host (W : Type 0) : Type 0 where
  pub scripts : List Script
  pub table : EngineTable
  -- a routine's number, the caller, the arguments that are values, the action, and the world
  pub engine : ℕ → ℕ → List Value → Option Saved → W → Answered W
  -- whether a script of this caller may run another one on this target
  pub may_run : ℕ → ℕ → W → Bool
  -- the world with a line on an object: the script of this name isn't listed, or would run too deep
  pub no_script : ℕ → List ℕ → W → W
  pub too_deep : ℕ → List ℕ → W → W

-- An entry that is running: the script that runs, those that wait for it, the newest first, and the
-- world.
pub record State (W : Type 0) : Type 0 where
  pub running : Frame
  pub waiting : List Frame
  pub world : W

-- what a step leads to
pub data Next (W : Type 0) : Type 0 where
  Goes : State W → Next W
  -- the last script is over
  Ends : Next W
  -- a divisor is 0, which ends the whole entry
  Divided : Next W

-- ---- engine calls

-- the frame with a call's result on its stack, where there is one
abbrev pub with_answer : Option Value → Frame → Frame
with_answer None f = f
with_answer (Some v) f = record f { stack = record f.stack { cells = Holds v ∷ f.stack.cells } }

abbrev pub answered : {W : Type 0} → Answered W → Frame → State W → State W
answered a f s = record s { running = with_answer a.value f; world = a.world }

-- ---- ExecuteScript

-- the number of the listed script of this name, where letters count without their case
abbrev pub script_named : List Script → List ℕ → Option ℕ
script_named scripts name = position (λ s. bytes_eq (map to_ascii_lowercase name) s.name) scripts

-- The script begins, and this frame waits for it: unless it isn't listed, or as many scripts wait
-- as may.
abbrev pub script_begun : {W : Type 0} → Host W → Option ℕ → List ℕ → ℕ → Frame → State W → State W
script_begun host None name target f s = record s {
  running = f;
  world = host.no_script target name s.world;
}
script_begun host (Some script) name target f s =
    if nat_lt (length s.waiting) waiting_limit then record s {
      running = started script target;
      waiting = f ∷ s.waiting;
    }
    else record s { running = f; world = host.too_deep target name s.world }

-- Nothing comes of an empty name, nor of a target that the caller may not run a script on.
abbrev pub executed : {W : Type 0} → Host W → List ℕ → ℕ → Frame → State W → State W
executed host [] target f s = record s { running = f }
executed host (b ∷ name) target f s =
    if host.may_run f.self target s.world then script_begun host
    (script_named host.scripts (b ∷ name)) (b ∷ name) target f s
    else record s { running = f }

-- ---- a step

-- the running script is over: the one that waits for it goes on
abbrev pub over : {W : Type 0} → List Frame → State W → Next W
over [] s = Ends
over (f ∷ waiting) s = Goes (record s { running = f; waiting = waiting })

-- what an instruction's act leads to
abbrev pub followed : {W : Type 0} → Host W → State W → Act → Next W
followed host s (Moves f) = Goes (record s { running = f })
followed host s (Asks routine values action f) = Goes
    (answered (host.engine routine f.self values action s.world) f s)
followed host s (Executes name target f) = Goes (executed host name target f s)
followed host s Returns = over s.waiting s
followed host s Divides = Divided

-- the instruction at a frame's place
abbrev pub next_op : List Script → Frame → Option PlainOp
next_op scripts f = option_and_then (λ (script : Script). op_at script.code f.place)
    (slice_get scripts f.script)

-- One instruction: none where no instruction begins at the place, or where it has no case. That is
-- a stack fault.
unfoldable pub step : {W : Type 0} → Host W → State W → Option (Next W)
step host s = option_and_then (λ op. option_map (followed host s) (act host.table op s.running))
    (next_op host.scripts s.running)
