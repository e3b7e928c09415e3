-- What is remarked where an entry ends before its end.
use Rattle.std.specs.Prelude.{◌≡◌, ◌++◌, ◌∷◌, ℕ, ℤ, List, Option, None, map, reverse, take, nat_le, if◌then◌else◌}
use Rattle.std.specs.List.{filter_map, flat_map}
use Rattle.std.specs.Option.{MatchOption}
use Rattle.nwq_value.specs.Limits.{time_limit}
use Rattle.saved_state.specs.declared.cell.Cell.{Cell}
use Rattle.saved_state.specs.declared.saved.Saved.{Saved}
use Rattle.machine_rules.specs.Frames.{Frame}
use Rattle.machine_rules.specs.Machine.{State}
use Rattle.machine_frames.specs.Tops.{int_in}
use Rattle.world_rules.specs.World.{World}
use Rattle.play_remarks.specs.declared.Ending.{Ending}
use Rattle.play_remarks.specs.declared.Ending.TheVariants as why
use Rattle.play_remarks.specs.declared.Remark.{Remark}
use Rattle.play_remarks.specs.declared.Spot.{Spot}
use Rattle.ncs_machine.specs.declared.entry.Ran.{Ran}
use Rattle.ncs_machine.specs.declared.entry.Ran.TheVariants.{Ended, Divide, Limit, NoMemory}

-- how many calls under way are remarked at most, the innermost
abbrev pub most_returns : ℕ
most_returns = 1000

-- where the next instruction of a script stands
abbrev pub spot_of : Frame → Spot
spot_of f = record { script = f.script; place = f.place }

-- the instructions behind a script's own calls under way, innermost first
abbrev pub returns_of : Frame → List Spot
returns_of f = map (λ place. record { script = f.script; place = place }) f.calls

-- how many cells at most are looked at for the ints that an entry begins with
abbrev pub most_cells : ℕ
most_cells = 8

-- The ints among the topmost cells of a stack, topmost last. Those with which a deferred action
-- begins it captured: its locals lie over its globals.
abbrev pub ints_on_top : List Cell → List ℤ
ints_on_top cells = filter_map int_in (reverse (take most_cells cells))

-- what is remarked of the frame with which an entry begins
pub record Begun : Type 0 where
  pub spot : Spot
  pub ints : List ℤ

abbrev pub begun_as : Frame → Begun
begun_as f = record { spot = spot_of f; ints = ints_on_top f.stack.cells }

-- Behind the calls under way of a script that waits: first the one by which it runs another script.
abbrev pub waits_for : Frame → List Spot
waits_for f = spot_of f ∷ returns_of f

-- behind all the calls under way, innermost first: those of the script that runs, and of those that
-- wait, the newest first
abbrev pub under_way : Frame → List Frame → List Spot
under_way running waiting = returns_of running ++ flat_map waits_for waiting

-- the clock, which a play leaves at no later time
abbrev pub time_of : ℕ → ℕ
time_of clock = if nat_le clock time_limit then clock else time_limit

-- A remark that an entry which began so ended so, in the state in which its last instruction stood, or
-- the next one would.
pub record IsRemark (end : Ending) (first : Begun) (s : State (World Saved)) (r : Remark) : Type 0 where
  pub ending : r.ending ≡ end
  pub time : r.time ≡ time_of s.world.clock
  pub at : r.at ≡ spot_of s.running
  pub returns : r.returns.items ≡ take most_returns (under_way s.running s.waiting)
  pub begun : r.begun ≡ first.spot
  pub values : r.values.items ≡ first.ints

-- what is remarked of a run that ended so: nothing where it ended well or for want of memory
abbrev pub MayRemark : Ran → Begun → State (World Saved) → Option Remark → Type 0
MayRemark Ended first s o = o ≡ None
MayRemark Divide first s o = MatchOption o ⊥ (IsRemark why.Divide first s)
MayRemark Limit first s o = MatchOption o ⊥ (IsRemark why.Limit first s)
MayRemark NoMemory first s o = o ≡ None

-- a fact of a run that ended before its end
abbrev pub WhereStopped : Ran → Type 0 → Type 0
WhereStopped Ended fact = Unit {0}
WhereStopped Divide fact = fact
WhereStopped Limit fact = fact
WhereStopped NoMemory fact = Unit {0}
