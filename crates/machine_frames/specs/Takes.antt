-- What is taken from a frame for an engine call.
use Rattle.std.specs.Prelude.{◌≡◌, ℕ, List, [], ◌∷◌, ◌++◌, drop, Option, None, Some}
use Rattle.nwq_value.specs.declared.engine.Param.{Param}
use Rattle.nwq_value.specs.declared.engine.Routine.{Routine}
use Rattle.nwq_value.specs.declared.value.Value.{Value}
use Rattle.saved_state.specs.declared.cell.Cell.{Cell}
use Rattle.saved_state.specs.declared.cell.Cell.TheVariants.{Value as Holds}
use Rattle.saved_state.specs.declared.saved.Saved.{Saved}
use Rattle.machine_rules.specs.Frames.{Frame}
use Rattle.machine_rules.specs.Calls.{Taken, arguments, taken}
use Rattle.machine_rules.specs.Act.{behind_call}
use Rattle.machine_frames.specs.declared.arguments.Arguments.{Arguments}

-- the frame without the value on top
abbrev pub without_value : Frame → Frame
without_value f = record f { stack = record f.stack { cells = drop 1 f.stack.cells } }

-- the value on top, as the one member of a list
abbrev pub top_values : List Cell → List Value
top_values (Holds v ∷ cells) = v ∷ []
top_values _ = []

-- the first of two states, where there is one
abbrev pub first_of : Option Saved → Option Saved → Option Saved
first_of None later = later
first_of (Some saved) later = Some saved

-- What is taken for these parameters, behind what was taken before them.
pub record AreTaken (ps : List Param) (before after : Frame) (had has : Arguments) : Type 0 where
  pub all : Taken
  pub is : taken ps before.stack.cells before.pending ≡ Some all
  pub frame : after ≡ record before {
    stack = record before.stack { cells = all.cells };
    pending = all.pending;
  }
  pub values : has.values ≡ had.values ++ all.values
  pub action : has.action ≡ first_of had.action all.action

-- These are the arguments of a call, and the frame stands behind it.
pub record IsCall (r : Routine) (number count : ℕ) (before after : Frame)
    (a : Arguments) : Type 0 where
  pub all : Taken
  pub is : arguments r count before.stack.cells before.pending ≡ Some all
  pub frame : after ≡ behind_call number count before all
  pub values : a.values ≡ all.values
  pub action : a.action ≡ all.action
