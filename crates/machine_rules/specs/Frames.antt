-- A running script.
use Rattle.std.specs.Prelude.{ℕ, List, []}
use Rattle.saved_state.specs.declared.saved.Saved.{Saved}
use Rattle.saved_state.specs.Cells.{StackView, resumed}
use Rattle.ncs_code.specs.File.{header_size}

-- A script in the middle of its run. Both lists begin with what was put on last.
pub record Frame : Type 0 where
  -- the script's number, and the place of its next instruction
  pub script : ℕ
  pub place : ℕ
  pub stack : StackView
  -- the places that JSR has kept for RETN
  pub calls : List ℕ
  -- the states that STORE_STATE has captured and no engine call has taken
  pub pending : List Saved
  -- the object that object constant 0 stands for
  pub self : ℕ

-- a script begins at its first instruction with nothing on its stack
abbrev pub started : ℕ → ℕ → Frame
started script self =
    record {
      script = script;
      place = header_size;
      stack = record { cells = []; bp = 0 };
      calls = [];
      pending = [];
      self = self;
    }

-- a captured state goes on where it was captured, on its own globals and locals
abbrev pub continued : Saved → ℕ → Frame
continued saved self =
    record {
      script = saved.script;
      place = saved.place;
      stack = resumed saved;
      calls = [];
      pending = [];
      self = self;
    }
