-- How far the play of a compiled file may go, and what stops it.
use Rattle.nwq_value.specs.Limits.{default_instruction_limit, default_entry_limit, default_until}
use Rattle.std.specs.Prelude.{ℕ}
use Rattle.command_work.specs.declared.status.Status.{Status}
use Rattle.command_work.specs.declared.status.Status.TheVariants as status

-- the limits that hold where none is set
abbrev pub default_limits : ℕ × ℕ × ℕ
default_limits = (default_instruction_limit, default_entry_limit, default_until)

-- what stops a play: the code isn't well stacked or no file, a limit was reached, or the work is
-- cut
abbrev pub StopsPlay : Status → Type 0
StopsPlay status.Code = Unit {0}
StopsPlay status.Limit = Unit {0}
StopsPlay status.Fault = Unit {0}
StopsPlay status.Memory = Unit {0}
StopsPlay _ = ⊥
