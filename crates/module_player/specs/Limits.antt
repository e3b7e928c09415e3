-- How far a play may go, in a row, as plans and states tell it.
use Rattle.std.specs.Prelude.{ℕ}
use Rattle.module_player.specs.declared.limits.PlayLimits.{PlayLimits}

-- instructions an entry, entries in all, and until when
abbrev pub limits_in : PlayLimits → ℕ × ℕ × ℕ
limits_in limits = (limits.instructions, limits.entries, limits.until)
