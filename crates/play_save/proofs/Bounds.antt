-- The limits of a play are those that a state can tell.
use Rattle.module_player.specs.Limits.{limits_in}
use Rattle.module_player.specs.declared.limits.PlayLimits.{PlayLimits}
use Rattle.play_save.specs.States.{MayLimit}

pub within : (limits : PlayLimits) → MayLimit (limits_in limits)
within limits = record {
  limit = (limits.some_instructions, limits.few_instructions);
  entries = (limits.some_entries, limits.few_entries);
  until = limits.early;
}
