-- Plays of files that are broken off between two entries, in worlds that can be saved.
use Rattle.std.specs.Prelude.{◌≡◌, ◌≢◌, ◌≤◌, ◌<◌, ◌^◌, ◌⊎◌, ℕ, false, List, [], length}
use Rattle.std.specs.List.{AllByRecursion}
use Rattle.gff_tree.specs.Whole.{PlainGff}
use Rattle.nwq_value.specs.Engine.{EngineTable}
use Rattle.nwq_value.specs.Limits.{random_limit, time_limit}
use Rattle.delay_agenda.specs.declared.entry.Entry.{Entry}
use Rattle.delay_agenda.specs.Waiting.{turn_count}
use Rattle.saved_state.specs.declared.saved.Saved.{Saved}
use Rattle.hook_table.specs.declared.hook.Known.{Known}
use Rattle.world_rules.specs.World.{World, queue_of}
use Rattle.world_rules.specs.Kept.{turns_allowed}
use Rattle.world_rules.specs.InPlan.{IsDueBy}
use Rattle.world_rules.specs.Settled.{IsBetween}
use Rattle.world_rules.specs.Plays.{Progress, StoppedInside}
use Rattle.ncs_machine.specs.declared.scripts.Loaded.{Loaded}
use Rattle.module_player.specs.CodePlays.{code_play_on, host_of}

-- a world from which a plan's play goes on till a time: it is between entries, inside a plan's
-- limits
pub record CanGoOn (until : ℕ) (w : World Saved) : Type 0 where
  pub between : IsBetween w
  pub version : (w.version ≡ 1) ⊎ (w.version ≡ 2)
  pub random : length w.random ≤ random_limit
  pub clock : w.clock ≤ until
  pub due : IsDueBy time_limit w

-- a play between two entries that can be saved: its area comes from this file, and it is inside its
-- limits
pub record CanRest (tree : PlainGff) (most until : ℕ) (p : Progress Saved) : Type 0 where
  pub file : p.world.area.tree ≡ tree
  pub version : (p.world.version ≡ 1) ⊎ (p.world.version ≡ 2)
  pub random : length p.world.random ≤ random_limit
  pub due : AllByRecursion (λ (e : Entry Saved). e.due < 2 ^ 61) p.world.agenda.entries
  pub turns : (o : ℕ) → turn_count o p.world.agenda.entries
      ≡ turns_allowed (queue_of o p.world).busy
  pub idle : (o : ℕ) → (queue_of o p.world).busy ≡ false → (queue_of o p.world).actions ≡ []
  pub clock : p.world.clock ≤ until
  pub entries : p.entries ≤ most

-- Unless it is stopped inside an entry, the play of files ends so that it can be saved.
abbrev pub PlaysCanRest : Type 0
PlaysCanRest = (scripts : List Loaded) (table : EngineTable) (hooks : List Known)
    (limit entries until stop taken done : ℕ) (w : World Saved)
    → until ≤ time_limit → taken ≤ entries → CanGoOn until w
    → (code_play_on (host_of scripts table hooks) limit entries until stop taken done w).ending ≢ StoppedInside
    → CanRest w.area.tree entries until
    (code_play_on (host_of scripts table hooks) limit entries until stop taken done w).last
