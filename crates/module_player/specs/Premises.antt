-- What is asked before a play, before an entry, and before its scripts.
use Rattle.std.specs.Prelude.{◌≡◌, ◌≤◌, ◌<◌, ◌+◌, ◌^◌, ℕ, []}
use Rattle.delay_agenda.specs.declared.entry.Kind.{Kind}
use Rattle.delay_agenda.specs.declared.entry.Kind.TheVariants.{Turn}
use Rattle.saved_state.specs.declared.saved.Saved.{Saved}
use Rattle.world_rules.specs.Kept.{IsActing, IsPlaced}
use Rattle.world_rules.specs.World.{World, count as object_count}
use Rattle.ncs_machine.specs.Settings.{CodeSetting, FitIn, scripts_in, tables_in}
use Rattle.ncs_machine.specs.Stored.{KindFits}

-- ---- plays

-- the world's captured states fit the scripts, its lines were told, and few entries were posted
pub record MayPlay (s : CodeSetting) (w : World Saved) : Type 0 where
  pub fit : FitIn s w
  pub quiet : w.trace ≡ []
  pub next : w.agenda.next < 2 ^ 61

-- a part of a play begins after so many entries and instructions, and takes some entries
pub record MayGo (entries stop taken done : ℕ) : Type 0 where
  pub some : taken < stop
  pub within : taken ≤ entries
  pub few : done < 2 ^ 61

-- ---- entries

-- Scripts can run: captured states fit, the clock and the number of the next post are so small that
-- so many posts and the scripts' own have numbers, and there is room for a post.
pub record IsReady (s : CodeSetting) (posts : ℕ) (w : World Saved) (left : ℕ) : Type 0 where
  pub fit : FitIn s w
  pub clock : w.clock < 2 ^ 62
  pub next : w.agenda.next + posts < 2 ^ 62
  pub room : 1 ≤ left

-- what an entry speaks of is there: its object, which acts where it is a Turn, and what it stored
-- fits
pub record MayTake (s : CodeSetting) (kind : Kind Saved) (w : World Saved) : Type 0 where
  pub placed : IsPlaced (object_count w) kind
  pub acting : (o : ℕ) → kind ≡ Turn o → IsActing o w
  pub stored : KindFits (scripts_in s) (tables_in s) kind

-- an object that is there and acts
pub record IsActor (o : ℕ) (w : World Saved) : Type 0 where
  pub first : 1 ≤ o
  pub within : o ≤ object_count w
  pub acting : IsActing o w
