-- What is told of a play that is saved or resumed.
use Rattle.std.specs.Prelude.{◌≡◌, ◌<◌, ◌≤◌, ◌+◌, ◌^◌, ℕ, List, [], Option, length}
use Rattle.saved_state.specs.declared.saved.Saved.{Saved}
use Rattle.world_rules.specs.World.{World}
use Rattle.stack_rules.specs.Laws.{AllMeet}
use Rattle.world_rules.specs.Pure.{CellLookup}
use Rattle.world_rules.specs.Plays.{Progress, Played}
use Rattle.ncs_machine.specs.declared.scripts.Loaded.{Loaded}
use Rattle.ncs_machine.specs.Host.{scripts_of, tables_of}
use Rattle.ncs_machine.specs.Settings.{IsChecked, checked_listing}
use Rattle.ncs_machine.specs.Stored.{StatesFit}
use Rattle.module_player.specs.Limits.{limits_in}
use Rattle.module_player.specs.declared.played.How.{How}
use Rattle.module_player.specs.declared.played.How.TheVariants.{Done, InstrStop, EntryStop, Pause, Fault, NoMemory}
use Rattle.module_player.specs.declared.played.Played.{Played as Answer}
use Rattle.plan_text.specs.declared.plan.Plan.{Plan}
use Rattle.plan_text.specs.Plans.{IsPlan, Limits}
use Rattle.play_save.specs.declared.state.Opened.{Opened}
use Rattle.play_save.specs.States.{MayCount, MayList, MayRest}
use Rattle.command_work.specs.declared.status.Status.{Status}
use Rattle.command_work.specs.declared.status.Status.TheVariants.{Limit}
use Rattle.command_work.specs.Counts.{StopsArea}
use Rattle.command_plays.specs.Plays.{played_on}
use Rattle.command_save.specs.declared.inputs.HeaderFile.{HeaderFile}

-- an answer tells where a play stands that came to this world
pub record IsProgress (answer : Answer) (w : World Saved) (p : Progress Saved) : Type 0 where
  pub entries : answer.entries ≡ p.entries
  pub instructions : answer.instructions ≡ p.count
  pub world : w ≡ p.world

-- some entries of a plan are to be taken
pub record TakesSome (plan : Plan) (entries : ℕ) : Type 0 where
  pub kept : IsPlan plan
  pub some : 1 ≤ entries

-- a plan's listed scripts can stand in a state under a header of this text
pub record IsListing (text : Option (List ℕ)) (plan : Plan) (scripts : List Loaded) : Type 0 where
  pub kept : IsPlan plan
  pub listed : MayList text scripts

-- some entries of a plan can be played under a header, with its listed scripts, and be saved
pub record MayBegin (header : HeaderFile) (plan : Plan) (scripts : List Loaded) (entries : ℕ)
    : Type 0 where
  pub listing : IsListing header.text plan scripts
  pub checked : IsChecked (checked_listing scripts header.table)
  pub some : 1 ≤ entries

-- the play can be saved as it stands there
pub record MaySave (scripts : List Loaded) (file : List ℕ) (limits : Limits) (w : World Saved)
    (answer : Answer) : Type 0 where
  pub rests : MayRest scripts file w
  pub come : MayCount limits w answer.entries answer.instructions

-- a fact of every play that isn't inside an entry
abbrev pub WhereBroken : How → Type 0 → Type 0
WhereBroken Done fact = fact
WhereBroken EntryStop fact = fact
WhereBroken Pause fact = fact
WhereBroken InstrStop fact = Unit {0}
WhereBroken Fault fact = Unit {0}
WhereBroken NoMemory fact = Unit {0}

-- what a state opens can be played on
pub record MayGoOn (o : Opened) : Type 0 where
  pub few : length o.scripts < 2 ^ 32
  pub meets : AllMeet o.table (scripts_of o.scripts) (tables_of o.scripts)
  pub fit : StatesFit (scripts_of o.scripts) (tables_of o.scripts) o.world.world
  pub quiet : o.world.world.trace ≡ []
  pub next : o.world.world.agenda.next < 2 ^ 61
  pub taken : o.taken ≤ o.limits.entries
  pub done : o.done < 2 ^ 61

-- the play from there to its end
abbrev pub rest_of : CellLookup → Opened → Played Saved
rest_of cell o = played_on cell o.table (limits_in o.limits) (scripts_of o.scripts)
    (o.limits.entries + 1) o.taken o.done o.world.world

-- What stops a play that is resumed: the state isn't there or is too long, it is refused or the
-- area is, a limit was reached, or the work is cut.
abbrev pub StopsResume : Status → Type 0
StopsResume Limit = Unit {0}
StopsResume status = StopsArea status
