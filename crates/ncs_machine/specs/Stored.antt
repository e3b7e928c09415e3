-- Worlds in which each captured state fits: those on the agenda, and those in queues.
use Rattle.std.specs.Prelude.{ℕ, List, Option, None, Some}
use Rattle.std.specs.List.{AllByRecursion}
use Rattle.action_queue.specs.declared.queue.Item.{Item}
use Rattle.action_queue.specs.declared.queue.Item.TheVariants.{Do, Wait, Speak}
use Rattle.delay_agenda.specs.declared.entry.Entry.{Entry}
use Rattle.delay_agenda.specs.declared.entry.Kind.{Kind}
use Rattle.delay_agenda.specs.declared.entry.Kind.TheVariants.{Event, Stored, Turn, Unapply}
use Rattle.nwq_value.specs.declared.value.Value.{Value}
use Rattle.saved_state.specs.declared.saved.Saved.{Saved}
use Rattle.machine_rules.specs.Machine.{Script}
use Rattle.stack_rules.specs.Fits.{Tables, FitsAction, FitsOne}
use Rattle.world_rules.specs.declared.data.Things.{Things}
use Rattle.world_rules.specs.World.{World}
use Rattle.world_rules.specs.Turns.{Begun, Turned, begin, turn, turn_done, unapply, fault, drained}
use Rattle.world_rules.specs.Engine.{no_script}
use Rattle.ncs_machine.specs.Host.{EngineView, engine_answer}

abbrev pub KindFits : List Script → Tables → Kind Saved → Type 0
KindFits scripts tables (Stored o saved) = FitsOne scripts tables saved
KindFits scripts tables (Event o script user) = Unit {0}
KindFits scripts tables (Turn o) = Unit {0}
KindFits scripts tables (Unapply o) = Unit {0}

abbrev pub ItemFits : List Script → Tables → Item Saved → Type 0
ItemFits scripts tables (Do saved) = FitsOne scripts tables saved
ItemFits scripts tables (Wait ms) = Unit {0}
ItemFits scripts tables (Speak bytes) = Unit {0}

abbrev pub EntryFits : List Script → Tables → Entry Saved → Type 0
EntryFits scripts tables e = KindFits scripts tables e.kind

abbrev pub ItemsFit : List Script → Tables → List (Item Saved) → Type 0
ItemsFit scripts tables items = AllByRecursion (ItemFits scripts tables) items

abbrev pub ThingsFit : List Script → Tables → Things Saved → Type 0
ThingsFit scripts tables t = ItemsFit scripts tables t.queue.actions

pub record StatesFit (scripts : List Script) (tables : Tables) (w : World Saved) : Type 0 where
  pub agenda : AllByRecursion (EntryFits scripts tables) w.agenda.entries
  pub queues : AllByRecursion (ThingsFit scripts tables) w.things

-- ---- what is done to a world leaves all states fitting

abbrev pub EngineKeepsFits : Type 0
EngineKeepsFits = (scripts : List Script) (tables : Tables) (e : EngineView) (n caller : ℕ)
    (values : List Value) (action : Option Saved) (w : World Saved)
    → FitsAction scripts tables action → StatesFit scripts tables w
    → StatesFit scripts tables (engine_answer e n caller values action w).world

-- an entry that is begun fits, and what it leaves
abbrev pub BegunFits : List Script → Tables → Option (Begun Saved) → Type 0
BegunFits scripts tables None = Unit {0}
BegunFits scripts tables (Some b) = EntryFits scripts tables b.entry
    × StatesFit scripts tables b.world

abbrev pub BeginKeepsFits : Type 0
BeginKeepsFits = (scripts : List Script) (tables : Tables) (until : ℕ) (w : World Saved)
    → StatesFit scripts tables w → BegunFits scripts tables (begin until w)

pub record TurnedFits (scripts : List Script) (tables : Tables) (t : Turned Saved) : Type 0 where
  pub action : FitsAction scripts tables t.action
  pub world : StatesFit scripts tables t.world

abbrev pub TurnKeepsFits : Type 0
TurnKeepsFits = (scripts : List Script) (tables : Tables) (o : ℕ) (w : World Saved)
    → StatesFit scripts tables w → TurnedFits scripts tables (turn o w)

abbrev pub TurnDoneKeepsFits : Type 0
TurnDoneKeepsFits = (scripts : List Script) (tables : Tables) (o : ℕ) (w : World Saved)
    → StatesFit scripts tables w → StatesFit scripts tables (turn_done o w)

abbrev pub UnapplyKeepsFits : Type 0
UnapplyKeepsFits = (scripts : List Script) (tables : Tables) (o number : ℕ) (w : World Saved)
    → StatesFit scripts tables w → StatesFit scripts tables (unapply o number w)

-- a line more, and lines that were printed, change no state
pub record LinesKeepFits : Type 0 where
  pub no_script : (scripts : List Script) (tables : Tables) (o : ℕ) (name : List ℕ)
      (w : World Saved) → StatesFit scripts tables w → StatesFit scripts tables (no_script o name w)
  pub fault : (scripts : List Script) (tables : Tables) (o : ℕ) (w : World Saved)
      → StatesFit scripts tables w → StatesFit scripts tables (fault o w)
  pub drained : (scripts : List Script) (tables : Tables) (w : World Saved)
      → StatesFit scripts tables w → StatesFit scripts tables (drained w)
