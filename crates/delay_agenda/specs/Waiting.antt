-- What an agenda holds, and what its calls make of it.
use Rattle.std.specs.Prelude.{ℕ, ◌+◌, Bool, false, List, [], ◌∷◌, nat_eq, suc, if◌then◌else◌}
use Rattle.delay_agenda.specs.declared.entry.Entry.{Entry}
use Rattle.delay_agenda.specs.declared.entry.Kind.{Kind}
use Rattle.delay_agenda.specs.declared.entry.Kind.TheVariants.{Event, Stored, Turn, Unapply}
use Rattle.delay_agenda.specs.Order.{put_entry, AreInOrder, AreBelow, AreDistinct}

-- what waits: the entries in the order in which they are taken, and the number of the next post
pub record Waiting (X : Type 0) : Type 0 where
  pub entries : List (Entry X)
  pub next : ℕ

-- an agenda: what waits, how many entries can be posted without memory, and how many were posted
-- and stand in no queue yet
pub record AgendaView (X : Type 0) : Type 0 where
  pub waiting : Waiting X
  pub room : ℕ
  pub inbox : ℕ

-- what waits once work is posted: one entry more, under the next number
abbrev pub posted : {X : Type 0} → ℕ → Kind X → Waiting X → Waiting X
posted due kind waiting = record {
  entries = put_entry (record { due = due; number = waiting.next; kind = kind }) waiting.entries;
  next = waiting.next + 1;
}

-- whether this is a Turn of the object
abbrev pub is_turn_kind : {X : Type 0} → ℕ → Kind X → Bool
is_turn_kind object (Turn o) = nat_eq o object
is_turn_kind object (Event o script user) = false
is_turn_kind object (Stored o action) = false
is_turn_kind object (Unapply o) = false

abbrev pub is_turn_of : {X : Type 0} → ℕ → Entry X → Bool
is_turn_of object e = is_turn_kind object e.kind

-- how many Turns of the object there are
abbrev pub turn_count : {X : Type 0} → ℕ → List (Entry X) → ℕ
turn_count object [] = 0
turn_count object (e ∷ es) = if is_turn_of object e then suc
    (turn_count object es) else turn_count object es

-- the entries that are no Turn of the object
abbrev pub without_turns : {X : Type 0} → ℕ → List (Entry X) → List (Entry X)
without_turns object [] = []
without_turns object (e ∷ es) = if is_turn_of object e then without_turns object es else e ∷ without_turns object es

-- what every agenda keeps: its entries are in order, their numbers below the next, and no two equal
pub record IsAgenda {X : Type 0} (waiting : Waiting X) : Type 0 where
  pub order : AreInOrder waiting.entries
  pub below : AreBelow waiting.next waiting.entries
  pub distinct : AreDistinct waiting.entries
