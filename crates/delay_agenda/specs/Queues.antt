-- How the entries are kept: in queues by due time, and in an inbox that moves into them. No public
-- clause speaks of it.
use Rattle.std.specs.Prelude.{◌≡◌, ◌≢◌, ◌<◌, ℕ, nat_eq, Option, None, Some, true, false, List, [], ◌∷◌, ◌++◌, length, get_or, if◌then◌else◌}
use Rattle.std.specs.Ordering.{nat_cmp}
use Rattle.std.specs.BTreeMap.{BTreeMap, get, is_at}
use Rattle.delay_agenda.specs.declared.entry.Entry.{Entry}
use Rattle.delay_agenda.specs.declared.entry.Kind.{Kind}
use Rattle.delay_agenda.specs.declared.entry.Kind.TheVariants.{Event, Stored, Turn, Unapply}
use Rattle.stamped_slots.specs.Stamps.{Stamps, at, put, without}
use Rattle.delay_agenda.specs.Order.{is_before, put_entry, AreDistinct}
use Rattle.delay_agenda.specs.Waiting.{is_turn_of, turn_count}

-- what is to run at one time, each under its number, as entries
abbrev pub entries_of : {X : Type 0} → ℕ → List (ℕ × Kind X) → List (Entry X)
entries_of due [] = []
entries_of due (k ∷ kinds) = record { due = due; number = k.0; kind = k.1 } ∷ entries_of due kinds

-- the entry of a number
abbrev pub numbered : {X : Type 0} → ℕ → List (Entry X) → Option (Entry X)
numbered number [] = None
numbered number (e ∷ es) = if nat_eq e.number number then Some e else numbered number es

-- the entries without the one of a number
abbrev pub without_number : {X : Type 0} → ℕ → List (Entry X) → List (Entry X)
without_number number [] = []
without_number number (e ∷ es) = if nat_eq e.number number then es else e ∷ without_number number es

-- queues by due time, as a map has them
abbrev pub QueuesByTime : Type 0 → Type 0
QueuesByTime X = List (ℕ × List (Entry X))

-- the entries of the queues, one queue after the other
abbrev pub in_row : {X : Type 0} → QueuesByTime X → List (Entry X)
in_row [] = []
in_row (q ∷ qs) = q.1 ++ in_row qs

-- the entries of one queue, none where there is no such queue
abbrev pub queue_at : {X : Type 0} → ℕ → QueuesByTime X → List (Entry X)
queue_at due [] = []
queue_at due (q ∷ qs) = if is_at (nat_cmp due) q.0 then q.1 else queue_at due qs

-- the entries of the queues without the one of a number in one queue
abbrev pub row_without : {X : Type 0} → ℕ → ℕ → QueuesByTime X → List (Entry X)
row_without due number [] = []
row_without due number (q ∷ qs) = if is_at (nat_cmp due) q.0 then without_number number q.1
    ++ in_row qs else q.1 ++ row_without due number qs

-- entries, the first of them first, put among those that stand in order
abbrev pub put_all : {X : Type 0} → List (Entry X) → List (Entry X) → List (Entry X)
put_all [] es = es
put_all (x ∷ xs) es = put_all xs (put_entry x es)

-- none of these is taken before e
abbrev pub NoneBefore : {X : Type 0} → Entry X → List (Entry X) → Type 0
NoneBefore e [] = Unit {0}
NoneBefore e (x ∷ xs) = (is_before x e ≡ false) × NoneBefore e xs

-- none is taken before one that stands before it
abbrev pub AreSorted : {X : Type 0} → List (Entry X) → Type 0
AreSorted [] = Unit {0}
AreSorted (e ∷ es) = NoneBefore e es × AreSorted es

-- the head isn't taken before e
abbrev pub HeadIsNotBefore : {X : Type 0} → Entry X → List (Entry X) → Type 0
HeadIsNotBefore e [] = Unit {0}
HeadIsNotBefore e (x ∷ xs) = is_before x e ≡ false

-- each is due at this time
abbrev pub AreDue : {X : Type 0} → ℕ → List (Entry X) → Type 0
AreDue due [] = Unit {0}
AreDue due (e ∷ es) = (e.due ≡ due) × AreDue due es

-- a queue of the entries that are due at one time
pub record IsQueue {X : Type 0} (due : ℕ) (es : List (Entry X)) : Type 0 where
  pub filled : es ≢ []
  pub together : AreDue due es
  pub sorted : AreSorted es

-- each queue is of a later time
abbrev pub AreLater : {X : Type 0} → ℕ → QueuesByTime X → Type 0
AreLater due [] = Unit {0}
AreLater due (q ∷ qs) = (due < q.0) × AreLater due qs

-- each queue is of its time, and those behind it are of later ones
abbrev pub AreQueues : {X : Type 0} → QueuesByTime X → Type 0
AreQueues [] = Unit {0}
AreQueues (q ∷ qs) = IsQueue q.0 q.1 × AreLater q.0 qs × AreQueues qs

-- the head is due at this time and has this number
abbrev pub IsHead : {X : Type 0} → ℕ → ℕ → List (Entry X) → Type 0
IsHead due number [] = ⊥
IsHead due number (x ∷ xs) = (x.due ≡ due) × (x.number ≡ number)

-- the first queue has one entry
abbrev pub StartsAlone : {X : Type 0} → QueuesByTime X → Type 0
StartsAlone [] = ⊥
StartsAlone (q ∷ qs) = length q.1 ≡ 1

-- of the first n entries of an inbox, the one at this place is taken first; of several alike it is
-- the last
pub record IsLeastAt {X : Type 0} (at n : ℕ) (es : List (Entry X)) : Type 0 where
  pub inside : at < n
  pub before : (i : ℕ) (d : Entry X) → i < at → is_before (get_or es i d) (get_or es at d) ≡ false
  pub behind : (i : ℕ) (d : Entry X) → at < i → i < n
      → is_before (get_or es at d) (get_or es i d) ≡ true

-- the entry of the inbox at this place is taken before all others
pub record IsInInbox {X : Type 0} (at : ℕ) (inbox row : List (Entry X)) : Type 0 where
  pub least : IsLeastAt at (length inbox) inbox
  pub first : (d : Entry X) → HeadIsNotBefore (get_or inbox at d) row

-- the head of the row is taken before all of the inbox
abbrev pub IsInQueues : {X : Type 0} → List (Entry X) → List (Entry X) → Type 0
IsInQueues inbox [] = inbox ≡ []
IsInQueues {X = X} inbox (m ∷ row) = (i : ℕ) (d : Entry X) → i < length inbox
    → is_before m (get_or inbox i d) ≡ true

-- a Turn of the object stands at this place
pub record IsTurnAt {X : Type 0} (object at : ℕ) (es : List (Entry X)) : Type 0 where
  pub inside : at < length es
  pub turn : (d : Entry X) → is_turn_of object (get_or es at d) ≡ true

-- the object whose Turn this is
abbrev pub turning : {X : Type 0} → Kind X → Option ℕ
turning (Turn o) = Some o
turning (Event o script user) = None
turning (Stored o action) = None
turning (Unapply o) = None

-- the Turns of an object under their numbers, each with its due time
abbrev pub turns_in : {X : Type 0} → ℕ → List (Entry X) → List (ℕ × ℕ)
turns_in object [] = []
turns_in object (e ∷ es) = if is_turn_of object e then put e.number e.due
    (turns_in object es) else turns_in object es

-- the Turns that are listed
abbrev pub listed : Option (Stamps ℕ) → List (ℕ × ℕ)
listed None = []
listed (Some turns) = turns.items

-- the Turns of an object, as an index lists them
abbrev pub turns_of : ℕ → BTreeMap ℕ (Stamps ℕ) → List (ℕ × ℕ)
turns_of object index = listed (get nat_cmp index object)

-- an index leads to the Turns of these entries, no two of which have one number
pub record IsIndexed {X : Type 0} (index : BTreeMap ℕ (Stamps ℕ))
    (es : List (Entry X)) : Type 0 where
  pub distinct : AreDistinct es
  pub turns : (object : ℕ) → turns_of object index ≡ turns_in object es

-- an index lists no Turn of this entry's object under its number
abbrev pub IsNew : {X : Type 0} → Entry X → BTreeMap ℕ (Stamps ℕ) → Type 0
IsNew e index = (object : ℕ) → turning e.kind ≡ Some object
    → at e.number (turns_of object index) ≡ None

-- the second index lists this Turn of the object too
abbrev pub HasTurnMore : ℕ → ℕ → ℕ → BTreeMap ℕ (Stamps ℕ) → BTreeMap ℕ (Stamps ℕ) → Type 0
HasTurnMore object number due few more = (other : ℕ)
    → turns_of other more ≡ (if nat_eq object other then put number due
    (turns_of other few) else turns_of other few)

-- the second index lists the object's Turn of this number no more
abbrev pub HasTurnLess : ℕ → ℕ → BTreeMap ℕ (Stamps ℕ) → BTreeMap ℕ (Stamps ℕ) → Type 0
HasTurnLess object number more few = (other : ℕ)
    → turns_of other few ≡ (if nat_eq object other then without number
    (turns_of other more) else turns_of other more)

-- the second index lists this entry too, if it is a Turn
abbrev pub HasEntryMore : {X : Type 0} → Entry X → BTreeMap ℕ (Stamps ℕ) → BTreeMap ℕ (Stamps ℕ)
    → Type 0
HasEntryMore e few more = (other : ℕ)
    → turns_of other more ≡ (if is_turn_of other e then put e.number e.due
    (turns_of other few) else turns_of other few)

-- the second index lists this entry no more
abbrev pub HasEntryLess : {X : Type 0} → Entry X → BTreeMap ℕ (Stamps ℕ) → BTreeMap ℕ (Stamps ℕ)
    → Type 0
HasEntryLess e more few = (other : ℕ)
    → turns_of other few ≡ (if is_turn_of other e then without e.number
    (turns_of other more) else turns_of other more)

-- the second index lists no Turn of the object, and of all others the same
abbrev pub HasNoTurn : ℕ → BTreeMap ℕ (Stamps ℕ) → BTreeMap ℕ (Stamps ℕ) → Type 0
HasNoTurn object more few = (other : ℕ)
    → turns_of other few ≡ (if nat_eq object other then [] else turns_of other more)

-- e is taken before each of these
abbrev pub IsBeforeEach : {X : Type 0} → Entry X → List (Entry X) → Type 0
IsBeforeEach e [] = Unit {0}
IsBeforeEach e (x ∷ xs) = (is_before e x ≡ true) × IsBeforeEach e xs

-- each of these is taken before e
abbrev pub AllBefore : {X : Type 0} → Entry X → List (Entry X) → Type 0
AllBefore e [] = Unit {0}
AllBefore e (x ∷ xs) = (is_before x e ≡ true) × AllBefore e xs

-- each is taken before those behind it
abbrev pub AreRising : {X : Type 0} → List (Entry X) → Type 0
AreRising [] = Unit {0}
AreRising (e ∷ es) = IsBeforeEach e es × AreRising es

-- what is kept of the entries that are sorted in: a line without Turns, queues, and an index of
-- their Turns
pub record AreLined {X : Type 0} (line : List (Entry X)) (qs : QueuesByTime X)
    (index : BTreeMap ℕ (Stamps ℕ)) : Type 0 where
  pub queues : AreQueues qs
  pub indexed : IsIndexed index (in_row qs)
  pub rising : AreRising line
  pub bare : (object : ℕ) → turn_count object line ≡ 0
  pub distinct : AreDistinct (put_all line (in_row qs))
