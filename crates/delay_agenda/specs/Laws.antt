-- What the definitions give of an agenda's entries.
use Rattle.std.specs.Prelude.{◌≡◌, ◌≢◌, ◌<◌, ◌≤◌, ℕ, List, ◌∷◌, ◌++◌, Some, length, take, drop, slice_get}
use Rattle.delay_agenda.specs.declared.entry.Entry.{Entry}
use Rattle.delay_agenda.specs.declared.entry.Kind.{Kind}
use Rattle.delay_agenda.specs.Order.{put_entry, AreInOrder, AreBelow, AreDistinct, HasNone, IsNext}
use Rattle.delay_agenda.specs.Waiting.{Waiting, IsAgenda, posted, turn_count, without_turns}

-- in a list in order the head is the entry that is taken next
abbrev pub HeadIsNext : Type 0 → Type 0
HeadIsNext X = (e : Entry X) (es : List (Entry X)) → AreInOrder (e ∷ es) → IsNext e (e ∷ es)

-- exactly one entry comes in: before and behind it the others stand as they stood
abbrev pub PutAddsOne : Type 0 → Type 0
PutAddsOne X = (e : Entry X) (es : List (Entry X))
    → (n : ℕ) × (n ≤ length es) × (put_entry e es ≡ take n es ++ e ∷ drop n es)

-- each member's number is below the next one, and a number stands at one place alone
abbrev pub NumbersAreBelow : Type 0 → Type 0
NumbersAreBelow X = (next : ℕ) (es : List (Entry X)) → AreBelow next es
    → (i : ℕ) (a : Entry X) → slice_get es i ≡ Some a → a.number < next

abbrev pub NumbersAreDistinct : Type 0 → Type 0
NumbersAreDistinct X = (es : List (Entry X)) → AreDistinct es
    → (i j : ℕ) (a b : Entry X) → slice_get es i ≡ Some a → slice_get es j ≡ Some b
    → a.number ≡ b.number → i ≡ j

-- order, bound and distinctness stay with each call that changes what waits
abbrev pub PostKeeps : Type 0 → Type 0
PostKeeps X = (due : ℕ) (kind : Kind X) (waiting : Waiting X) → IsAgenda waiting
    → IsAgenda (posted due kind waiting)

abbrev pub PutKeeps : Type 0 → Type 0
PutKeeps X = (e : Entry X) (waiting : Waiting X) → IsAgenda waiting → e.number < waiting.next
    → HasNone e.number waiting.entries
    → IsAgenda (record waiting { entries = put_entry e waiting.entries })

abbrev pub TakeKeeps : Type 0 → Type 0
TakeKeeps X = (waiting : Waiting X) → IsAgenda waiting
    → IsAgenda (record waiting { entries = drop 1 waiting.entries })

abbrev pub CancelKeeps : Type 0 → Type 0
CancelKeeps X = (object : ℕ) (waiting : Waiting X) → IsAgenda waiting
    → IsAgenda (record waiting { entries = without_turns object waiting.entries })

-- an entry more counts as it does in front of the others
abbrev pub PutCounts : Type 0 → Type 0
PutCounts X = (object : ℕ) (e : Entry X) (es : List (Entry X))
    → turn_count object (put_entry e es) ≡ turn_count object (e ∷ es)

-- without the Turns of an object it has none, and every other object has as many as before
abbrev pub CancelCounts : Type 0 → Type 0
CancelCounts X = (object : ℕ) (es : List (Entry X)) →
    (turn_count object (without_turns object es) ≡ 0)
    × ((other : ℕ) → other ≢ object
    → turn_count other (without_turns object es) ≡ turn_count other es)
