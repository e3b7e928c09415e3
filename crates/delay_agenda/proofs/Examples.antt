-- The definitions at an agenda of three entries.
use Rattle.std.proofs.Common.{◌≡◌, ℕ, [], ◌∷◌, Some, refl}
use Rattle.delay_agenda.specs.declared.entry.Entry.{Entry}
use Rattle.delay_agenda.specs.declared.entry.Kind.TheVariants.{Turn, Unapply}
use Rattle.delay_agenda.specs.Order.{first_due}
use Rattle.delay_agenda.specs.Waiting.{Waiting, posted, turn_count, without_turns}

abbrev early : Entry ℕ
early = record { due = 0; number = 2; kind = Turn 3 }

abbrev turn : Entry ℕ
turn = record { due = 5; number = 0; kind = Turn 9 }

abbrev ended : Entry ℕ
ended = record { due = 5; number = 1; kind = Unapply 1 }

abbrev nothing : Waiting ℕ
nothing = record { entries = []; next = 0 }

-- two of one time in the order of their posts, though the second's object has the lesser number
ties : posted 0 (Turn 3) (posted 5 (Unapply 1) (posted 5 (Turn 9) nothing)) ≡ record { entries = early ∷ turn ∷ ended ∷ []; next = 3 }
ties = refl

first : first_due (early ∷ turn ∷ ended ∷ []) ≡ Some 0
first = refl

one_turn : turn_count 9 (early ∷ turn ∷ ended ∷ []) ≡ 1
one_turn = refl

cancelled : without_turns 9 (early ∷ turn ∷ ended ∷ []) ≡ early ∷ ended ∷ []
cancelled = refl
