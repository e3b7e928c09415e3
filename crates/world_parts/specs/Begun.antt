-- An entry that is begun.
use Rattle.std.specs.Prelude.{◌≡◌, ℕ, Option, None, Some}
use Rattle.delay_agenda.specs.declared.entry.Entry.{Entry}
use Rattle.world_rules.specs.World.{World}
use Rattle.world_rules.specs.Turns.{begin}

-- What was begun of a world until a time: the entry, and the world in which it runs, or none, and
-- the world as it was.
abbrev pub IsBegunAs : {X : Type 0} → ℕ → World X → Option (Entry X) → World X → Type 0
IsBegunAs until w None v = (begin until w ≡ None) × (v ≡ w)
IsBegunAs until w (Some e) v = begin until w ≡ Some (record { entry = e; world = v })
