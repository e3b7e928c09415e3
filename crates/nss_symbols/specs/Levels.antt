-- The numbers of the nest as code holds them. Private clauses and proofs alone need this.
use Rattle.std.specs.Prelude.{◌≤◌, List, map, reverse}
use Rattle.std.specs.List.{AllByRecursion}
use Rattle.nss_symbols.specs.declared.nest.Level.{Level as HeldLevel}
use Rattle.nss_symbols.specs.Nest.{Level, State}

abbrev pub plain_level : HeldLevel → Level
plain_level l = record { number = l.number; dos = l.dos }

-- the last one, and those below it from the first on
abbrev pub state_of : HeldLevel → List HeldLevel → State
state_of last below = record { last = plain_level last; below = map plain_level (reverse below) }

-- no count passes its number, since each `do` raises both
abbrev pub AreCounted : State → Type 0
AreCounted s = (s.last.dos ≤ s.last.number) × AllByRecursion (λ l. l.dos ≤ l.number) s.below
