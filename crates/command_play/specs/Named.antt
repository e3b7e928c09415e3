-- The names of the scripts of a play.
use Rattle.std.specs.Prelude.{◌≡◌, ℕ, List, map}
use Rattle.ncs_machine.specs.declared.scripts.Loaded.{Loaded}

-- by their numbers
abbrev pub names_of : List Loaded → List (List ℕ)
names_of scripts = map (λ script. script.name) scripts

-- the names are those of the scripts, unless none were wanted, or there was no memory for them
pub data AreNames (scripts : List Loaded) (before after : List (List ℕ)) : Type 0 where
  Named : after ≡ names_of scripts → AreNames scripts before after
  Unnamed : after ≡ before → AreNames scripts before after
