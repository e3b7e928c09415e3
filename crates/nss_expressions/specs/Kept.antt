-- The least of faults in a row.
use Rattle.std.proofs.Common.{◌≡◌, List, [], ◌∷◌, ◌++◌, Option, refl}
use Rattle.typing_rules.specs.declared.fault.Fault.{Fault}
use Rattle.typing_rules.specs.Nodes.{kept, earlier}

pub kept_append : (o : Option Fault) (xs ys : List Fault) → kept o (xs ++ ys) ≡ kept (kept o xs) ys
kept_append o [] ys = refl
kept_append o (x ∷ xs) ys = kept_append (earlier o x) xs ys
