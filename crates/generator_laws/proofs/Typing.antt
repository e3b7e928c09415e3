-- The typed unit of a source, under the built-in header.
use Rattle.std.proofs.Common.{◌≡◌, ℕ, [], Option, Some, None, refl}
use Rattle.nwq_value.specs.HeaderTable.{header_table}
use Rattle.nwq_value.specs.Header.{header_routines, header_constants}
use Rattle.nwq_value.specs.Engine.{routine_named, constant_named}
use Rattle.nwq_value.specs.Roles.{ty_eq, tys_eq}
use Rattle.typing_rules.specs.declared.places.EntryPoint.TheVariants.{Main}
use Rattle.typing_rules.specs.Typed.{TypedUnit}
use Rattle.typing_rules.specs.Verdicts.{unit_typed}
use Rattle.generator_laws.proofs.Trees.{made_tree}

abbrev unit_or : Option TypedUnit → TypedUnit
unit_or None = record { items = []; entry = Main 0 }
unit_or (Some unit) = unit

unfoldable pub made_unit : ℕ → ℕ → TypedUnit
made_unit n creatures = unit_or (unit_typed header_table (made_tree n creatures))

pub made_typed : (n creatures : ℕ) → unit_typed header_table (made_tree n creatures) ≡ Some (made_unit n creatures)
unfolding made_unit header_table header_routines header_constants routine_named constant_named ty_eq tys_eq
made_typed n creatures = refl
