-- The file of a source's unit is small.
use Rattle.std.proofs.Common.{◌≡◌, ℕ, ◌≤◌, true, nat_le, length, refl, sym, subst, arith}
use Rattle.std.proofs.lemmas.Bool.Decides.{nat_tests}
use Rattle.nwq_value.specs.Limits.{file_limit}
use Rattle.nwq_value.specs.HeaderTable.{header_table}
use Rattle.nwq_value.specs.Header.{header_routines, header_constants}
use Rattle.nwq_value.specs.Engine.{routine_named, constant_named}
use Rattle.nwq_value.specs.Roles.{ty_eq, tys_eq}
use Rattle.ncs_code.specs.File.{file_length}
use Rattle.ncs_code.specs.Laws.{SizeLaws}
use Rattle.ncs_emit.specs.Labelled.{program}
use Rattle.emission_rules.specs.Units.{unit_code, unit_file}
use Rattle.generator_laws.proofs.Typing.{made_unit}

short : (n creatures : ℕ) → nat_le (file_length (program (unit_code (made_unit n creatures)).lines)) file_limit ≡ true
unfolding made_unit header_table header_routines header_constants routine_named constant_named ty_eq tys_eq program
short n creatures = refl

within : (k : ℕ) → nat_le k file_limit ≡ true → k ≤ file_limit
within k h = grind (arith, nat_tests)

pub made_small : SizeLaws → (n creatures : ℕ) → length (unit_file (made_unit n creatures)) ≤ file_limit
made_small sizes n creatures =
    subst (λ (k : ℕ). k ≤ file_limit) (sym (sizes.file (program (unit_code (made_unit n creatures)).lines)))
    (within (file_length (program (unit_code (made_unit n creatures)).lines)) (short n creatures))
