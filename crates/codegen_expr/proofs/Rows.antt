-- The type bytes of comparisons and sums stand in their rows.
use Rattle.std.proofs.Common.{ℕ, refl}
use Rattle.std.specs.Prelude.{IsTrue}
use Rattle.nwq_value.specs.declared.value.Ty.{Ty}
use Rattle.nwq_value.specs.declared.value.Ty.TheVariants.{Void, Int, Text, Object, Effect, Event, Action, Struct, Refused}
use Rattle.ncs_code.specs.Plain as ops
use Rattle.ncs_code.specs.Spelling.{HasRow, has_type}
use Rattle.typing_rules.specs.Types.{is_compared}
use Rattle.emission_rules.specs.Operations.{comparison_kind, comparison_size, sum_kind}

pub equal_row : (t : Ty) (cells : ℕ) → IsTrue (is_compared t) → HasRow (ops.Equal (comparison_kind t) (comparison_size t cells))
unfolding has_type
equal_row Void cells is = absurd cc
equal_row Int cells is = record { kind = refl; sizes = λ _. refl }
equal_row Text cells is = record { kind = refl; sizes = λ _. refl }
equal_row Object cells is = record { kind = refl; sizes = λ _. refl }
equal_row Effect cells is = record { kind = refl; sizes = λ _. refl }
equal_row Event cells is = record { kind = refl; sizes = λ _. refl }
equal_row Action cells is = absurd cc
equal_row (Struct n) cells is = record { kind = refl; sizes = λ other. absurd (other refl) }
equal_row Refused cells is = absurd cc

pub nequal_row : (t : Ty) (cells : ℕ) → IsTrue (is_compared t) → HasRow (ops.Nequal (comparison_kind t) (comparison_size t cells))
unfolding has_type
nequal_row Void cells is = absurd cc
nequal_row Int cells is = record { kind = refl; sizes = λ _. refl }
nequal_row Text cells is = record { kind = refl; sizes = λ _. refl }
nequal_row Object cells is = record { kind = refl; sizes = λ _. refl }
nequal_row Effect cells is = record { kind = refl; sizes = λ _. refl }
nequal_row Event cells is = record { kind = refl; sizes = λ _. refl }
nequal_row Action cells is = absurd cc
nequal_row (Struct n) cells is = record { kind = refl; sizes = λ other. absurd (other refl) }
nequal_row Refused cells is = absurd cc

pub sum_row : (t : Ty) → HasRow (ops.Add (sum_kind t))
unfolding has_type
sum_row Void = record { kind = refl; sizes = tt }
sum_row Int = record { kind = refl; sizes = tt }
sum_row Text = record { kind = refl; sizes = tt }
sum_row Object = record { kind = refl; sizes = tt }
sum_row Effect = record { kind = refl; sizes = tt }
sum_row Event = record { kind = refl; sizes = tt }
sum_row Action = record { kind = refl; sizes = tt }
sum_row (Struct n) = record { kind = refl; sizes = tt }
sum_row Refused = record { kind = refl; sizes = tt }

pub ruleset rows = (equal_row, nequal_row, sum_row)
