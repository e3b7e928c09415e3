-- Declared names of one line in a row.
use Rattle.std.proofs.Common.{ℕ, ◌++◌, List, Option, refl}
use Rattle.std.specs.Option.{option_map}
use Rattle.nss_tree.specs.declared.expressions.Expr.{Expr}
use Rattle.nss_tree.specs.declared.statements.DeclaredName.{DeclaredName}
use Rattle.nss_tree.specs.Reading.{plain_expr, plain_name, plain_names}
use Rattle.nwq_value.specs.declared.value.Ty.{Ty}
use Rattle.typing_rules.specs.Nodes.{at, faults_there, fine}
use Rattle.typing_rules.specs.Sight.{Head, Sight, declared}
use Rattle.typing_rules.specs.UnitReading.{typed_name, typed_names}
use Rattle.typing_rules.specs.Verdicts.{after_names, names_faults, names_fine, one_more, value_faults, variable_verdict}
use Rattle.nss_expressions.specs.Rows.{with_rest}
use Rattle.nss_expressions.specs.RowLaws.{RowLaws, mapped_step, rest_begin, rest_end}

pub name_laws : (hs : List Head) (ty : Option Ty) → RowLaws (option_map typed_names) (option_map typed_name) one_more with_rest
    (λ (c : Sight) (d : DeclaredName Expr (List ℕ)). declared c d.name ty)
    (λ c d. fine (variable_verdict hs c ty (plain_name d)))
    (λ c d. faults_there (value_faults hs c) (option_map plain_expr d.value) ++ at d.token (variable_verdict hs c ty (plain_name d)))
    (λ c ds. names_fine hs c ty (plain_names ds))
    (λ c ds. names_faults hs c ty (plain_names ds))
    (λ c ds. after_names c ty (plain_names ds))
name_laws hs ty = record {
  begin = rest_begin;
  step = mapped_step typed_name;
  end = λ all c. rest_end (option_map typed_names all);
  fine_more = λ c d ds. refl;
  faults_more = λ c d ds. refl;
  faults_none = λ c. refl;
  after_more = λ c d ds. refl;
  after_none = λ c. refl;
}
