-- Fields and lines of a struct in a row.
use Rattle.std.proofs.Common.{◌≡◌, ℕ, Bool, true, false, if◌then◌else◌, List, [], ◌∷◌, Option, None, Some, is_some, suc, refl}
use Rattle.std.specs.Option.{option_map}
use Rattle.std.specs.Str.{bytes_eq}
use Rattle.nwq_value.specs.declared.value.Ty.{Ty}
use Rattle.nss_tree.specs.declared.units.Identifier.{Identifier}
use Rattle.nss_tree.specs.Source.{SourceLine}
use Rattle.typing_rules.specs.Nodes.{at, fine}
use Rattle.typing_rules.specs.Rules.{Fields, is_among}
use Rattle.typing_rules.specs.Sight.{Structure}
use Rattle.typing_rules.specs.Typed.{TypedLine}
use Rattle.typing_rules.specs.Verdicts.{after_fields, after_line, field_added, field_verdict, fields_faults, fields_fine, line_faults, line_fine, lines_faults, lines_fine, one_more}
use Rattle.nwq_value.specs.Index.{first_place}
use Rattle.nss_expressions.specs.Rows.{with_rest}
use Rattle.nss_expressions.specs.RowLaws.{RowLaws, rest_begin, rest_step, rest_end}

pub among_is : (x : List ℕ) (ys : List (List ℕ)) → is_some (first_place x ys) ≡ is_among x ys
among_is x [] = refl
among_is x (y ∷ ys) = by (bytes_eq x y) (first_place x ys) (among_is x ys)
  where
    by : (b : Bool) (o : Option ℕ) → is_some o ≡ is_among x ys → is_some (if b then Some 0 else option_map suc o) ≡ (if b then true else is_among x ys)
    by true o h = refl
    by false None h = h
    by false (Some n) h = h

pub field_laws : (structs : List Structure) (ty : Option Ty) → RowLaws (λ (o : Option (List Identifier)). o) (λ (o : Option Identifier). o) one_more with_rest
    (λ (c : Fields) (x : Identifier). field_added structs c ty x)
    (λ c x. fine (field_verdict structs c ty x))
    (λ c x. at x.token (field_verdict structs c ty x))
    (λ c xs. fields_fine structs c ty xs)
    (λ c xs. fields_faults structs c ty xs)
    (λ c xs. after_fields structs c ty xs)
field_laws structs ty = record {
  begin = rest_begin;
  step = rest_step;
  end = λ all c. rest_end all;
  fine_more = λ c x xs. refl;
  faults_more = λ c x xs. refl;
  faults_none = λ c. refl;
  after_more = λ c x xs. refl;
  after_none = λ c. refl;
}

abbrev after_lines : List Structure → Fields → List SourceLine → Fields
after_lines structs c [] = c
after_lines structs c (l ∷ ls) = after_lines structs (after_line structs c l) ls

pub line_laws : (structs : List Structure) → RowLaws (λ (o : Option (List TypedLine)). o) (λ (o : Option TypedLine). o) one_more with_rest
    (λ (c : Fields) (l : SourceLine). after_line structs c l)
    (λ c l. line_fine structs c l)
    (λ c l. line_faults structs c l)
    (λ c ls. lines_fine structs c ls)
    (λ c ls. lines_faults structs c ls)
    (λ c ls. after_lines structs c ls)
line_laws structs = record {
  begin = rest_begin;
  step = rest_step;
  end = λ all c. rest_end all;
  fine_more = λ c l ls. refl;
  faults_more = λ c l ls. refl;
  faults_none = λ c. refl;
  after_more = λ c l ls. refl;
  after_none = λ c. refl;
}
