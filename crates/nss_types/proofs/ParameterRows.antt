-- Parameters in a row.
use Rattle.std.proofs.Common.{◌≡◌, ℕ, ◌+◌, ◌<◌, Bool, List, [], ◌∷◌, ◌++◌, length, drop, get_or, Option, refl, sym, ap, ◌∙◌}
use Rattle.std.proofs.lemmas.List.{at_drop_more}
use Rattle.nss_tree.specs.Source.{SourceParameter}
use Rattle.typing_rules.specs.Nodes.{at, faults_there, fine}
use Rattle.typing_rules.specs.Sight.{Sight}
use Rattle.typing_rules.specs.Typed.{TypedParameter}
use Rattle.typing_rules.specs.Verdicts.{after_params, constant_faults, late_after, one_more, parameter_declared, parameter_verdict, params_faults, params_fine}
use Rattle.nss_expressions.specs.Rows.{with_rest}
use Rattle.nss_expressions.specs.RowLaws.{RowLaws, rest_begin, rest_step, rest_end}

abbrev late_all : Bool → List SourceParameter → Bool
late_all late [] = late
late_all late (p ∷ ps) = late_all (late_after late p) ps

pub param_laws : RowLaws (λ (o : Option (List TypedParameter)). o) (λ (o : Option TypedParameter). o) one_more with_rest
    (λ (c : Sight × Bool) (p : SourceParameter). (parameter_declared c.0 p, late_after c.1 p))
    (λ c p. fine (parameter_verdict c.0 c.1 p))
    (λ c p. faults_there (constant_faults c.0) p.default ++ at p.token (parameter_verdict c.0 c.1 p))
    (λ c ps. params_fine c.0 c.1 ps)
    (λ c ps. params_faults c.0 c.1 ps)
    (λ c ps. (after_params c.0 ps, late_all c.1 ps))
param_laws = record {
  begin = rest_begin;
  step = rest_step;
  end = λ all c. rest_end all;
  fine_more = λ c p ps. refl;
  faults_more = λ c p ps. refl;
  faults_none = λ c. refl;
  after_more = λ c p ps. refl;
  after_none = λ c. refl;
}

pub pair_is : {A B : Type 0} (a c : A) (b d : B) → a ≡ c → b ≡ d → ◌≡◌ {A = A × B} (a, b) (c, d)
pair_is a c b d first second = ap (λ x. (x, b)) first ∙ ap (λ y. (c, y)) second

pub params_sight : (ps : List SourceParameter) (i : ℕ) (d p : SourceParameter) → i < length ps → p ≡ get_or ps i d → (c c' : Sight) → c' ≡ parameter_declared c p
    → (whole : Sight) → after_params c (drop i ps) ≡ whole → after_params c' (drop (i + 1) ps) ≡ whole
params_sight ps i d p lt is c c' next whole so_far =
    ap (λ k. after_params k (drop (i + 1) ps)) next
    ∙ (ap (λ y. after_params c (y ∷ drop (i + 1) ps)) is ∙ (sym (at_drop_more (after_params c) ps i d lt) ∙ so_far))
