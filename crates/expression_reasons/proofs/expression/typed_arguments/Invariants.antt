use Rattle.std.proofs.Common.{◌≡◌, drop}
use Rattle.std.specs.Option.{option_map}
use Rattle.nss_tree.specs.Reading.{plain_exprs}
use Rattle.typing_rules.specs.Reading.{plain_all}
use Rattle.typing_rules.specs.Verdicts.{all_fine}
use Rattle.nss_expressions.specs.Arguments.{with_others}
use Rattle.nss_expressions.specs.Views.{heads_in, sight_in}
use Rattle.expression_reasons.proofs.expression.typed_arguments.Given as goal

abbrev pub invariant-loop-e : goal.invariant-loop-e
invariant-loop-e l =
    with_others (option_map plain_all l.all) (all_fine (heads_in l.given) (sight_in l.given l.c) l.rest (plain_exprs (drop l.e-index l.es)))
    ≡ all_fine (heads_in l.given) (sight_in l.given l.c) l.params (plain_exprs l.es)
