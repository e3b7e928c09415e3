use Rattle.std.proofs.Common.{◌≡◌, ◌∙◌, true, sym, ap, Some, rules}
use Rattle.std.specs.Option.{option_map}
use Rattle.nss_tree.specs.Readings.{map_body}
use Rattle.nss_tree.specs.Units as unit
use Rattle.nss_tree.specs.Units.{map_item}
use Rattle.typing_rules.specs.declared.fault.FaultKind.TheVariants.{NoReturn}
use Rattle.typing_rules.specs.Nodes.{fine, ruled}
use Rattle.typing_rules.specs.Reading.{plain}
use Rattle.typing_rules.specs.Rules.{gives, when}
use Rattle.typing_rules.specs.UnitReading.{typed_stmts}
use Rattle.nss_types.proofs.function.judge_function.Goals as goal

pub returns-then-gives-clause-value : goal.returns-then-gives-clause-value
returns-then-gives-clause-value c =
    let yes_it : c.gives.result ≡ true = search rules in
    let g : gives c.in-Some.head.result (option_map typed_stmts c.in-Some-body.body) ≡ true = sym c.gives.ensures ∙ yes_it in
    rw (c.in-Some.is, c.in-Some-body.is)
    (ap (λ y. Some (map_item plain y)) c.function.ensures.made
    ∙ (ap (λ b. Some (unit.function c.args.token c.in-Some.head.result c.args.name c.in-Some.head.params b)) (map_body plain c.in-Some-body.body)
    ∙ sym (ap (λ b. fine (ruled NoReturn (when b (unit.function c.args.token c.in-Some.head.result c.args.name c.in-Some.head.params (option_map typed_stmts c.in-Some-body.body))))) g)))
