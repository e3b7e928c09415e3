use Rattle.std.proofs.Common.{Some, ap, refl}
use Rattle.nss_tree.specs.Statements as tree
use Rattle.nss_tree.specs.Statements.{map_stmt}
use Rattle.typing_rules.specs.Nodes.{two}
use Rattle.typing_rules.specs.Reading.{plain}
use Rattle.typing_rules.specs.Rules.{if_rows, while_rule}
use Rattle.typing_rules.specs.Types.{is_int}
use Rattle.typing_rules.specs.Typed.{type_of}
use Rattle.typing_rules.specs.UnitReading.{typed_stmt}
use Rattle.nss_statements.proofs.Judged.{made_as, made_least, made_value, two_read}
use Rattle.nss_expressions.specs.Walked.{always}
use Rattle.nss_statements.proofs.judge_statement.judge_while.Goals as goal

pub returns-in-Some : goal.returns-in-Some
returns-in-Some c =
    let n = c.args.token in
    let o = two c.args.condition c.args.body in
    let read = two_read plain typed_stmt c.args.condition c.args.body in
    record {
      value = made_as typed_stmt _ c.while_loop.result c.some_made.result _ c.some_made.ensures.made
          (λ s is. made_value (λ p. (plain p.0, typed_stmt p.1)) if_rows (while_rule n)
          (λ p. is_int (type_of (plain p.0))) (λ p. tree.while_loop n (plain p.0) (typed_stmt p.1)) (λ p. refl)
          (λ p. refl) o _ _ _ read c.in-Some.ensures.value
          (ap Some (ap (map_stmt plain) is))) c.while_loop.ensures.made;
      least = always c.some_made.result
          (made_least (λ p. (plain p.0, typed_stmt p.1)) if_rows (while_rule n) (λ p. is_int (type_of (plain p.0)))
          (λ p. tree.while_loop n (plain p.0) (typed_stmt p.1)) (λ p. refl)
          (λ p. refl) n c.args.least.now _ o _ read c.in-Some.ensures.least);
    }

pub returns-in-None : goal.returns-in-None
returns-in-None c =
    let n = c.args.token in
    let o = two c.args.condition c.args.body in
    let read = two_read plain typed_stmt c.args.condition c.args.body in
    record {
      value = made_value (λ p. (plain p.0, typed_stmt p.1)) if_rows (while_rule n) (λ p. is_int (type_of (plain p.0)))
          (λ p. tree.while_loop n (plain p.0) (typed_stmt p.1)) (λ p. refl)
          (λ p. refl) o _ _ _ read c.in-None.ensures.value refl;
      least = made_least (λ p. (plain p.0, typed_stmt p.1)) if_rows (while_rule n) (λ p. is_int (type_of (plain p.0)))
          (λ p. tree.while_loop n (plain p.0) (typed_stmt p.1)) (λ p. refl)
          (λ p. refl) n c.args.least.now _ o _ read c.in-None.ensures.least;
    }
