use Rattle.std.proofs.Common.{◌∙◌, Some, ap, sym}
use Rattle.std.specs.Option.{option_map}
use Rattle.nss_tree.specs.Statements as tree
use Rattle.nss_tree.specs.Statements.{map_stmt}
use Rattle.typing_rules.specs.declared.fault.FaultKind.TheVariants.{Mismatch}
use Rattle.typing_rules.specs.Nodes.{at, fine, kept, ruled}
use Rattle.typing_rules.specs.Reading.{plain}
use Rattle.typing_rules.specs.Rules.{when}
use Rattle.typing_rules.specs.UnitReading.{typed_stmt}
use Rattle.nss_expressions.specs.Walked.{always}
use Rattle.nss_statements.proofs.Judged.{made_as}
use Rattle.nss_statements.proofs.judge_statement.judge_for_of.Goals as goal

pub returns-then-is_condition : goal.returns-then-is_condition
returns-then-is_condition c =
    let y = tree.for_loop c.args.token (option_map plain c.args.start) (option_map plain c.args.condition) (option_map plain c.args.step) (typed_stmt c.args.body) in
    let known = sym c.is_condition.ensures ∙ c.if-is_condition.true in
    record {
      value = made_as typed_stmt _ c.for_loop.result c.some_made.result _ c.some_made.ensures.made
          (λ s is. ap Some (ap (map_stmt plain) is)
          ∙ sym (ap (λ b. fine (ruled Mismatch (when b y))) known)) c.for_loop.ensures.made;
      least = always c.some_made.result (sym (ap (λ b. kept c.args.least.now (at c.args.token (ruled Mismatch (when b y)))) known));
    }

pub returns : goal.returns
returns c =
    let y = tree.for_loop c.args.token (option_map plain c.args.start) (option_map plain c.args.condition) (option_map plain c.args.step) (typed_stmt c.args.body) in
    let known = sym c.is_condition.ensures ∙ c.if-is_condition.false in
    record {
      value = sym (ap (λ b. fine (ruled Mismatch (when b y))) known);
      least = c.note.ensures.kept ∙ sym (ap (λ b. kept c.args.least.now (at c.args.token (ruled Mismatch (when b y)))) known);
    }
