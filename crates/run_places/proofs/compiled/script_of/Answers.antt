use Rattle.nss_parser.specs.Sentence.{Parses}
use Rattle.nss_tree.specs.Reading.{plain_tree}
use Rattle.typing_rules.specs.Meaning.{TypesUnit}
use Rattle.typing_rules.specs.UnitReading.{typed_unit}
use Rattle.run_places.specs.Scripts.{symbols_in}
use Rattle.run_places.proofs.Same.{if_some, typed_same}
use Rattle.run_places.proofs.compiled.script_of.Goals as goal

pub returns-clause-typed : goal.returns-clause-typed
returns-clause-typed c =
    typed_same c.one_tree.ensures.one (symbols_in c.args.unit.tokens) c.args.table.now (plain_tree c.in-Some-Some.first) (plain_tree c.in-Some-Some.tree)
    (typed_unit c.in-Some.typed)
    (if_some (λ t. Parses (symbols_in c.args.unit.tokens) (plain_tree t)) c.in_ok-tree_of.field-0 c.in-Some-Some.first c.in-Some-Some.is-0 c.in_ok-tree_of.ensures.tree)
    (if_some (λ t. Parses (symbols_in c.args.unit.tokens) (plain_tree t)) c.in_ok-tree.field-0 c.in-Some-Some.tree c.in-Some-Some.is-1 c.in_ok-tree.ensures.tree)
    (if_some (λ t. TypesUnit c.args.table.now (plain_tree c.in-Some-Some.first) (typed_unit t)) c.in_ok-typed.field-0 c.in-Some.typed c.in-Some.is c.in_ok-typed.ensures.typed)
