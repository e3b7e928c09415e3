use Rattle.std.proofs.Common.{◌≡◌, drop}
use Rattle.nss_tree.specs.Reading.{plain_names}
use Rattle.typing_rules.specs.Verdicts.{after_names}
use Rattle.nss_expressions.specs.Views.{heads_in, sight_in}
use Rattle.nss_reasons.specs.Reasons.{names_nodes}
use Rattle.expression_reasons.specs.Seen.{seen}
use Rattle.nss_reasons.proofs.declared.names.Given as goal

abbrev pub invariant-loop-name : goal.invariant-loop-name
invariant-loop-name l =
    (seen l.k l.found (names_nodes (heads_in l.given) (sight_in l.given l.c) l.ty (plain_names (drop l.name-index l.names)))
    ≡ seen l.k l.initial.found (names_nodes (heads_in l.given) (sight_in l.given l.initial.c) l.ty (plain_names l.names)))
    × (after_names (sight_in l.given l.c) l.ty (plain_names (drop l.name-index l.names)) ≡ after_names (sight_in l.given l.initial.c) l.ty (plain_names l.names))
