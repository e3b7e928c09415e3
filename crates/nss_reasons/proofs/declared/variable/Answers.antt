use Rattle.std.proofs.Common.{◌∙◌, ap, sym}
use Rattle.std.specs.Option.{option_map}
use Rattle.nss_tree.specs.Reading.{plain_expr, plain_name}
use Rattle.nss_expressions.specs.Views.{heads_in, sight_in}
use Rattle.expression_reasons.specs.Reasons.{nodes_there, value_nodes}
use Rattle.nss_reasons.specs.Reasons.{variable_why}
use Rattle.expression_reasons.specs.Seen.{noted, own, seen_append}
use Rattle.expression_reasons.specs.Walked.{always}
use Rattle.nss_reasons.proofs.declared.variable.Goals as goal

pub returns-clause-found : goal.returns-clause-found
returns-clause-found c =
    let hs = heads_in c.args.given.now in
    let s = sight_in c.args.given.now c.args.c.now in
    let why = variable_why hs s c.args.ty (plain_name c.args.name.now) in
    let before = nodes_there (value_nodes hs s) (option_map plain_expr c.args.name.now.value) in
    always c.declare.result
    (c.in_ok-own_variable.ensures.found
    ∙ (ap (λ m. noted c.args.k m c.args.name.now.token why) c.in_ok-value_there.ensures.found
    ∙ sym (seen_append c.args.k c.args.found.now before (own c.args.name.now.token why))))
