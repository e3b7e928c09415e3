use Rattle.std.proofs.Common.{◌≡◌, ◌∙◌, ◌==◌, true, if◌then◌else◌, sym, ap, rules}
use Rattle.std.specs.Option.{option_map}
use Rattle.nss_tree.specs.Reading.{plain_exprs}
use Rattle.typing_rules.specs.Nodes.{two}
use Rattle.typing_rules.specs.Sight.{callee, types_wanted, wanted}
use Rattle.typing_rules.specs.Verdicts.{all_fine}
use Rattle.nss_expressions.specs.Views.{called_of, heads_in, sight_in}
use Rattle.expression_reasons.specs.Reasons.{call_node}
use Rattle.expression_reasons.specs.Seen.{first_of}
use Rattle.expression_reasons.specs.Why.{call_why}
use Rattle.expression_reasons.proofs.expression.own_call.Goals as goal

pub returns : goal.returns
returns c =
    let hs = heads_in c.args.given.now in
    let s = sight_in c.args.given.now c.args.c.now in
    let table = c.args.given.now.table.now in
    let f = c.args.name.now in
    let es = plain_exprs c.args.es.now in
    let a = c.args.c.now.at_file in
    let b = c.args.as_action in
    let here : (c.args.token == c.args.k) ≡ true = search rules in
    let named = c.callee-called.ensures.callee ∙ ap (callee hs table) c.bytes.ensures.same in
    let for_these = c.types_wanted.ensures.wanted ∙ ap types_wanted named in
    let xs = c.in_ok-xs.ensures.value ∙ ap (λ ps. all_fine hs s ps es) for_these in
    let why = c.in_ok-why.ensures.why
    ∙ (ap (λ x. call_why a b (two x (option_map (option_map called_of) c.callee-called.result))) xs
    ∙ ap (λ d. call_why a b (two (all_fine hs s (wanted hs table f) es) d)) named) in
    record {
      found = c.note.ensures.found
          ∙ (ap (first_of c.args.found.now) why
          ∙ sym (ap (λ t. if t then first_of c.args.found.now (call_node hs s b f es) else c.args.found.now) here));
    }
