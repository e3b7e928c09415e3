use Rattle.std.proofs.Common.{[], None, Some, ◌∙◌, ◌+◌, false, arith, ap, refl}
use Rattle.nss_tree.specs.Expressions as tree
use Rattle.nss_tree.specs.Reading.{plain_expr, plain_exprs}
use Rattle.nss_tree.specs.Readings.{plain_call, plain_float, plain_member, plain_name, plain_object_invalid, plain_object_self, plain_prefix, plain_postfix, plain_binary, plain_assign}
use Rattle.typing_rules.specs.Sight.{callee, types_wanted, wanted}
use Rattle.nss_expressions.specs.Views.{heads_in, sight_in}
use Rattle.expression_reasons.specs.Reasons.{all_nodes, nodes}
use Rattle.expression_reasons.specs.Seen.{own, seen}
use Rattle.nss_expressions.specs.Nodes.{all_size, assign_is, binary_is, call_is, err_on, falls, member_is, next_falls, postfix_is, prefix_is, size}
use Rattle.expression_reasons.proofs.ArgumentRows.{argument_laws}
use Rattle.expression_reasons.specs.Rows.{row_found, row_end_found}
use Rattle.expression_reasons.specs.Walked.{node_found, none_found, one_found, two_found}
use Rattle.expression_reasons.proofs.expression.+walk.Goals as goal

pub expression-call-requires : goal.expression-call-requires
expression-call-requires t c = (
  falls _ (tree.call c.in-Call.token c.in-Call.name (plain_exprs c.deref.result.now)) t
      (all_size (plain_exprs c.deref.result.now) + 1)
      (call_is _ _ _ _ _ (plain_call _ _ _ _ c.in-Call.is) c.deref.ensures.value) c.decreases (omega arith),
  tt,
)

pub expression-returns-in-Call : goal.expression-returns-in-Call
expression-returns-in-Call t c =
    let hs = heads_in c.args.given.now in
    let s = sight_in c.args.given.now c.args.c.now in
    let b = c.args.as_action in
    let node = call_is _ _ _ _ _ (plain_call _ _ _ _ c.in-Call.is) c.deref.ensures.value in
    record { found = node_found c.call.result (nodes hs s b) c.args.k _ _ node _ _ c.call.ensures.found }

pub expression-member-requires : goal.expression-member-requires
expression-member-requires t c = (
  falls _ (tree.member c.in-Member.token (plain_expr c.deref-in-Member.result.now) c.in-Member.name) t
      (size (plain_expr c.deref-in-Member.result.now) + 1)
      (member_is _ _ _ _ _ (plain_member _ _ _ _ c.in-Member.is) c.deref-in-Member.ensures) c.decreases (omega arith),
  tt,
)

pub expression-returns-in-Member : goal.expression-returns-in-Member
expression-returns-in-Member t c =
    let hs = heads_in c.args.given.now in
    let s = sight_in c.args.given.now c.args.c.now in
    let b = c.args.as_action in
    let node = member_is _ _ _ _ _ (plain_member _ _ _ _ c.in-Member.is) c.deref-in-Member.ensures in
    record { found = node_found c.member.result (nodes hs s b) c.args.k _ _ node _ _ c.member.ensures.found }

pub expression-prefix-requires : goal.expression-prefix-requires
expression-prefix-requires t c = (
  falls _ (tree.prefix c.in-Prefix.token c.in-Prefix.operator (plain_expr c.deref-in-Prefix.result.now)) t
      (size (plain_expr c.deref-in-Prefix.result.now) + 1)
      (prefix_is _ _ _ _ _ (plain_prefix _ _ _ _ c.in-Prefix.is) c.deref-in-Prefix.ensures) c.decreases (omega arith),
  tt,
)

pub expression-returns-in-Prefix : goal.expression-returns-in-Prefix
expression-returns-in-Prefix t c =
    let hs = heads_in c.args.given.now in
    let s = sight_in c.args.given.now c.args.c.now in
    let b = c.args.as_action in
    let node = prefix_is _ _ _ _ _ (plain_prefix _ _ _ _ c.in-Prefix.is) c.deref-in-Prefix.ensures in
    record { found = node_found c.prefix.result (nodes hs s b) c.args.k _ _ node _ _ c.prefix.ensures.found }

pub expression-postfix-requires : goal.expression-postfix-requires
expression-postfix-requires t c = (
  falls _ (tree.postfix c.in-Postfix.token c.in-Postfix.operator (plain_expr c.deref-in-Postfix.result.now)) t
      (size (plain_expr c.deref-in-Postfix.result.now) + 1)
      (postfix_is _ _ _ _ _ (plain_postfix _ _ _ _ c.in-Postfix.is) c.deref-in-Postfix.ensures) c.decreases
      (omega arith),
  tt,
)

pub expression-returns-in-Postfix : goal.expression-returns-in-Postfix
expression-returns-in-Postfix t c =
    let hs = heads_in c.args.given.now in
    let s = sight_in c.args.given.now c.args.c.now in
    let b = c.args.as_action in
    let node = postfix_is _ _ _ _ _ (plain_postfix _ _ _ _ c.in-Postfix.is) c.deref-in-Postfix.ensures in
    record { found = node_found c.postfix.result (nodes hs s b) c.args.k _ _ node _ _ c.postfix.ensures.found }

pub expression-binary-requires : goal.expression-binary-requires
expression-binary-requires t c = (
  falls _ (tree.binary c.in-Binary.token c.in-Binary.operator (plain_expr c.deref-in-Binary.result.now)
      (plain_expr c.deref-in-Binary-2.result.now)) t
      (size (plain_expr c.deref-in-Binary.result.now) + size (plain_expr c.deref-in-Binary-2.result.now) + 1)
      (binary_is _ _ _ _ _ _ _ (plain_binary _ _ _ _ _ c.in-Binary.is) c.deref-in-Binary.ensures c.deref-in-Binary-2.ensures) c.decreases (omega arith),
  tt,
)

pub expression-returns-in-Binary : goal.expression-returns-in-Binary
expression-returns-in-Binary t c =
    let hs = heads_in c.args.given.now in
    let s = sight_in c.args.given.now c.args.c.now in
    let b = c.args.as_action in
    let node = binary_is _ _ _ _ _ _ _ (plain_binary _ _ _ _ _ c.in-Binary.is) c.deref-in-Binary.ensures c.deref-in-Binary-2.ensures in
    record { found = node_found c.binary.result (nodes hs s b) c.args.k _ _ node _ _ c.binary.ensures.found }

pub expression-assign-requires : goal.expression-assign-requires
expression-assign-requires t c = (
  falls _ (tree.assign c.in-Assign.token c.in-Assign.operator (plain_expr c.deref-in-Assign.result.now)
      (plain_expr c.deref-in-Assign-2.result.now)) t
      (size (plain_expr c.deref-in-Assign.result.now) + size (plain_expr c.deref-in-Assign-2.result.now) + 1)
      (assign_is _ _ _ _ _ _ _ (plain_assign _ _ _ _ _ c.in-Assign.is) c.deref-in-Assign.ensures c.deref-in-Assign-2.ensures) c.decreases (omega arith),
  tt,
)

pub expression-returns-in-Assign : goal.expression-returns-in-Assign
expression-returns-in-Assign t c =
    let hs = heads_in c.args.given.now in
    let s = sight_in c.args.given.now c.args.c.now in
    let b = c.args.as_action in
    let node = assign_is _ _ _ _ _ _ _ (plain_assign _ _ _ _ _ c.in-Assign.is) c.deref-in-Assign.ensures c.deref-in-Assign-2.ensures in
    record { found = node_found c.assign.result (nodes hs s b) c.args.k _ _ node _ _ c.assign.ensures.found }

pub arguments-expression-requires : goal.arguments-expression-requires
arguments-expression-requires t c = (next_falls c.args.es.now c.loop-e.e-index c.e-item.result c.e-item.is c.loop-e-test.true t c.decreases, tt)

pub call-arguments-requires : goal.call-arguments-requires
call-arguments-requires t c = (omega (arith, c.decreases), tt)

pub member-expression-requires : goal.member-expression-requires
member-expression-requires t c = (omega (arith, c.decreases), tt)

pub prefix-expression-requires : goal.prefix-expression-requires
prefix-expression-requires t c = (omega (arith, c.decreases), tt)

pub postfix-expression-requires : goal.postfix-expression-requires
postfix-expression-requires t c = (omega (arith, c.decreases), tt)

pub binary-expression-requires : goal.binary-expression-requires
binary-expression-requires t c = (omega (arith, c.decreases), tt)

pub binary-expression-requires-2 : goal.binary-expression-requires-2
binary-expression-requires-2 t c = (omega (arith, c.decreases), tt)

pub assign-expression-requires : goal.assign-expression-requires
assign-expression-requires t c = (omega (arith, c.decreases), tt)

pub assign-expression-requires-2 : goal.assign-expression-requires-2
assign-expression-requires-2 t c = (omega (arith, c.decreases), tt)

pub expression-returns-in-ObjectSelf : goal.expression-returns-in-ObjectSelf
expression-returns-in-ObjectSelf t c =
    let hs = heads_in c.args.given.now in
    let s = sight_in c.args.given.now c.args.c.now in
    record { found = none_found (nodes hs s c.args.as_action) c.args.k _ _ (plain_object_self _ _ c.in-ObjectSelf.is) c.args.found.now refl }

pub expression-returns-in-ObjectInvalid : goal.expression-returns-in-ObjectInvalid
expression-returns-in-ObjectInvalid t c =
    let hs = heads_in c.args.given.now in
    let s = sight_in c.args.given.now c.args.c.now in
    record { found = none_found (nodes hs s c.args.as_action) c.args.k _ _ (plain_object_invalid _ _ c.in-ObjectInvalid.is) c.args.found.now refl }

pub expression-returns-in-Float : goal.expression-returns-in-Float
expression-returns-in-Float t c =
    let hs = heads_in c.args.given.now in
    let s = sight_in c.args.given.now c.args.c.now in
    record { found = none_found (nodes hs s c.args.as_action) c.args.k _ _ (plain_float _ _ c.in-Float.is) c.args.found.now refl }

pub expression-returns-in-Name : goal.expression-returns-in-Name
expression-returns-in-Name t c =
    let hs = heads_in c.args.given.now in
    let s = sight_in c.args.given.now c.args.c.now in
    record { found = none_found (nodes hs s c.args.as_action) c.args.k _ _ (plain_name _ _ _ c.in-Name.is) c.args.found.now refl }

-- ---- each kind of expression

pub member-returns : goal.member-returns
member-returns t c =
    let hs = heads_in c.args.given.now in
    let s = sight_in c.args.given.now c.args.c.now in
    record { found = one_found c.own_member.result c.args.k c.args.found.now c.expression.new.found c.own_member.new.found (nodes hs s false (plain_expr c.args.of.now)) (own c.args.token _) c.in_ok-expression.ensures.found c.own_member.ensures.found }

pub prefix-returns : goal.prefix-returns
prefix-returns t c =
    let hs = heads_in c.args.given.now in
    let s = sight_in c.args.given.now c.args.c.now in
    record { found = one_found c.own_prefix.result c.args.k c.args.found.now c.expression.new.found c.own_prefix.new.found (nodes hs s false (plain_expr c.args.of.now)) (own c.args.token _) c.in_ok-expression.ensures.found c.own_prefix.ensures.found }

pub postfix-returns : goal.postfix-returns
postfix-returns t c =
    let hs = heads_in c.args.given.now in
    let s = sight_in c.args.given.now c.args.c.now in
    record { found = one_found c.own_postfix.result c.args.k c.args.found.now c.expression.new.found c.own_postfix.new.found (nodes hs s false (plain_expr c.args.of.now)) (own c.args.token _) c.in_ok-expression.ensures.found c.own_postfix.ensures.found }

pub binary-returns : goal.binary-returns
binary-returns t c =
    let hs = heads_in c.args.given.now in
    let s = sight_in c.args.given.now c.args.c.now in
    record {
      found = two_found c.own_binary.result c.args.k c.args.found.now c.expression.new.found c.expression-2.new.found c.own_binary.new.found
          (nodes hs s false (plain_expr c.args.left.now)) (nodes hs s false (plain_expr c.args.right.now)) (own c.args.token _)
          c.in_ok-expression.ensures.found c.in_ok-expression-2.ensures.found c.own_binary.ensures.found;
    }

pub assign-returns : goal.assign-returns
assign-returns t c =
    let hs = heads_in c.args.given.now in
    let s = sight_in c.args.given.now c.args.c.now in
    record {
      found = two_found c.own_assign.result c.args.k c.args.found.now c.expression.new.found c.expression-2.new.found c.own_assign.new.found
          (nodes hs s false (plain_expr c.args.place.now)) (nodes hs s false (plain_expr c.args.value.now)) (own c.args.token _)
          c.in_ok-expression.ensures.found c.in_ok-expression-2.ensures.found c.own_assign.ensures.found;
    }

pub call-returns : goal.call-returns
call-returns t c =
    let hs = heads_in c.args.given.now in
    let s = sight_in c.args.given.now c.args.c.now in
    let es = plain_exprs c.args.es.now in
    let named = c.callee-called.ensures.callee ∙ ap (callee hs c.args.given.now.table.now) c.bytes.ensures.same in
    let for_these = c.types_wanted.ensures.wanted ∙ ap types_wanted named in
    record {
      found = one_found c.own_call.result c.args.k c.args.found.now c.arguments.new.found c.own_call.new.found
          (all_nodes hs s (wanted hs c.args.given.now.table.now c.args.name.now) es) (own c.args.token _)
          (c.in_ok-arguments.ensures.found ∙ ap (λ ps. seen c.args.k c.args.found.now (all_nodes hs s ps es)) for_these) c.own_call.ensures.found;
    }

-- ---- arguments

pub arguments-loop-e-init : goal.arguments-loop-e-init
arguments-loop-e-init t c = refl

pub arguments-loop-e-preserved : goal.arguments-loop-e-preserved
arguments-loop-e-preserved t c =
    let hs = heads_in c.args.given.now in
    let s = sight_in c.args.given.now c.args.c.now in
    row_found (argument_laws hs s) c.args.es.now c.loop-e.e-index _ c.e-item.result c.loop-e-test.true c.e-item.is c.loop-e.rest.now c.others-rest.result.now c.others-rest.ensures.others
    c.args.k c.loop-e.found c.expression.new.found _
    (c.in_ok-expression.ensures.found ∙ ap (λ b. seen c.args.k c.loop-e.found (nodes hs s b (plain_expr c.e-item.result))) c.takes_action.ensures.test) c.loop-e.invariant

pub arguments-returns : goal.arguments-returns
arguments-returns t c =
    record {
      found = row_end_found (argument_laws (heads_in c.args.given.now)
          (sight_in c.args.given.now c.args.c.now)) c.args.es.now c.loop-e.e-index (omega (arith, c.loop-e-test.false)) c.loop-e.rest.now c.args.k c.loop-e.found _ c.loop-e.invariant;
    }

-- ---- where memory is short

pub call-returns-in_err-arguments : goal.call-returns-in_err-arguments
call-returns-in_err-arguments t c = record { found = err_on c.from_residual.result _ c.from_residual.ensures.0 }

pub member-returns-in_err-expression : goal.member-returns-in_err-expression
member-returns-in_err-expression t c = record { found = err_on c.from_residual.result _ c.from_residual.ensures.0 }

pub prefix-returns-in_err-expression : goal.prefix-returns-in_err-expression
prefix-returns-in_err-expression t c = record { found = err_on c.from_residual.result _ c.from_residual.ensures.0 }

pub postfix-returns-in_err-expression : goal.postfix-returns-in_err-expression
postfix-returns-in_err-expression t c = record { found = err_on c.from_residual.result _ c.from_residual.ensures.0 }

pub binary-returns-in_err-expression : goal.binary-returns-in_err-expression
binary-returns-in_err-expression t c = record { found = err_on c.from_residual.result _ c.from_residual.ensures.0 }

pub binary-returns-in_err-expression-2 : goal.binary-returns-in_err-expression-2
binary-returns-in_err-expression-2 t c = record { found = err_on c.from_residual-in_err-expression-2.result _ c.from_residual-in_err-expression-2.ensures.0 }

pub assign-returns-in_err-expression : goal.assign-returns-in_err-expression
assign-returns-in_err-expression t c = record { found = err_on c.from_residual.result _ c.from_residual.ensures.0 }

pub assign-returns-in_err-expression-2 : goal.assign-returns-in_err-expression-2
assign-returns-in_err-expression-2 t c = record { found = err_on c.from_residual-in_err-expression-2.result _ c.from_residual-in_err-expression-2.ensures.0 }

pub arguments-returns-in_err-expression : goal.arguments-returns-in_err-expression
arguments-returns-in_err-expression t c = record { found = err_on c.from_residual.result _ c.from_residual.ensures.0 }
