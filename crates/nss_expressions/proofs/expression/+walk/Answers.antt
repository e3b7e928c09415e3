use Rattle.std.proofs.Common.{[], None, Some, ◌∙◌, ◌+◌, false, arith, ap, refl}
use Rattle.std.specs.Option.{option_map}
use Rattle.std.proofs.lemmas.Result.{IfOk-from_err}
use Rattle.nss_tree.specs.Expressions as tree
use Rattle.nss_tree.specs.Reading.{plain_expr, plain_exprs}
use Rattle.nss_tree.specs.Readings.{plain_call, plain_float, plain_member, plain_name, plain_object_invalid, plain_object_self, plain_prefix, plain_postfix, plain_binary, plain_assign}
use Rattle.typing_rules.specs.Nodes.{asked, kept, two}
use Rattle.typing_rules.specs.Reading.{plain, plain_all}
use Rattle.typing_rules.specs.Rules.{call_rows, call_rule, member_rows, member_rule, name_rows, name_rule, prefix_rows, prefix_rule, postfix_rows, postfix_rule, binary_rows, binary_rule}
use Rattle.typing_rules.specs.Rules.{assign_rows, assign_rule}
use Rattle.typing_rules.specs.Sight.{callee, name_means, types_wanted, wanted}
use Rattle.typing_rules.specs.Verdicts.{all_faults, all_fine, faults, value, value_faults, verdict}
use Rattle.nss_expressions.specs.Views.{called_of, heads_in, sight_in}
use Rattle.nss_expressions.specs.ArgumentLaws.{begin_value, next_value, end_value}
use Rattle.nss_expressions.proofs.ArgumentLemmas.{next_least, end_least}
use Rattle.nss_expressions.specs.Nodes.{all_size, assign_is, binary_is, call_is, err_on, falls, member_is, next_falls, postfix_is, prefix_is, size}
use Rattle.nss_expressions.specs.Walked.{answered, one_value, one_least, two_value, two_least, call_least, node_value, node_least}
use Rattle.nss_expressions.proofs.expression.+walk.Goals as goal

-- ---- an expression that is known

pub expression-call-requires : goal.expression-call-requires
expression-call-requires t c = (
  falls _ (tree.call c.in-Call.token c.in-Call.name (plain_exprs c.deref.result.now)) t
      (all_size (plain_exprs c.deref.result.now) + 1)
      (call_is _ _ _ _ _ (plain_call _ _ _ _ c.in-Call.is) c.deref.ensures.value) c.decreases (omega arith),
  tt,
)

pub expression-returns-in-Call : goal.expression-returns-in-Call
expression-returns-in-Call t c =
    let hs = heads_in c.args.given.now in
    let s = sight_in c.args.given.now c.args.c.now in
    let b = c.args.as_action in
    let node = call_is _ _ _ _ _ (plain_call _ _ _ _ c.in-Call.is) c.deref.ensures.value in
    record {
      value = node_value plain (verdict hs s b) (faults hs s b) c.in-Call.token c.call.result _ _ node c.call.ensures.value;
      least = node_least plain (verdict hs s b) (faults hs s b) c.in-Call.token c.call.result _ _ node _ _ c.call.ensures.least;
    }

pub expression-member-requires : goal.expression-member-requires
expression-member-requires t c = (
  falls _ (tree.member c.in-Member.token (plain_expr c.deref-in-Member.result.now) c.in-Member.name) t
      (size (plain_expr c.deref-in-Member.result.now) + 1)
      (member_is _ _ _ _ _ (plain_member _ _ _ _ c.in-Member.is) c.deref-in-Member.ensures) c.decreases (omega arith),
  tt,
)

pub expression-returns-in-Member : goal.expression-returns-in-Member
expression-returns-in-Member t c =
    let hs = heads_in c.args.given.now in
    let s = sight_in c.args.given.now c.args.c.now in
    let b = c.args.as_action in
    let node = member_is _ _ _ _ _ (plain_member _ _ _ _ c.in-Member.is) c.deref-in-Member.ensures in
    record {
      value = node_value plain (verdict hs s b) (faults hs s b) c.in-Member.token c.member.result _ _ node c.member.ensures.value;
      least = node_least plain (verdict hs s b) (faults hs s b) c.in-Member.token c.member.result _ _ node _ _ c.member.ensures.least;
    }

pub expression-prefix-requires : goal.expression-prefix-requires
expression-prefix-requires t c = (
  falls _ (tree.prefix c.in-Prefix.token c.in-Prefix.operator (plain_expr c.deref-in-Prefix.result.now)) t
      (size (plain_expr c.deref-in-Prefix.result.now) + 1)
      (prefix_is _ _ _ _ _ (plain_prefix _ _ _ _ c.in-Prefix.is) c.deref-in-Prefix.ensures) c.decreases (omega arith),
  tt,
)

pub expression-returns-in-Prefix : goal.expression-returns-in-Prefix
expression-returns-in-Prefix t c =
    let hs = heads_in c.args.given.now in
    let s = sight_in c.args.given.now c.args.c.now in
    let b = c.args.as_action in
    let node = prefix_is _ _ _ _ _ (plain_prefix _ _ _ _ c.in-Prefix.is) c.deref-in-Prefix.ensures in
    record {
      value = node_value plain (verdict hs s b) (faults hs s b) c.in-Prefix.token c.prefix.result _ _ node c.prefix.ensures.value;
      least = node_least plain (verdict hs s b) (faults hs s b) c.in-Prefix.token c.prefix.result _ _ node _ _ c.prefix.ensures.least;
    }

pub expression-postfix-requires : goal.expression-postfix-requires
expression-postfix-requires t c = (
  falls _ (tree.postfix c.in-Postfix.token c.in-Postfix.operator (plain_expr c.deref-in-Postfix.result.now)) t
      (size (plain_expr c.deref-in-Postfix.result.now) + 1)
      (postfix_is _ _ _ _ _ (plain_postfix _ _ _ _ c.in-Postfix.is) c.deref-in-Postfix.ensures) c.decreases
      (omega arith),
  tt,
)

pub expression-returns-in-Postfix : goal.expression-returns-in-Postfix
expression-returns-in-Postfix t c =
    let hs = heads_in c.args.given.now in
    let s = sight_in c.args.given.now c.args.c.now in
    let b = c.args.as_action in
    let node = postfix_is _ _ _ _ _ (plain_postfix _ _ _ _ c.in-Postfix.is) c.deref-in-Postfix.ensures in
    record {
      value = node_value plain (verdict hs s b) (faults hs s b) c.in-Postfix.token c.postfix.result _ _ node c.postfix.ensures.value;
      least = node_least plain (verdict hs s b) (faults hs s b) c.in-Postfix.token c.postfix.result _ _ node _ _ c.postfix.ensures.least;
    }

pub expression-binary-requires : goal.expression-binary-requires
expression-binary-requires t c = (
  falls _ (tree.binary c.in-Binary.token c.in-Binary.operator (plain_expr c.deref-in-Binary.result.now)
      (plain_expr c.deref-in-Binary-2.result.now)) t
      (size (plain_expr c.deref-in-Binary.result.now) + size (plain_expr c.deref-in-Binary-2.result.now) + 1)
      (binary_is _ _ _ _ _ _ _ (plain_binary _ _ _ _ _ c.in-Binary.is) c.deref-in-Binary.ensures c.deref-in-Binary-2.ensures) c.decreases (omega arith),
  tt,
)

pub expression-returns-in-Binary : goal.expression-returns-in-Binary
expression-returns-in-Binary t c =
    let hs = heads_in c.args.given.now in
    let s = sight_in c.args.given.now c.args.c.now in
    let b = c.args.as_action in
    let node = binary_is _ _ _ _ _ _ _ (plain_binary _ _ _ _ _ c.in-Binary.is) c.deref-in-Binary.ensures c.deref-in-Binary-2.ensures in
    record {
      value = node_value plain (verdict hs s b) (faults hs s b) c.in-Binary.token c.binary.result _ _ node c.binary.ensures.value;
      least = node_least plain (verdict hs s b) (faults hs s b) c.in-Binary.token c.binary.result _ _ node _ _ c.binary.ensures.least;
    }

pub expression-assign-requires : goal.expression-assign-requires
expression-assign-requires t c = (
  falls _ (tree.assign c.in-Assign.token c.in-Assign.operator (plain_expr c.deref-in-Assign.result.now)
      (plain_expr c.deref-in-Assign-2.result.now)) t
      (size (plain_expr c.deref-in-Assign.result.now) + size (plain_expr c.deref-in-Assign-2.result.now) + 1)
      (assign_is _ _ _ _ _ _ _ (plain_assign _ _ _ _ _ c.in-Assign.is) c.deref-in-Assign.ensures c.deref-in-Assign-2.ensures) c.decreases (omega arith),
  tt,
)

pub expression-returns-in-Assign : goal.expression-returns-in-Assign
expression-returns-in-Assign t c =
    let hs = heads_in c.args.given.now in
    let s = sight_in c.args.given.now c.args.c.now in
    let b = c.args.as_action in
    let node = assign_is _ _ _ _ _ _ _ (plain_assign _ _ _ _ _ c.in-Assign.is) c.deref-in-Assign.ensures c.deref-in-Assign-2.ensures in
    record {
      value = node_value plain (verdict hs s b) (faults hs s b) c.in-Assign.token c.assign.result _ _ node c.assign.ensures.value;
      least = node_least plain (verdict hs s b) (faults hs s b) c.in-Assign.token c.assign.result _ _ node _ _ c.assign.ensures.least;
    }

-- ---- each kind of expression

pub call-returns : goal.call-returns
call-returns t c =
    let hs = heads_in c.args.given.now in
    let s = sight_in c.args.given.now c.args.c.now in
    let b = c.args.as_action in
    let es = plain_exprs c.args.es.now in
    let d = tree.call c.args.token c.args.name.now es in
    let named = c.callee-called.ensures.callee ∙ ap (callee hs c.args.given.now.table.now) c.bytes.ensures.same in
    let for_these = c.types_wanted.ensures.wanted ∙ ap types_wanted named in
    let xs = c.in_ok-xs.ensures.value ∙ ap (λ ps. all_fine hs s ps es) for_these in
    record {
      value =
          two_value plain (verdict hs s b) (faults hs s b) c.args.token c.judge_call.result d d refl
          (λ x y. asked (call_rows c.args.c.now.at_file b) (call_rule c.args.c.now.at_file b) (two x y))
          (option_map plain_all c.in_ok-xs.xs)
          (all_fine hs s (wanted hs c.args.given.now.table.now c.args.name.now) es)
          (option_map (option_map called_of) c.callee-called.result) (callee hs c.args.given.now.table.now c.args.name.now) xs named refl c.judge_call.ensures.value;
      least =
          call_least plain (verdict hs s b) (faults hs s b) c.args.token c.judge_call.result d d refl
          (λ x y. asked (call_rows c.args.c.now.at_file b) (call_rule c.args.c.now.at_file b) (two x y))
          (option_map plain_all c.in_ok-xs.xs)
          (all_fine hs s (wanted hs c.args.given.now.table.now c.args.name.now) es)
          (option_map (option_map called_of) c.callee-called.result)
          (callee hs c.args.given.now.table.now c.args.name.now) c.args.least.now c.arguments.new.least c.judge_call.new.least
          (all_faults hs s (wanted hs c.args.given.now.table.now c.args.name.now) es)
          xs named refl (c.in_ok-xs.ensures.least ∙ ap (λ ps. kept c.args.least.now (all_faults hs s ps es)) for_these) c.judge_call.ensures.least;
    }

pub member-returns : goal.member-returns
member-returns t c =
    let hs = heads_in c.args.given.now in
    let s = sight_in c.args.given.now c.args.c.now in
    let e = plain_expr c.args.of.now in
    let d = tree.member c.args.token e c.args.name.now in
    record {
      value = one_value plain (verdict hs s false) (faults hs s false) c.args.token c.judge_member.result d d refl
          (asked member_rows (member_rule c.args.c.now.structs c.args.name.now)) (option_map plain c.in_ok-of.of)
          (value hs s e) c.in_ok-of.ensures.value refl (rw c.bytes.ensures.same at c.judge_member.ensures.value);
      least =
          one_least plain (verdict hs s false) (faults hs s false) c.args.token c.judge_member.result d d refl
          (asked member_rows (member_rule c.args.c.now.structs c.args.name.now)) (option_map plain c.in_ok-of.of)
          (value hs s e) c.args.least.now c.expression.new.least c.judge_member.new.least (value_faults hs s e)
          c.in_ok-of.ensures.value refl c.in_ok-of.ensures.least (rw c.bytes.ensures.same at c.judge_member.ensures.least);
    }

pub prefix-returns : goal.prefix-returns
prefix-returns t c =
    let hs = heads_in c.args.given.now in
    let s = sight_in c.args.given.now c.args.c.now in
    let e = plain_expr c.args.of.now in
    let d = tree.prefix c.args.token c.args.operator e in
    record {
      value = one_value plain (verdict hs s false) (faults hs s false) c.args.token c.judge_prefix.result d d refl
          (asked (prefix_rows c.args.operator) (prefix_rule c.args.operator)) (option_map plain c.in_ok-of.of)
          (value hs s e) c.in_ok-of.ensures.value refl c.judge_prefix.ensures.value;
      least =
          one_least plain (verdict hs s false) (faults hs s false) c.args.token c.judge_prefix.result d d refl
          (asked (prefix_rows c.args.operator) (prefix_rule c.args.operator)) (option_map plain c.in_ok-of.of)
          (value hs s e) c.args.least.now c.expression.new.least c.judge_prefix.new.least (value_faults hs s e)
          c.in_ok-of.ensures.value refl c.in_ok-of.ensures.least c.judge_prefix.ensures.least;
    }

pub postfix-returns : goal.postfix-returns
postfix-returns t c =
    let hs = heads_in c.args.given.now in
    let s = sight_in c.args.given.now c.args.c.now in
    let e = plain_expr c.args.of.now in
    let d = tree.postfix c.args.token c.args.operator e in
    record {
      value = one_value plain (verdict hs s false) (faults hs s false) c.args.token c.judge_postfix.result d d refl
          (asked postfix_rows (postfix_rule c.args.operator)) (option_map plain c.in_ok-of.of)
          (value hs s e) c.in_ok-of.ensures.value refl c.judge_postfix.ensures.value;
      least =
          one_least plain (verdict hs s false) (faults hs s false) c.args.token c.judge_postfix.result d d refl
          (asked postfix_rows (postfix_rule c.args.operator)) (option_map plain c.in_ok-of.of)
          (value hs s e) c.args.least.now c.expression.new.least c.judge_postfix.new.least (value_faults hs s e)
          c.in_ok-of.ensures.value refl c.in_ok-of.ensures.least c.judge_postfix.ensures.least;
    }

pub binary-returns-in-Ok : goal.binary-returns-in-Ok
binary-returns-in-Ok t c =
    let hs = heads_in c.args.given.now in
    let s = sight_in c.args.given.now c.args.c.now in
    let a = plain_expr c.args.left.now in
    let b = plain_expr c.args.right.now in
    let d = tree.binary c.args.token c.args.operator a b in
    record {
      value =
          two_value plain (verdict hs s false) (faults hs s false) c.args.token c.judge_binary.result d d refl
          (λ x y. asked binary_rows (binary_rule c.args.operator) (two x y)) (option_map plain c.in_ok-left.left)
          (value hs s a) (option_map plain c.in-Ok.right) (value hs s b)
          c.in_ok-left.ensures.value c.in-Ok.ensures.value refl c.judge_binary.ensures.value;
      least =
          two_least plain (verdict hs s false) (faults hs s false) c.args.token c.judge_binary.result d d refl
          (λ x y. asked binary_rows (binary_rule c.args.operator) (two x y)) (option_map plain c.in_ok-left.left)
          (value hs s a) (option_map plain c.in-Ok.right) (value hs s b)
          c.args.least.now c.expression.new.least c.expression-2.new.least c.judge_binary.new.least (value_faults hs s a) (value_faults hs s b)
          c.in_ok-left.ensures.value c.in-Ok.ensures.value refl c.in_ok-left.ensures.least c.in-Ok.ensures.least c.judge_binary.ensures.least;
    }

pub assign-returns-in-Ok : goal.assign-returns-in-Ok
assign-returns-in-Ok t c =
    let hs = heads_in c.args.given.now in
    let s = sight_in c.args.given.now c.args.c.now in
    let a = plain_expr c.args.place.now in
    let b = plain_expr c.args.value.now in
    let d = tree.assign c.args.token c.args.operator a b in
    record {
      value =
          two_value plain (verdict hs s false) (faults hs s false) c.args.token c.judge_assign.result d d refl
          (λ x y. asked assign_rows (assign_rule c.args.operator) (two x y)) (option_map plain c.in_ok-place.place)
          (value hs s a) (option_map plain c.in-Ok.value) (value hs s b)
          c.in_ok-place.ensures.value c.in-Ok.ensures.value refl c.judge_assign.ensures.value;
      least =
          two_least plain (verdict hs s false) (faults hs s false) c.args.token c.judge_assign.result d d refl
          (λ x y. asked assign_rows (assign_rule c.args.operator) (two x y)) (option_map plain c.in_ok-place.place)
          (value hs s a) (option_map plain c.in-Ok.value) (value hs s b)
          c.args.least.now c.expression.new.least c.expression-2.new.least c.judge_assign.new.least (value_faults hs s a) (value_faults hs s b)
          c.in_ok-place.ensures.value c.in-Ok.ensures.value refl c.in_ok-place.ensures.least c.in-Ok.ensures.least c.judge_assign.ensures.least;
    }

-- ---- arguments

pub arguments-expression-requires : goal.arguments-expression-requires
arguments-expression-requires t c = (next_falls c.args.es.now c.loop-e.e-index c.e-item.result c.e-item.is c.loop-e-test.true t c.decreases, tt)

pub arguments-loop-e-init : goal.arguments-loop-e-init
arguments-loop-e-init t c =
    (begin_value c.new.result (all_fine (heads_in c.args.given.now) (sight_in c.args.given.now c.args.c.now) c.args.params.now (plain_exprs c.args.es.now)) c.new.ensures.empty, refl)

pub arguments-loop-e-preserved : goal.arguments-loop-e-preserved
arguments-loop-e-preserved t c = (
  next_value (heads_in c.args.given.now)
      (sight_in c.args.given.now c.args.c.now) c.args.es.now c.loop-e.e-index c.e-item.result c.loop-e.rest.now c.others-rest.result.now c.takes_action.result c.loop-e-test.true c.e-item.is
      c.takes_action.ensures.test c.others-rest.ensures.others (option_map plain_all c.loop-e.all) (option_map plain_all c.in_ok-all.all) (option_map plain c.in_ok-one.one) _
      c.in_ok-one.ensures.value c.in_ok-all.ensures c.loop-e.invariant.0,
  next_least (heads_in c.args.given.now)
      (sight_in c.args.given.now c.args.c.now) c.args.es.now c.loop-e.e-index c.e-item.result c.loop-e.rest.now c.others-rest.result.now c.takes_action.result c.loop-e-test.true c.e-item.is
      c.takes_action.ensures.test c.others-rest.ensures.others c.loop-e.least c.expression.new.least _ c.in_ok-one.ensures.least c.loop-e.invariant.1,
)

pub arguments-returns-clause-value : goal.arguments-returns-clause-value
arguments-returns-clause-value t c =
    end_value (heads_in c.args.given.now)
    (sight_in c.args.given.now c.args.c.now) c.args.es.now c.loop-e.e-index c.loop-e.rest.now
    (option_map plain_all c.loop-e.all) _ (omega (arith, c.loop-e-test.false)) c.loop-e.invariant.0

pub arguments-returns-clause-least : goal.arguments-returns-clause-least
arguments-returns-clause-least t c =
    end_least (heads_in c.args.given.now)
    (sight_in c.args.given.now c.args.c.now) c.args.es.now c.loop-e.e-index c.loop-e.rest.now c.loop-e.least _
    (omega (arith, c.loop-e-test.false)) c.loop-e.invariant.1

-- ---- from a part to its own part

pub call-arguments-requires : goal.call-arguments-requires
call-arguments-requires t c = (omega (arith, c.decreases), tt)

pub member-expression-requires : goal.member-expression-requires
member-expression-requires t c = (omega (arith, c.decreases), tt)

pub prefix-expression-requires : goal.prefix-expression-requires
prefix-expression-requires t c = (omega (arith, c.decreases), tt)

pub postfix-expression-requires : goal.postfix-expression-requires
postfix-expression-requires t c = (omega (arith, c.decreases), tt)

pub binary-expression-requires : goal.binary-expression-requires
binary-expression-requires t c = (omega (arith, c.decreases), tt)

pub binary-expression-requires-2 : goal.binary-expression-requires-2
binary-expression-requires-2 t c = (omega (arith, c.decreases), tt)

pub assign-expression-requires : goal.assign-expression-requires
assign-expression-requires t c = (omega (arith, c.decreases), tt)

pub assign-expression-requires-2 : goal.assign-expression-requires-2
assign-expression-requires-2 t c = (omega (arith, c.decreases), tt)

-- ---- where memory is short

pub call-returns-in_err-xs : goal.call-returns-in_err-xs
call-returns-in_err-xs t c =
    let r = c.from_residual.result in
    let h = c.from_residual.ensures.0 in
    record { value = IfOk-from_err r _ h; least = err_on r _ h }

pub member-returns-in_err-of : goal.member-returns-in_err-of
member-returns-in_err-of t c =
    let r = c.from_residual.result in
    let h = c.from_residual.ensures.0 in
    record { value = IfOk-from_err r _ h; least = err_on r _ h }

pub prefix-returns-in_err-of : goal.prefix-returns-in_err-of
prefix-returns-in_err-of t c =
    let r = c.from_residual.result in
    let h = c.from_residual.ensures.0 in
    record { value = IfOk-from_err r _ h; least = err_on r _ h }

pub postfix-returns-in_err-of : goal.postfix-returns-in_err-of
postfix-returns-in_err-of t c =
    let r = c.from_residual.result in
    let h = c.from_residual.ensures.0 in
    record { value = IfOk-from_err r _ h; least = err_on r _ h }

pub binary-returns-in_err-left : goal.binary-returns-in_err-left
binary-returns-in_err-left t c =
    let r = c.from_residual.result in
    let h = c.from_residual.ensures.0 in
    record { value = IfOk-from_err r _ h; least = err_on r _ h }

pub assign-returns-in_err-place : goal.assign-returns-in_err-place
assign-returns-in_err-place t c =
    let r = c.from_residual.result in
    let h = c.from_residual.ensures.0 in
    record { value = IfOk-from_err r _ h; least = err_on r _ h }

pub arguments-returns-in_err-one : goal.arguments-returns-in_err-one
arguments-returns-in_err-one t c =
    let r = c.from_residual.result in
    let h = c.from_residual.ensures.0 in
    record { value = IfOk-from_err r _ h; least = err_on r _ h }

pub arguments-returns-in_err-all : goal.arguments-returns-in_err-all
arguments-returns-in_err-all t c =
    let r = c.from_residual-in_err-all.result in
    let h = c.from_residual-in_err-all.ensures.0 in
    record { value = IfOk-from_err r _ h; least = err_on r _ h }

pub binary-returns-in-Err : goal.binary-returns-in-Err
binary-returns-in-Err t c = record { value = tt; least = tt }

pub assign-returns-in-Err : goal.assign-returns-in-Err
assign-returns-in-Err t c = record { value = tt; least = tt }

-- ---- an expression without parts

pub expression-returns-in-ObjectSelf : goal.expression-returns-in-ObjectSelf
expression-returns-in-ObjectSelf t c =
    let hs = heads_in c.args.given.now in
    let s = sight_in c.args.given.now c.args.c.now in
    let b = c.args.as_action in
    let node = plain_object_self _ _ c.in-ObjectSelf.is in
    let r = answered (Some c.literal-in-ObjectSelf.result) in
    record {
      value = node_value plain (verdict hs s b) (faults hs s b) 0 r _ _ node (ap Some c.literal-in-ObjectSelf.ensures.made);
      least = node_least plain (verdict hs s b) (faults hs s b) 0 r _ _ node c.args.least.now c.args.least.now refl;
    }

pub expression-returns-in-ObjectInvalid : goal.expression-returns-in-ObjectInvalid
expression-returns-in-ObjectInvalid t c =
    let hs = heads_in c.args.given.now in
    let s = sight_in c.args.given.now c.args.c.now in
    let b = c.args.as_action in
    let node = plain_object_invalid _ _ c.in-ObjectInvalid.is in
    let r = answered (Some c.literal-in-ObjectInvalid.result) in
    record {
      value = node_value plain (verdict hs s b) (faults hs s b) 0 r _ _ node (ap Some c.literal-in-ObjectInvalid.ensures.made);
      least = node_least plain (verdict hs s b) (faults hs s b) 0 r _ _ node c.args.least.now c.args.least.now refl;
    }

pub expression-returns-in-Float : goal.expression-returns-in-Float
expression-returns-in-Float t c =
    let hs = heads_in c.args.given.now in
    let s = sight_in c.args.given.now c.args.c.now in
    let b = c.args.as_action in
    let node = plain_float _ _ c.in-Float.is in
    let r = answered None in
    record {
      value = node_value plain (verdict hs s b) (faults hs s b) 0 r _ _ node refl;
      least = node_least plain (verdict hs s b) (faults hs s b) 0 r _ _ node c.args.least.now c.note.new.least c.note.ensures.kept;
    }

pub expression-returns-in-Name : goal.expression-returns-in-Name
expression-returns-in-Name t c =
    let hs = heads_in c.args.given.now in
    let s = sight_in c.args.given.now c.args.c.now in
    let b = c.args.as_action in
    let node = plain_name _ _ _ c.in-Name.is in
    let is = c.name_means-means.ensures.meaning ∙ ap (name_means s) c.bytes.ensures.same in
    let r = c.judge_name.result in
    record {
      value = one_value plain (verdict hs s b) (faults hs s b) c.in-Name.token r _ _ node (asked name_rows (name_rule s.at_file)) _ _ is refl c.judge_name.ensures.value;
      least = one_least plain (verdict hs s b) (faults hs s b) c.in-Name.token r _ _ node
          (asked name_rows (name_rule s.at_file)) _ _ c.args.least.now c.args.least.now c.judge_name.new.least [] is refl refl c.judge_name.ensures.least;
    }
