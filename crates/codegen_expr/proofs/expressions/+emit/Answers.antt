use Rattle.std.proofs.Common.{◌≡◌, ◌∙◌, ◌+◌, ap, sym, refl, arith, length}
use Rattle.typing_rules.specs.Reading.{plain, plain_all}
use Rattle.typing_rules.specs.Readings.{plain_assign, plain_binary, plain_call, plain_literal, plain_member, plain_name, plain_postfix, plain_prefix}
use Rattle.typing_rules.specs.Typed.{type_of}
use Rattle.typing_rules.specs.Types.{is_void}
use Rattle.ncs_emit.specs.Labelled.{LabelledCode}
use Rattle.typing_rules.specs.Cells.{cells}
use Rattle.emission_rules.specs.Bounds.{weight, all_weight}
use Rattle.emission_rules.specs.Expressions as code
use Rattle.codegen_expr.specs.Parts.{plain_home, plain_shortcut}
use Rattle.codegen_expr.proofs.Nodes.{and_code, arguments_step, assign_code, call_code, captured_code, extended_none, known_code, known_lines, member_read_code, or_code}
use Rattle.codegen_expr.proofs.Ready.{argument_falls, argument_ready, assign_is_of, assign_parts, at_labels, binary_is_of, binary_parts, call_is_of, call_parts, called_ready, captured_ready}
use Rattle.codegen_expr.proofs.Ready.{counted, falls_arguments, falls_both, falls_first, falls_one, falls_second, member_is_of, member_parts, name_type, next_left, none_left, plain_ready}
use Rattle.codegen_expr.proofs.Ready.{postfix_is_of, postfix_parts, prefix_is_of, prefix_parts, ready_few, ready_fits, ready_near, same_ready, short_first, short_second, small_depth}
use Rattle.codegen_expr.proofs.expressions.+emit.Goals as goal

-- ---- from an expression to its node

pub expression-call-requires : goal.expression-call-requires
expression-call-requires t c = call_parts _ _ _ t _ _ _ _ _ _ _ (plain_call _ _ _ _ _ c.in-Call.is) c.as_slice.ensures.value c.as_slice-in-Call.ensures.items c.decreases c.requires.ready

pub expression-member-requires : goal.expression-member-requires
expression-member-requires t c = member_parts _ _ _ t _ _ _ _ _ (plain_member _ _ _ _ c.in-Member.is) c.deref.ensures c.decreases c.requires.ready

pub expression-prefix-requires : goal.expression-prefix-requires
expression-prefix-requires t c = prefix_parts _ _ _ t _ _ _ _ _ (plain_prefix _ _ _ _ c.in-Prefix.is) c.deref-in-Prefix.ensures c.decreases c.requires.ready

pub expression-postfix-requires : goal.expression-postfix-requires
expression-postfix-requires t c = postfix_parts _ _ _ t _ _ _ _ _ (plain_postfix _ _ _ _ c.in-Postfix.is) c.deref-in-Postfix.ensures c.decreases c.requires.ready

pub expression-binary-requires : goal.expression-binary-requires
expression-binary-requires t c =
    binary_parts _ _ _ t _ _ _ _ _ (binary_is_of _ _ _ _ _ _ _ (plain_binary _ _ _ _ _ c.in-Binary.is) c.deref-in-Binary.ensures c.deref-in-Binary-2.ensures) c.decreases c.requires.ready

pub expression-assign-requires : goal.expression-assign-requires
expression-assign-requires t c =
    assign_parts _ _ _ t _ _ _ _ _ (assign_is_of _ _ _ _ _ _ _ (plain_assign _ _ _ _ _ c.in-Assign.is) c.deref-in-Assign.ensures c.deref-in-Assign-2.ensures) c.decreases c.requires.ready

pub expression-emit_name-requires-clause-deep : goal.expression-emit_name-requires-clause-deep
expression-emit_name-requires-clause-deep t c = small_depth _ _ _ _ c.requires.ready

pub expression-emit_name-requires-clause-globals : goal.expression-emit_name-requires-clause-globals
expression-emit_name-requires-clause-globals t c = c.requires.ready.globals

pub expression-emit_name-requires-clause-is_type : goal.expression-emit_name-requires-clause-is_type
expression-emit_name-requires-clause-is_type t c = name_type (same_ready _ _ _ _ _ (plain_name _ _ _ c.in-Name.is) c.requires.ready)

pub expression-returns-in-Literal : goal.expression-returns-in-Literal
expression-returns-in-Literal t c = known_lines _ _ _ _ _ _ _ _ (plain_literal _ _ c.in-Literal.is) refl refl c.emit_constant.ensures.ok

pub expression-returns-in-Name : goal.expression-returns-in-Name
expression-returns-in-Name t c = known_lines _ _ _ _ _ _ _ _ (plain_name _ _ _ c.in-Name.is) refl refl c.emit_name.ensures

pub expression-returns-in-Call : goal.expression-returns-in-Call
expression-returns-in-Call t c = known_code _ _ _ _ _ _ _ _ _
    (call_is_of _ _ _ _ _ _ _
    (plain_call _ _ _ _ _ c.in-Call.is) c.as_slice.ensures.value c.as_slice-in-Call.ensures.items) refl refl c.call.ensures

pub expression-returns-in-Member : goal.expression-returns-in-Member
expression-returns-in-Member t c = known_code _ _ _ _ _ _ _ _ _ (member_is_of _ _ _ _ _ (plain_member _ _ _ _ c.in-Member.is) c.deref.ensures) refl refl c.member.ensures

pub expression-returns-in-Prefix : goal.expression-returns-in-Prefix
expression-returns-in-Prefix t c = known_code _ _ _ _ _ _ _ _ _ (prefix_is_of _ _ _ _ _ (plain_prefix _ _ _ _ c.in-Prefix.is) c.deref-in-Prefix.ensures) refl refl c.prefix.ensures

pub expression-returns-in-Postfix : goal.expression-returns-in-Postfix
expression-returns-in-Postfix t c = known_code _ _ _ _ _ _ _ _ _ (postfix_is_of _ _ _ _ _ (plain_postfix _ _ _ _ c.in-Postfix.is) c.deref-in-Postfix.ensures) refl refl c.postfix.ensures

pub expression-returns-in-Binary : goal.expression-returns-in-Binary
expression-returns-in-Binary t c =
    known_code _ _ _ _ _ _ _ _ _ (binary_is_of _ _ _ _ _ _ _ (plain_binary _ _ _ _ _ c.in-Binary.is) c.deref-in-Binary.ensures c.deref-in-Binary-2.ensures) refl refl c.binary.ensures

pub expression-returns-in-Assign : goal.expression-returns-in-Assign
expression-returns-in-Assign t c =
    known_code _ _ _ _ _ _ _ _ _ (assign_is_of _ _ _ _ _ _ _ (plain_assign _ _ _ _ _ c.in-Assign.is) c.deref-in-Assign.ensures c.deref-in-Assign-2.ensures) refl refl c.assign.ensures

-- ---- nodes with one part

pub member-expression-requires : goal.member-expression-requires
member-expression-requires t c = (falls_one (weight (plain c.args.of.now)) t c.decreases, c.requires.ready)

pub member-member_home-requires : goal.member-member_home-requires
member-member_home-requires t c = record { near = ready_near c.requires.ready }

pub prefix-home_of-home-requires : goal.prefix-home_of-home-requires
prefix-home_of-home-requires t c = record { near = ready_near c.requires.ready }

pub postfix-home_of-home-requires : goal.postfix-home_of-home-requires
postfix-home_of-home-requires t c = record { near = ready_near c.requires.ready }

pub member-returns-in-Some : goal.member-returns-in-Some
member-returns-in-Some t c =
    member_read_code _ _ _ c.args.layout.now c.args.depth _ c.args.before (cells c.args.layout.now.structs c.args.ty) (plain c.args.of.now) _ _ (plain_home c.in-Some.home) c.in-Some.ensures.home
    (c.read.ensures.op ∙ ap (λ n. code.read c.args.layout.now c.args.depth n (plain_home c.in-Some.home)) c.cells-count.ensures.cells) c.op.ensures.ok

pub prefix-expression-requires : goal.prefix-expression-requires
prefix-expression-requires t c = (falls_one (weight (plain c.args.of.now)) t c.decreases, rw c.in_ok-step_before.ensures c.requires.ready)

pub postfix-expression-requires : goal.postfix-expression-requires
postfix-expression-requires t c = (falls_one (weight (plain c.args.of.now)) t c.decreases, c.requires.ready)

pub assign-expression-requires : goal.assign-expression-requires
assign-expression-requires t c =
    (falls_one (weight (plain c.args.value.now)) t c.decreases, simp (c.in_ok-first.ensures.lines, c.in_ok-first.ensures.cells, c.cells-count.ensures.cells) c.requires.ready)

-- ---- nodes with two parts

pub binary-or_else-requires : goal.binary-or_else-requires
binary-or_else-requires t c =
    let is : code.shortcut c.args.operator ≡ code.WhereTrue = sym c.shortcut_of.ensures ∙ ap plain_shortcut c.in-WhereTrue.is in (
      falls_both (weight (plain c.args.left.now)) (weight (plain c.args.right.now)) t c.decreases,
      (
        c.operation-op.ensures.row,
        (
          c.requires.few,
          (short_first _ _ _ _ (code.shortcut c.args.operator) code.WhereTrue is c.requires.first, short_second _ _ _ _ _ (code.shortcut c.args.operator) code.WhereTrue is c.requires.second),
        ),
      ),
    )

pub binary-and_then-requires : goal.binary-and_then-requires
binary-and_then-requires t c =
    let is : code.shortcut c.args.operator ≡ code.WhereFalse = sym c.shortcut_of.ensures ∙ ap plain_shortcut c.in-WhereFalse.is in (
      falls_both (weight (plain c.args.left.now)) (weight (plain c.args.right.now)) t c.decreases,
      (
        c.operation-op.ensures.row,
        (
          c.requires.few,
          (short_first _ _ _ _ (code.shortcut c.args.operator) code.WhereFalse is c.requires.first, short_second _ _ _ _ _ (code.shortcut c.args.operator) code.WhereFalse is c.requires.second),
        ),
      ),
    )

pub binary-operands-requires : goal.binary-operands-requires
binary-operands-requires t c =
    let is : code.shortcut c.args.operator ≡ code.Never = sym c.shortcut_of.ensures ∙ ap plain_shortcut c.in-Never.is in (
      falls_both (weight (plain c.args.left.now)) (weight (plain c.args.right.now)) t c.decreases,
      (
        c.operation-op.ensures.row,
        (
          c.requires.few,
          (short_first _ _ _ _ (code.shortcut c.args.operator) code.Never is c.requires.first, short_second _ _ _ _ _ (code.shortcut c.args.operator) code.Never is c.requires.second),
        ),
      ),
    )

pub and_then-expression-requires : goal.and_then-expression-requires
and_then-expression-requires t c = (falls_first (weight (plain c.args.left.now)) (weight (plain c.args.right.now)) t c.decreases, rw c.in_ok-end.ensures.made c.requires.first)

pub and_then-expression-requires-2 : goal.and_then-expression-requires-2
and_then-expression-requires-2 t c = (
  falls_second (weight (plain c.args.left.now)) (weight (plain c.args.right.now)) t c.decreases,
  simp (c.in_ok-jump.ensures.ok, c.in_ok-emit_top_again.ensures.ok, c.in_ok-expression.ensures, c.in_ok-end.ensures.made, c.cells.ensures.cells, c.ty.ensures.ty) c.requires.second,
)

pub operands-expression-requires : goal.operands-expression-requires
operands-expression-requires t c =
    (falls_first (weight (plain c.args.left.now)) (weight (plain c.args.right.now)) t c.decreases, at_labels _ _ _ _ _ (omega arith) c.requires.first)

pub operands-expression-requires-2 : goal.operands-expression-requires-2
operands-expression-requires-2 t c = (
  falls_second (weight (plain c.args.left.now)) (weight (plain c.args.right.now)) t c.decreases,
  simp (c.in_ok-expression.ensures, c.cells.ensures.cells, c.ty.ensures.ty) (at_labels _ _ _ _ _ (omega arith) c.requires.second),
)

pub or_else-expression-requires : goal.or_else-expression-requires
or_else-expression-requires t c = (
  falls_first (weight (plain c.args.left.now)) (weight (plain c.args.right.now)) t c.decreases,
  simp (c.in_ok-end.ensures.made, c.in_ok-other.ensures.made) (at_labels _ _ _ _ _ (omega arith) c.requires.first),
)

pub or_else-expression-requires-2 : goal.or_else-expression-requires-2
or_else-expression-requires-2 t c = (
  falls_second (weight (plain c.args.left.now)) (weight (plain c.args.right.now)) t c.decreases,
  simp (
    c.in_ok-skip_right.ensures,
    c.in_ok-expression.ensures,
    c.in_ok-end.ensures.made,
    c.in_ok-other.ensures.made,
    c.cells.ensures.cells,
    c.ty.ensures.ty,
  ) (at_labels _ _ _ _ _ (omega arith) c.requires.second),
)

pub or_else-returns : goal.or_else-returns
or_else-returns t c =
    or_code c.args.layout.now (plain c.args.left.now) (plain c.args.right.now) _ c.args.depth _
    (c.args.depth + cells c.args.layout.now.structs
    (type_of (plain c.args.left.now))) _ _ _ _ _ _ _ _ _ _ c.in_ok-other.ensures.number c.in_ok-end.ensures.number c.in_ok-other.ensures.made c.in_ok-end.ensures.made c.in_ok-expression.ensures
    c.in_ok-skip_right.ensures
    (ap (λ n. c.args.depth + n)
    (c.cells.ensures.cells ∙ ap
    (cells c.args.layout.now.structs) c.ty.ensures.ty)) c.in_ok-expression-2.ensures c.in_ok-op.ensures.ok c.place.ensures.placed

pub and_then-returns : goal.and_then-returns
and_then-returns t c =
    and_code c.args.layout.now (plain c.args.left.now) (plain c.args.right.now) _ c.args.depth _
    (c.args.depth + cells c.args.layout.now.structs
    (type_of (plain c.args.left.now))) c.in_ok-end.end _ _ _ _ _ _ _ _ c.in_ok-end.ensures.number c.in_ok-end.ensures.made c.in_ok-expression.ensures
    c.in_ok-emit_top_again.ensures.ok c.in_ok-jump.ensures.ok
    (ap (λ n. c.args.depth + n)
    (c.cells.ensures.cells ∙ ap
    (cells c.args.layout.now.structs) c.ty.ensures.ty)) c.in_ok-expression-2.ensures c.in_ok-op.ensures.ok c.place.ensures.placed

pub assign-returns : goal.assign-returns
assign-returns t c =
    let count = cells c.args.layout.now.structs c.args.ty in
    let home = code.home c.args.layout.now (plain c.args.place.now) in
    assign_code _ c.args.out.now _ _ _ _ _ _ _ _ (code.read_first (code.is_set c.args.operator) (code.at_home (code.read c.args.layout.now c.args.depth count) home))
    (code.emit c.args.layout.now c.args.out.now.labels (c.args.depth + code.cells_first (code.is_set c.args.operator) count) (plain c.args.value.now))
    (code.at_home (code.write c.args.layout.now (c.args.depth + count) count) home) _ c.in_ok-first.ensures.lines c.in_ok-expression.ensures c.in_ok-combine.ensures
    (simp (c.home_of-home.ensures.home, c.cells-count.ensures.cells) refl)
    (simp (c.in_ok-first.ensures.lines, c.in_ok-first.ensures.cells, c.cells-count.ensures.cells) refl)
    (simp (c.home_of-home.ensures.home, c.cells-count.ensures.cells) refl) c.emit_write.ensures

pub argument-returns : goal.argument-returns
argument-returns t c =
    captured_code c.args.layout.now
    (plain c.args.given.now) c.args.depth c.in_ok-end.end _ _ _ _ _ _ _ _ c.in_ok-end.ensures.number
    (ap is_void (sym c.ty.ensures.ty) ∙ (sym c.is_void.ensures ∙ c.if-not-is_void.false))
    (simp c.globals.ensures.globals refl)
    c.in_ok-end.ensures.made c.in_ok-op.ensures.ok c.in_ok-jump.ensures.ok c.in_ok-expression.ensures c.in_ok-op-2.ensures.ok c.place.ensures.placed

-- ---- calls

pub call-arguments-requires : goal.call-arguments-requires
call-arguments-requires t c = (
  falls_arguments (all_weight (plain_all c.args.given.now)) t c.decreases,
  simp (c.in_ok-emit_constants.ensures, c.in_ok-room.ensures.lines, c.in_ok-room.ensures.cells) c.requires.ready,
)

pub call-emit_called-requires : goal.call-emit_called-requires
call-emit_called-requires t c =
    record {
      is_callee = called_ready _ _ _ _ _ (omega (
        arith,
        ap (λ (d : LabelledCode). d.labels) c.in_ok-arguments.ensures,
        ap (λ (d : LabelledCode). d.labels) c.in_ok-emit_constants.ensures,
        ap (λ (d : LabelledCode). d.labels) c.in_ok-room.ensures.lines,
      )) c.requires.is_callee;
    }

pub call-returns : goal.call-returns
call-returns t c =
    call_code _ _ _ _ _ _ _ _ _ _ _ _ _ c.in_ok-room.ensures.lines c.in_ok-emit_constants.ensures c.in_ok-arguments.ensures
    (simp (c.in_ok-emit_constants.ensures, c.in_ok-room.ensures.lines, c.in_ok-room.ensures.cells) refl) (counted c.args.given.now (length c.args.filled.now) c.args.callee) c.emit_called.ensures

pub argument-expression-requires : goal.argument-expression-requires
argument-expression-requires t c = (
  falls_one (weight (plain c.args.given.now)) t c.decreases,
  plain_ready _ _ _ _ (ap is_void (sym c.ty.ensures.ty) ∙ (sym c.is_void.ensures ∙ c.if-not-is_void.true)) c.requires.ready,
)

pub argument-expression-requires-2 : goal.argument-expression-requires-2
argument-expression-requires-2 t c = (
  falls_one (weight (plain c.args.given.now)) t c.decreases,
  simp (c.in_ok-jump.ensures.ok, c.in_ok-op.ensures.ok, c.in_ok-end.ensures.made)
      (captured_ready _ _ _ _ (ap is_void (sym c.ty.ensures.ty) ∙ (sym c.is_void.ensures ∙ c.if-not-is_void.false)) c.requires.ready),
)

pub arguments-loop-i-init : goal.arguments-loop-i-init
arguments-loop-i-init t c =
    (omega arith, rw (none_left c.args.given.now) (omega arith), rw (none_left c.args.given.now) (extended_none c.args.out.now))

pub arguments-argument-requires : goal.arguments-argument-requires
arguments-argument-requires t c = (
  argument_falls c.args.given.now c.loop-i.i t c.index-given-i.result c.loop-i-test.true c.loop-i.invariant.0 c.index-given-i.is c.decreases,
  argument_ready c.args.out.now.labels c.args.layout.now c.args.depth c.args.given.now c.loop-i.i c.index-given-i.result c.loop-i.out.labels c.loop-i.depth c.requires.ready c.loop-i-test.true
      c.loop-i.invariant.0 c.index-given-i.is (ap (λ (d : LabelledCode). d.labels) c.loop-i.invariant.2) c.loop-i.invariant.1,
)

pub arguments-cells-depth-requires : goal.arguments-cells-depth-requires
arguments-cells-depth-requires t c =
    let ready = argument_ready c.args.out.now.labels c.args.layout.now c.args.depth c.args.given.now c.loop-i.i c.index-given-i.result c.loop-i.out.labels c.loop-i.depth c.requires.ready
    c.loop-i-test.true
    c.loop-i.invariant.0 c.index-given-i.is (ap (λ (d : LabelledCode). d.labels) c.loop-i.invariant.2) c.loop-i.invariant.1 in
    record { few = omega (arith, ready_few _ _ _ _ _ ready (ap (cells c.args.layout.now.structs) c.ty.ensures.ty)) }

pub arguments-overflow_add-depth : goal.arguments-overflow_add-depth
arguments-overflow_add-depth t c =
    let ready = argument_ready c.args.out.now.labels c.args.layout.now c.args.depth c.args.given.now c.loop-i.i c.index-given-i.result c.loop-i.out.labels c.loop-i.depth c.requires.ready
    c.loop-i-test.true
    c.loop-i.invariant.0 c.index-given-i.is (ap (λ (d : LabelledCode). d.labels) c.loop-i.invariant.2) c.loop-i.invariant.1 in
    omega (arith, ready_fits _ _ _ _ _ ready (c.cells-depth.ensures.cells ∙ ap (cells c.args.layout.now.structs) c.ty.ensures.ty))

pub arguments-loop-i-preserved : goal.arguments-loop-i-preserved
arguments-loop-i-preserved t c =
    let next = next_left c.args.given.now c.loop-i.i c.index-given-i.result c.loop-i-test.true c.loop-i.invariant.0 c.index-given-i.is in (
      omega (arith, c.loop-i.invariant.0),
      omega (arith, c.loop-i.invariant.1, ap (code.arguments_cells c.args.layout.now) next, c.cells-depth.ensures.cells ∙ ap (cells c.args.layout.now.structs) c.ty.ensures.ty),
      arguments_step _ _ _ c.args.layout.now c.args.depth c.loop-i.depth (plain c.index-given-i.result) _ _ next c.loop-i.invariant.1 c.loop-i.invariant.2 c.in_ok-argument.ensures,
    )
