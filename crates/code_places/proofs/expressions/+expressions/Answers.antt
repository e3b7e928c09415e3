use Rattle.std.proofs.Common.{◌≡◌, ◌∙◌, ap, ap₂, sym, arith, length, take, drop}
use Rattle.std.proofs.lemmas.List.{drop_all}
use Rattle.typing_rules.specs.Reading.{plain, plain_all}
use Rattle.typing_rules.specs.Readings.{plain_all_none, plain_assign, plain_binary, plain_call, plain_literal, plain_member, plain_name, plain_postfix, plain_prefix}
use Rattle.typing_rules.specs.Typed.{type_of}
use Rattle.typing_rules.specs.Cells.{cells}
use Rattle.ncs_code.specs.Spelling.{op_size}
use Rattle.emission_rules.specs.Operations.{operation}
use Rattle.code_places.specs.Numbers as numbers
use Rattle.code_places.specs.Marks as marks
use Rattle.code_places.specs.Seeking.{sought}
use Rattle.code_places.proofs.Exprs.{argument_gone, argument_step, assign_gone, at, binary_gone, known, member_cut, member_read, there}
use Rattle.code_places.proofs.Seeking.{last, nothing, parts}
use Rattle.code_places.proofs.expressions.+expressions.Goals as goal

pub seek_arguments-loop-i-init : goal.seek_arguments-loop-i-init
seek_arguments-loop-i-init t c =
    let first = numbers.behind_all c.args.node (plain_all (take (length c.args.arguments.now) c.args.arguments.now)) in (
      omega arith,
      nothing c.args.seek
          ∙ (ap (λ ys. sought (marks.marks_all c.args.layout.now c.args.of first ys) c.args.seek) (sym plain_all_none)
          ∙ ap (λ ys. sought (marks.marks_all c.args.layout.now c.args.of first (plain_all ys)) c.args.seek)
          (sym (drop_all (length c.args.arguments.now) c.args.arguments.now (omega arith)))),
    )

pub seek_arguments-loop-i-preserved : goal.seek_arguments-loop-i-preserved
seek_arguments-loop-i-preserved t c = (
  omega (arith, c.loop-i.invariant.0),
  argument_step c.args.layout.now c.args.of c.args.node c.behind_all-number.result c.args.arguments.now c.loop-i.i c.index-arguments-i.result c.args.seek c.loop-i.seek _
      c.index-arguments-i.is c.loop-i-test.true c.loop-i.invariant.0 c.behind_all-number.ensures c.loop-i.invariant.1
      (argument_gone c.args.layout.now c.args.of c.behind_all-number.result (plain c.index-arguments-i.result) c.is_action-captured.result c.loop-i.seek _ _ _ _
      c.is_action-captured.ensures c.pass_if-seek.ensures c.pass_if-seek-in-loop-i.ensures c.seek_expr-seek.ensures c.pass_if-seek-in-loop-i-2.ensures),
)

pub seek_arguments-returns : goal.seek_arguments-returns
seek_arguments-returns t c =
    let none : c.loop-i.i ≡ 0 = omega (arith, c.loop-i-test.false) in
    c.loop-i.invariant.1
    ∙ (ap (λ j. sought (marks.marks_all c.args.layout.now c.args.of (numbers.behind_all c.args.node (plain_all (take j c.args.arguments.now))) (plain_all (drop j c.args.arguments.now)))
    c.args.seek) none
    ∙ ap (λ ys. sought (marks.marks_all c.args.layout.now c.args.of (numbers.behind_all c.args.node ys) (plain_all c.args.arguments.now)) c.args.seek) plain_all_none)

pub seek_expr-returns-in-Literal : goal.seek_expr-returns-in-Literal
seek_expr-returns-in-Literal t c = known _ _ _ _ _ _ (plain_literal _ _ c.in-Literal.is) (last c.args.seek _ c.pass_constant.ensures)

pub seek_expr-returns-in-Name : goal.seek_expr-returns-in-Name
seek_expr-returns-in-Name t c = known _ _ _ _ _ _ (plain_name _ _ _ c.in-Name.is) (last c.args.seek _ c.pass_name.ensures)

pub seek_expr-returns-in-Call : goal.seek_expr-returns-in-Call
seek_expr-returns-in-Call t c =
    known _ _ _ _ _ _ (plain_call _ _ _ _ _ c.in-Call.is)
    (parts c.args.seek _ _ c.pass_room-seek.ensures
    (parts c.pass_room-seek.result _ _
    (c.pass_constants-seek.ensures ∙ ap (λ ks. sought (marks.constants_marks c.args.node ks) c.pass_room-seek.result) c.as_slice.ensures.items)
    (parts c.pass_constants-seek.result _ _
    (c.seek_arguments-seek.ensures ∙ ap₂ (λ n xs. sought (marks.marks_all c.args.layout.now c.args.node n (plain_all xs)) c.pass_constants-seek.result) c.next-part.ensures
    c.as_slice-in-Call.ensures.value)
    (last c.seek_arguments-seek.result _ c.pass_call.ensures))))

pub seek_expr-returns-in-Prefix : goal.seek_expr-returns-in-Prefix
seek_expr-returns-in-Prefix t c =
    known _ _ _ _ _ _ (plain_prefix _ _ _ _ c.in-Prefix.is)
    (parts c.args.seek _ _
    (c.before_prefix-seek.ensures ∙ ap (λ b. sought (marks.before_prefix c.args.node c.in-Prefix.operator b) c.args.seek)
    (there _ _ _ c.is_place-in-Prefix.ensures.place c.deref-in-Prefix.ensures))
    (parts c.before_prefix-seek.result _ _
    (at c.args.layout.now _ _ _ _ c.before_prefix-seek.result _ c.deref-in-Prefix-2.ensures c.next-part.ensures c.seek_expr-seek-in-Prefix.ensures)
    c.behind_prefix.ensures))

pub seek_expr-returns-in-Postfix : goal.seek_expr-returns-in-Postfix
seek_expr-returns-in-Postfix t c =
    known _ _ _ _ _ _ (plain_postfix _ _ _ _ c.in-Postfix.is)
    (parts c.args.seek _ _
    (at c.args.layout.now _ _ _ _ c.args.seek _ c.deref-in-Postfix.ensures c.next-part.ensures c.seek_expr-seek-in-Postfix.ensures)
    (c.pass_if.ensures ∙ ap (λ b. sought (marks.mark_if b 6 c.args.node) c.seek_expr-seek-in-Postfix.result)
    (there _ _ _ c.is_place-in-Postfix.ensures.place c.deref-in-Postfix-2.ensures)))

pub seek_expr-returns-in-Binary : goal.seek_expr-returns-in-Binary
seek_expr-returns-in-Binary t c =
    let x = plain c.in-Binary.left.value in
    let k = numbers.next c.args.node in
    known _ _ _ _ _ _ (plain_binary _ _ _ _ _ c.in-Binary.is)
    (binary_gone c.args.layout.now c.args.node c.in-Binary.ty c.in-Binary.operator x (plain c.in-Binary.right.value) c.operation_size-size.result c.args.seek _ _ _ _
    (c.operation_size-size.ensures (cells c.args.layout.now.structs (type_of x))
    ∙ ap (λ y. op_size (operation c.in-Binary.operator y (cells c.args.layout.now.structs (type_of x)))) (c.ty.ensures.ty ∙ ap (λ z. type_of (plain z)) c.deref-in-Binary.ensures))
    (at c.args.layout.now _ _ _ _ c.args.seek _ c.deref-in-Binary-2.ensures c.next-part.ensures c.seek_expr-seek-in-Binary.ensures)
    c.between-seek.ensures
    (at c.args.layout.now _ _ _ _ c.between-seek.result _ c.deref-in-Binary-3.ensures
    (c.behind.ensures ∙ ap₂ (λ n z. numbers.behind n (plain z)) c.next-part.ensures c.deref-in-Binary-4.ensures) c.seek_expr-seek-in-Binary-2.ensures)
    c.pass-in-Binary.ensures)

pub seek_expr-returns-in-Assign : goal.seek_expr-returns-in-Assign
seek_expr-returns-in-Assign t c =
    known _ _ _ _ _ _ (plain_assign _ _ _ _ _ c.in-Assign.is)
    (assign_gone c.args.layout.now c.args.node c.in-Assign.ty c.in-Assign.operator (plain c.in-Assign.place.value)
    (plain c.in-Assign.value.value) c.is_set-set.result c.is_place-there.result c.args.seek _ _ _ _
    c.is_set-set.ensures (there _ _ _ c.is_place-there.ensures.place c.deref-in-Assign.ensures)
    (c.pass_if-seek.ensures ∙ ap (λ b. sought (marks.mark_if b 8 c.args.node) c.args.seek) c.both.ensures)
    (at c.args.layout.now _ _ _ _ c.pass_if-seek.result _ c.deref-in-Assign-2.ensures
    (c.behind-in-Assign.ensures ∙ ap₂ (λ n z. numbers.behind n (plain z)) c.next-part.ensures c.deref-in-Assign-3.ensures) c.seek_expr-seek-in-Assign.ensures)
    c.pass_if-seek-in-Assign.ensures c.pass_if-in-Assign.ensures)

pub seek_expr-returns-then-is_place : goal.seek_expr-returns-then-is_place
seek_expr-returns-then-is_place t c =
    known _ _ _ _ _ _ (plain_member _ _ _ _ c.in-Member.is)
    (member_read c.args.layout.now c.args.node c.in-Member.ty (plain c.in-Member.of.value) c.in-Member.before c.args.seek _
    (there _ _ _ (sym c.if-is_place.true ∙ c.is_place.ensures.place) c.deref.ensures) c.pass.ensures)

pub seek_expr-returns-else-is_place : goal.seek_expr-returns-else-is_place
seek_expr-returns-else-is_place t c =
    known _ _ _ _ _ _ (plain_member _ _ _ _ c.in-Member.is)
    (member_cut c.args.layout.now c.args.node c.in-Member.ty (plain c.in-Member.of.value) c.in-Member.before c.args.seek _ _
    (there _ _ _ (sym c.if-is_place.false ∙ c.is_place.ensures.place) c.deref.ensures)
    (at c.args.layout.now _ _ _ _ c.args.seek _ c.deref-in-Member.ensures c.next-part.ensures c.seek_expr-seek.ensures)
    c.pass-in-Member.ensures)
