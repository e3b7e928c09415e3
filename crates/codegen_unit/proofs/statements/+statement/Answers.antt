use Rattle.std.proofs.Common.{◌≡◌, ◌∙◌, ◌+◌, ap, refl, arith, ℕ}
use Rattle.std.specs.Option.{option_map}
use Rattle.nss_tree.specs.Readings.{tree_block, tree_break_off, tree_case_label, tree_continue_on, tree_declaration, tree_default_label, tree_do_loop, tree_empty, tree_expression, tree_for_loop}
use Rattle.nss_tree.specs.Readings.{tree_if_else, tree_if_only, tree_return_from, tree_switch, tree_while_loop}
use Rattle.nss_tree.specs.Statements.{map_stmt}
use Rattle.ncs_emit.specs.Labelled.{LabelledCode}
use Rattle.typing_rules.specs.Reading.{plain}
use Rattle.typing_rules.specs.UnitReading.{typed_stmt, typed_stmts}
use Rattle.emission_rules.specs.Expressions.{labels}
use Rattle.emission_rules.specs.Statements as code
use Rattle.codegen_unit.specs.Ready.{plain_exits}
use Rattle.codegen_unit.proofs.Arms.{block_is, block_parts, body_of_switch_ready, break_leads, continue_leads, declaration_is, do_is, do_parts, effect_part, for_is, for_parts, if_else_is}
use Rattle.codegen_unit.proofs.Arms.{if_else_parts, if_only_is, if_only_parts, falls_row, all_size, known_code, known_lines, known_none, names_part, plain_in_loop, plain_in_switch, return_part, small}
use Rattle.codegen_unit.proofs.Arms.{switch_is, switch_parts, while_is, while_parts}
use Rattle.codegen_unit.proofs.Choosing.{choice_open, close_open, for_open, switch_code}
use Rattle.codegen_unit.proofs.InRow.{cells_done, cells_step, code_done, code_step, next_falls, next_few, next_ready, open_after, open_at, open_known, rest_ready, stmts_few, switch_few}
use Rattle.codegen_unit.proofs.Returns.{block_code, do_code, for_code, if_else_code, if_only_code, while_code}
use Rattle.codegen_unit.proofs.statements.+statement.Goals as goal

-- ---- from a statement to its parts

pub statement-if_only-requires : goal.statement-if_only-requires
statement-if_only-requires t c = if_only_parts _ _ _ t _ _ _ _ _ (if_only_is _ _ _ _ _ (tree_if_only _ _ _ _ c.in-If.is) c.deref.ensures) c.decreases c.requires.ready

pub statement-if_else-requires : goal.statement-if_else-requires
statement-if_else-requires t c =
    if_else_parts _ _ _ t _ _ _ _ _ _ (if_else_is _ _ _ _ _ _ _ (tree_if_else _ _ _ _ _ c.in-IfElse.is) c.deref-in-IfElse.ensures c.deref-in-IfElse-2.ensures) c.decreases c.requires.ready

pub statement-while_loop-requires : goal.statement-while_loop-requires
statement-while_loop-requires t c = while_parts _ _ _ t _ _ _ _ _ (while_is _ _ _ _ _ (tree_while_loop _ _ _ _ c.in-While.is) c.deref-in-While.ensures) c.decreases c.requires.ready

pub statement-do_loop-requires : goal.statement-do_loop-requires
statement-do_loop-requires t c = do_parts _ _ _ t _ _ _ _ _ (do_is _ _ _ _ _ (tree_do_loop _ _ _ _ c.in-Do.is) c.deref-in-Do.ensures) c.decreases c.requires.ready

pub statement-for_loop-requires : goal.statement-for_loop-requires
statement-for_loop-requires t c = for_parts _ _ _ t _ _ _ _ _ _ _ (for_is _ _ _ _ _ _ _ (tree_for_loop _ _ _ _ _ _ c.in-For.is) c.deref-in-For.ensures) c.decreases c.requires.ready

pub statement-switch-requires : goal.statement-switch-requires
statement-switch-requires t c = switch_parts _ _ _ t _ _ _ _ _ (switch_is _ _ _ _ _ (tree_switch _ _ _ _ c.in-Switch.is) c.as_slice-in-Switch.ensures.value) c.decreases c.requires.ready

pub statement-returns-in-IfElse : goal.statement-returns-in-IfElse
statement-returns-in-IfElse t c =
    known_code _ _ _ _ _ _ _ (if_else_is _ _ _ _ _ _ _ (tree_if_else _ _ _ _ _ c.in-IfElse.is) c.deref-in-IfElse.ensures c.deref-in-IfElse-2.ensures) _ c.if_else.ensures

pub statement-block-requires : goal.statement-block-requires
statement-block-requires t c = block_parts _ _ _ t _ _ _ _ (block_is _ _ _ _ (tree_block _ _ _ c.in-Block.is) c.as_slice.ensures.value) c.decreases c.requires.ready

pub statement-emit_effect-requires : goal.statement-emit_effect-requires
statement-emit_effect-requires t c = record { ready = effect_part _ _ _ t _ _ _ _ (ap (map_stmt plain) (tree_expression _ _ _ c.in-Expression.is)) c.requires.ready }

pub statement-emit_leave-requires-clause-small : goal.statement-emit_leave-requires-clause-small
statement-emit_leave-requires-clause-small t c = small _ _ _ t _ _ c.requires.ready

pub statement-emit_leave-requires-clause-leads : goal.statement-emit_leave-requires-clause-leads
statement-emit_leave-requires-clause-leads t c = break_leads _ _ _ t _ _ _ (ap (map_stmt plain) (tree_break_off _ _ c.in-Break.is)) c.requires.ready

pub statement-emit_leave-requires-clause-made : goal.statement-emit_leave-requires-clause-made
statement-emit_leave-requires-clause-made t c = c.requires.ready.break_made

pub statement-emit_leave-requires-in-Continue-clause-small : goal.statement-emit_leave-requires-in-Continue-clause-small
statement-emit_leave-requires-in-Continue-clause-small t c = small _ _ _ t _ _ c.requires.ready

pub statement-emit_leave-requires-in-Continue-clause-leads : goal.statement-emit_leave-requires-in-Continue-clause-leads
statement-emit_leave-requires-in-Continue-clause-leads t c = continue_leads _ _ _ t _ _ _ (ap (map_stmt plain) (tree_continue_on _ _ c.in-Continue.is)) c.requires.ready

pub statement-emit_leave-requires-in-Continue-clause-made : goal.statement-emit_leave-requires-in-Continue-clause-made
statement-emit_leave-requires-in-Continue-clause-made t c = c.requires.ready.continue_made

pub statement-emit_return-requires-clause-ready : goal.statement-emit_return-requires-clause-ready
statement-emit_return-requires-clause-ready t c = return_part _ _ _ t _ _ _ _ (ap (map_stmt plain) (tree_return_from _ _ _ c.in-Return.is)) c.requires.ready

pub statement-emit_return-requires-clause-small : goal.statement-emit_return-requires-clause-small
statement-emit_return-requires-clause-small t c = small _ _ _ t _ _ c.requires.ready

pub statement-emit_names-requires : goal.statement-emit_names-requires
statement-emit_names-requires t c = record {
  ready = names_part _ _ _ t _ _ _ _ _
      (declaration_is _ _ _ _ _
      (tree_declaration _ _ _ _ c.in-Declaration.is) c.as_slice-in-Declaration.ensures.items) c.requires.ready;
}

pub statement-returns-in-Block : goal.statement-returns-in-Block
statement-returns-in-Block t c = known_code _ _ _ _ _ _ _ (block_is _ _ _ _ (tree_block _ _ _ c.in-Block.is) c.as_slice.ensures.value) _ c.block.ensures

pub statement-returns-in-Expression : goal.statement-returns-in-Expression
statement-returns-in-Expression t c = known_code _ _ _ _ _ _ _ (ap (map_stmt plain) (tree_expression _ _ _ c.in-Expression.is)) _ c.emit_effect.ensures

pub statement-returns-in-If : goal.statement-returns-in-If
statement-returns-in-If t c = known_code _ _ _ _ _ _ _ (if_only_is _ _ _ _ _ (tree_if_only _ _ _ _ c.in-If.is) c.deref.ensures) _ c.if_only.ensures

pub statement-returns-in-While : goal.statement-returns-in-While
statement-returns-in-While t c = known_code _ _ _ _ _ _ _ (while_is _ _ _ _ _ (tree_while_loop _ _ _ _ c.in-While.is) c.deref-in-While.ensures) _ c.while_loop.ensures

pub statement-returns-in-Do : goal.statement-returns-in-Do
statement-returns-in-Do t c = known_code _ _ _ _ _ _ _ (do_is _ _ _ _ _ (tree_do_loop _ _ _ _ c.in-Do.is) c.deref-in-Do.ensures) _ c.do_loop.ensures

pub statement-returns-in-For : goal.statement-returns-in-For
statement-returns-in-For t c = known_code _ _ _ _ _ _ _ (for_is _ _ _ _ _ _ _ (tree_for_loop _ _ _ _ _ _ c.in-For.is) c.deref-in-For.ensures) _ c.for_loop.ensures

pub statement-returns-in-Switch : goal.statement-returns-in-Switch
statement-returns-in-Switch t c = known_code _ _ _ _ _ _ _ (switch_is _ _ _ _ _ (tree_switch _ _ _ _ c.in-Switch.is) c.as_slice-in-Switch.ensures.value) _ c.switch.ensures

pub statement-returns-in-Return : goal.statement-returns-in-Return
statement-returns-in-Return t c = known_code _ _ _ _ _ _ _ (ap (map_stmt plain) (tree_return_from _ _ _ c.in-Return.is)) _ c.emit_return.ensures

pub statement-returns-in-Declaration : goal.statement-returns-in-Declaration
statement-returns-in-Declaration t c = known_code _ _ _ _ _ _ _ (declaration_is _ _ _ _ _ (tree_declaration _ _ _ _ c.in-Declaration.is) c.as_slice-in-Declaration.ensures.items) _ c.emit_names.ensures

pub statement-returns-in-Break : goal.statement-returns-in-Break
statement-returns-in-Break t c = known_lines _ _ _ _ _ _ _ (ap (map_stmt plain) (tree_break_off _ _ c.in-Break.is)) _ refl c.emit_leave.ensures

pub statement-returns-in-Continue : goal.statement-returns-in-Continue
statement-returns-in-Continue t c = known_lines _ _ _ _ _ _ _ (ap (map_stmt plain) (tree_continue_on _ _ c.in-Continue.is)) _ refl c.emit_leave-in-Continue.ensures

pub statement-returns-in-Empty : goal.statement-returns-in-Empty
statement-returns-in-Empty t c = known_none _ c.args.layout.now (plain_exits c.args.exits) c.args.depth _ _ (ap (map_stmt plain) (tree_empty _ _ c.in-Empty.is)) refl refl

pub statement-returns-in-Case : goal.statement-returns-in-Case
statement-returns-in-Case t c = known_none _ c.args.layout.now (plain_exits c.args.exits) c.args.depth _ _ (ap (map_stmt plain) (tree_case_label _ _ _ c.in-Case.is)) refl refl

pub statement-returns-in-Default : goal.statement-returns-in-Default
statement-returns-in-Default t c = known_none _ c.args.layout.now (plain_exits c.args.exits) c.args.depth _ _ (ap (map_stmt plain) (tree_default_label _ _ c.in-Default.is)) refl refl

-- ---- statements in a row

pub statements-place_label-at-requires-clause-open : goal.statements-place_label-at-requires-clause-open
statements-place_label-at-requires-clause-open t c =
    open_at _ _ c.loop-stmt.at _ _
    (open_known c.args.layout.now c.args.exits c.args.stmts.now c.loop-stmt.stmt-index c.stmt-item.result c.stmt-item.is c.loop-stmt-test.true _ _ c.loop-stmt.at c.loop-stmt.invariant.1)

pub statements-statement-requires : goal.statements-statement-requires
statements-statement-requires t c = (
  next_falls c.args.layout.now c.args.exits c.args.stmts.now c.loop-stmt.stmt-index c.stmt-item.result c.stmt-item.is c.loop-stmt-test.true t c.decreases,
  rw c.place_label-at.ensures.placed
      (next_ready c.args.layout.now c.args.exits c.args.stmts.now c.loop-stmt.stmt-index c.stmt-item.result c.stmt-item.is c.loop-stmt-test.true c.loop-stmt.out.labels c.loop-stmt.depth
      c.loop-stmt.invariant.0),
)

pub statements-declared_cells-depth-requires : goal.statements-declared_cells-depth-requires
statements-declared_cells-depth-requires t c =
    let ready = next_ready c.args.layout.now c.args.exits c.args.stmts.now c.loop-stmt.stmt-index c.stmt-item.result c.stmt-item.is c.loop-stmt-test.true c.loop-stmt.out.labels
    c.loop-stmt.depth c.loop-stmt.invariant.0 in
    record {
      few = omega (
        arith,
        ready.deep,
        next_few c.args.layout.now c.args.exits c.args.stmts.now c.loop-stmt.stmt-index c.stmt-item.result c.stmt-item.is c.loop-stmt-test.true c.loop-stmt.out.labels c.loop-stmt.depth
            c.loop-stmt.invariant.0,
      );
    }

pub statements-overflow_add-depth : goal.statements-overflow_add-depth
statements-overflow_add-depth t c =
    let ready = next_ready c.args.layout.now c.args.exits c.args.stmts.now c.loop-stmt.stmt-index c.stmt-item.result c.stmt-item.is c.loop-stmt-test.true c.loop-stmt.out.labels
    c.loop-stmt.depth c.loop-stmt.invariant.0 in
    omega (
      arith,
      ready.deep,
      c.declared_cells-depth.ensures,
      next_few c.args.layout.now c.args.exits c.args.stmts.now c.loop-stmt.stmt-index c.stmt-item.result c.stmt-item.is c.loop-stmt-test.true c.loop-stmt.out.labels c.loop-stmt.depth
          c.loop-stmt.invariant.0,
    )

pub statements-loop-stmt-preserved : goal.statements-loop-stmt-preserved
statements-loop-stmt-preserved t c =
    let deeper : c.loop-stmt.depth + c.declared_cells-depth.result ≡ _ = ap (λ k. c.loop-stmt.depth + k) c.declared_cells-depth.ensures in (
      rest_ready c.args.layout.now c.args.exits c.args.stmts.now c.loop-stmt.stmt-index c.stmt-item.result c.stmt-item.is c.loop-stmt-test.true c.loop-stmt.out.labels _ c.loop-stmt.depth _
          c.loop-stmt.invariant.0
          (ap (λ (d : LabelledCode). d.labels) c.in_ok-statement.ensures
          ∙ ap (λ (d : LabelledCode). d.labels + code.stmt_labels
          (typed_stmt c.stmt-item.result)) c.place_label-at.ensures.placed) deeper,
      open_after c.args.layout.now c.args.exits c.args.stmts.now c.loop-stmt.stmt-index c.stmt-item.result c.stmt-item.is c.loop-stmt-test.true c.part_laws.ensures.parts.placements
          c.places_above.ensures.above.stmt (plain_exits c.args.exits)
          c.loop-stmt.out c.place_label-at.new.out c.statement.new.out c.loop-stmt.depth c.loop-stmt.at c.place_label-at.result c.place_label-at.ensures.placed c.in_ok-statement.ensures
          c.place_label-at.ensures.next
          c.loop-stmt.invariant.1,
      code_step c.args.layout.now c.args.exits c.args.stmts.now c.loop-stmt.stmt-index c.stmt-item.result c.stmt-item.is c.loop-stmt-test.true (plain_exits c.args.exits) c.loop-stmt.out
          c.place_label-at.new.out c.statement.new.out _
          c.loop-stmt.depth _ c.loop-stmt.at c.place_label-at.result c.place_label-at.ensures.placed c.in_ok-statement.ensures deeper c.place_label-at.ensures.next c.loop-stmt.invariant.2,
      cells_step c.args.layout.now c.args.exits c.args.stmts.now c.loop-stmt.stmt-index c.stmt-item.result c.stmt-item.is c.loop-stmt-test.true c.loop-stmt.depth _ _ deeper c.loop-stmt.invariant.3,
    )

pub statements-returns-clause-code : goal.statements-returns-clause-code
statements-returns-clause-code t c = code_done c.args.layout.now
    (plain_exits c.args.exits) _ _ c.args.stmts.now c.loop-stmt.stmt-index c.loop-stmt.depth c.loop-stmt.at c.loop-stmt-test.false c.loop-stmt.invariant.2

pub statements-returns-clause-depth : goal.statements-returns-clause-depth
statements-returns-clause-depth t c = cells_done c.args.layout.now c.args.stmts.now c.loop-stmt.stmt-index c.loop-stmt.depth _ c.loop-stmt-test.false c.loop-stmt.invariant.3

pub block-drop_cells-requires : goal.block-drop_cells-requires
block-drop_cells-requires t c = record { small = omega (arith, c.in_ok-behind.ensures.depth, stmts_few _ _ _ _ _ c.requires.ready) }

-- ---- the code of a statement by its parts

pub block-returns : goal.block-returns
block-returns t c =
    block_code c.args.layout.now c.args.depth c.args.out.now _ (plain_exits c.args.exits)
    (typed_stmts c.args.items.now) _ _ _ c.in_ok-behind.ensures.code
    (omega (arith, c.in_ok-behind.ensures.depth)) c.drop_cells.ensures.ok

pub if_only-returns : goal.if_only-returns
if_only-returns t c =
    if_only_code c.args.layout.now c.args.depth c.args.out.now (plain_exits c.args.exits) (plain c.args.condition.now)
    (typed_stmt c.args.then.now) c.in_ok-end.end _ _ _ _ _ c.in_ok-end.ensures.number c.in_ok-end.ensures.made c.in_ok-emit_expr.ensures.ok
    c.in_ok-jump.ensures.ok c.in_ok-statement.ensures c.place.ensures.placed

pub if_else-returns : goal.if_else-returns
if_else-returns t c =
    if_else_code c.args.layout.now c.args.depth c.args.out.now (plain_exits c.args.exits) (plain c.args.condition.now)
    (typed_stmt c.args.then.now)
    (typed_stmt c.args.otherwise.now) c.in_ok-other.other _ _ _ _ _ _ _ _ c.in_ok-other.ensures.first c.in_ok-other.ensures.made
    c.in_ok-emit_expr.ensures.ok c.in_ok-jump.ensures.ok c.in_ok-statement.ensures c.in_ok-jump-2.ensures.ok c.place.ensures.placed c.in_ok-statement-2.ensures c.place-2.ensures.placed

pub while_loop-returns : goal.while_loop-returns
while_loop-returns t c =
    while_code c.args.layout.now c.args.depth c.args.out.now (plain_exits c.in_loop-exits.result)
    (plain c.args.condition.now)
    (typed_stmt c.args.body.now) c.in_ok-next.next _ _ _ _ _ _ _ c.in_ok-next.ensures.first
    (plain_in_loop c.in_loop-exits.result _ _ _ c.in_loop-exits.ensures.breaks c.in_loop-exits.ensures.continues) c.in_ok-next.ensures.made
    c.place.ensures.placed c.in_ok-emit_expr.ensures.ok c.in_ok-jump.ensures.ok c.in_ok-statement.ensures c.in_ok-jump-2.ensures.ok c.place-2.ensures.placed

pub do_loop-returns : goal.do_loop-returns
do_loop-returns t c =
    do_code c.args.layout.now c.args.depth c.args.out.now (plain_exits c.in_loop-exits.result)
    (typed_stmt c.args.body.now)
    (plain c.args.condition.now) c.in_ok-top.top _ _ _ _ _ _ _ c.in_ok-top.ensures.first
    (plain_in_loop c.in_loop-exits.result _ _ _ c.in_loop-exits.ensures.breaks c.in_loop-exits.ensures.continues) c.in_ok-top.ensures.made
    c.place.ensures.placed c.in_ok-statement.ensures c.place-2.ensures.placed c.in_ok-emit_expr.ensures.ok c.in_ok-jump.ensures.ok c.place-3.ensures.placed

pub for_loop-returns : goal.for_loop-returns
for_loop-returns t c =
    for_code c.args.layout.now c.args.depth c.args.out.now (plain_exits c.in_loop-exits.result)
    (option_map plain c.args.start.now) (option_map plain c.args.condition.now) (option_map plain c.args.step.now)
    (typed_stmt c.args.body.now) c.in_ok-top.top _ _ _ _ _ _
    c.in_ok-top.ensures.first
    (plain_in_loop c.in_loop-exits.result _ _ _ c.in_loop-exits.ensures.breaks c.in_loop-exits.ensures.continues) c.in_ok-top.ensures.made c.in_ok-emit_evaluated.ensures
    c.in_ok-emit_turn.ensures c.in_ok-statement.ensures c.in_ok-emit_again.ensures c.place.ensures.placed

-- ---- a `for`, and a switch

pub for_loop-place-requires-clause-unplaced : goal.for_loop-place-requires-clause-unplaced
for_loop-place-requires-clause-unplaced t c =
    let made = ap (λ (d : LabelledCode). d.labels) c.in_ok-top.ensures.made in
    let top = c.in_ok-top.top in
    for_open c.part_laws.ensures.parts.placements c.places_above.ensures.above.exprs c.places_above.ensures.above.stmt c.args.layout.now (plain_exits c.in_loop-exits.result) c.args.depth top
    (top + 1) (top + 2) (top + 2)
    (option_map plain c.args.start.now) (option_map plain c.args.condition.now) (option_map plain c.args.step.now) (typed_stmt c.args.body.now) _ _ _ _ _
    c.in_ok-emit_evaluated.ensures c.in_ok-emit_turn.ensures c.in_ok-statement.ensures c.in_ok-emit_again.ensures
    (omega (arith, made, c.in_ok-top.ensures.first)) (omega arith) (omega arith)
    (c.in_ok-top.ensures.unplaced (top + 2) (omega (arith, c.in_ok-top.ensures.first)) (omega (arith, c.in_ok-top.ensures.first)))

pub switch-statements-requires : goal.switch-statements-requires
switch-statements-requires t c =
    let made = ap (λ (d : LabelledCode). d.labels) c.in_ok-end.ensures.made in
    let after = ap (λ (d : LabelledCode). d.labels) c.in_ok-emit_choice.ensures in (
      falls_row (all_size (typed_stmts c.args.body.now)) t c.decreases,
      (
        body_of_switch_ready (c.args.out.now.labels + 1 + code.count_labels (typed_stmts c.args.body.now) + labels
            (plain c.args.value.now)) c.emit_choice.new.out.labels c.args.layout.now (c.args.depth + 1)
            (c.args.depth + 1)
            c.in_switch-exits.result c.args.exits (typed_stmts c.args.body.now) (record { label = c.in_ok-end.end; depth = c.args.depth + 1 }) c.requires.body
            (omega (arith, made, after, c.count_labels.ensures)) refl c.in_switch-exits.ensures.breaks c.in_switch-exits.ensures.continues (omega (arith, made, after, c.in_ok-end.ensures.first)),
        record {
          inside = omega (arith, made, after, c.count_labels.ensures, c.in_ok-end.ensures.first);
          unplaced = λ label from to.
              choice_open c.part_laws.ensures.parts.placements c.places_above.ensures.above.exprs c.args.layout.now c.args.depth c.in_ok-end.end _ (plain c.args.value.now)
              (typed_stmts c.args.body.now) _ _ c.in_ok-emit_choice.ensures label
              (omega (arith, made, from, to, c.count_labels.ensures, c.in_ok-end.ensures.first))
              (c.in_ok-end.ensures.unplaced label (omega (arith, from, c.in_ok-end.ensures.first)) (omega (arith, to, c.count_labels.ensures, c.in_ok-end.ensures.first)));
        },
      ),
    )

pub switch-close_switch-requires-clause-small : goal.switch-close_switch-requires-clause-small
switch-close_switch-requires-clause-small t c = omega (arith, c.in_ok-behind.ensures.depth, switch_few _ _ _ _ _ c.requires.body)

pub switch-close_switch-requires-clause-unplaced : goal.switch-close_switch-requires-clause-unplaced
switch-close_switch-requires-clause-unplaced t c =
    let made = ap (λ (d : LabelledCode). d.labels) c.in_ok-end.ensures.made in
    let after = ap (λ (d : LabelledCode). d.labels) c.in_ok-emit_choice.ensures in
    close_open c.part_laws.ensures.parts.placements c.places_above.ensures.above.stmt c.args.layout.now
    (plain_exits c.in_switch-exits.result) (c.args.depth + 1) (c.in_ok-end.end + 1) c.in_ok-end.end
    (typed_stmts c.args.body.now) _ _
    c.in_ok-behind.ensures.code (omega (arith, made, after, c.in_ok-end.ensures.first)) (omega arith)
    (choice_open c.part_laws.ensures.parts.placements c.places_above.ensures.above.exprs c.args.layout.now c.args.depth c.in_ok-end.end _ (plain c.args.value.now)
    (typed_stmts c.args.body.now) _ _ c.in_ok-emit_choice.ensures c.in_ok-end.end
    (omega (arith, made, c.in_ok-end.ensures.first))
    (c.in_ok-end.ensures.unplaced c.in_ok-end.end (omega (arith, c.in_ok-end.ensures.first)) (omega (arith, c.in_ok-end.ensures.first))))

pub switch-returns : goal.switch-returns
switch-returns t c =
    switch_code c.args.layout.now (plain_exits c.args.exits) (plain_exits c.in_switch-exits.result) c.args.depth _ (plain c.args.value.now) (typed_stmts c.args.body.now) _ _ _ _ c.in_ok-end.end _ _
    c.in_ok-end.ensures.first
    (c.in_ok-end.ensures.made ∙ ap (λ (k : ℕ). record c.args.out.now { labels = c.args.out.now.labels + (1 + k) }) c.count_labels.ensures)
    c.in_ok-emit_choice.ensures
    (plain_in_switch c.in_switch-exits.result c.args.exits c.in_ok-end.end
    (c.args.depth + 1) c.in_switch-exits.ensures.breaks c.in_switch-exits.ensures.continues) c.in_ok-behind.ensures.code (omega (arith, c.in_ok-behind.ensures.depth))
    c.close_switch.ensures
