-- The code of statements and declarations, at a depth of the frame and from a next label on.
use Rattle.std.specs.Prelude.{ℕ, pos, ◌+◌, ◌-◌, ◌*◌, Bool, true, false, List, [], ◌∷◌, ◌++◌, Option, None, Some, if◌then◌else◌}
use Rattle.nss_tree.specs.Statements.{block, empty, expression, if_only, if_else, while_loop, do_loop, for_loop, switch, break_off, continue_on, return_from, declaration, case_label, default_label, no_stmt, more_stmts}
use Rattle.ncs_code.specs.Plain as ops
use Rattle.ncs_emit.specs.declared.jump.Jump.TheVariants.{Jmp, Jz, Jnz}
use Rattle.ncs_emit.specs.Labelled.{Line, Instruction, JumpTo, Label}
use Rattle.typing_rules.specs.Typed.{TypedExpr, TypedName, TypedStmt, TypedStmts, type_of}
use Rattle.nwq_value.specs.declared.value.Ty.{Ty}
use Rattle.typing_rules.specs.Cells.{cell_types, cells}
use Rattle.emission_rules.specs.Layout.{Layout, declared_cells, all_declared_cells}
use Rattle.emission_rules.specs.Operations.{bytes_of, beneath, dropped, top_again, constant, int_constant, started, two_ints}
use Rattle.emission_rules.specs.Expressions.{emit, labels}

-- where `break` and `continue` lead: to a label, where the frame has a depth
pub record Exits : Type 0 where
  pub break_to : ℕ
  pub break_depth : ℕ
  pub continue_to : ℕ
  pub continue_depth : ℕ

-- outside of all loops and switches, where neither may stand
abbrev pub no_exits : Exits
no_exits = record { break_to = 0; break_depth = 0; continue_to = 0; continue_depth = 0 }

-- inside a loop at this depth, whose third part or test and whose end have these labels
abbrev pub in_loop : ℕ → ℕ → ℕ → Exits
in_loop next end depth = record {
  break_to = end;
  break_depth = depth;
  continue_to = next;
  continue_depth = depth;
}

-- inside a switch whose selector lies on top at this depth
abbrev pub in_switch : ℕ → ℕ → Exits → Exits
in_switch end depth out = record out { break_to = end; break_depth = depth }

-- ---- parts that may be absent

abbrev pub some_labels : Option TypedExpr → ℕ
some_labels None = 0
some_labels (Some e) = labels e

-- for its effect alone
abbrev pub evaluated : Layout → ℕ → ℕ → Option TypedExpr → List Line
evaluated l n depth None = []
evaluated l n depth (Some e) = emit l n depth e ++ dropped (cells l.structs (type_of e))

-- a test that is left out is true
abbrev pub tested : Layout → ℕ → ℕ → Option TypedExpr → List Line
tested l n depth None = int_constant (pos 1) ∷ []
tested l n depth (Some e) = emit l n depth e

-- The result's cells lie beneath the frame.
abbrev pub stored : Layout → ℕ → ℕ → List Line
stored l depth count = Instruction
    (ops.CpDownSp (beneath (depth + 2 * count)) (bytes_of count)) ∷ dropped (depth + count)

abbrev pub returned : Layout → ℕ → ℕ → Option TypedExpr → List Line
returned l n depth None = dropped depth
returned l n depth (Some e) = emit l n depth e ++ stored l depth (cells l.structs (type_of e))

-- ---- declarations

abbrev pub initial : Layout → ℕ → ℕ → Ty → Option TypedExpr → List Line
initial l n depth t None = started (cell_types l.structs t)
initial l n depth t (Some e) = emit l n depth e

abbrev pub names_labels : List TypedName → ℕ
names_labels [] = 0
names_labels (x ∷ xs) = some_labels x.value + names_labels xs

abbrev pub emit_names : Layout → ℕ → ℕ → List TypedName → List Line
emit_names l n depth [] = []
emit_names l n depth (x ∷ xs) =
    initial l n depth x.name.ty x.value
    ++ emit_names l (n + some_labels x.value) (depth + cells l.structs x.name.ty) xs

-- ---- the labels of a switch, numbered in a row

abbrev pub is_label : TypedStmt → Bool
is_label (case_label n k) = true
is_label (default_label n) = true
is_label _ = false

abbrev pub count_labels : TypedStmts → ℕ
count_labels no_stmt = 0
count_labels (more_stmts x xs) = if is_label x then 1 + count_labels xs else count_labels xs

-- the number of the next one behind a statement
abbrev pub behind : ℕ → TypedStmt → ℕ
behind at x = if is_label x then at + 1 else at

-- compares the selector with the value of a case
abbrev pub test_of : ℕ → TypedStmt → List Line
test_of at (case_label n k) = top_again ∷ constant k ∷ Instruction
    (ops.Equal two_ints 0) ∷ JumpTo Jnz at ∷ []
test_of at _ = []

abbrev pub tests : ℕ → TypedStmts → List Line
tests at no_stmt = []
tests at (more_stmts x xs) = test_of at x ++ tests (behind at x) xs

abbrev pub is_default : TypedStmt → Bool
is_default (default_label n) = true
is_default _ = false

-- where it goes on if no case fits: at `default`, else at its end
abbrev pub otherwise : ℕ → ℕ → TypedStmts → ℕ
otherwise end at no_stmt = end
otherwise end at (more_stmts x xs) = if is_default x then at else otherwise end (behind at x) xs

-- Only directly in a switch do labels stand: there their next number is known.
abbrev pub placed : Option ℕ → TypedStmt → List Line
placed None x = []
placed (Some at) x = if is_label x then Label at ∷ [] else []

abbrev pub placed_on : Option ℕ → TypedStmt → Option ℕ
placed_on None x = None
placed_on (Some at) x = Some (behind at x)

-- ---- statements

abbrev mutual
  -- how many labels the code takes, without the labels of a switch directly around it
  pub stmt_labels : TypedStmt → ℕ
  stmt_labels (block m xs) = all_stmt_labels xs
  stmt_labels (empty m) = 0
  stmt_labels (expression m e) = labels e
  stmt_labels (if_only m e a) = 1 + labels e + stmt_labels a
  stmt_labels (if_else m e a b) = 2 + labels e + stmt_labels a + stmt_labels b
  stmt_labels (while_loop m e a) = 2 + labels e + stmt_labels a
  stmt_labels (do_loop m a e) = 3 + stmt_labels a + labels e
  stmt_labels (for_loop m x y z a) = 3 + some_labels x + some_labels y + stmt_labels a + some_labels z
  stmt_labels (switch m e xs) = 1 + count_labels xs + labels e + all_stmt_labels xs
  stmt_labels (break_off m) = 0
  stmt_labels (continue_on m) = 0
  stmt_labels (return_from m e) = some_labels e
  stmt_labels (declaration m t xs) = names_labels xs
  stmt_labels (case_label m k) = 0
  stmt_labels (default_label m) = 0

  pub all_stmt_labels : TypedStmts → ℕ
  all_stmt_labels no_stmt = 0
  all_stmt_labels (more_stmts x xs) = stmt_labels x + all_stmt_labels xs

abbrev mutual
  -- with n the next label
  pub emit_stmt : Layout → Exits → ℕ → ℕ → TypedStmt → List Line
  emit_stmt l out n depth (block m xs) = emit_stmts l out n depth None xs
      ++ dropped (all_declared_cells l.structs xs)
  emit_stmt l out n depth (empty m) = []
  emit_stmt l out n depth (expression m e) = emit l n depth e
      ++ dropped (cells l.structs (type_of e))
  emit_stmt l out n depth (if_only m e a) =
      emit l (n + 1) depth e ++
      (JumpTo Jz n ∷ (emit_stmt l out (n + 1 + labels e) depth a ++ Label n ∷ []))
  emit_stmt l out n depth (if_else m e a b) =
      emit l (n + 2) depth e
      ++ (JumpTo Jz n ∷ (emit_stmt l out (n + 2 + labels e) depth a
      ++ (JumpTo Jmp (n + 1) ∷ Label n ∷ (emit_stmt l out (n + 2 + labels e + stmt_labels a) depth b
      ++ Label (n + 1) ∷ []))))
  emit_stmt l out n depth (while_loop m e a) =
      Label n ∷ (emit l (n + 2) depth e
      ++ (JumpTo Jz (n + 1) ∷ (emit_stmt l (in_loop n (n + 1) depth) (n + 2 + labels e) depth a
      ++ JumpTo Jmp n ∷ Label (n + 1) ∷ [])))
  emit_stmt l out n depth (do_loop m a e) =
      Label n ∷ (emit_stmt l (in_loop (n + 1) (n + 2) depth) (n + 3) depth a
      ++ (Label (n + 1) ∷ (emit l (n + 3 + stmt_labels a) depth e
      ++ JumpTo Jnz n ∷ Label (n + 2) ∷ [])))
  emit_stmt l out n depth (for_loop m x y z a) =
      evaluated l (n + 3) depth x
      ++ (Label n ∷ (tested l (n + 3 + some_labels x) depth y
      ++ (JumpTo Jz (n + 2) ∷ (emit_stmt l (in_loop (n + 1) (n + 2) depth)
      (n + 3 + some_labels x + some_labels y) depth a
      ++ (Label (n + 1) ∷ (evaluated l
      (n + 3 + some_labels x + some_labels y + stmt_labels a) depth z
      ++ JumpTo Jmp n ∷ Label (n + 2) ∷ []))))))
  emit_stmt l out n depth (switch m e xs) =
      emit l (n + 1 + count_labels xs) depth e
      ++ (tests (n + 1) xs
      ++ (JumpTo Jmp (otherwise n (n + 1) xs)
      ∷ (emit_stmts l (in_switch n (depth + 1) out) (n + 1 + count_labels xs + labels e) (depth + 1)
      (Some (n + 1)) xs
      ++ (dropped (all_declared_cells l.structs xs)
      ++ (Label n ∷ dropped 1)))))
  emit_stmt l out n depth (break_off m) = dropped (depth - out.break_depth)
      ++ JumpTo Jmp out.break_to ∷ []
  emit_stmt l out n depth (continue_on m) = dropped (depth - out.continue_depth)
      ++ JumpTo Jmp out.continue_to ∷ []
  emit_stmt l out n depth (return_from m e) = returned l n depth e ++ Instruction ops.Retn ∷ []
  emit_stmt l out n depth (declaration m t xs) = emit_names l n depth xs
  emit_stmt l out n depth (case_label m k) = []
  emit_stmt l out n depth (default_label m) = []

  -- with the next number of the labels, where these statements stand directly in a switch
  pub emit_stmts : Layout → Exits → ℕ → ℕ → Option ℕ → TypedStmts → List Line
  emit_stmts l out n depth at no_stmt = []
  emit_stmts l out n depth at (more_stmts x xs) =
      placed at x
      ++ (emit_stmt l out n depth x
      ++ emit_stmts l out (n + stmt_labels x) (depth + declared_cells l.structs x)
      (placed_on at x) xs)
