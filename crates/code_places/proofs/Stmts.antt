-- Going over the marks of a statement that is known.
use Rattle.std.proofs.Common.{◌≡◌, ◌∙◌, ap, ap₂, sym, ℕ, Bool, List, ◌∷◌}
use Rattle.nss_tree.specs.declared.statements.Stmt.{Stmt}
use Rattle.nss_tree.specs.Reading.{tree_of_stmt}
use Rattle.nss_tree.specs.Readings.{stmts_more}
use Rattle.nss_tree.specs.Statements.{PlainStmt, map_stmt, map_stmts}
use Rattle.nwq_value.specs.declared.value.Ty.{Ty}
use Rattle.nwq_value.specs.declared.engine.Const.{Const}
use Rattle.typing_rules.specs.declared.expressions.Expression.{Expression}
use Rattle.typing_rules.specs.declared.places.Variable.{Variable}
use Rattle.typing_rules.specs.Reading.{plain}
use Rattle.typing_rules.specs.UnitReading.{typed_stmt, typed_stmts}
use Rattle.typing_rules.specs.Typed.{TypedExpr, type_of}
use Rattle.typing_rules.specs.Cells.{Structs, cells}
use Rattle.emission_rules.specs.Layout.{Layout, declared_cells}
use Rattle.code_places.specs.declared.frame.Frame.{Frame}
use Rattle.code_places.specs.declared.seek.Seek.{Seek}
use Rattle.code_places.specs.Numbers.{Number, behind_stmt}
use Rattle.code_places.specs.Marks.{mark_if, some, deeper, marks, test_marks, stmt_marks, stmts_marks}
use Rattle.code_places.specs.Seeking.{sought}
use Rattle.code_places.proofs.Seeking.{parts}

abbrev pub S : Type 0
S = Stmt Expression Const Ty Variable

pub stmt_known : (l : Layout) (f : Frame) (k : Number) (the : S) (p : PlainStmt Expression Const Ty Variable) (s t : Seek) → tree_of_stmt the ≡ p
    → t ≡ sought (stmt_marks l f k (map_stmt plain p)) s → t ≡ sought (stmt_marks l f k (typed_stmt the)) s
stmt_known l f k the p s t e h = h ∙ ap (λ z. sought (stmt_marks l f k (map_stmt plain z)) s) (sym e)

pub test_known : (k : Number) (the : S) (p : PlainStmt Expression Const Ty Variable) (s t : Seek) → tree_of_stmt the ≡ p
    → t ≡ sought (test_marks k (map_stmt plain p)) s → t ≡ sought (test_marks k (typed_stmt the)) s
test_known k the p s t e h = h ∙ ap (λ z. sought (test_marks k (map_stmt plain z)) s) (sym e)

pub expr_at : (l : Layout) (k j : Number) (p : TypedExpr) (s t : Seek) → k ≡ j → t ≡ sought (marks l k p) s → t ≡ sought (marks l j p) s
expr_at l k j p s t e h = h ∙ ap (λ n. sought (marks l n p) s) e

pub stmt_at : (l : Layout) (f g : Frame) (k j : Number) (x y : S) (s t : Seek) → f ≡ g → x ≡ y → k ≡ j → t ≡ sought (stmt_marks l f k (typed_stmt x)) s
    → t ≡ sought (stmt_marks l g j (typed_stmt y)) s
stmt_at l f g k j x y s t d e is h =
    h ∙ (ap (λ v. sought (stmt_marks l v k (typed_stmt x)) s) d ∙ ap₂ (λ n z. sought (stmt_marks l g n (typed_stmt z)) s) is e)

pub stmts_at : (l : Layout) (f g : Frame) (k j : Number) (xs ys : List S) (s t : Seek) → f ≡ g → xs ≡ ys → k ≡ j → t ≡ sought (stmts_marks l f k (typed_stmts xs)) s
    → t ≡ sought (stmts_marks l g j (typed_stmts ys)) s
stmts_at l f g k j xs ys s t d e is h =
    h ∙ (ap (λ v. sought (stmts_marks l v k (typed_stmts xs)) s) d ∙ ap₂ (λ n z. sought (stmts_marks l g n (typed_stmts z)) s) is e)

pub if_at : (b d : Bool) (size : ℕ) (k : Number) (s t : Seek) → b ≡ d → t ≡ sought (mark_if b size k) s → t ≡ sought (mark_if d size k) s
if_at b d size k s t e h = h ∙ ap (λ z. sought (mark_if z size k) s) e

pub typed_cells : (c : Structs) (ty : Ty) (p : TypedExpr) (b : Bool) → b ≡ some (cells c ty) → ty ≡ type_of p → b ≡ some (cells c (type_of p))
typed_cells c ty p b e f = e ∙ ap (λ z. some (cells c z)) f

-- one statement of a row
pub stmt_done : (l : Layout) (f g : Frame) (k j : Number) (b : Bool) (x : S) (ys : List S) (s t : Seek) → t ≡ sought (stmt_marks l f k (typed_stmt x)) s
    → b ≡ some (declared_cells l.structs (typed_stmt x)) → g ≡ deeper f b → j ≡ behind_stmt k (typed_stmt x)
    → sought (stmts_marks l f k (typed_stmts (x ∷ ys))) s ≡ sought (stmts_marks l g j (typed_stmts ys)) t
stmt_done l f g k j b x ys s t put declared deep number =
    ap (λ zs. sought (stmts_marks l f k (map_stmts plain zs)) s) (stmts_more x ys)
    ∙ sym (parts s (stmt_marks l f k (typed_stmt x)) (stmts_marks l (deeper f (some (declared_cells l.structs (typed_stmt x)))) (behind_stmt k (typed_stmt x)) (typed_stmts ys)) put
    (ap₂ (λ v n. sought (stmts_marks l v n (typed_stmts ys)) t) (deep ∙ ap (deeper f) declared) number))
