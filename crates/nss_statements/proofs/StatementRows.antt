-- Statements in a row.
use Rattle.std.proofs.Common.{◌≡◌, ℕ, List, [], ◌∷◌, Option, None, Some, refl, ap, ◌∙◌}
use Rattle.std.specs.Option.{option_map}
use Rattle.nss_tree.specs.declared.constants.Constant.{Constant}
use Rattle.nss_tree.specs.declared.constants.TypeName.{TypeName}
use Rattle.nss_tree.specs.declared.expressions.Expr.{Expr}
use Rattle.nss_tree.specs.declared.statements.Stmt.{Stmt}
use Rattle.nss_tree.specs.Reading.{plain_expr, plain_stmt, plain_stmts}
use Rattle.nss_tree.specs.Readings.{stmts_more, map_stmts_none, map_stmts_push}
use Rattle.nss_tree.specs.Statements.{joined_stmts, map_stmts, more_stmts, no_stmt}
use Rattle.nwq_value.specs.declared.value.Ty.{Ty}
use Rattle.nwq_value.specs.declared.engine.Const.{Const}
use Rattle.typing_rules.specs.declared.expressions.Expression.{Expression}
use Rattle.typing_rules.specs.declared.places.Variable.{Variable}
use Rattle.typing_rules.specs.Nodes.{fine}
use Rattle.typing_rules.specs.Reading.{plain}
use Rattle.typing_rules.specs.Sight.{Head, Sight}
use Rattle.typing_rules.specs.Typed.{TypedStmts}
use Rattle.typing_rules.specs.UnitReading.{typed_stmt, typed_stmts}
use Rattle.typing_rules.specs.Verdicts.{after, afters, one_more_stmt, stmt_faults, stmt_verdict, stmts_faults, stmts_fine}
use Rattle.nss_expressions.specs.Rows.{and_one, stmts_with_rest}
use Rattle.nss_expressions.specs.RowLaws.{RowLaws}

joined_more : (xs : TypedStmts) (x : _) (ys : TypedStmts) → joined_stmts (joined_stmts xs (more_stmts x no_stmt)) ys ≡ joined_stmts xs (more_stmts x ys)
joined_more no_stmt x ys = refl
joined_more (more_stmts z xs) x ys = ap (more_stmts z) (joined_more xs x ys)

joined_none : (xs : TypedStmts) → joined_stmts xs no_stmt ≡ xs
joined_none no_stmt = refl
joined_none (more_stmts x xs) = ap (more_stmts x) (joined_none xs)

stmts_begin : (rest : Option TypedStmts) → stmts_with_rest (option_map typed_stmts (Some [])) rest ≡ rest
stmts_begin rest = ap (λ ts. stmts_with_rest (Some ts) rest) (map_stmts_none plain) ∙ by rest
  where
    by : (rest : Option TypedStmts) → stmts_with_rest (Some no_stmt) rest ≡ rest
    by None = refl
    by (Some ys) = refl

stmts_step : (all : Option (List (Stmt Expression Const Ty Variable))) (x : Option (Stmt Expression Const Ty Variable)) (rest : Option TypedStmts)
    → stmts_with_rest (option_map typed_stmts (and_one all x)) rest ≡ stmts_with_rest (option_map typed_stmts all) (one_more_stmt (option_map typed_stmt x) rest)
stmts_step None x rest = refl
stmts_step (Some xs) None rest = refl
stmts_step (Some xs) (Some x) None = refl
stmts_step (Some xs) (Some x) (Some ys) =
    ap Some (ap (λ ts. joined_stmts ts ys) (map_stmts_push plain xs x) ∙ joined_more (typed_stmts xs) (typed_stmt x) ys)

stmts_end : (all : Option TypedStmts) → stmts_with_rest all (Some no_stmt) ≡ all
stmts_end None = refl
stmts_end (Some xs) = ap Some (joined_none xs)

none : plain_stmts [] ≡ no_stmt
none = map_stmts_none plain_expr

more : (x : Stmt Expr Constant TypeName (List ℕ)) (xs : List (Stmt Expr Constant TypeName (List ℕ))) → plain_stmts (x ∷ xs) ≡ more_stmts (plain_stmt x) (plain_stmts xs)
more x xs = ap (map_stmts plain_expr) (stmts_more x xs)

pub stmt_laws : (hs : List Head) → RowLaws (option_map typed_stmts) (option_map typed_stmt) one_more_stmt stmts_with_rest
    (λ (c : Sight) (x : Stmt Expr Constant TypeName (List ℕ)). after c (plain_stmt x))
    (λ c x. fine (stmt_verdict hs c (plain_stmt x)))
    (λ c x. stmt_faults hs c (plain_stmt x))
    (λ c xs. stmts_fine hs c (plain_stmts xs))
    (λ c xs. stmts_faults hs c (plain_stmts xs))
    (λ c xs. afters c (plain_stmts xs))
stmt_laws hs = record {
  begin = stmts_begin;
  step = stmts_step;
  end = λ all c. ap (λ ts. stmts_with_rest (option_map typed_stmts all) (stmts_fine hs c ts)) none ∙ stmts_end (option_map typed_stmts all);
  fine_more = λ c x xs. ap (stmts_fine hs c) (more x xs);
  faults_more = λ c x xs. ap (stmts_faults hs c) (more x xs);
  faults_none = λ c. ap (stmts_faults hs c) none;
  after_more = λ c x xs. ap (afters c) (more x xs);
  after_none = λ c. ap (afters c) none;
}

pub stmts_first : (first : List (Stmt Expression Const Ty Variable)) (rest : Option TypedStmts) → first ≡ [] → stmts_with_rest (Some (typed_stmts first)) rest ≡ rest
stmts_first first rest is = ap (λ xs. stmts_with_rest (Some (typed_stmts xs)) rest) is ∙ stmts_begin rest
