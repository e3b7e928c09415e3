-- What stands in rows.
use Rattle.std.proofs.Common.{◌≡◌, ℕ, ◌+◌, ◌<◌, List, [], ◌∷◌, ◌++◌, length, drop, get_or, map, Option, Bool, refl, sym, ap, ◌∙◌}
use Rattle.std.specs.Option.{option_map}
use Rattle.std.proofs.lemmas.List.{at_drop_more}
use Rattle.nss_tree.specs.declared.constants.Constant.{Constant}
use Rattle.nss_tree.specs.declared.constants.TypeName.{TypeName}
use Rattle.nss_tree.specs.declared.expressions.Expr.{Expr}
use Rattle.nss_tree.specs.declared.statements.DeclaredName.{DeclaredName}
use Rattle.nss_tree.specs.declared.statements.Stmt.{Stmt}
use Rattle.nss_tree.specs.declared.units.Item.{Item}
use Rattle.nss_tree.specs.Reading.{plain_expr, plain_name, plain_names, plain_stmt, plain_stmts, plain_item}
use Rattle.nss_tree.specs.Readings.{stmts_more, map_stmts_none}
use Rattle.nss_tree.specs.Source.{SourceLine, SourceParameter}
use Rattle.nss_tree.specs.Statements.{map_stmts, more_stmts, no_stmt}
use Rattle.nwq_value.specs.declared.value.Ty.{Ty}
use Rattle.typing_rules.specs.Sight.{Head, Sight, Structure, declared}
use Rattle.typing_rules.specs.Verdicts.{after, afters, after_names, after_item, after_items, after_params, late_after, parameter_declared}
use Rattle.expression_reasons.specs.Reasons.{nodes_there, value_nodes}
use Rattle.nss_reasons.specs.Reasons.{variable_why, names_nodes, stmt_nodes, stmts_nodes, parameter_why, params_nodes, fields_nodes, item_nodes, items_nodes}
use Rattle.expression_reasons.specs.Seen.{own}
use Rattle.nss_reasons.specs.Why.{line_why}
use Rattle.expression_reasons.specs.Rows.{RowLaws}

pub name_laws : (hs : List Head) (ty : Option Ty) → RowLaws
    (λ (c : Sight) (d : DeclaredName Expr (List ℕ)). declared c d.name ty)
    (λ c d. nodes_there (value_nodes hs c) (option_map plain_expr d.value) ++ own d.token (variable_why hs c ty (plain_name d)))
    (λ c ds. names_nodes hs c ty (plain_names ds))
    (λ c ds. after_names c ty (plain_names ds))
name_laws hs ty = record {
  nodes_more = λ c d ds. refl;
  nodes_none = λ c. refl;
  after_more = λ c d ds. refl;
  after_none = λ c. refl;
}

none : plain_stmts [] ≡ no_stmt
none = map_stmts_none plain_expr

more : (x : Stmt Expr Constant TypeName (List ℕ)) (xs : List (Stmt Expr Constant TypeName (List ℕ))) → plain_stmts (x ∷ xs) ≡ more_stmts (plain_stmt x) (plain_stmts xs)
more x xs = ap (map_stmts plain_expr) (stmts_more x xs)

pub stmt_laws : (hs : List Head) → RowLaws
    (λ (c : Sight) (x : Stmt Expr Constant TypeName (List ℕ)). after c (plain_stmt x))
    (λ c x. stmt_nodes hs c (plain_stmt x))
    (λ c xs. stmts_nodes hs c (plain_stmts xs))
    (λ c xs. afters c (plain_stmts xs))
stmt_laws hs = record {
  nodes_more = λ c x xs. ap (stmts_nodes hs c) (more x xs);
  nodes_none = λ c. ap (stmts_nodes hs c) none;
  after_more = λ c x xs. ap (afters c) (more x xs);
  after_none = λ c. ap (afters c) none;
}

pub item_laws : (hs : List Head) → RowLaws
    (λ (c : Sight) (x : Item Expr Constant TypeName (List ℕ)). after_item c (plain_item x))
    (λ c x. item_nodes hs c (plain_item x))
    (λ c xs. items_nodes hs c (map plain_item xs))
    (λ c xs. after_items c (map plain_item xs))
item_laws hs = record {
  nodes_more = λ c x xs. refl;
  nodes_none = λ c. refl;
  after_more = λ c x xs. refl;
  after_none = λ c. refl;
}

-- lines of fields, before which the same structs stand
pub field_laws : RowLaws
    (λ (structs : List Structure) (l : SourceLine). structs)
    (λ structs l. own l.token (line_why structs l.ty))
    fields_nodes
    (λ structs ls. structs)
field_laws = record {
  nodes_more = λ c l ls. refl;
  nodes_none = λ c. refl;
  after_more = λ c l ls. refl;
  after_none = λ c. refl;
}

abbrev late_all : Bool → List SourceParameter → Bool
late_all late [] = late
late_all late (p ∷ ps) = late_all (late_after late p) ps

pub param_laws : RowLaws
    (λ (c : Sight × Bool) (p : SourceParameter). (parameter_declared c.0 p, late_after c.1 p))
    (λ c p. own p.token (parameter_why c.0 c.1 p))
    (λ c ps. params_nodes c.0 c.1 ps)
    (λ c ps. (after_params c.0 ps, late_all c.1 ps))
param_laws = record {
  nodes_more = λ c p ps. refl;
  nodes_none = λ c. refl;
  after_more = λ c p ps. refl;
  after_none = λ c. refl;
}

pub pair_is : {A B : Type 0} (a c : A) (b d : B) → a ≡ c → b ≡ d → ◌≡◌ {A = A × B} (a, b) (c, d)
pair_is a c b d first second = ap (λ x. (x, b)) first ∙ ap (λ y. (c, y)) second

pub params_sight : (ps : List SourceParameter) (i : ℕ) (d p : SourceParameter) → i < length ps → p ≡ get_or ps i d → (c c' : Sight) → c' ≡ parameter_declared c p
    → (whole : Sight) → after_params c (drop i ps) ≡ whole → after_params c' (drop (i + 1) ps) ≡ whole
params_sight ps i d p lt is c c' next whole so_far =
    ap (λ s. after_params s (drop (i + 1) ps)) next
    ∙ (ap (λ y. after_params c (y ∷ drop (i + 1) ps)) is ∙ (sym (at_drop_more (after_params c) ps i d lt) ∙ so_far))
