-- Statements and parameters only add to what stands in sight.
use Rattle.std.proofs.Common.{◌≡◌, ◌∙◌, refl, sym, ap, ℕ, List, [], ◌∷◌, ◌++◌, length, take, Option, append_assoc, append-nil}
use Rattle.nss_tree.specs.Statements as stmt
use Rattle.nss_tree.specs.Source.{SourceDeclared, SourceStmt}
use Rattle.nwq_value.specs.declared.value.Ty.{Ty}
use Rattle.typing_rules.specs.Sight.{Entry, Labels, Sight, declared, declaration_seen}
use Rattle.typing_rules.specs.Verdicts.{after, after_names, line_type, parameter_declared}
use Rattle.typing_rules.specs.Scopes.{OnlyAdds, StatementsOnlyAdd, ParametersOnlyAdd, NamesStandFirst}

-- the same names, and the rest as it may change
same : (c : Sight) (n f : ℕ) (l : Option Labels) → OnlyAdds c (record c { next = n; frame = f; labels = l })
same c n f l = record { more = []; names = sym (append-nil c.names); others = refl }

chain : (c d e : Sight) → OnlyAdds c d → OnlyAdds d e → OnlyAdds c e
chain c d e g h = record {
  more = g.more ++ h.more;
  names = h.names ∙ (ap (λ (xs : List Entry). xs ++ h.more) g.names ∙ append_assoc c.names g.more h.more);
  others = h.others ∙ ap (λ (x : Sight). record x { names = e.names; next = e.next; frame = e.frame; labels = e.labels }) g.others;
}

declared_adds : (c : Sight) (x : List ℕ) (t : Option Ty) → OnlyAdds c (declared c x t)
declared_adds c x t = record { more = _ ∷ []; names = refl; others = refl }

names_add : (c : Sight) (t : Option Ty) (ds : List SourceDeclared) → OnlyAdds c (after_names c t ds)
names_add c t [] = same c c.next c.frame c.labels
names_add c t (d ∷ ds) = chain c (declared c d.name t) _ (declared_adds c d.name t) (names_add (declared c d.name t) t ds)

stmt_adds : (c : Sight) (x : SourceStmt) → OnlyAdds c (after c x)
stmt_adds c (stmt.block n xs) = same c _ c.frame c.labels
stmt_adds c (stmt.empty n) = same c c.next c.frame c.labels
stmt_adds c (stmt.expression n x) = same c c.next c.frame c.labels
stmt_adds c (stmt.if_only n x a) = same c _ c.frame c.labels
stmt_adds c (stmt.if_else n x a b) = same c _ c.frame c.labels
stmt_adds c (stmt.while_loop n x a) = same c _ c.frame c.labels
stmt_adds c (stmt.do_loop n a x) = same c _ c.frame c.labels
stmt_adds c (stmt.for_loop n x y z a) = same c _ c.frame c.labels
stmt_adds c (stmt.switch n x xs) = same c _ c.frame c.labels
stmt_adds c (stmt.break_off n) = same c c.next c.frame c.labels
stmt_adds c (stmt.continue_on n) = same c c.next c.frame c.labels
stmt_adds c (stmt.return_from n x) = same c c.next c.frame c.labels
stmt_adds c (stmt.declaration n t ds) =
    let d = after_names c (line_type c.structs t) ds in
    chain c d (declaration_seen d) (names_add c (line_type c.structs t) ds) (same d d.next d.frame _)
stmt_adds c (stmt.case_label n k) = same c c.next c.frame _
stmt_adds c (stmt.default_label n) = same c c.next c.frame _

pub statements_only_add : StatementsOnlyAdd
statements_only_add c stmt.no_stmt = same c c.next c.frame c.labels
statements_only_add c (stmt.more_stmts x xs) = chain c (after c x) _ (stmt_adds c x) (statements_only_add (after c x) xs)

pub parameters_only_add : ParametersOnlyAdd
parameters_only_add c [] = same c c.next c.frame c.labels
parameters_only_add c (p ∷ ps) = chain c (parameter_declared c p) _ (declared_adds c p.name _) (parameters_only_add (parameter_declared c p) ps)

take_first : (xs ys : List Entry) → take (length xs) (xs ++ ys) ≡ xs
take_first [] ys = refl
take_first (x ∷ xs) ys = ap (λ (zs : List Entry). x ∷ zs) (take_first xs ys)

pub names_stand_first : NamesStandFirst
names_stand_first c d g = ap (take (length c.names)) g.names ∙ take_first c.names g.more
