-- What is read as a statement is spelled so, what stops is a prefix of one, and the depth lasts.
use Rattle.std.proofs.Common.{◌≡◌, ℕ, zero, suc, ◌+◌, ◌<◌, ◌≤◌, Bool, true, false, ◌⊎◌, inl, inr, List, [], ◌∷◌, ◌++◌, length, None, Some, refl, sym, ap, subst, ◌∙◌, arith, append_assoc, append-nil}
use Rattle.std.specs.Int.{cast_signed, w32}
use Rattle.nss_tree.specs.Source.{SourceStmt, SourceStmts}
use Rattle.nss_tree.specs.declared.constants.TypeName.TheVariants as type
use Rattle.nss_tree.specs.Expressions as tree
use Rattle.nss_tree.specs.Expressions.{PlainExpr}
use Rattle.nss_tree.specs.Statements as stmt
use Rattle.nss_tree.specs.Statements.{joined_stmts}
use Rattle.nss_symbols.specs.declared.terminal.Terminal.{Terminal}
use Rattle.nss_symbols.specs.declared.terminal.Terminal.TheVariants as terminal
use Rattle.nss_symbols.specs.Symbols as symbol
use Rattle.nss_symbols.specs.Symbols.{Symbol, Numbered, at, fixed}
use Rattle.nss_symbols.specs.Outcome.{Parser, branch, same_terminal, sees, first, take, here}
use Rattle.nss_parser.specs.ReadStatement.{type_begins, condition, optional, declaration, case_label, default_label, expression_statement, break_statement, continue_statement, return_statement}
use Rattle.nss_parser.specs.ReadStatement.{labelled, entry, entries_from, entries, block, after_then, if_statement, while_statement, do_statement, for_statement, switch_statement, statement_by}
use Rattle.nss_parser.specs.ReadStatement.{some_statement, statement}
use Rattle.nss_parser.specs.Grammar.{Expression, Optional, ConstantTokens, DeclaredNames, ends_open, Statement, Entry, Entries}
use Rattle.nss_parser.specs.Grammar as grammar
use Rattle.nss_parser.proofs.ExpressionFacts.{starts_length, starts_expression}
use Rattle.nss_parser.proofs.ExpressionRight.{right_level, zero_expression}
use Rattle.nss_parser.proofs.DeclarationRight.{then_typed, right_constant, right_declared_names}
use Rattle.nss_parser.proofs.StatementComplete.{begins_entry, starts_entry, joined_none, joined_next}
use Rattle.nss_parser.proofs.Right.{Right, right_got, right_pure, right_stuck, right_deep, then, then_fixed, right_as, right_choice, after_take, then_expect, Viable, viable_then, viable_as}
use Rattle.nss_parser.proofs.Right.{viable_done, viable_under, rest_length}
use Rattle.nss_parser.proofs.Completions.{by_name, by_terminal, by_zero, some_name}

-- A statement that ends in an `if` without `else` is not followed by `else`: reading takes each
-- that it sees.
abbrev pub ElseFree : SourceStmt → List Numbered → Type 0
ElseFree s rest = sees terminal.Else rest ≡ true → ends_open s ≡ false

else_seen : (c : ℕ) (r : List Numbered) → sees terminal.Else (fixed c terminal.Else ∷ r) ≡ true
unfolding first same_terminal
else_seen c r = refl

-- an expression in parentheses
data Condition : PlainExpr → List Numbered → Type 0 where
  inside : {x : PlainExpr} {xs : List Numbered} (a b : ℕ) → Expression x xs → Condition x (fixed a terminal.Open ∷ (xs ++ fixed b terminal.Close ∷ []))

if_from : (n : ℕ) {x : PlainExpr} {cs : List Numbered} {s : SourceStmt} {ss : List Numbered} → Condition x cs → Statement s ss → Statement (stmt.if_only n x s) (fixed n terminal.If ∷ (cs ++ ss))
if_from n {x} {cs} {s} {ss} (inside {xs = xs} a b h) t =
    subst (λ (z : List Numbered). Statement (stmt.if_only n x s) (fixed n terminal.If ∷ fixed a terminal.Open ∷ z)) (sym (append_assoc xs (fixed b terminal.Close ∷ []) ss)) (grammar.if_only n a b h t)

else_from : (n c : ℕ) {x : PlainExpr} {cs : List Numbered} {s t : SourceStmt} {ss ts : List Numbered} → Condition x cs → Statement s ss → ends_open s ≡ false → Statement t ts
    → Statement (stmt.if_else n x s t) (fixed n terminal.If ∷ (cs ++ (ss ++ fixed c terminal.Else ∷ ts)))
else_from n c {x} {cs} {s} {t} {ss} {ts} (inside {xs = xs} a b h) p shut q =
    subst (λ (z : List Numbered). Statement (stmt.if_else n x s t) (fixed n terminal.If ∷ fixed a terminal.Open ∷ z))
    (sym (append_assoc xs (fixed b terminal.Close ∷ []) (ss ++ fixed c terminal.Else ∷ ts)))
    (grammar.if_else n a b c h p shut q)

while_from : (n : ℕ) {x : PlainExpr} {cs : List Numbered} {s : SourceStmt} {ss : List Numbered} → Condition x cs
    → Statement s ss → Statement (stmt.while_loop n x s) (fixed n terminal.While ∷ (cs ++ ss))
while_from n {x} {cs} {s} {ss} (inside {xs = xs} a b h) t =
    subst (λ (z : List Numbered). Statement (stmt.while_loop n x s)
    (fixed n terminal.While ∷ fixed a terminal.Open ∷ z)) (sym (append_assoc xs (fixed b terminal.Close ∷ []) ss))
    (grammar.while_loop n a b h t)

do_from : (n a f : ℕ) {s : SourceStmt} {ss : List Numbered} {x : PlainExpr} {cs : List Numbered} → Statement s ss
    → Condition x cs → Statement (stmt.do_loop n s x)
    (fixed n terminal.Do ∷ (ss ++ fixed a terminal.While ∷ (cs ++ fixed f terminal.Semicolon ∷ [])))
do_from n a f {s} {ss} {x} {cs} t (inside {xs = xs} b c h) =
    subst (λ (z : List Numbered). Statement (stmt.do_loop n s x)
    (fixed n terminal.Do ∷ (ss ++ fixed a terminal.While ∷ fixed b terminal.Open ∷ z)))
    (sym (append_assoc xs (fixed c terminal.Close ∷ []) (fixed f terminal.Semicolon ∷ [])))
    (grammar.do_loop n a b c f t h)

switch_from : (n c f : ℕ) {x : PlainExpr} {cs : List Numbered} {all : SourceStmts} {ys : List Numbered} → Condition x cs → Entries true all ys
    → Statement (stmt.switch n x all) (fixed n terminal.Switch ∷ (cs ++ fixed c terminal.OpenBrace ∷ (ys ++ fixed f terminal.CloseBrace ∷ [])))
switch_from n c f {x} {cs} {all} {ys} (inside {xs = xs} a b h) es =
    subst (λ (z : List Numbered). Statement (stmt.switch n x all) (fixed n terminal.Switch ∷ fixed a terminal.Open ∷ z))
    (sym (append_assoc xs (fixed b terminal.Close ∷ [])
    (fixed c terminal.OpenBrace ∷ (ys ++ fixed f terminal.CloseBrace ∷ [])))) (grammar.switch n a b c f h es)

-- what stands in braces, with the `}`
pub data Braced (labels : Bool) : SourceStmts → List Numbered → Type 0 where
  braced : {all : SourceStmts} {xs : List Numbered} (k : ℕ) → Entries labels all xs → Braced labels all (xs ++ fixed k terminal.CloseBrace ∷ [])

braced_more : {labels : Bool} {s : SourceStmt} {xs : List Numbered} → Entry labels s xs
    → {all : SourceStmts} {ys : List Numbered} → Braced labels all ys → Braced labels (stmt.more_stmts s all) (xs ++ ys)
braced_more {labels} {s} {xs} h {all} {ys} (braced {xs = ws} k es) =
    subst (λ (z : List Numbered). Braced labels (stmt.more_stmts s all) z) (append_assoc xs ws (fixed k terminal.CloseBrace ∷ [])) (braced k (grammar.more h es))

block_from : (n : ℕ) {all : SourceStmts} {ys : List Numbered} → Braced false all ys → Statement (stmt.block n all) (fixed n terminal.OpenBrace ∷ ys)
block_from n (braced k es) = grammar.block n k es

switch_braced : (n c : ℕ) {x : PlainExpr} {cs : List Numbered} {all : SourceStmts} {ys : List Numbered} → Condition x cs → Braced true all ys
    → Statement (stmt.switch n x all) (fixed n terminal.Switch ∷ (cs ++ fixed c terminal.OpenBrace ∷ ys))
switch_braced n c h (braced k es) = switch_from n c k h es

-- the prefixes of statements after a part of theirs
right_condition : (d : ℕ) (i : List Numbered) → Right (λ x cs rest. Condition x cs) (Viable Condition) (d ≤ length i) i (condition d i)
unfolding condition
right_condition d i =
    then_expect terminal.Open i
    (λ a r e. then_fixed terminal.Close (right_level d 0 (omega arith) r)
    (λ x xs rest b z h e' is. right_pure (inside a b h.0))
    (λ x xs rest h. viable_done Expression x xs h.0)
    (λ xs v. viable_then Expression (λ x ys. Condition x (fixed a terminal.Open ∷ ys)) xs (by_terminal terminal.Close ∷ []) v (λ x ys k h. (x, inside a k h)))
    (λ deep. let shorter : length i ≡ suc (length r) = ap length e in omega arith))
    (λ n. (by_terminal terminal.Open ∷ by_zero ∷ by_terminal terminal.Close ∷ [], tree.int (n + 1) (cast_signed w32 0), inside n (n + 1 + 1) (zero_expression (n + 1))))

right_optional : (d : ℕ) (m : Terminal) (i : List Numbered) → Right (λ x xs rest. Optional x xs) (Viable Optional) (d ≤ length i) i (optional d m i)
unfolding optional
right_optional d m i =
    right_choice m i _ _
    (λ k r e. right_pure grammar.absent)
    (λ other. then (right_level d 0 (omega arith) i)
    (λ x xs rest h is. right_pure (subst (λ (z : List Numbered). Optional (Some x) z) (sym (append-nil xs)) (grammar.present h.0)))
    (λ xs v. viable_as Expression Optional xs v (λ x ys h. (Some x, grammar.present h)))
    (λ deep. deep))

right_break : (i : List Numbered) (n : ℕ) (r : List Numbered) → i ≡ fixed n terminal.Break ∷ r → Right (λ s xs rest. Statement s xs × ElseFree s rest) (Viable Statement) ⊥ i (break_statement i)
unfolding break_statement
right_break i n r e =
    after_take _ n (symbol.Fixed terminal.Break) r e
    (then_expect terminal.Semicolon r (λ k z e'. right_pure (grammar.break_off n k, λ h. refl)) (λ j. (by_terminal terminal.Semicolon ∷ [], stmt.break_off n, grammar.break_off n j)))

right_continue : (i : List Numbered) (n : ℕ) (r : List Numbered) → i ≡ fixed n terminal.Continue ∷ r
    → Right (λ s xs rest. Statement s xs × ElseFree s rest) (Viable Statement) ⊥ i (continue_statement i)
unfolding continue_statement
right_continue i n r e =
    after_take _ n (symbol.Fixed terminal.Continue) r e
    (then_expect terminal.Semicolon r (λ k z e'. right_pure (grammar.continue_on n k, λ h. refl)) (λ j. (by_terminal terminal.Semicolon ∷ [], stmt.continue_on n, grammar.continue_on n j)))

right_return : (d : ℕ) (i : List Numbered) (n : ℕ) (r : List Numbered) → i ≡ fixed n terminal.Return ∷ r
    → Right (λ s xs rest. Statement s xs × ElseFree s rest) (Viable Statement) (d ≤ length r) i (return_statement d i)
unfolding return_statement
right_return d i n r e =
    after_take _ n (symbol.Fixed terminal.Return) r e
    (then_fixed terminal.Semicolon (right_optional d terminal.Semicolon r)
    (λ x xs rest k z h e' is. right_pure (grammar.return_from n k h, λ h. refl))
    (λ x xs rest h. viable_done Optional x xs h)
    (λ xs v. viable_then Optional (λ s ys. Statement s (fixed n terminal.Return ∷ ys)) xs (by_terminal terminal.Semicolon ∷ []) v (λ x ys k h. (stmt.return_from n x, grammar.return_from n k h)))
    (λ deep. deep))

-- the first token of an expression is that of the tokens that it begins
first_of_expression : (n : ℕ) (s : Symbol) (r : List Numbered) {x : PlainExpr} (xs rest : List Numbered) (k : ℕ)
    → Expression x xs → at n s ∷ r ≡ xs ++ rest
    → Statement (stmt.expression n x) (xs ++ fixed k terminal.Semicolon ∷ [])
first_of_expression n s r [] rest k h e = absurd (starts_expression h)
first_of_expression n s r {x} (y ∷ ys) rest k h e =
    let same : y.number ≡ n = ap (λ (l : List Numbered). number_at l) (sym e) in
    subst (λ (z : ℕ). Statement (stmt.expression z x) ((y ∷ ys) ++ fixed k terminal.Semicolon ∷ [])) same (grammar.expression y.number k y.symbol h)
  where
    number_at : List Numbered → ℕ
    number_at [] = 0
    number_at (z ∷ zs) = z.number

statement_from : {x : PlainExpr} (xs : List Numbered) (k : ℕ) → Expression x xs → (s : SourceStmt) × Statement s (xs ++ fixed k terminal.Semicolon ∷ [])
statement_from [] k h = absurd (starts_expression h)
statement_from {x} (y ∷ ys) k h = (stmt.expression y.number x, grammar.expression y.number k y.symbol h)

right_expression_statement : (d n : ℕ) (s : Symbol) (r : List Numbered)
    → Right (λ v xs rest. Statement v xs × ElseFree v rest) (Viable Statement) (d ≤ length (at n s ∷ r)) (at n s ∷ r) (expression_statement d (at n s ∷ r))
unfolding expression_statement here
right_expression_statement d n s r =
    then_fixed terminal.Semicolon (right_level d 0 (omega arith) (at n s ∷ r))
    (λ x xs rest k z h e is. right_pure (first_of_expression n s r xs rest k h.0 is, λ g. refl))
    (λ x xs rest h. viable_done Expression x xs h.0)
    (λ xs v. viable_then Expression Statement xs (by_terminal terminal.Semicolon ∷ []) v (λ x ys k h. statement_from ys k h))
    (λ deep. deep)

-- a statement to complete a prefix with
no_statement : Viable Statement []
no_statement n = (by_terminal terminal.Semicolon ∷ [], stmt.empty n, grammar.empty n)

no_entry : (labels : Bool) → Viable (Entry labels) []
no_entry labels n = (by_terminal terminal.Semicolon ∷ [], stmt.empty n, grammar.statement (grammar.empty n))

right_declaration : (d : ℕ) (labels : Bool) (i : List Numbered) → Right (λ s xs rest. Entry labels s xs) (Viable (Entry labels)) (d ≤ length i) i (declaration d i)
unfolding declaration
right_declaration d labels i =
    then_typed _ i
    (λ n t ts rest h is.
    then_fixed terminal.Semicolon (right_declared_names d rest)
    (λ all xs rest2 k z names e is2. right_pure (grammar.declaration n k h names))
    (λ all xs rest2 names. viable_done DeclaredNames all xs names)
    (λ xs v. viable_under (Entry labels) ts xs
    (viable_then DeclaredNames (λ s ys. Entry labels s (ts ++ ys)) xs (by_terminal terminal.Semicolon ∷ []) v (λ all ys k names. (stmt.declaration n t all, grammar.declaration n k h names))))
    (λ deep. omega (arith, rest_length i ts rest is)))
    (no_entry labels)
    (λ n k. (
      by_name ∷ by_name ∷ by_terminal terminal.Semicolon ∷ [],
      stmt.declaration n (type.Struct some_name) (record { token = k + 1; name = some_name; value = None } ∷ []),
      grammar.declaration n (k + 1 + 1) (grammar.structure n k some_name) (grammar.one (grammar.bare (k + 1) some_name)),
    ))

right_case : (i : List Numbered) (n : ℕ) (r : List Numbered) → i ≡ fixed n terminal.Case ∷ r → Right (λ s xs rest. Entry true s xs) (Viable (Entry true)) ⊥ i (case_label i)
unfolding case_label
right_case i n r e =
    after_take _ n (symbol.Fixed terminal.Case) r e
    (then_fixed terminal.Colon (right_constant r)
    (λ c cs rest k z h e' is. right_pure (grammar.case_label n k h))
    (λ c cs rest h. viable_done ConstantTokens c cs h)
    (λ cs v. viable_then ConstantTokens (λ s ys. Entry true s (fixed n terminal.Case ∷ ys)) cs (by_terminal terminal.Colon ∷ []) v (λ c ys k h. (stmt.case_label n c, grammar.case_label n k h)))
    (λ bad. bad))

right_default : (i : List Numbered) (n : ℕ) (r : List Numbered) → i ≡ fixed n terminal.Default ∷ r → Right (λ s xs rest. Entry true s xs) (Viable (Entry true)) ⊥ i (default_label i)
unfolding default_label
right_default i n r e =
    after_take _ n (symbol.Fixed terminal.Default) r e
    (then_expect terminal.Colon r (λ k z e'. right_pure (grammar.default_label n k)) (λ j. (by_terminal terminal.Colon ∷ [], stmt.default_label n, grammar.default_label n j)))

module _ (d : ℕ) (inner : Parser SourceStmt)
    (right : (i : List Numbered) → Right (λ s xs rest. Statement s xs × ElseFree s rest) (Viable Statement) (d ≤ suc (length i)) i (inner i)) where
  right_plain : (labels : Bool) (i : List Numbered) → Right (λ s xs rest. Entry labels s xs) (Viable (Entry labels)) (d ≤ suc (length i)) i (inner i)
  right_plain labels i =
      right_as (right i) (λ s xs rest h. grammar.statement h.0) (λ xs v. viable_as Statement (Entry labels) xs v (λ s ys h. (s, grammar.statement h))) (λ deep. deep)

  right_labelled : (i : List Numbered) → Right (λ s xs rest. Entry true s xs) (Viable (Entry true)) (d ≤ suc (length i)) i (labelled d inner i)
  unfolding labelled
  right_labelled i =
      right_choice terminal.Case i _ _
      (λ n r e. right_as (right_case i n r e) (λ s xs rest h. h) (λ xs v. v) (λ bad. absurd bad))
      (λ other. right_choice terminal.Default i _ _
      (λ n r e. right_as (right_default i n r e) (λ s xs rest h. h) (λ xs v. v) (λ bad. absurd bad))
      (λ other. right_plain true i))

  right_entry_by : (labels b : Bool) (i : List Numbered)
      → Right (λ s xs rest. Entry labels s xs) (Viable (Entry labels)) (d ≤ suc (length i)) i
      (branch b (declaration d) (branch labels (labelled d inner) inner) i)
  right_entry_by labels true i = right_as (right_declaration d labels i) (λ s xs rest h. h) (λ xs v. v) (λ deep. omega arith)
  right_entry_by true false i = right_labelled i
  right_entry_by false false i = right_plain false i

  right_entry : (labels : Bool) (i : List Numbered) → Right (λ s xs rest. Entry labels s xs) (Viable (Entry labels)) (d ≤ suc (length i)) i (entry d inner labels i)
  unfolding entry
  right_entry labels i = right_entry_by labels (type_begins (first i)) i

  pub right_entries_from : (labels : Bool) (t : ℕ) (before : SourceStmts) (i : List Numbered)
      → Right (λ all xs rest. (more : SourceStmts) × (all ≡ joined_stmts before more) × Braced labels more xs)
      (Viable (Braced labels)) ((t ≤ length i) ⊎ (d ≤ suc (length i))) i (entries_from d inner labels t before i)
  right_entries_from labels zero before i = right_deep (inl (omega arith))
  right_entries_from labels (suc t) before i =
      right_choice terminal.CloseBrace i _ _
      (λ k r e. after_take _ k (symbol.Fixed terminal.CloseBrace) r e (right_pure (stmt.no_stmt, sym (joined_none before), braced k grammar.none)))
      (λ other. then (right_entry labels i)
      (λ s xs rest h is.
      let long : 0 < length xs = starts_length begins_entry xs (starts_entry h) in
      let lengths = rest_length i xs rest is in
      right_as (right_entries_from labels t (joined_stmts before (stmt.more_stmts s stmt.no_stmt)) rest)
      (λ all zs end q. let (more, same, p) = q in (stmt.more_stmts s more, same ∙ joined_next before more s, braced_more h p))
      (λ zs v. viable_under (Braced labels) xs zs (viable_as (Braced labels) (λ all ys. Braced labels all (xs ++ ys)) zs v (λ all ys p. (stmt.more_stmts s all, braced_more h p))))
      (λ deep. elim deep [ inl a ↦ inl (omega arith) | inr b ↦ inr (omega arith) ]))
      (λ xs v. viable_then (Entry labels) (Braced labels) xs (by_terminal terminal.CloseBrace ∷ []) v (λ s ys k h. (stmt.more_stmts s stmt.no_stmt, braced_more h (braced k grammar.none))))
      (λ deep. inr deep))

  pub right_entries : (labels : Bool) (i : List Numbered) → Right (λ all xs rest. Braced labels all xs) (Viable (Braced labels)) (d ≤ suc (length i)) i (entries d inner labels i)
  unfolding entries
  right_entries labels i =
      right_as (right_entries_from labels d stmt.no_stmt i)
      (λ all xs rest q. let (more, same, p) = q in subst (λ (z : SourceStmts). Braced labels z xs) (sym same) p)
      (λ xs v. v)
      (λ deep. elim deep [ inl a ↦ omega arith | inr b ↦ b ])

  right_block : (n : ℕ) (r : List Numbered)
      → Right (λ v xs rest. Statement v xs × ElseFree v rest) (Viable Statement)
      (d ≤ length (fixed n terminal.OpenBrace ∷ r)) (fixed n terminal.OpenBrace ∷ r)
      (block d inner (fixed n terminal.OpenBrace ∷ r))
  unfolding block
  right_block n r =
      after_take _ n (symbol.Fixed terminal.OpenBrace) r refl
      (then (right_entries false r)
      (λ all xs rest h is. right_pure (subst (λ (z : List Numbered). Statement (stmt.block n all) (fixed n terminal.OpenBrace ∷ z)) (sym (append-nil xs)) (block_from n h), λ g. refl))
      (λ xs v. viable_as (Braced false) (λ s ys. Statement s (fixed n terminal.OpenBrace ∷ ys)) xs v (λ all ys h. (stmt.block n all, block_from n h)))
      (λ deep. deep))

  right_after_then : (n : ℕ) (x : PlainExpr) (cs : List Numbered) (s : SourceStmt) (ss i : List Numbered) → Condition x cs → Statement s ss → ElseFree s i
      → Right (λ v vs rest. Statement v (fixed n terminal.If ∷ (cs ++ (ss ++ vs))) × ElseFree v rest)
      (λ vs. Viable Statement (fixed n terminal.If ∷ (cs ++ (ss ++ vs)))) (d ≤ length i) i
      (after_then d inner n x s i)
  unfolding after_then
  right_after_then n x cs s ss i condition_is then_is free =
      right_choice terminal.Else i _ _
      (λ c r e.
      let shut : ends_open s ≡ false = free (sees_else c r e) in
      after_take _ c (symbol.Fixed terminal.Else) r e
      (then (right r)
      (λ t ts rest h is. right_pure (
        subst (λ (z : List Numbered). Statement (stmt.if_else n x s t)
            (fixed n terminal.If ∷ (cs ++ (ss ++ fixed c terminal.Else ∷ z)))) (sym (append-nil ts))
            (else_from n c condition_is then_is shut h.0),
        h.1,
      ))
      (λ ts v. viable_under (λ w ys. Statement w (fixed n terminal.If ∷ ys)) cs (ss ++ fixed c terminal.Else ∷ ts)
      (viable_under (λ w ys. Statement w (fixed n terminal.If ∷ (cs ++ ys))) ss (fixed c terminal.Else ∷ ts)
      (viable_as Statement (λ w ys. Statement w (fixed n terminal.If ∷ (cs ++ (ss ++ fixed c terminal.Else ∷ ys)))) ts v
      (λ t ys h. (stmt.if_else n x s t, else_from n c condition_is then_is shut h)))))
      (λ deep. let shorter : length i ≡ suc (length r) = ap length e in omega arith)))
      (λ other. right_pure (
        subst
            (λ (z : List Numbered). Statement (stmt.if_only n x s) (fixed n terminal.If ∷ (cs ++ z)))
            (sym (append-nil ss)) (if_from n condition_is then_is),
        λ g. absurd
            (let bad : true ≡ false = sym g ∙ other in cc),
      ))
    where
      sees_else : (c : ℕ) (r : List Numbered) → i ≡ fixed c terminal.Else ∷ r → sees terminal.Else i ≡ true
      sees_else c r e = ap (sees terminal.Else) e ∙ else_seen c r

  right_if : (n : ℕ) (r : List Numbered)
      → Right (λ v xs rest. Statement v xs × ElseFree v rest) (Viable Statement) (d ≤ length (fixed n terminal.If ∷ r))
      (fixed n terminal.If ∷ r) (if_statement d inner (fixed n terminal.If ∷ r))
  unfolding if_statement
  right_if n r =
      after_take _ n (symbol.Fixed terminal.If) r refl
      (then (right_condition d r)
      (λ x cs rest c is.
      then (right rest)
      (λ s ss rest2 h is2. right_as (right_after_then n x cs s ss rest2 c h.0 h.1) (λ v vs end p. p) (λ vs v. v)
      (λ deep. let a = rest_length r cs rest is in let b = rest_length rest ss rest2 is2 in omega arith))
      (λ ss v. viable_under (λ w ys. Statement w (fixed n terminal.If ∷ ys)) cs ss
      (viable_as Statement (λ w ys. Statement w (fixed n terminal.If ∷ (cs ++ ys))) ss v (λ s ys h. (stmt.if_only n x s, if_from n c h))))
      (λ deep. omega (arith, rest_length r cs rest is)))
      (λ cs v. viable_then Condition (λ w ys. Statement w (fixed n terminal.If ∷ ys)) cs
      (by_terminal terminal.Semicolon ∷ []) v
      (λ x ys k c. (stmt.if_only n x (stmt.empty k), if_from n c (grammar.empty k))))
      (λ deep. omega arith))

  right_while : (n : ℕ) (r : List Numbered)
      → Right (λ v xs rest. Statement v xs × ElseFree v rest) (Viable Statement)
      (d ≤ length (fixed n terminal.While ∷ r)) (fixed n terminal.While ∷ r)
      (while_statement d inner (fixed n terminal.While ∷ r))
  unfolding while_statement
  right_while n r =
      after_take _ n (symbol.Fixed terminal.While) r refl
      (then (right_condition d r)
      (λ x cs rest c is.
      then (right rest)
      (λ s ss rest2 h is2. right_pure (subst (λ (z : List Numbered). Statement (stmt.while_loop n x s) (fixed n terminal.While ∷ (cs ++ z))) (sym (append-nil ss)) (while_from n c h.0), h.1))
      (λ ss v. viable_under (λ w ys. Statement w (fixed n terminal.While ∷ ys)) cs ss
      (viable_as Statement (λ w ys. Statement w (fixed n terminal.While ∷ (cs ++ ys))) ss v (λ s ys h. (stmt.while_loop n x s, while_from n c h))))
      (λ deep. omega (arith, rest_length r cs rest is)))
      (λ cs v. viable_then Condition (λ w ys. Statement w (fixed n terminal.While ∷ ys)) cs
      (by_terminal terminal.Semicolon ∷ []) v
      (λ x ys k c. (stmt.while_loop n x (stmt.empty k), while_from n c (grammar.empty k))))
      (λ deep. omega arith))

  right_do : (n : ℕ) (r : List Numbered)
      → Right (λ v xs rest. Statement v xs × ElseFree v rest) (Viable Statement) (d ≤ length (fixed n terminal.Do ∷ r))
      (fixed n terminal.Do ∷ r) (do_statement d inner (fixed n terminal.Do ∷ r))
  unfolding do_statement
  right_do n r =
      after_take _ n (symbol.Fixed terminal.Do) r refl
      (then_fixed terminal.While (right r)
      (λ s ss rest a r2 h e is.
      then_fixed terminal.Semicolon (right_condition d r2)
      (λ x cs rest2 f r3 c e2 is2. right_pure (do_from n a f h.0 c, λ g. refl))
      (λ x cs rest2 c. viable_done Condition x cs c)
      (λ cs v. viable_under (λ w ys. Statement w (fixed n terminal.Do ∷ ys)) ss (fixed a terminal.While ∷ cs)
      (viable_then Condition (λ w ys. Statement w (fixed n terminal.Do ∷ (ss ++ fixed a terminal.While ∷ ys))) cs
      (by_terminal terminal.Semicolon ∷ []) v (λ x ys k c. (stmt.do_loop n s x, do_from n a k h.0 c))))
      (λ deep. let long = rest_length r ss rest is in let shorter : length rest ≡ suc (length r2) = ap length e in omega arith))
      (λ s ss rest h. viable_done Statement s ss h.0)
      (λ ss v. viable_then Statement (λ w ys. Statement w (fixed n terminal.Do ∷ ys)) ss
      (by_terminal terminal.While ∷ by_terminal terminal.Open ∷ by_zero ∷ by_terminal terminal.Close ∷ by_terminal terminal.Semicolon ∷ []) v
      (λ s ys k h. (stmt.do_loop n s (tree.int (k + 1 + 1) (cast_signed w32 0)), do_from n k (k + 1 + 1 + 1 + 1) h (inside (k + 1) (k + 1 + 1 + 1) (zero_expression (k + 1 + 1))))))
      (λ deep. deep))

  right_for : (n : ℕ) (r : List Numbered)
      → Right (λ v xs rest. Statement v xs × ElseFree v rest) (Viable Statement) (d ≤ length (fixed n terminal.For ∷ r))
      (fixed n terminal.For ∷ r) (for_statement d inner (fixed n terminal.For ∷ r))
  unfolding for_statement
  right_for n r =
      after_take _ n (symbol.Fixed terminal.For) r refl
      (then_expect terminal.Open r
      (λ a r1 e1. let l1 : length r ≡ suc (length r1) = ap length e1 in
      then_fixed terminal.Semicolon (right_optional d terminal.Semicolon r1)
      (λ x xs q1 b r2 hx e2 is1. let m1 = rest_length r1 xs q1 is1 in let l2 : length q1 ≡ suc (length r2) = ap length e2 in
      then_fixed terminal.Semicolon (right_optional d terminal.Semicolon r2)
      (λ y ys q2 c r3 hy e3 is2. let m2 = rest_length r2 ys q2 is2 in let l3 : length q2 ≡ suc (length r3) = ap length e3 in
      then_fixed terminal.Close (right_optional d terminal.Close r3)
      (λ z zs q3 f r4 hz e4 is3. let m3 = rest_length r3 zs q3 is3 in let l4 : length q3 ≡ suc (length r4) = ap length e4 in
      then (right r4)
      (λ s ss rest h is4. right_pure (
        subst (λ (w : List Numbered). Statement (stmt.for_loop n x y z s)
            (fixed n terminal.For ∷ fixed a terminal.Open ∷
            (xs ++ fixed b terminal.Semicolon ∷
            (ys ++ fixed c terminal.Semicolon ∷ (zs ++ fixed f terminal.Close ∷ w))))) (sym (append-nil ss))
            (grammar.for_loop n a b c f hx hy hz h.0),
        h.1,
      ))
      (λ ss v. viable_under (λ w vs. Statement w (fixed n terminal.For ∷ fixed a terminal.Open ∷ vs)) xs
      (fixed b terminal.Semicolon ∷ (ys ++ fixed c terminal.Semicolon ∷ (zs ++ fixed f terminal.Close ∷ ss)))
      (viable_under (λ w vs. Statement w (fixed n terminal.For ∷ fixed a terminal.Open ∷ (xs ++ fixed b terminal.Semicolon ∷ vs))) ys (fixed c terminal.Semicolon ∷ (zs ++ fixed f terminal.Close ∷ ss))
      (viable_under (λ w vs. Statement w (fixed n terminal.For ∷ fixed a terminal.Open ∷ (xs ++ fixed b terminal.Semicolon ∷ (ys ++ fixed c terminal.Semicolon ∷ vs)))) zs (fixed f terminal.Close ∷ ss)
      (viable_as Statement (λ w vs. Statement w
      (fixed n terminal.For ∷ fixed a terminal.Open ∷
      (xs ++ fixed b terminal.Semicolon ∷
      (ys ++ fixed c terminal.Semicolon ∷ (zs ++ fixed f terminal.Close ∷ vs))))) ss v
      (λ s vs h. (stmt.for_loop n x y z s, grammar.for_loop n a b c f hx hy hz h))))))
      (λ deep. omega arith))
      (λ z zs rest h. viable_done Optional z zs h)
      (λ zs v. viable_under (λ w vs. Statement w (fixed n terminal.For ∷ fixed a terminal.Open ∷ vs)) xs (fixed b terminal.Semicolon ∷ (ys ++ fixed c terminal.Semicolon ∷ zs))
      (viable_under (λ w vs. Statement w (fixed n terminal.For ∷ fixed a terminal.Open ∷ (xs ++ fixed b terminal.Semicolon ∷ vs))) ys (fixed c terminal.Semicolon ∷ zs)
      (viable_then Optional (λ w vs. Statement w
      (fixed n terminal.For ∷ fixed a terminal.Open ∷
      (xs ++ fixed b terminal.Semicolon ∷ (ys ++ fixed c terminal.Semicolon ∷ vs)))) zs
      (by_terminal terminal.Close ∷ by_terminal terminal.Semicolon ∷ []) v
      (λ z vs k h. (stmt.for_loop n x y z (stmt.empty (k + 1)), grammar.for_loop n a b c k hx hy h (grammar.empty (k + 1)))))))
      (λ deep. omega arith))
      (λ y ys rest h. viable_done Optional y ys h)
      (λ ys v. viable_under (λ w vs. Statement w (fixed n terminal.For ∷ fixed a terminal.Open ∷ vs)) xs (fixed b terminal.Semicolon ∷ ys)
      (viable_then Optional (λ w vs. Statement w
      (fixed n terminal.For ∷ fixed a terminal.Open ∷ (xs ++ fixed b terminal.Semicolon ∷ vs))) ys
      (by_terminal terminal.Semicolon ∷ by_terminal terminal.Close ∷ by_terminal terminal.Semicolon ∷ []) v
      (λ y vs k h. (stmt.for_loop n x y None (stmt.empty (k + 1 + 1)), grammar.for_loop n a b k (k + 1) hx h grammar.absent (grammar.empty (k + 1 + 1))))))
      (λ deep. omega arith))
      (λ x xs rest h. viable_done Optional x xs h)
      (λ xs v. viable_then Optional (λ w vs. Statement w (fixed n terminal.For ∷ fixed a terminal.Open ∷ vs)) xs
      (by_terminal terminal.Semicolon ∷ by_terminal terminal.Semicolon ∷ by_terminal terminal.Close ∷ by_terminal terminal.Semicolon ∷ []) v
      (λ x vs k h. (stmt.for_loop n x None None (stmt.empty (k + 1 + 1 + 1)), grammar.for_loop n a k (k + 1) (k + 1 + 1) h grammar.absent grammar.absent (grammar.empty (k + 1 + 1 + 1)))))
      (λ deep. omega arith))
      (λ k. (
        by_terminal terminal.Open ∷ by_terminal terminal.Semicolon ∷ by_terminal terminal.Semicolon ∷ by_terminal terminal.Close ∷ by_terminal terminal.Semicolon ∷ [],
        stmt.for_loop n None None None (stmt.empty (k + 1 + 1 + 1 + 1)),
        grammar.for_loop n k (k + 1) (k + 1 + 1) (k + 1 + 1 + 1) grammar.absent grammar.absent grammar.absent (grammar.empty (k + 1 + 1 + 1 + 1)),
      )))

  right_switch : (n : ℕ) (r : List Numbered)
      → Right (λ v xs rest. Statement v xs × ElseFree v rest) (Viable Statement)
      (d ≤ length (fixed n terminal.Switch ∷ r)) (fixed n terminal.Switch ∷ r)
      (switch_statement d inner (fixed n terminal.Switch ∷ r))
  unfolding switch_statement
  right_switch n r =
      after_take _ n (symbol.Fixed terminal.Switch) r refl
      (then_fixed terminal.OpenBrace (right_condition d r)
      (λ x cs rest c r2 h e is.
      then (right_entries true r2)
      (λ all ys rest2 b is2. right_pure (
        subst (λ (z : List Numbered). Statement (stmt.switch n x all)
            (fixed n terminal.Switch ∷ (cs ++ fixed c terminal.OpenBrace ∷ z))) (sym (append-nil ys))
            (switch_braced n c h b),
        λ g. refl,
      ))
      (λ ys v. viable_under (λ w vs. Statement w (fixed n terminal.Switch ∷ vs)) cs (fixed c terminal.OpenBrace ∷ ys)
      (viable_as (Braced true) (λ w vs. Statement w (fixed n terminal.Switch ∷ (cs ++ fixed c terminal.OpenBrace ∷ vs))) ys v (λ all vs b. (stmt.switch n x all, switch_braced n c h b))))
      (λ deep. let long = rest_length r cs rest is in let shorter : length rest ≡ suc (length r2) = ap length e in omega arith))
      (λ x cs rest h. viable_done Condition x cs h)
      (λ cs v. viable_then Condition (λ w vs. Statement w (fixed n terminal.Switch ∷ vs)) cs (by_terminal terminal.OpenBrace ∷ by_terminal terminal.CloseBrace ∷ []) v
      (λ x vs k h. (stmt.switch n x stmt.no_stmt, switch_braced n k h (braced (k + 1) grammar.none))))
      (λ deep. omega arith))

  right_statement_at : (n : ℕ) (s : Symbol) (r : List Numbered)
      → Right (λ v xs rest. Statement v xs × ElseFree v rest) (Viable Statement) (d ≤ length (at n s ∷ r)) (at n s ∷ r)
      (statement_by d inner (Some s) (at n s ∷ r))
  unfolding take
  right_statement_at n (symbol.Fixed terminal.OpenBrace) r = right_block n r
  right_statement_at n (symbol.Fixed terminal.Semicolon) r = right_got (fixed n terminal.Semicolon ∷ []) refl (grammar.empty n, λ g. refl)
  right_statement_at n (symbol.Fixed terminal.If) r = right_if n r
  right_statement_at n (symbol.Fixed terminal.While) r = right_while n r
  right_statement_at n (symbol.Fixed terminal.Do) r = right_do n r
  right_statement_at n (symbol.Fixed terminal.For) r = right_for n r
  right_statement_at n (symbol.Fixed terminal.Switch) r = right_switch n r
  right_statement_at n (symbol.Fixed terminal.Break) r = right_as (right_break (fixed n terminal.Break ∷ r) n r refl) (λ v xs rest h. h) (λ xs v. v) (λ bad. absurd bad)
  right_statement_at n (symbol.Fixed terminal.Continue) r = right_as (right_continue (fixed n terminal.Continue ∷ r) n r refl) (λ v xs rest h. h) (λ xs v. v) (λ bad. absurd bad)
  right_statement_at n (symbol.Fixed terminal.Return) r = right_as (right_return d (fixed n terminal.Return ∷ r) n r refl) (λ v xs rest h. h) (λ xs v. v) (λ deep. omega arith)
  right_statement_at n s r = right_expression_statement d n s r

  right_some_statement : (i : List Numbered) → Right (λ v xs rest. Statement v xs × ElseFree v rest) (Viable Statement) (d ≤ length i) i (some_statement d inner i)
  unfolding some_statement first expression_statement here
  right_some_statement [] = right_stuck no_statement
  right_some_statement (s ∷ r) = right_statement_at s.number s.symbol r

pub right_statement : (d : ℕ) (i : List Numbered) → Right (λ s xs rest. Statement s xs × ElseFree s rest) (Viable Statement) (d ≤ suc (length i)) i (statement d i)
unfolding statement
right_statement zero i = right_deep (omega arith)
right_statement (suc d) i = right_as (right_some_statement d (statement d) (λ j. right_statement d j) i) (λ s xs rest h. h) (λ xs v. v) (λ deep. omega arith)
