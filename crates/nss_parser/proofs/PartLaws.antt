-- Statements and labels read their parts as code does.
use Rattle.std.proofs.Common.{◌≡◌, ℕ, Bool, true, false, List, None, Some, Option, refl, sym, ap, ◌∙◌}
use Rattle.nss_tree.specs.Source.{SourceStmt}
use Rattle.nss_tree.specs.Expressions.{PlainExpr}
use Rattle.nss_tree.specs.Statements as stmt
use Rattle.nss_symbols.specs.declared.terminal.Terminal.TheVariants as terminal
use Rattle.nss_symbols.specs.Symbols.{Numbered}
use Rattle.nss_symbols.specs.Outcome.{Outcome, Got, Stuck, Deep, Parser, and_then, ◌>>=◌, pure, branch, choice, is_terminal, sees, take, expect, first}
use Rattle.nss_symbols.specs.declared.terminal.Terminal.{Terminal}
use Rattle.nss_parser.specs.declared.statement.ForHead.{ForHead}
use Rattle.nss_parser.specs.ReadStatement.{condition, optional, declaration, case_label, default_label, type_begins, labelled, entry, after_then, if_statement, do_statement, for_statement}
use Rattle.nss_parser.specs.ReadStatement.{switch_body, switch_statement}
use Rattle.nss_parser.specs.ReadParts.{else_part, if_of, if_rest, do_end, do_rest, for_part, for_head, for_rest}

module _ (n : ℕ) (x : PlainExpr) (s : SourceStmt) where
  then_statement : (o : Outcome SourceStmt) → and_then o (λ t. pure (stmt.if_else n x s t)) ≡ and_then (and_then o (λ t. pure (Some t))) (λ o. pure (if_of n x s o))
  then_statement (Got t r) = refl
  then_statement (Stuck r) = refl
  then_statement Deep = refl

  then_take : (statement : Parser SourceStmt) (o : Outcome ℕ)
      → and_then o (λ c. statement >>= λ t. pure (stmt.if_else n x s t)) ≡ and_then (and_then o (λ c. statement >>= λ t. pure (Some t))) (λ o. pure (if_of n x s o))
  then_take statement (Got c r) = then_statement (statement r)
  then_take statement (Stuck r) = refl
  then_take statement Deep = refl

  then_branch : (statement : Parser SourceStmt) (i : List Numbered) (b : Bool)
      → branch b (take >>= λ c. statement >>= λ t. pure (stmt.if_else n x s t)) (pure (stmt.if_only n x s)) i
      ≡ and_then (branch b (take >>= λ c. statement >>= λ t. pure (Some t)) (pure None) i) (λ o. pure (if_of n x s o))
  then_branch statement i true = then_take statement (take i)
  then_branch statement i false = refl

pub then_is : (d : ℕ) (statement : Parser SourceStmt) (n : ℕ) (x : PlainExpr) (s : SourceStmt) (i : List Numbered) → after_then d statement n x s i ≡ if_rest statement n x s i
unfolding after_then if_rest else_part
then_is d statement n x s i = then_branch n x s statement i (sees terminal.Else i)

pub if_is : (d : ℕ) (statement : Parser SourceStmt) (n : ℕ) (x : PlainExpr) (s : SourceStmt) (i j k l : List Numbered)
    → take i ≡ Got n j → condition d j ≡ Got x k → statement k ≡ Got s l → if_statement d statement i ≡ if_rest statement n x s l
unfolding if_statement
if_is d statement n x s i j k l taken tested read =
    ap (λ (z : Outcome ℕ). and_then z (λ m. condition d >>= λ y. statement >>= λ t. after_then d statement m y t)) taken
    ∙ ap (λ (z : Outcome PlainExpr). and_then z (λ y. statement >>= λ t. after_then d statement n y t)) tested
    ∙ ap (λ (z : Outcome SourceStmt). and_then z (λ t. after_then d statement n x t)) read
    ∙ then_is d statement n x s l

module _ (n : ℕ) (s : SourceStmt) where
  end_semicolon : (x : PlainExpr) (o : Outcome ℕ) → and_then o (λ k. pure (stmt.do_loop n s x)) ≡ and_then (and_then o (λ k. pure x)) (λ y. pure (stmt.do_loop n s y))
  end_semicolon x (Got k r) = refl
  end_semicolon x (Stuck r) = refl
  end_semicolon x Deep = refl

  end_condition : (o : Outcome PlainExpr)
      → and_then o (λ x. expect terminal.Semicolon >>= λ k. pure (stmt.do_loop n s x))
      ≡ and_then (and_then o (λ x. expect terminal.Semicolon >>= λ k. pure x)) (λ y. pure (stmt.do_loop n s y))
  end_condition (Got x r) = end_semicolon x (expect terminal.Semicolon r)
  end_condition (Stuck r) = refl
  end_condition Deep = refl

  end_while : (d : ℕ) (o : Outcome ℕ) → and_then o (λ a. condition d >>= λ x. expect terminal.Semicolon >>= λ k. pure (stmt.do_loop n s x))
      ≡ and_then (and_then o (λ a. condition d >>= λ x. expect terminal.Semicolon >>= λ k. pure x)) (λ y. pure (stmt.do_loop n s y))
  end_while d (Got a r) = end_condition (condition d r)
  end_while d (Stuck r) = refl
  end_while d Deep = refl

pub do_is : (d : ℕ) (statement : Parser SourceStmt) (n : ℕ) (s : SourceStmt) (i j k : List Numbered) → take i ≡ Got n j → statement j ≡ Got s k → do_statement d statement i ≡ do_rest d n s k
unfolding do_statement do_rest do_end
do_is d statement n s i j k taken read =
    ap (λ (z : Outcome ℕ). and_then z (λ m. statement >>= λ t. expect terminal.While >>= λ a. condition d >>= λ x. expect terminal.Semicolon >>= λ b. pure (stmt.do_loop m t x))) taken
    ∙ ap (λ (z : Outcome SourceStmt). and_then z (λ t. expect terminal.While >>= λ a. condition d >>= λ x. expect terminal.Semicolon >>= λ b. pure (stmt.do_loop n t x))) read
    ∙ end_while n s d (expect terminal.While k)

-- readers one after another, however they are grouped
regroup : {A B C : Type 0} (o : Outcome A) (f : A → Parser B) (g : B → Parser C) → and_then (and_then o f) g ≡ and_then o (λ x r. and_then (f x r) g)
regroup (Got x r) f g = refl
regroup (Stuck r) f g = refl
regroup Deep f g = refl

same_after : {A B : Type 0} (o : Outcome A) (f g : A → Parser B) → ((x : A) (r : List Numbered) → f x r ≡ g x r) → and_then o f ≡ and_then o g
same_after (Got x r) f g h = h x r
same_after (Stuck r) f g h = refl
same_after Deep f g h = refl

part_is : {A : Type 0} (d : ℕ) (end : Terminal) (f : Option PlainExpr → Parser A) (i : List Numbered)
    → and_then (for_part d end i) f ≡ and_then (optional d end i) (λ x. expect end >>= λ k. f x)
unfolding for_part
part_is d end f i = regroup (optional d end i) _ f ∙ same_after (optional d end i) _ _ (λ x r. regroup (expect end r) _ f)

head_is : (d : ℕ) (f : ForHead PlainExpr → Parser SourceStmt) (i : List Numbered) → and_then (for_head d i) f
    ≡ and_then (expect terminal.Open i) (λ a.
    optional d terminal.Semicolon >>= λ x. expect terminal.Semicolon >>= λ b.
    optional d terminal.Semicolon >>= λ y. expect terminal.Semicolon >>= λ c.
    optional d terminal.Close >>= λ z. expect terminal.Close >>= λ e. f (record { start = x; condition = y; step = z }))
unfolding for_head
head_is d f i =
    regroup (expect terminal.Open i) _ f
    ∙ same_after (expect terminal.Open i) _ _ (λ a r. regroup (for_part d terminal.Semicolon r) _ f
    ∙ part_is d terminal.Semicolon _ r
    ∙ same_after (optional d terminal.Semicolon r) _ _ (λ x r2. same_after (expect terminal.Semicolon r2) _ _ (λ b r3. regroup (for_part d terminal.Semicolon r3) _ f
    ∙ part_is d terminal.Semicolon _ r3
    ∙ same_after (optional d terminal.Semicolon r3) _ _ (λ y r4. same_after (expect terminal.Semicolon r4) _ _ (λ c r5. regroup (for_part d terminal.Close r5) _ f
    ∙ part_is d terminal.Close _ r5)))))

pub for_is : (d : ℕ) (statement : Parser SourceStmt) (i : List Numbered) → for_statement d statement i ≡ and_then (take i) (λ n. for_head d >>= for_rest statement n)
unfolding for_statement
for_is d statement i = same_after (take i) _ _ (λ n r. sym (head_is d (for_rest statement n) r))

-- a `for` whose number and head were read
pub for_after : (d : ℕ) (statement : Parser SourceStmt) (n : ℕ) (h : ForHead PlainExpr) (i j k : List Numbered)
    → take i ≡ Got n j → for_head d j ≡ Got h k → for_statement d statement i ≡ for_rest statement n h k
for_after d statement n h i j k taken headed =
    for_is d statement i
    ∙ ap (λ (z : Outcome ℕ). and_then z (λ m. for_head d >>= for_rest statement m)) taken
    ∙ ap (λ (z : Outcome (ForHead PlainExpr)). and_then z (for_rest statement n)) headed

pub switch_is : (d : ℕ) (statement : Parser SourceStmt) (i : List Numbered)
    → switch_statement d statement i ≡ and_then (take i) (λ n. condition d >>= λ x. switch_body d statement >>= λ all. pure (stmt.switch n x all))
unfolding switch_statement
switch_is d statement i =
    same_after (take i) _ _ (λ n r. same_after (condition d r) _ _ (λ x r2. sym (regroup (expect terminal.OpenBrace r2) _ _)))

-- with labels, what is no declaration and no `case`
pub label_is : (d : ℕ) (statement : Parser SourceStmt) (labels default : Bool) (i : List Numbered)
    → labels ≡ true → type_begins (first i) ≡ false → sees terminal.Case i ≡ false → sees terminal.Default i ≡ default
    → entry d statement labels i ≡ branch default default_label statement i
unfolding entry labelled
label_is d statement labels default i some none other seen =
    ap (λ (z : Bool). branch z (declaration d) (branch labels (labelled d statement) statement) i) none
    ∙ ap (λ (z : Bool). branch z (labelled d statement) statement i) some
    ∙ ap (λ (z : Bool). branch z case_label (choice (is_terminal terminal.Default) default_label statement) i) other
    ∙ ap (λ (z : Bool). branch z default_label statement i) seen
