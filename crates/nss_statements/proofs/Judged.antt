-- The verdict on a declared name, by the fault that code finds, and that on a node that is made of
-- parts which fit.
use Rattle.std.proofs.Common.{◌≡◌, ℕ, Bool, true, false, not, ◌&&◌, Option, None, Some, Result, Ok, Err, refl, sym, ap, subst, ◌∙◌}
use Rattle.std.specs.Option.{option_map}
use Rattle.std.specs.Result.{IfOk}
use Rattle.nss_tree.specs.Source.{SourceDeclared}
use Rattle.nwq_value.specs.declared.value.Ty.{Ty}
use Rattle.typing_rules.specs.declared.fault.FaultKind.{FaultKind}
use Rattle.typing_rules.specs.declared.fault.FaultKind.TheVariants.{Redeclared, Mismatch, Cells}
use Rattle.typing_rules.specs.declared.fault.Fault.{Fault}
use Rattle.typing_rules.specs.Nodes.{Rows, asked, at, fine, four, kept, ruled, first_kind, no_row, only, row, three, two}
use Rattle.typing_rules.specs.Rules.{value_fits, variable_rows, variable_rule, when}
use Rattle.typing_rules.specs.Sight.{Sight, cells, crosses_with, is_taken}
use Rattle.typing_rules.specs.Typed.{TypedExpr}
use Rattle.nss_statements.specs.Faults.{by_fault, fault_unless, fit_rows, fit_rule, ruled_when, some_made}

pub variable_is : (s : Sight) (d : SourceDeclared) (t : Ty) (x : Option TypedExpr) (a b c : Bool) (k : Option FaultKind) → a ≡ is_taken s d.name → b ≡ value_fits t x
    → c ≡ crosses_with s (cells s.structs t) → k ≡ fault_unless (not a && (b && not c)) (first_kind (row Redeclared a (row Mismatch (not b) (row Cells c no_row))))
    → asked (variable_rows s d.name) (variable_rule s d) (Some (t, x)) ≡ by_fault k (record { token = d.token; name = record { number = s.next; ty = t }; value = x })
variable_is s d t x a b c k taken fits crosses is =
    ruled_when _ _ _ ∙ ap (λ f. by_fault f (record { token = d.token; name = record { number = s.next; ty = t }; value = x })) (sym (rw (is, taken, fits, crosses) refl))

-- parts as one, read one by one
pub two_read : {A B C D : Type 0} (f : A → C) (g : B → D) (o : Option A) (p : Option B) → two (option_map f o) (option_map g p) ≡ option_map (λ q. (f q.0, g q.1)) (two o p)
two_read f g None p = refl
two_read f g (Some a) None = refl
two_read f g (Some a) (Some b) = refl

pub two_turned : {A B C D : Type 0} (f : A → C) (g : B → D) (o : Option A) (p : Option B) → two (option_map g p) (option_map f o) ≡ option_map (λ q. (g q.1, f q.0)) (two o p)
two_turned f g None None = refl
two_turned f g None (Some b) = refl
two_turned f g (Some a) None = refl
two_turned f g (Some a) (Some b) = refl

pub three_read : {A B C D : Type 0} (f : A → C) (g : B → D) (o : Option A) (p q : Option B)
    → three (option_map f o) (option_map g p) (option_map g q) ≡ option_map (λ r. (f r.0, g r.1.0, g r.1.1)) (two o (two p q))
three_read f g None p q = refl
three_read f g (Some a) None q = refl
three_read f g (Some a) (Some b) None = refl
three_read f g (Some a) (Some b) (Some c) = refl

four_read : {A B C D : Type 0} (f : A → C) (g : B → D) (o p q : Option A) (r : Option B)
    → four (option_map f o) (option_map f p) (option_map f q) (option_map g r) ≡ option_map (λ s. (f s.0.0, f s.0.1, f s.1.0, g s.1.1)) (two (two o p) (two q r))
four_read f g None p q r = refl
four_read f g (Some a) None q r = refl
four_read f g (Some a) (Some b) None r = refl
four_read f g (Some a) (Some b) (Some c) None = refl
four_read f g (Some a) (Some b) (Some c) (Some d) = refl

pub four_is : {A B C D : Type 0} (f : A → C) (g : B → D) (o p q : Option A) (r : Option B) (x : Option (A × A))
    (y : Option (A × B)) (z : Option ((A × A) × (A × B))) → x ≡ two o p → y ≡ two q r → z ≡ two x y
    → four (option_map f o) (option_map f p) (option_map f q) (option_map g r) ≡ option_map (λ s. (f s.0.0, f s.0.1, f s.1.0, g s.1.1)) z
four_is f g o p q r x y z left right whole =
    four_read f g o p q r ∙ ap (option_map (λ s. (f s.0.0, f s.0.1, f s.1.0, g s.1.1))) (ap (λ t. two t (two q r)) (sym left) ∙ (ap (two x) (sym right) ∙ sym whole))

-- a node that is made of parts which fit has their verdict
module _ {P A B : Type 0} (f : P → A) (rows : A → Rows) (rule : A → Option B) (fits : P → Bool) (made : P → B)
    (kinds : (p : P) → rows (f p) ≡ only Mismatch) (rules : (p : P) → rule (f p) ≡ when (fits p) (made p)) where
  fine_when : (k : FaultKind) (p : P) (b : Bool) → fine (ruled k (when b (made p))) ≡ option_map made (fine (ruled k (when b p)))
  fine_when k p true = refl
  fine_when k p false = refl

  at_when : (n : ℕ) (k : FaultKind) (p : P) (b : Bool) → at n (ruled k (when b (made p))) ≡ at n (ruled k (when b p))
  at_when n k p true = refl
  at_when n k p false = refl

  made_fine : (o : Option P) → fine (asked rows rule (option_map f o)) ≡ option_map made (fine (asked fit_rows (fit_rule fits) o))
  made_fine None = refl
  made_fine (Some p) = ap (λ r. fine (ruled (first_kind r) (rule (f p)))) (kinds p) ∙ (ap (λ x. fine (ruled Mismatch x)) (rules p) ∙ fine_when Mismatch p (fits p))

  made_at : (n : ℕ) (o : Option P) → at n (asked rows rule (option_map f o)) ≡ at n (asked fit_rows (fit_rule fits) o)
  made_at n None = refl
  made_at n (Some p) = ap (λ r. at n (ruled (first_kind r) (rule (f p)))) (kinds p) ∙ (ap (λ x. at n (ruled Mismatch x)) (rules p) ∙ at_when n Mismatch p (fits p))

  pub made_value : (o r : Option P) (q : Option A) (x : Option B) → q ≡ option_map f o → r ≡ fine (asked fit_rows (fit_rule fits) o) → x ≡ option_map made r → x ≡ fine (asked rows rule q)
  made_value o r q x read is h = h ∙ (ap (option_map made) is ∙ (sym (made_fine o) ∙ ap (λ p. fine (asked rows rule p)) (sym read)))

  pub made_least : (n : ℕ) (old new : Option Fault) (o : Option P) (q : Option A) → q ≡ option_map f o
      → new ≡ kept old (at n (asked fit_rows (fit_rule fits) o)) → new ≡ kept old (at n (asked rows rule q))
  made_least n old new o q read is = is ∙ ap (kept old) (sym (made_at n o) ∙ ap (λ p. at n (asked rows rule p)) (sym read))

-- what is made of them may want memory
pub made_as : {A B E : Type 0} (plain : A → B) (P : A → Type 0) (m : Result A E) (r : Result (Option A) E) (v : Option B) → r ≡ some_made m → ((a : A) → P a → Some (plain a) ≡ v) → IfOk m P
    → IfOk r (λ x. option_map plain x ≡ v)
made_as plain P (Ok a) r v is f h = subst (λ q. IfOk q (λ x. option_map plain x ≡ v)) (sym is) (f a h)
made_as plain P (Err e) r v is f h = subst (λ q. IfOk q (λ x. option_map plain x ≡ v)) (sym is) tt
