-- A part and then its closing terminal.
use Rattle.std.proofs.Common.{◌≡◌, ◌∙◌, ℕ, List, [], ◌∷◌, ◌++◌, refl, sym, ap, append_assoc}
use Rattle.nss_symbols.specs.declared.terminal.Terminal.{Terminal}
use Rattle.nss_symbols.specs.Symbols.{Numbered, fixed}
use Rattle.nss_parser.proofs.Right.{Viable, viable_then}
use Rattle.nss_parser.proofs.Completions.{by_terminal}

pub record Closed {A : Type 0} (N : A → List Numbered → Type 0) (m : Terminal) (x : A) (xs : List Numbered) : Type 0 where
  pub tokens : List Numbered
  pub number : ℕ
  pub is : xs ≡ tokens ++ fixed number m ∷ []
  pub holds : N x tokens

-- the prefix of a part is a prefix of the part with its closing terminal
pub closed_prefix : {A B : Type 0} (N : A → List Numbered → Type 0) (M : B → List Numbered → Type 0) (m : Terminal) (xs : List Numbered) → Viable N xs
    → ((x : A) (ys : List Numbered) → N x ys → (y : B) × M y ys) → Viable (Closed M m) xs
closed_prefix N M m xs v h = viable_then N (Closed M m) xs (by_terminal m ∷ []) v (λ x ys n p. let (y, q) = h x ys p in (y, record { tokens = ys; number = n; is = refl; holds = q }))

-- more tokens before a closed part
pub closed_after : {A B : Type 0} {N : A → List Numbered → Type 0} {M : B → List Numbered → Type 0} {m : Terminal} {x : A} {xs : List Numbered} (ps : List Numbered) (y : B)
    → ((zs : List Numbered) → N x zs → M y (ps ++ zs)) → Closed N m x xs → Closed M m y (ps ++ xs)
closed_after {m = m} ps y h c = record {
  tokens = ps ++ c.tokens;
  number = c.number;
  is = ap (λ zs. ps ++ zs) c.is ∙ sym (append_assoc ps c.tokens (fixed c.number m ∷ []));
  holds = h c.tokens c.holds;
}
