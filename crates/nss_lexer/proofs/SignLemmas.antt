-- No word is as long as most names.
use Rattle.std.proofs.Common.{◌≡◌, ℕ, Bool, true, false, true≢false, ◌<◌, ◌≤◌, List, [], ◌∷◌, length, bytes_eq, refl, sym, ap, ◌∙◌, arith}
use Rattle.std.specs.Prelude.{◌&&◌, nat_le, if◌then◌else◌}
use Rattle.std.specs.List.{list_any}
use Rattle.std.proofs.lemmas.Bool.{leb-true}
use Rattle.std.proofs.lemmas.Slice.Eq.{bytes_eq-Decides}
use Rattle.nss_lexer.specs.Lexemes.{words, is_word}

-- whether each of these has at most so many bytes
abbrev all_within : ℕ → List (List ℕ) → Bool
all_within n [] = true
all_within n (word ∷ words) = nat_le (length word) n && all_within n words

within_first : (a b : Bool) → (a && b) ≡ true → a ≡ true
within_first true b is = refl
within_first false b is = absurd (true≢false (sym is))

within_rest : (a b : Bool) → (a && b) ≡ true → b ≡ true
within_rest true b is = is
within_rest false b is = absurd (true≢false (sym is))

-- no such text is among them that has more
none_as_long : (n : ℕ) (table : List (List ℕ)) (text : List ℕ) → n < length text → all_within n table ≡ true
    → list_any (λ word. bytes_eq word text) table ≡ false
none_as_long n [] text over are = refl
none_as_long n (word ∷ table) text over are = by_test (bytes_eq word text) refl (none_as_long n table text over (within_rest _ _ are))
  where
    by_test : (t : Bool) → bytes_eq word text ≡ t → list_any (λ other. bytes_eq other text) table ≡ false
        → list_any (λ other. bytes_eq other text) (word ∷ table) ≡ false
    by_test true same rest =
        let short : length word ≤ n = leb-true (length word) n (within_first _ _ are) in
        let long : length word ≡ length text = ap length ((bytes_eq-Decides word text).0 same) in
        absurd (omega (arith, short, long, over))
    by_test false other rest = rw other rest

pub no_long_word : (text : List ℕ) → 14 < length text → is_word text ≡ false
unfolding is_word
no_long_word text over = none_as_long 14 words text over refl
