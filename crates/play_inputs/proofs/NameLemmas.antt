-- The name of a script is a text in UTF-8, since all its bytes are ASCII.
use Rattle.std.proofs.Common.{◌≡◌, ℕ, ◌<◌, Bool, true, false, nat_lt, nat_le, List, [], ◌∷◌, length, IsTrue, refl, lit<, zero, suc, get_or, ◌&&◌, arith}
use Rattle.std.proofs.lemmas.Bool.Decides.{nat_tests}
use Rattle.std.proofs.lemmas.Str.{IsUtf8-from_ascii}
use Rattle.std.specs.List.{list_all, AllByRecursion}
use Rattle.std.specs.Str.{IsUtf8}
use Rattle.nwq_text.specs.Names.{is_script_byte, is_script_name}

both : (a b : Bool) → (a && b) ≡ true → (a ≡ true) × (b ≡ true)
both true b h = (refl, h)
both false b h = absurd cc

all_short : (p : ℕ → Bool) (xs : List ℕ) (n : ℕ) → ((x : ℕ) → p x ≡ true → x < n) → list_all p xs ≡ true → AllByRecursion (λ x. x < n) xs
all_short p [] n f h = tt
all_short p (x ∷ xs) n f h = let parts = both (p x) (list_all p xs) h in (f x parts.0, all_short p xs n f parts.1)

small_at : (n : ℕ) (xs : List ℕ) → 0 < n → AllByRecursion (λ x. x < n) xs → (i : ℕ) → get_or xs i 0 < n
small_at n [] h all i = h
small_at n (x ∷ xs) h all zero = all.0
small_at n (x ∷ xs) h all (suc i) = small_at n xs h all.1 i

byte_small : (b : ℕ) → is_script_byte b ≡ true → b < 128
byte_small b h = grind (arith, nat_tests)

pub script_is_utf8 : (name : List ℕ) → IsTrue (is_script_name name) → IsUtf8 name
unfolding is_script_name
script_is_utf8 name h =
    let letters = both (nat_lt 0 (length name) && nat_le (length name) 16) (list_all is_script_byte name) h
    in IsUtf8-from_ascii name (small_at 128 name (lit< tt) (all_short is_script_byte name 128 byte_small letters.1))
