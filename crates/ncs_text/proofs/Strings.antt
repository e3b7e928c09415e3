-- No two lists of bytes have the same quoted text.
use Rattle.std.proofs.Common.{◌≡◌, ℕ, ◌<◌, ◌≤◌, true, List, [], ◌∷◌, ◌++◌, length, Some, refl, sym, ap, ◌∙◌, arith}
use Rattle.std.proofs.lemmas.List.{append_cancel_left, append_cancel_right}
use Rattle.std.proofs.lemmas.Bool.Decides.{nat_tests}
use Rattle.std.proofs.lemmas.Option.{some_pair_parts}
use Rattle.std.specs.List.{flat_map}
use Rattle.nwq_text.specs.Escape.{spelling, hex_digit, quoted, AreBytes}
use Rattle.nwq_text.specs.Unescape.{front_spelled, hex_value}
use Rattle.ncs_text.specs.Arguments.{IsString}

pub digit_read : (d : ℕ) → d < 16 → hex_value (hex_digit d) ≡ Some d
digit_read d h = grind (arith, nat_tests)

front_read : (b : ℕ) (rest : List ℕ) → b < 256 → front_spelled true (spelling true b ++ rest) ≡ Some (b, rest)
unfolding spelling front_spelled
front_read b rest h = grind (arith, nat_tests, digit_read)

nothing : (b : ℕ) (rest : List ℕ) → b < 256 → [] ≡ spelling true b ++ rest → ⊥
unfolding front_spelled
nothing b rest h e = let read : front_spelled true [] ≡ Some (b, rest) = ap (front_spelled true) e ∙ front_read b rest h in cc

apart : (a b : List ℕ) → AreBytes a → AreBytes b → flat_map (spelling true) a ≡ flat_map (spelling true) b → a ≡ b
apart [] [] ha hb e = refl
apart [] (y ∷ ys) ha hb e = absurd (nothing y (flat_map (spelling true) ys) hb.0 e)
apart (x ∷ xs) [] ha hb e = absurd (nothing x (flat_map (spelling true) xs) ha.0 (sym e))
apart (x ∷ xs) (y ∷ ys) ha hb e =
    let front = some_pair_parts x y (flat_map (spelling true) xs) (flat_map (spelling true) ys)
    (sym (front_read x (flat_map (spelling true) xs) ha.0) ∙ ap (front_spelled true) e ∙ front_read y (flat_map (spelling true) ys) hb.0)
    in ap (λ b. b ∷ xs) front.0 ∙ ap (λ bs. y ∷ bs) (apart xs ys ha.1 hb.1 front.1)

same_inner : (a b : List ℕ) → 34 ∷ a ++ 34 ∷ [] ≡ 34 ∷ b ++ 34 ∷ [] → a ≡ b
same_inner a b e = append_cancel_right a b (34 ∷ []) (append_cancel_left (34 ∷ []) (a ++ 34 ∷ []) (b ++ 34 ∷ []) e)

pub quotes_apart : (a b : List ℕ) → AreBytes a → AreBytes b → quoted a ≡ quoted b → a ≡ b
unfolding quoted
quotes_apart a b ha hb e = apart a b ha hb (same_inner (flat_map (spelling true) a) (flat_map (spelling true) b) e)

-- a string that is too long stands for no bytes
pub too_long : (text string : List ℕ) → AreBytes string → text ≡ quoted string → 65536 ≤ length string → (bytes : List ℕ) → IsString text bytes → ⊥
too_long text string each is long bytes s =
    let same : string ≡ s.string = quotes_apart string s.string each s.each (sym is ∙ s.written) in omega (arith, ap length same, s.fits)
