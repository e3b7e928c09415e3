-- The nest of a source's tokens.
use Rattle.std.proofs.Common.{◌≡◌, ℕ, zero, suc, ◌≤◌, Bool, true, false, ◌&&◌, nat_le, List, [], ◌∷◌, refl, arith}
use Rattle.std.proofs.lemmas.Bool.Decides.{nat_tests}
use Rattle.std.specs.Prelude.{slice_index}
use Rattle.std.specs.List.{list_all}
use Rattle.nwq_value.specs.Limits.{nest_limit}
use Rattle.nss_symbols.specs.Nest.{IsWithinNest, nests}
use Rattle.generator_laws.proofs.Trees.{made_symbols}

both_true : (a b : Bool) → (a && b) ≡ true → (a ≡ true) × (b ≡ true)
both_true true b h = (refl, h)
both_true false b h = absurd cc

below : (xs : List ℕ) → list_all (λ x. nat_le x nest_limit) xs ≡ true → (k : ℕ) → slice_index xs k ≤ nest_limit
below [] h k = omega arith
below (x ∷ xs) h zero = let parts = both_true (nat_le x nest_limit) (list_all (λ y. nat_le y nest_limit) xs) h in grind (arith, nat_tests, parts.0)
below (x ∷ xs) h (suc k) = below xs (both_true (nat_le x nest_limit) (list_all (λ y. nat_le y nest_limit) xs) h).1 k

low : (n creatures : ℕ) → list_all (λ x. nat_le x nest_limit) (nests (made_symbols n creatures)) ≡ true
unfolding nests
low n creatures = refl

pub made_nest : (n creatures : ℕ) → IsWithinNest (made_symbols n creatures)
made_nest n creatures = below (nests (made_symbols n creatures)) (low n creatures)
