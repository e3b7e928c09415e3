use Rattle.std.proofs.Common.{◌≡◌, ◌∷◌, ℕ, List, take, refl, subst}
use Rattle.std.specs.Prelude.{IsTrue}
use Rattle.std.proofs.lemmas.Bool.{eqb-true}
use Rattle.ncs_code.specs.Spelling.{has_type, args_size}

-- the row of STORE_STATE
pub state_row : (code kind : ℕ) (args spelled : List ℕ) → code ≡ 0x2C → IsTrue (has_type code kind) → spelled ≡ take 8 args
    → 0x2C ∷ 0x10 ∷ spelled ≡ code ∷ kind ∷ take (args_size code kind args) args
unfolding has_type args_size
state_row code kind args spelled is fits front =
    let same : IsTrue (has_type 0x2C kind) = subst (λ k. IsTrue (has_type k kind)) is fits in
    let kind-is : kind ≡ 0x10 = eqb-true kind 0x10 same in
    rw (is, kind-is, front) refl
