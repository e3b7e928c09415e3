-- What begins behind an instruction of a file.
use Rattle.std.proofs.Common.{◌≡◌, ◌+◌, ◌++◌, ◌∷◌, [], ℕ, List, sym, ◌∙◌, ap, arith, true, Some, ◌⊎◌, inl, inr, append_assoc}
use Rattle.std.specs.Prelude.{is_some}
use Rattle.ncs_code.specs.Plain.{PlainOp}
use Rattle.ncs_code.specs.Spelling.{op_size}
use Rattle.ncs_code.specs.File.{ops_size, begins, file_length, op_at}
use Rattle.ncs_code.specs.Laws.{SizeLaws, PlaceLaws}

follows : SizeLaws → PlaceLaws → (ops before : List PlainOp) (at : ℕ) (op : PlainOp) (behind : List PlainOp) → ops ≡ before ++ op ∷ behind → at ≡ file_length before
    → (begins ops (at + op_size op) ≡ true) ⊎ (at + op_size op ≡ file_length ops)
follows sizes places ops before at op [] both place = inr (omega (arith, place, ap ops_size both, sizes.add before (op ∷ [])))
follows sizes places ops before at op (next ∷ behind) both place =
    let further : ops ≡ (before ++ op ∷ []) ++ next ∷ behind = both ∙ sym (append_assoc before (op ∷ []) (next ∷ behind)) in
    let there : at + op_size op ≡ file_length (before ++ op ∷ []) = omega (arith, place, sizes.add before (op ∷ [])) in
    inl (ap is_some (ap (λ os. op_at os (at + op_size op)) further ∙ ap (op_at ((before ++ op ∷ []) ++ next ∷ behind)) there ∙ places.begins (before ++ op ∷ []) behind next))

pub next_begins : SizeLaws → PlaceLaws → (ops : List PlainOp) (at : ℕ) (op : PlainOp) → op_at ops at ≡ Some op → (begins ops (at + op_size op) ≡ true) ⊎ (at + op_size op ≡ file_length ops)
next_begins sizes places ops at op is =
    let s = places.stands ops at op is in
    follows sizes places ops s.before at op s.behind s.both s.place
