-- Names tell opcodes.
use Rattle.std.proofs.Common.{◌≡◌, ◌≢◌, ◌<◌, ◌+◌, ◌∷◌, [], ℕ, List, cond, bytes_eq, refl, sym, ap, ◌∙◌}
use Rattle.std.specs.Prelude.{IsTrue}
use Rattle.ncs_code.specs.Plain.{PlainOp, CpDownSp}
use Rattle.ncs_code.specs.Spelling.{is_opcode, opcode}
use Rattle.ncs_code.specs.Names.{names, name_at, name_of}

-- where a name stands first
position : ℕ → List (List ℕ) → List ℕ → ℕ
position i [] name = i
position i (other ∷ others) name = cond (bytes_eq other name) i (position (i + 1) others name)

found : (op : PlainOp) → position 0 names (name_of op) ≡ opcode op
unfolding position
found (CpDownSp offset size) = refl
found _ = refl

pub one_name : (a b : PlainOp) → name_of a ≡ name_of b → opcode a ≡ opcode b
one_name a b same = sym (found a) ∙ ap (position 0 names) same ∙ found b

pub has_opcode : (op : PlainOp) → IsTrue (is_opcode (opcode op))
has_opcode (CpDownSp offset size) = refl
has_opcode _ = refl

-- ---- no opcode up to here has the name

abbrev pub NoneBelow : List ℕ → ℕ → Type 0
NoneBelow name end = (code : ℕ) → IsTrue (is_opcode code) → code < end → name_at code ≢ name
