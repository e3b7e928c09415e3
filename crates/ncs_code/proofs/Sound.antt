-- Where an instruction is spelled, each test of its row holds.
use Rattle.std.proofs.Common.{◌≡◌, ◌+◌, ◌<◌, ◌≤◌, ◌^◌, ℕ, List, [], ◌∷◌, ◌++◌, length, true, false, cond, eqb, ltb, refl, arith, None}
use Rattle.std.proofs.lemmas.Bool.{le-ltb}
use Rattle.std.proofs.lemmas.List.{length-append}
use Rattle.std.proofs.lemmas.Nat.{from_be_bytes-to_be_bytes_2}
use Rattle.ncs_code.specs.Plain.{PlainLit, PlainOp, Int, Float, Text, Object, CpDownSp, RsAdd, CpTopSp, Const, Action, LogAnd, LogOr, IncOr, ExcOr, BoolAnd, Equal, Nequal, Geq, Gt, Lt, Leq}
use Rattle.ncs_code.specs.Plain.{ShLeft, ShRight, UshRight, Add, Sub, Mul, Div, Mod, Neg, Comp, MovSp, Jmp, Jsr, Jz, Retn, Destruct, Not, DecISp, IncISp, Jnz, CpDownBp, CpTopBp, DecIBp, IncIBp}
use Rattle.ncs_code.specs.Plain.{SaveBp, RestoreBp, StoreState, Nop}
use Rattle.ncs_code.specs.Spelling.{two, four, signed, run_size, spelling, is_opcode, has_type, args_size, lit_size, first_two, fault_of, HasTextSize, IsOp, LitFits}

-- the three tests
enough : (code kind : ℕ) (xs rest : List ℕ) → is_opcode code ≡ true → has_type code kind ≡ true → args_size code kind (xs ++ rest) ≤ length xs → fault_of (code ∷ kind ∷ (xs ++ rest)) ≡ None
unfolding fault_of
enough code kind xs rest opcode type long =
    let test : ltb (length (xs ++ rest)) (args_size code kind (xs ++ rest)) ≡ false = le-ltb _ _ (omega (arith, long, length-append xs rest)) in
    rw (opcode, type, test) refl

-- the length that stands before a string
text_size : (bytes rest : List ℕ) → length bytes < 2 ^ 16 → lit_size 0x05 ((two (length bytes) ++ bytes) ++ rest) ≡ 2 + length bytes
unfolding two first_two
text_size bytes rest fits =
    let back = from_be_bytes-to_be_bytes_2 (length bytes) fits in
    let number : first_two ((two (length bytes) ++ bytes) ++ rest) ≡ length bytes = omega (arith, back) in
    let test : ltb (length ((two (length bytes) ++ bytes) ++ rest)) 2 ≡ false = le-ltb _ _ (omega arith) in
    rw (test, number) refl

run_long : (kind size : ℕ) → cond (eqb kind 0x24) 2 0 ≤ length (run_size kind size)
unfolding two
run_long kind size = elim (eqb kind 0x24) as (λ b. cond b 2 0 ≤ length (cond b (two size) [])) [ true ↦ omega arith | false ↦ omega arith ]

lit_long : (lit : PlainLit) (rest : List ℕ) → HasTextSize lit → LitFits lit → fault_of (spelling (Const lit) ++ rest) ≡ None
unfolding has_type args_size signed four two
lit_long (Int n) rest size fits = enough 0x04 0x03 (signed n) rest refl refl (omega arith)
lit_long (Float bytes) rest size fits = enough 0x04 0x04 bytes rest refl refl (omega (arith, fits.0))
lit_long (Text bytes) rest size fits = enough 0x04 0x05 (two (length bytes) ++ bytes) rest refl refl (omega (arith, text_size bytes rest size))
lit_long (Object n) rest size fits = enough 0x04 0x06 (four n) rest refl refl (omega arith)

pub sound : (op : PlainOp) (rest : List ℕ) → IsOp op → fault_of (spelling op ++ rest) ≡ None
unfolding has_type args_size signed four two
sound (CpDownSp offset size) rest h = enough 0x01 0x01 (signed offset ++ two size) rest refl h.row.kind (omega arith)
sound (RsAdd kind) rest h = enough 0x02 kind [] rest refl h.row.kind (omega arith)
sound (CpTopSp offset size) rest h = enough 0x03 0x01 (signed offset ++ two size) rest refl h.row.kind (omega arith)
sound (Const lit) rest h = lit_long lit rest h.row.sizes h.fits
sound (Action routine count) rest h = enough 0x05 0x00 (two routine ++ count ∷ []) rest refl h.row.kind (omega arith)
sound LogAnd rest h = enough 0x06 0x20 [] rest refl h.row.kind (omega arith)
sound LogOr rest h = enough 0x07 0x20 [] rest refl h.row.kind (omega arith)
sound IncOr rest h = enough 0x08 0x20 [] rest refl h.row.kind (omega arith)
sound ExcOr rest h = enough 0x09 0x20 [] rest refl h.row.kind (omega arith)
sound BoolAnd rest h = enough 0x0A 0x20 [] rest refl h.row.kind (omega arith)
sound (Equal kind size) rest h = enough 0x0B kind (run_size kind size) rest refl h.row.kind (run_long kind size)
sound (Nequal kind size) rest h = enough 0x0C kind (run_size kind size) rest refl h.row.kind (run_long kind size)
sound (Geq kind) rest h = enough 0x0D kind [] rest refl h.row.kind (omega arith)
sound (Gt kind) rest h = enough 0x0E kind [] rest refl h.row.kind (omega arith)
sound (Lt kind) rest h = enough 0x0F kind [] rest refl h.row.kind (omega arith)
sound (Leq kind) rest h = enough 0x10 kind [] rest refl h.row.kind (omega arith)
sound ShLeft rest h = enough 0x11 0x20 [] rest refl h.row.kind (omega arith)
sound ShRight rest h = enough 0x12 0x20 [] rest refl h.row.kind (omega arith)
sound UshRight rest h = enough 0x13 0x20 [] rest refl h.row.kind (omega arith)
sound (Add kind) rest h = enough 0x14 kind [] rest refl h.row.kind (omega arith)
sound (Sub kind) rest h = enough 0x15 kind [] rest refl h.row.kind (omega arith)
sound (Mul kind) rest h = enough 0x16 kind [] rest refl h.row.kind (omega arith)
sound (Div kind) rest h = enough 0x17 kind [] rest refl h.row.kind (omega arith)
sound Mod rest h = enough 0x18 0x20 [] rest refl h.row.kind (omega arith)
sound (Neg kind) rest h = enough 0x19 kind [] rest refl h.row.kind (omega arith)
sound Comp rest h = enough 0x1A 0x03 [] rest refl h.row.kind (omega arith)
sound (MovSp offset) rest h = enough 0x1B 0x00 (signed offset) rest refl h.row.kind (omega arith)
sound (Jmp offset) rest h = enough 0x1D 0x00 (signed offset) rest refl h.row.kind (omega arith)
sound (Jsr offset) rest h = enough 0x1E 0x00 (signed offset) rest refl h.row.kind (omega arith)
sound (Jz offset) rest h = enough 0x1F 0x00 (signed offset) rest refl h.row.kind (omega arith)
sound Retn rest h = enough 0x20 0x00 [] rest refl h.row.kind (omega arith)
sound (Destruct total offset size) rest h = enough 0x21 0x01 (two total ++ two offset ++ two size) rest refl h.row.kind (omega arith)
sound Not rest h = enough 0x22 0x03 [] rest refl h.row.kind (omega arith)
sound (DecISp offset) rest h = enough 0x23 0x03 (signed offset) rest refl h.row.kind (omega arith)
sound (IncISp offset) rest h = enough 0x24 0x03 (signed offset) rest refl h.row.kind (omega arith)
sound (Jnz offset) rest h = enough 0x25 0x00 (signed offset) rest refl h.row.kind (omega arith)
sound (CpDownBp offset size) rest h = enough 0x26 0x01 (signed offset ++ two size) rest refl h.row.kind (omega arith)
sound (CpTopBp offset size) rest h = enough 0x27 0x01 (signed offset ++ two size) rest refl h.row.kind (omega arith)
sound (DecIBp offset) rest h = enough 0x28 0x03 (signed offset) rest refl h.row.kind (omega arith)
sound (IncIBp offset) rest h = enough 0x29 0x03 (signed offset) rest refl h.row.kind (omega arith)
sound SaveBp rest h = enough 0x2A 0x00 [] rest refl h.row.kind (omega arith)
sound RestoreBp rest h = enough 0x2B 0x00 [] rest refl h.row.kind (omega arith)
sound (StoreState globals locals) rest h = enough 0x2C 0x10 (four globals ++ four locals) rest refl h.row.kind (omega arith)
sound Nop rest h = enough 0x2D 0x00 [] rest refl h.row.kind (omega arith)
