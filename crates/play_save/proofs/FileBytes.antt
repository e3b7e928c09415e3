-- The files of listed scripts, and their names, are bytes that a field holds.
use Rattle.std.proofs.Common.{◌<◌, ◌≤◌, ℕ, ℤ, zero, suc, List, [], ◌∷◌, ◌++◌, length, refl, arith}
use Rattle.std.proofs.Math.Nat.{mod-lt}
use Rattle.std.specs.Prelude.{nat_lt, nat_le, Bool, true, false, ◌&&◌, ◌==◌, if◌then◌else◌, IsTrue}
use Rattle.std.specs.List.{AllByRecursion, list_all}
use Rattle.std.specs.Int.{w32, byte_at, bytes_high_first, cast_unsigned}
use Rattle.std.proofs.lemmas.Bool.Decides.{nat_tests}
use Rattle.nwq_text.specs.Names.{is_script_byte, is_script_name}
use Rattle.ncs_code.specs.Plain.{PlainLit, PlainOp, Int, Float, Text, Object, CpDownSp, RsAdd, CpTopSp, Const, Action, LogAnd, LogOr, IncOr, ExcOr, BoolAnd, Equal, Nequal, Geq, Gt, Lt, Leq}
use Rattle.ncs_code.specs.Plain.{ShLeft, ShRight, UshRight, Add, Sub, Mul, Div, Mod, Neg, Comp, MovSp, Jmp, Jsr, Jz, Retn, Destruct, Not, DecISp, IncISp, Jnz, CpDownBp, CpTopBp, DecIBp, IncIBp}
use Rattle.ncs_code.specs.Plain.{SaveBp, RestoreBp, StoreState, Nop}
use Rattle.ncs_code.specs.Spelling.{two, four, signed, run_size, lit_spelling, spelling, LitFits, Fits, IsOp}
use Rattle.ncs_code.specs.File.{IsCode, magic, spellings, file_bytes, file_length}
use Rattle.ncs_code.specs.Laws.{FileLength}
use Rattle.state_format.specs.Parts.{AreStateBytes, IsBlob}
use Rattle.std.proofs.lemmas.List.Elements.{recursion_from_All}

joined_bytes : (xs ys : List ℕ) → AreStateBytes xs → AreStateBytes ys → AreStateBytes (xs ++ ys)
joined_bytes [] ys p q = q
joined_bytes (x ∷ xs) ys p q = (p.0, joined_bytes xs ys p.1 q)

first_of : (a b : Bool) → IsTrue (a && b) → IsTrue a
first_of true b t = refl
first_of false b t = absurd cc

second_of : (a b : Bool) → IsTrue (a && b) → IsTrue b
second_of true b t = t
second_of false b t = absurd cc

-- ---- numbers

one_byte : (i n : ℕ) → byte_at i n < 256
one_byte zero n = mod-lt n (omega arith)
one_byte (suc i) n = mod-lt _ (omega arith)

high_bytes : (k n : ℕ) → AreStateBytes (bytes_high_first k n)
high_bytes zero n = tt
high_bytes (suc k) n = (one_byte k n, high_bytes k n)

two_bytes : (n : ℕ) → AreStateBytes (two n)
unfolding two
two_bytes n = high_bytes 2 n

four_bytes : (n : ℕ) → AreStateBytes (four n)
unfolding four
four_bytes n = high_bytes 4 n

signed_bytes : (n : ℤ) → AreStateBytes (signed n)
unfolding signed
signed_bytes n = high_bytes 4 (cast_unsigned w32 n)

-- ---- instructions

run_bytes : (kind size : ℕ) → AreStateBytes (run_size kind size)
run_bytes kind size = by_kind (kind == 0x24)
  where
    by_kind : (b : Bool) → AreStateBytes (if b then two size else [])
    by_kind true = two_bytes size
    by_kind false = tt

lit_bytes : (lit : PlainLit) → LitFits lit → AreStateBytes (lit_spelling lit)
lit_bytes (Int n) fits = (omega arith, signed_bytes n)
lit_bytes (Float bytes) fits = (omega arith, recursion_from_All _ bytes fits.1)
lit_bytes (Text bytes) fits = (omega arith, joined_bytes (two (length bytes)) bytes (two_bytes (length bytes)) (recursion_from_All _ bytes fits))
lit_bytes (Object n) fits = (omega arith, four_bytes n)

spelled_bytes : (op : PlainOp) → Fits op → AreStateBytes (spelling op)
spelled_bytes (CpDownSp offset size) fits = (omega arith, (omega arith, joined_bytes (signed offset) (two size) (signed_bytes offset) (two_bytes size)))
spelled_bytes (RsAdd kind) fits = (omega arith, ((let small = fits in omega (arith, small)), tt))
spelled_bytes (CpTopSp offset size) fits = (omega arith, (omega arith, joined_bytes (signed offset) (two size) (signed_bytes offset) (two_bytes size)))
spelled_bytes (Const lit) fits = (omega arith, lit_bytes lit fits)
spelled_bytes (Action routine count) fits = (omega arith, (omega arith, joined_bytes (two routine) (count ∷ []) (two_bytes routine) ((let small = fits.1 in omega (arith, small), tt))))
spelled_bytes LogAnd fits = (omega arith, (omega arith, tt))
spelled_bytes LogOr fits = (omega arith, (omega arith, tt))
spelled_bytes IncOr fits = (omega arith, (omega arith, tt))
spelled_bytes ExcOr fits = (omega arith, (omega arith, tt))
spelled_bytes BoolAnd fits = (omega arith, (omega arith, tt))
spelled_bytes (Equal kind size) fits = (omega arith, ((let small = fits.0 in omega (arith, small)), run_bytes kind size))
spelled_bytes (Nequal kind size) fits = (omega arith, ((let small = fits.0 in omega (arith, small)), run_bytes kind size))
spelled_bytes (Geq kind) fits = (omega arith, ((let small = fits in omega (arith, small)), tt))
spelled_bytes (Gt kind) fits = (omega arith, ((let small = fits in omega (arith, small)), tt))
spelled_bytes (Lt kind) fits = (omega arith, ((let small = fits in omega (arith, small)), tt))
spelled_bytes (Leq kind) fits = (omega arith, ((let small = fits in omega (arith, small)), tt))
spelled_bytes ShLeft fits = (omega arith, (omega arith, tt))
spelled_bytes ShRight fits = (omega arith, (omega arith, tt))
spelled_bytes UshRight fits = (omega arith, (omega arith, tt))
spelled_bytes (Add kind) fits = (omega arith, ((let small = fits in omega (arith, small)), tt))
spelled_bytes (Sub kind) fits = (omega arith, ((let small = fits in omega (arith, small)), tt))
spelled_bytes (Mul kind) fits = (omega arith, ((let small = fits in omega (arith, small)), tt))
spelled_bytes (Div kind) fits = (omega arith, ((let small = fits in omega (arith, small)), tt))
spelled_bytes Mod fits = (omega arith, (omega arith, tt))
spelled_bytes (Neg kind) fits = (omega arith, ((let small = fits in omega (arith, small)), tt))
spelled_bytes Comp fits = (omega arith, (omega arith, tt))
spelled_bytes (MovSp offset) fits = (omega arith, (omega arith, signed_bytes offset))
spelled_bytes (Jmp offset) fits = (omega arith, (omega arith, signed_bytes offset))
spelled_bytes (Jsr offset) fits = (omega arith, (omega arith, signed_bytes offset))
spelled_bytes (Jz offset) fits = (omega arith, (omega arith, signed_bytes offset))
spelled_bytes Retn fits = (omega arith, (omega arith, tt))
spelled_bytes (Destruct total offset size) fits =
    (omega arith, (omega arith, joined_bytes (two total ++ two offset) (two size) (joined_bytes (two total) (two offset) (two_bytes total) (two_bytes offset)) (two_bytes size)))
spelled_bytes Not fits = (omega arith, (omega arith, tt))
spelled_bytes (DecISp offset) fits = (omega arith, (omega arith, signed_bytes offset))
spelled_bytes (IncISp offset) fits = (omega arith, (omega arith, signed_bytes offset))
spelled_bytes (Jnz offset) fits = (omega arith, (omega arith, signed_bytes offset))
spelled_bytes (CpDownBp offset size) fits = (omega arith, (omega arith, joined_bytes (signed offset) (two size) (signed_bytes offset) (two_bytes size)))
spelled_bytes (CpTopBp offset size) fits = (omega arith, (omega arith, joined_bytes (signed offset) (two size) (signed_bytes offset) (two_bytes size)))
spelled_bytes (DecIBp offset) fits = (omega arith, (omega arith, signed_bytes offset))
spelled_bytes (IncIBp offset) fits = (omega arith, (omega arith, signed_bytes offset))
spelled_bytes SaveBp fits = (omega arith, (omega arith, tt))
spelled_bytes RestoreBp fits = (omega arith, (omega arith, tt))
spelled_bytes (StoreState globals locals) fits = (omega arith, (omega arith, joined_bytes (four globals) (four locals) (four_bytes globals) (four_bytes locals)))
spelled_bytes Nop fits = (omega arith, (omega arith, tt))

all_spelled : (ops : List PlainOp) → AllByRecursion IsOp ops → AreStateBytes (spellings ops)
all_spelled [] all = tt
all_spelled (op ∷ ops) all = joined_bytes (spelling op) (spellings ops) (spelled_bytes op all.0.fits) (all_spelled ops all.1)

pub file_blob : FileLength → (ops : List PlainOp) → IsCode ops → IsBlob (file_bytes ops)
file_blob sizes ops code = (
  let most = code.bounded in let size = sizes ops in omega (arith, most, size),
  joined_bytes magic _ magic_bytes (joined_bytes (four (file_length ops)) (spellings ops) (four_bytes (file_length ops)) (all_spelled ops code.each)),
)
  where
    magic_bytes : AreStateBytes magic
    magic_bytes = (omega arith, (omega arith, (omega arith, (omega arith, (omega arith, (omega arith, (omega arith, (omega arith, (omega arith, tt)))))))))

-- ---- names

name_byte : (b : ℕ) → IsTrue (is_script_byte b) → b < 256
name_byte b is = grind (arith, nat_tests)

name_bytes : (name : List ℕ) → IsTrue (list_all is_script_byte name) → AreStateBytes name
name_bytes [] all = tt
name_bytes (b ∷ name) all = (name_byte b (first_of (is_script_byte b) (list_all is_script_byte name) all), name_bytes name (second_of (is_script_byte b) (list_all is_script_byte name) all))

pub name_blob : (name : List ℕ) → IsTrue (is_script_name name) → IsBlob name
unfolding is_script_name
name_blob name h =
    let small = first_of (nat_lt 0 (length name) && nat_le (length name) 16) (list_all is_script_byte name) h in
    let few = short (length name) (second_of (nat_lt 0 (length name)) (nat_le (length name) 16) small) in
    (omega (arith, few), name_bytes name (second_of (nat_lt 0 (length name) && nat_le (length name) 16) (list_all is_script_byte name) h))
  where
    short : (n : ℕ) → IsTrue (nat_le n 16) → n ≤ 16
    short n h = grind (arith, nat_tests)
