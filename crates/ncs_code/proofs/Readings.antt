-- The bytes of an instruction tell which one it is, whatever follows.
use Rattle.std.proofs.Common.{◌≡◌, ◌≢◌, ◌<◌, ◌^◌, ℕ, ℤ, List, [], ◌∷◌, ◌++◌, length, drop, take, Bool, true, false, cond, eqb, refl, sym, ap, ◌∙◌, subst, arith, Some, None, Result, Ok, Err}
use Rattle.std.specs.Prelude.{IfOk, IsOkAnd, MatchResult, FitsSigned}
use Rattle.std.specs.Int.{w32, cast_signed, cast_unsigned}
use Rattle.std.proofs.Math.Facts.{Fits-of_z}
use Rattle.std.proofs.lemmas.Int.{to_z-of_z}
use Rattle.std.proofs.lemmas.Bool.{eqb-false}
use Rattle.std.proofs.lemmas.List.{take_at}
use Rattle.std.proofs.lemmas.Nat.{from_be_bytes-to_be_bytes_2, from_be_bytes-to_be_bytes_4}
use Rattle.ncs_code.specs.Plain.{PlainLit, PlainOp, Int, Float, Text, Object, CpDownSp, RsAdd, CpTopSp, Const, Action, LogAnd, LogOr, IncOr, ExcOr, BoolAnd, Equal, Nequal, Geq, Gt, Lt, Leq}
use Rattle.ncs_code.specs.Plain.{ShLeft, ShRight, UshRight, Add, Sub, Mul, Div, Mod, Neg, Comp, MovSp, Jmp, Jsr, Jz, Retn, Destruct, Not, DecISp, IncISp, Jnz, CpDownBp, CpTopBp, DecIBp, IncIBp}
use Rattle.ncs_code.specs.Plain.{SaveBp, RestoreBp, StoreState, Nop}
use Rattle.ncs_code.specs.Spelling.{two, four, signed, run_size, spelling, op_size, HasTextSize, IsOp, LitFits, Spells, fault_of}
use Rattle.ncs_code.specs.Plain.{plain}
use Rattle.ncs_code.specs.declared.fault.CodeFault.{CodeFault}
use Rattle.ncs_code.specs.declared.instruction.Op.{Op}
use Rattle.ncs_code.proofs.Sound.{sound}
use Rattle.ncs_code.proofs.Sizes.{size_is_length}
use Rattle.ncs_code.specs.Reading.{two_of, four_of, signed_of, op_of}

two_again : (n : ℕ) (rest : List ℕ) → n < 2 ^ 16 → two_of (two n ++ rest) ≡ n
unfolding two
two_again n rest fits = from_be_bytes-to_be_bytes_2 n fits

four_again : (n : ℕ) (rest : List ℕ) → n < 2 ^ 32 → four_of (four n ++ rest) ≡ n
unfolding four
four_again n rest fits = from_be_bytes-to_be_bytes_4 n fits

signed_again : (n : ℤ) (rest : List ℕ) → FitsSigned w32 n → signed_of (signed n ++ rest) ≡ n
unfolding signed
signed_again n rest fits = ap (cast_signed w32) (from_be_bytes-to_be_bytes_4 (cast_unsigned w32 n) (omega (arith, Fits-of_z fits))) ∙ to_z-of_z w32 n fits

-- two parts and what follows
copied_again : (make : ℤ → ℕ → PlainOp) (offset : ℤ) (size : ℕ) (rest : List ℕ) → FitsSigned w32 offset → size < 2 ^ 16
    → make (signed_of ((signed offset ++ two size) ++ rest)) (two_of (drop 4 ((signed offset ++ two size) ++ rest))) ≡ make offset size
unfolding signed two
copied_again make offset size rest f g =
    ap (λ n. make n (two_of (two size ++ rest))) (signed_again offset (two size ++ rest) f) ∙ ap (make offset) (two_again size rest g)

compared_by : (make : ℕ → ℕ → PlainOp) (kind size : ℕ) (rest : List ℕ) (test : Bool) → eqb kind 0x24 ≡ test → (kind ≢ 0x24 → size ≡ 0) → size < 2 ^ 16
    → make kind (cond test (two_of (cond test (two size) [] ++ rest)) 0) ≡ make kind size
compared_by make kind size rest true is without fits = ap (make kind) (two_again size rest fits)
compared_by make kind size rest false is without fits = ap (make kind) (sym (without (eqb-false kind 0x24 is)))

compared_again : (make : ℕ → ℕ → PlainOp) (kind size : ℕ) (rest : List ℕ) → (kind ≢ 0x24 → size ≡ 0) → size < 2 ^ 16
    → make kind (cond (eqb kind 0x24) (two_of (run_size kind size ++ rest)) 0) ≡ make kind size
compared_again make kind size rest without fits = compared_by make kind size rest (eqb kind 0x24) refl without fits

literal_again : (lit : PlainLit) (rest : List ℕ) → HasTextSize lit → LitFits lit → op_of (spelling (Const lit) ++ rest) ≡ Const lit
unfolding two op_of
literal_again (Int n) rest size fits = ap (λ m. Const (Int m)) (signed_again n rest fits)
literal_again (Float bytes) rest size fits = ap (λ b. Const (Float b)) (take_at bytes rest 4 fits.0)
literal_again (Text bytes) rest size fits =
    ap (λ n. Const (Text (take n (bytes ++ rest)))) (two_again (length bytes) (bytes ++ rest) size) ∙ ap (λ b. Const (Text b)) (take_at bytes rest (length bytes) refl)
literal_again (Object n) rest size fits = ap (λ m. Const (Object m)) (four_again n rest fits)

pub op_again : (op : PlainOp) (rest : List ℕ) → IsOp op → op_of (spelling op ++ rest) ≡ op
unfolding signed two four op_of
op_again (CpDownSp offset size) rest h = copied_again CpDownSp offset size rest h.fits.0 h.fits.1
op_again (RsAdd kind) rest h = refl
op_again (CpTopSp offset size) rest h = copied_again CpTopSp offset size rest h.fits.0 h.fits.1
op_again (Const lit) rest h = literal_again lit rest h.row.sizes h.fits
op_again (Action routine count) rest h = ap (λ r. Action r count) (two_again routine (count ∷ rest) h.fits.0)
op_again LogAnd rest h = refl
op_again LogOr rest h = refl
op_again IncOr rest h = refl
op_again ExcOr rest h = refl
op_again BoolAnd rest h = refl
op_again (Equal kind size) rest h = compared_again Equal kind size rest h.row.sizes h.fits.1
op_again (Nequal kind size) rest h = compared_again Nequal kind size rest h.row.sizes h.fits.1
op_again (Geq kind) rest h = refl
op_again (Gt kind) rest h = refl
op_again (Lt kind) rest h = refl
op_again (Leq kind) rest h = refl
op_again ShLeft rest h = refl
op_again ShRight rest h = refl
op_again UshRight rest h = refl
op_again (Add kind) rest h = refl
op_again (Sub kind) rest h = refl
op_again (Mul kind) rest h = refl
op_again (Div kind) rest h = refl
op_again Mod rest h = refl
op_again (Neg kind) rest h = refl
op_again Comp rest h = refl
op_again (MovSp offset) rest h = ap MovSp (signed_again offset rest h.fits)
op_again (Jmp offset) rest h = ap Jmp (signed_again offset rest h.fits)
op_again (Jsr offset) rest h = ap Jsr (signed_again offset rest h.fits)
op_again (Jz offset) rest h = ap Jz (signed_again offset rest h.fits)
op_again Retn rest h = refl
op_again (Destruct total offset size) rest h =
    ap (λ t. Destruct t (two_of (two offset)) (two_of (two size))) (two_again total [] h.fits.0)
    ∙ ap (λ o. Destruct total o (two_of (two size))) (two_again offset [] h.fits.1)
    ∙ ap (λ s. Destruct total offset s) (two_again size [] h.fits.2)
op_again Not rest h = refl
op_again (DecISp offset) rest h = ap DecISp (signed_again offset rest h.fits)
op_again (IncISp offset) rest h = ap IncISp (signed_again offset rest h.fits)
op_again (Jnz offset) rest h = ap Jnz (signed_again offset rest h.fits)
op_again (CpDownBp offset size) rest h = copied_again CpDownBp offset size rest h.fits.0 h.fits.1
op_again (CpTopBp offset size) rest h = copied_again CpTopBp offset size rest h.fits.0 h.fits.1
op_again (DecIBp offset) rest h = ap DecIBp (signed_again offset rest h.fits)
op_again (IncIBp offset) rest h = ap IncIBp (signed_again offset rest h.fits)
op_again SaveBp rest h = refl
op_again RestoreBp rest h = refl
op_again (StoreState globals locals) rest h =
    ap (λ g. StoreState g (four_of (four locals))) (four_again globals [] h.fits.0) ∙ ap (λ l. StoreState globals l) (four_again locals [] h.fits.1)
op_again Nop rest h = refl

pub none_begins_another : (a b : PlainOp) (x y : List ℕ) → IsOp a → IsOp b → spelling a ++ x ≡ spelling b ++ y → a ≡ b
none_begins_another a b x y f g same = sym (op_again a x f) ∙ ap op_of same ∙ op_again b y g

pub spelled_answer : (r : Result (Op × ℕ) CodeFault) (bytes : List ℕ) → IfOk r (λ x. IsOp (plain x.0)) → IfOk r (λ x. bytes ≡ spelling (plain x.0) ++ drop x.1 bytes)
    → IfOk r (λ x. x.1 ≡ length (spelling (plain x.0))) → IfOk r (λ x. Spells (plain x.0) x.1 bytes)
spelled_answer (Ok x) bytes is_op prefix long = record { is_op = is_op; prefix = prefix; size = long ∙ sym (size_is_length (plain x.0)) }
spelled_answer (Err e) bytes is_op prefix long = tt

pub spelled_at : (r : Result (Op × ℕ) CodeFault) (bytes whole : List ℕ) → bytes ≡ whole → IfOk r (λ x. Spells (plain x.0) x.1 bytes) → IfOk r (λ x. Spells (plain x.0) x.1 whole)
spelled_at r bytes whole same spelled = subst (λ b. IfOk r (λ x. Spells (plain x.0) x.1 b)) same spelled

-- An answer that is spelled where it says, or tells the fault there, is the one instruction that is
-- spelled.
pub only_answer : (r : Result (Op × ℕ) CodeFault) (bytes : List ℕ) → IfOk r (λ x. Spells (plain x.0) x.1 bytes)
    → MatchResult r (λ _. fault_of bytes ≡ None) (λ fault. fault_of bytes ≡ Some fault)
    → (op : PlainOp) (rest : List ℕ) → IsOp op → bytes ≡ spelling op ++ rest → IsOkAnd r (λ x. (plain x.0 ≡ op) × (x.1 ≡ op_size op))
only_answer (Ok x) bytes found fault op rest is_op front =
    let same : plain x.0 ≡ op = none_begins_another (plain x.0) op (drop x.1 bytes) rest found.is_op is_op (sym found.prefix ∙ front) in
    (same, found.size ∙ ap op_size same)
only_answer (Err e) bytes found fault op rest is_op front =
    let none : fault_of bytes ≡ None = ap fault_of front ∙ sound op rest is_op in
    let none_some : None ≡ Some e = sym none ∙ fault in
    absurd cc
