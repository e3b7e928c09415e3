-- The instruction that a line stands for.
use Rattle.std.proofs.Common.{◌≡◌, ℕ, ◌+◌, ◌/◌, ◌%◌, ◌<◌, List, [], ◌∷◌, ◌++◌, length, Option, Some, None, true, refl, sym, ap, ◌∙◌, subst, arith, append_assoc, append-nil}
use Rattle.std.specs.Prelude.{IsTrue, slice_index_or}
use Rattle.std.proofs.lemmas.Option.{none-some, some_pair_parts}
use Rattle.nwq_text.specs.Escape.{hex_digit}
use Rattle.ncs_code.specs.Plain.{PlainOp, RsAdd, Const, Equal, Nequal, Geq, Gt, Lt, Leq, Add, Sub, Mul, Div, Neg}
use Rattle.ncs_code.specs.Spelling.{spelling, opcode, type_byte, is_opcode, Fits}
use Rattle.ncs_code.specs.Names.{name_at, name_of, IsNamed}
use Rattle.nwq_text.specs.Cuts.{cut_at}
use Rattle.nwq_text.specs.Laws.{cut_free}
use Rattle.ncs_text.specs.Arguments.{arguments, AreArguments, hex_byte}
use Rattle.ncs_text.specs.Assembly.{Writes, Assembles, remark, instruction, heading, hex_pair, IsRemark}
use Rattle.ncs_text.specs.Steps.{IsRow, PutsSome, PutsOrStops}
use Rattle.ncs_text.proofs.Fields.{cut_is, one_arguments}
use Rattle.ncs_text.proofs.Naming.{good, one_code, literal_small, hex_read, hex_written}

pub type_small : (op : PlainOp) → Fits op → type_byte op < 256
type_small (RsAdd kind) h = h
type_small (Const lit) h = literal_small lit
type_small (Equal kind size) h = h.0
type_small (Nequal kind size) h = h.0
type_small (Geq kind) h = h
type_small (Gt kind) h = h
type_small (Lt kind) h = h
type_small (Leq kind) h = h
type_small (Add kind) h = h
type_small (Sub kind) h = h
type_small (Mul kind) h = h
type_small (Div kind) h = h
type_small (Neg kind) h = h
type_small _ h = omega arith

abbrev pub HasOpcode : Type 0
HasOpcode = (op : PlainOp) → IsTrue (is_opcode (opcode op))

abbrev pub behind_name : PlainOp → List ℕ → List ℕ
behind_name op text = hex_digit (type_byte op / 16) ∷ hex_digit (type_byte op % 16) ∷ text

pub parted : (op : PlainOp) (text : List ℕ) → heading op ++ text ≡ name_of op ++ 32 ∷ behind_name op text
parted op text = append_assoc (name_of op) (32 ∷ hex_pair (type_byte op)) text

-- a line that stands for an instruction is cut behind its name
pub cut_written : HasOpcode → (at : ℕ) (line : List ℕ) (op : PlainOp) (w : Writes at line op) → cut_at 32 line ≡ Some (name_of op, behind_name op w.text)
cut_written known at line op w =
    ap (cut_at 32) (w.written ∙ parted op w.text) ∙ cut_free 32 (name_of op) (behind_name op w.text) (good (opcode op) (known op)).free

pub uncut_line : HasOpcode → (at : ℕ) (line : List ℕ) → cut_at 32 line ≡ None → (op : PlainOp) → Writes at line op → ⊥
uncut_line known at line e op w = none-some (name_of op, behind_name op w.text) (sym e ∙ cut_written known at line op w)

record Parts (front back : List ℕ) (op : PlainOp) (text : List ℕ) : Type 0 where
  name : name_of op ≡ front
  rest : behind_name op text ≡ back

parts_of : HasOpcode → (at : ℕ) (line name rest : List ℕ) → cut_at 32 line ≡ Some (name, rest) → (op : PlainOp) (w : Writes at line op) → Parts name rest op w.text
parts_of known at line name rest e op w =
    let p = some_pair_parts (name_of op) name (behind_name op w.text) rest (sym (cut_written known at line op w) ∙ e) in record { name = p.0; rest = p.1 }

pub unnamed : HasOpcode → (at : ℕ) (line name rest : List ℕ) → cut_at 32 line ≡ Some (name, rest) → IsNamed name None → (op : PlainOp) → Writes at line op → ⊥
unnamed known at line name rest e none op w = none (opcode op) (known op) (parts_of known at line name rest e op w).name

pub too_short : HasOpcode → (at : ℕ) (line name rest : List ℕ) → cut_at 32 line ≡ Some (name, rest) → length rest < 2 → (op : PlainOp) → Writes at line op → ⊥
too_short known at line name rest e short op w = let p = parts_of known at line name rest e op w in omega (arith, ap length p.rest)

first_of : (a b : ℕ) (x y : List ℕ) → a ∷ x ≡ b ∷ y → (a ≡ b) × (x ≡ y)
first_of a b x y e = (cc, cc)

digits_of : (op : PlainOp) (text : List ℕ) (high low : ℕ) (tail rest : List ℕ) → rest ≡ high ∷ low ∷ tail → behind_name op text ≡ rest
    → (hex_digit (type_byte op / 16) ≡ high) × (hex_digit (type_byte op % 16) ≡ low) × (text ≡ tail)
digits_of op text high low tail rest is e =
    let first = first_of (hex_digit (type_byte op / 16)) high (hex_digit (type_byte op % 16) ∷ text) (low ∷ tail) (e ∙ is)
    in let second = first_of (hex_digit (type_byte op % 16)) low text tail first.1
    in (first.0, second.0, second.1)

read_type : (op : PlainOp) (high low : ℕ) → Fits op → hex_digit (type_byte op / 16) ≡ high → hex_digit (type_byte op % 16) ≡ low → hex_byte high low ≡ Some (type_byte op)
read_type op high low fits h l = ap (λ x. hex_byte x low) (sym h) ∙ ap (hex_byte (hex_digit (type_byte op / 16))) (sym l) ∙ hex_read (type_byte op) (type_small op fits)

pub untyped : HasOpcode → (at : ℕ) (line name rest tail : List ℕ) (high low : ℕ) → cut_at 32 line ≡ Some (name, rest) → rest ≡ high ∷ low ∷ tail → hex_byte high low ≡ None
    → (op : PlainOp) → Writes at line op → ⊥
untyped known at line name rest tail high low e is none op w =
    let p = parts_of known at line name rest e op w
    in let d = digits_of op w.text high low tail rest is p.rest
    in none-some (type_byte op) (sym none ∙ read_type op high low w.is_op.fits d.0 d.1)

first_byte : (op : PlainOp) (code kind : ℕ) (bytes : List ℕ) → spelling op ≡ code ∷ kind ∷ bytes → (opcode op ≡ code) × (type_byte op ≡ kind)
first_byte op code kind bytes e = (ap (λ s. slice_index_or s 0 0) e, ap (λ s. slice_index_or s 1 0) e)

-- the row's instruction is the line's
row_writes : (at : ℕ) (line name rest tail : List ℕ) (code kind high low : ℕ) → cut_at 32 line ≡ Some (name, rest) → name_at code ≡ name → rest ≡ high ∷ low ∷ tail
    → hex_byte high low ≡ Some kind → (op : PlainOp) → IsRow at code kind tail op → Writes at line op
row_writes at line name rest tail code kind high low e named is typed op row =
    let same = first_byte op code kind row.bytes row.spelled
    in let digits = hex_written high low kind typed
    in let whole : line ≡ name_at code ++ 32 ∷ hex_digit (kind / 16) ∷ hex_digit (kind % 16) ∷ tail
    = (cut_is 32 line name rest e).0 ∙ ap (λ n. n ++ 32 ∷ rest) (sym named)
    ∙ ap (λ r. name_at code ++ 32 ∷ r) (is ∙ ap (λ d. d ∷ low ∷ tail) digits.0 ∙ ap (λ d. hex_digit (kind / 16) ∷ d ∷ tail) digits.1)
    in let written : line ≡ name_at (opcode op) ++ 32 ∷ hex_digit (type_byte op / 16) ∷ hex_digit (type_byte op % 16) ∷ tail
    = whole ∙ ap (λ x. name_at x ++ 32 ∷ hex_digit (kind / 16) ∷ hex_digit (kind % 16) ∷ tail) (sym same.0)
    ∙ ap (λ k. name_at (opcode op) ++ 32 ∷ hex_digit (k / 16) ∷ hex_digit (k % 16) ∷ tail) (sym same.1)
    in record {
      is_op = row.is_op;
      text = tail;
      bytes = row.bytes;
      written = written ∙ sym (parted op tail);
      spelled = row.spelled ∙ ap (λ x. x ∷ kind ∷ row.bytes) (sym same.0) ∙ ap (λ k. opcode op ∷ k ∷ row.bytes) (sym same.1);
      fields = subst (λ x. AreArguments at (arguments x (type_byte op)) tail row.bytes) (sym same.0)
          (subst (λ k. AreArguments at (arguments code k) tail row.bytes) (sym same.1) row.fields);
    }

-- and the line's is the row's
writes_row : HasOpcode → (at : ℕ) (line name rest tail : List ℕ) (code kind high low : ℕ) → cut_at 32 line ≡ Some (name, rest) → is_opcode code ≡ true → name_at code ≡ name
    → rest ≡ high ∷ low ∷ tail → hex_byte high low ≡ Some kind → (op : PlainOp) → Writes at line op → IsRow at code kind tail op
writes_row known at line name rest tail code kind high low e opcode_is named is typed op w =
    let p = parts_of known at line name rest e op w
    in let d = digits_of op w.text high low tail rest is p.rest
    in let code_is : opcode op ≡ code = one_code (opcode op) code (known op) opcode_is (p.name ∙ sym named)
    in let both : Some (type_byte op) ≡ Some kind = sym (read_type op high low w.is_op.fits d.0 d.1) ∙ typed
    in let kind_is : type_byte op ≡ kind = cc
    in record {
      is_op = w.is_op;
      bytes = w.bytes;
      spelled = w.spelled ∙ ap (λ x. x ∷ type_byte op ∷ w.bytes) code_is ∙ ap (λ k. code ∷ k ∷ w.bytes) kind_is;
      fields = subst (λ t. AreArguments at (arguments code kind) t w.bytes) d.2
          (subst (λ k. AreArguments at (arguments code k) w.text w.bytes) kind_is
          (subst (λ x. AreArguments at (arguments x (type_byte op)) w.text w.bytes) code_is w.fields));
    }

pub op_puts : HasOpcode → (at : ℕ) (line name rest tail before now : List ℕ) (code kind high low : ℕ) (size : Option ℕ) → cut_at 32 line ≡ Some (name, rest)
    → IsNamed name (Some code) → rest ≡ high ∷ low ∷ tail → hex_byte high low ≡ Some kind → PutsSome (IsRow at code kind tail) before now size → PutsSome (Writes at line) before now size
op_puts known at line name rest tail before now code kind high low (Some n) e named is typed s = record {
  op = s.op;
  holds = row_writes at line name rest tail code kind high low e named.1 is typed s.op s.holds;
  appended = s.appended;
  size_is = s.size_is;
}
op_puts known at line name rest tail before now code kind high low None e named is typed none =
    λ op w. none op (writes_row known at line name rest tail code kind high low e named.0 named.1 is typed op w)

-- ---- a line

pub remark_puts : (at : ℕ) (line before : List ℕ) → IsRemark line → PutsOrStops at line before before (Some 0)
remark_puts at line before is = record {
  ops = [];
  more = λ lines others a. let same : at + 0 ≡ at = omega arith in remark at line lines others is (subst (λ n. Assembles n lines others) same a);
  appended = sym (append-nil before);
  size_is = refl;
  last = λ h. absurd (omega (arith, h));
}

pub op_line_puts : (at : ℕ) (line before now : List ℕ) (size : Option ℕ) → (IsRemark line → ⊥) → PutsSome (Writes at line) before now size → PutsOrStops at line before now size
op_line_puts at line before now (Some n) speaks s = record {
  ops = s.op ∷ [];
  more = λ lines others a. instruction at line s.op lines others s.holds (subst (λ k. Assembles (at + k) lines others) s.size_is a);
  appended = s.appended ∙ ap (λ b. before ++ b) (sym (append-nil (spelling s.op)));
  size_is = omega (arith, s.size_is);
  last = λ h. (s.op, refl, s.holds);
}
op_line_puts at line before now None speaks none = (speaks, none)

-- ---- one instruction

-- a line tells the bytes of its instruction
pub writes_one : HasOpcode → (at : ℕ) (line : List ℕ) (a b : PlainOp) → Writes at line a → Writes at line b → spelling a ≡ spelling b
writes_one known at line a b x y =
    let p = parts_of known at line (name_of b) (behind_name b y.text) (cut_written known at line b y) a x
    in let code_is : opcode a ≡ opcode b = one_code (opcode a) (opcode b) (known a) (known b) p.name
    in let d = digits_of a x.text (hex_digit (type_byte b / 16)) (hex_digit (type_byte b % 16)) y.text (behind_name b y.text) refl p.rest
    in let both : Some (type_byte a) ≡ Some (type_byte b)
    = sym (read_type a (hex_digit (type_byte b / 16)) (hex_digit (type_byte b % 16)) x.is_op.fits d.0 d.1) ∙ hex_read (type_byte b) (type_small b y.is_op.fits)
    in let kind_is : type_byte a ≡ type_byte b = cc
    in let fields : AreArguments at (arguments (opcode b) (type_byte b)) y.text x.bytes
    = subst (λ t. AreArguments at (arguments (opcode b) (type_byte b)) t x.bytes) d.2
    (subst (λ k. AreArguments at (arguments (opcode b) k) x.text x.bytes) kind_is
    (subst (λ c. AreArguments at (arguments c (type_byte a)) x.text x.bytes) code_is x.fields))
    in let bytes : x.bytes ≡ y.bytes = one_arguments at (arguments (opcode b) (type_byte b)) y.text x.bytes y.bytes fields y.fields
    in x.spelled ∙ ap (λ c. c ∷ type_byte a ∷ x.bytes) code_is ∙ ap (λ k. opcode b ∷ k ∷ x.bytes) kind_is ∙ ap (λ bs. opcode b ∷ type_byte b ∷ bs) bytes ∙ sym y.spelled
