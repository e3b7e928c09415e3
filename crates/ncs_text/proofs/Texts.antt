-- The text of an instruction is a line that stands for it.
use Rattle.std.proofs.Common.{◌≡◌, ◌≢◌, ℕ, ℤ, pos, negsuc, suc, ◌/◌, ◌%◌, ◌^◌, ◌<◌, ◌≤◌, ◌==◌, ◌&&◌, Bool, true, false, cond, nat_lt, nat_le, List, [], ◌∷◌, ◌++◌, length, get_or, drop, Some}
use Rattle.std.proofs.Common.{None, refl, ap, ◌∙◌, arith}
use Rattle.std.specs.Prelude.{All, FitsSigned}
use Rattle.std.specs.List.{flat_map}
use Rattle.std.specs.Option.{option_map}
use Rattle.std.specs.Fmt.{decimal, signed_decimal}
use Rattle.std.specs.Int.{w32}
use Rattle.std.specs.Char.{is_ascii_digit}
use Rattle.std.specs.Str.{all_ascii_digits}
use Rattle.std.specs.Str.Parse.{AllDigits, digits_value}
use Rattle.std.proofs.lemmas.Fmt.{decimal_is_IsNumeral, length-decimal-le}
use Rattle.std.proofs.lemmas.Str.Parse.{digit_from_value}
use Rattle.std.proofs.lemmas.Bool.Decides.{nat_tests}
use Rattle.nwq_text.specs.Number.{number_of}
use Rattle.nwq_text.specs.Escape.{AreBytes, quoted, hex_digit, hex_spelling, is_plain}
use Rattle.nwq_text.specs.Escape as escape
use Rattle.ncs_code.specs.Plain.{PlainLit, PlainOp, Int, Float as FloatLit, Text as TextLit, Object, CpDownSp, CpTopSp, Const, Action, Equal, Nequal, MovSp, Jmp, Jsr, Jz, Destruct, DecISp}
use Rattle.ncs_code.specs.Plain.{IncISp, Jnz, CpDownBp, CpTopBp, DecIBp, IncIBp, StoreState}
use Rattle.ncs_code.specs.Spelling.{two, four, signed, spelling, opcode, type_byte, IsByte, IsOp, LitFits, HasTextSize, lit_spelling}
use Rattle.ncs_code.specs.File.{jump_place}
use Rattle.ncs_code.specs.Laws.{SizeLaws}
use Rattle.ncs_text.specs.declared.argument.Argument.{Argument}
use Rattle.ncs_text.specs.declared.argument.Argument.TheVariants.{Signed, Byte, Short, Word, Place, Float, Text}
use Rattle.nwq_text.specs.Cuts.{IsFree}
use Rattle.ncs_text.specs.Arguments.{arguments, literal, offset_to, below, number_below, negative, signed_number, hex_bytes, target_place, argument_bytes, IsArgument, AreArguments}
use Rattle.ncs_text.specs.Assembly.{hex_pair, heading, Writes}
use Rattle.ncs_text.specs.Listing.{number, signed_text, target, copied, literal_text, arguments_text}
use Rattle.ncs_text.proofs.Naming.{IsPrinted, good, hex_read}
use Rattle.ncs_text.proofs.Ops.{HasOpcode}

-- ---- numbers

digital : (ds : List ℕ) → AllDigits 10 ds → all_ascii_digits ds ≡ true
digital [] d = refl
digital (c ∷ cs) d =
    let r = digit_from_value c d.0
    in let t : is_ascii_digit c ≡ true = grind (arith, nat_tests, r.0, r.1) in ap (λ t. t && all_ascii_digits cs) t ∙ digital cs d.1

digits_free : (ds : List ℕ) → AllDigits 10 ds → IsFree 32 ds
digits_free [] d = tt
digits_free (c ∷ cs) d = let r = digit_from_value c d.0 in let other : c ≢ 32 = omega (arith, r.0) in (other, digits_free cs d.1)

digits_printed : (ds : List ℕ) → AllDigits 10 ds → IsPrinted ds
digits_printed [] d = tt
digits_printed (c ∷ cs) d = let r = digit_from_value c d.0 in let above : 32 ≤ c = omega (arith, r.0) in (above, digits_printed cs d.1)

digits : (n : ℕ) → n ≤ 4294967296 → AllDigits 10 (decimal n)
digits n h = (decimal_is_IsNumeral n (omega (arith, h))).0.1

accepted : (a b c : Bool) (n m : ℕ) → a ≡ true → b ≡ true → c ≡ true → m ≡ n → cond (a && b && c) (Some m) None ≡ Some n
accepted a b c n m ha hb hc h = rw (ha, hb, hc, h) refl

decimal_read : (n : ℕ) → n ≤ 4294967296 → number_of (decimal n) ≡ Some n
unfolding number_of
decimal_read n h =
    let numeral = decimal_is_IsNumeral n (omega (arith, h))
    in let some : 0 < length (decimal n) = numeral.0.0
    in let few : length (decimal n) ≤ 10 = length-decimal-le 10 n (omega arith) (omega (arith, h)) (omega (arith, h))
    in accepted (nat_lt 0 (length (decimal n))) (nat_le (length (decimal n)) 10) (all_ascii_digits (decimal n)) n (digits_value 10 (decimal n))
    (grind (arith, nat_tests, some)) (grind (arith, nat_tests, few)) (digital (decimal n) numeral.0.1) numeral.1

below_read : (limit n : ℕ) → n < limit → limit ≤ 4294967297 → number_below limit (decimal n) ≡ Some n
below_read limit n h high =
    let test : nat_lt n limit ≡ true = grind (arith, nat_tests, h)
    in ap (below limit) (decimal_read n (omega (arith, h, high))) ∙ ap (λ t. cond t (Some n) None) test

unsigned : (ds : List ℕ) (n : ℕ) → AllDigits 10 ds → 0 < length ds → number_below 2147483648 ds ≡ Some n → signed_number ds ≡ Some (pos n)
unfolding signed_number
unsigned [] n d some h = absurd (omega arith)
unsigned (c ∷ cs) n d some h =
    let r = digit_from_value c d.0
    in let test : (c == 45) ≡ false = grind (arith, nat_tests, r.0)
    in ap (λ t. cond t (option_map negative (number_below 2147483649 cs)) (option_map pos (number_below 2147483648 (c ∷ cs)))) test ∙ ap (option_map pos) h

signed_read : (n : ℤ) → FitsSigned w32 n → signed_number (signed_decimal n) ≡ Some n
unfolding signed_number
signed_read (pos n) fits =
    let small : n < 2147483648 = omega (arith, fits)
    in unsigned (decimal n) n (digits n (omega (arith, small))) (decimal_is_IsNumeral n (omega (arith, small))).0.0 (below_read 2147483648 n small (omega arith))
signed_read (negsuc n) fits =
    let small : suc n < 2147483649 = omega (arith, fits) in ap (option_map negative) (below_read 2147483649 (suc n) small (omega arith))

signed_free : (n : ℤ) → FitsSigned w32 n → IsFree 32 (signed_decimal n)
signed_free (pos n) fits = let small : n < 2147483648 = omega (arith, fits) in digits_free (decimal n) (digits n (omega (arith, small)))
signed_free (negsuc n) fits =
    let small : suc n ≤ 4294967296 = omega (arith, fits) in let other : 45 ≢ 32 = omega arith in (other, digits_free (decimal (suc n)) (digits (suc n) small))

signed_printed : (n : ℤ) → FitsSigned w32 n → IsPrinted (signed_decimal n)
signed_printed (pos n) fits = let small : n < 2147483648 = omega (arith, fits) in digits_printed (decimal n) (digits n (omega (arith, small)))
signed_printed (negsuc n) fits =
    let small : suc n < 2147483649 = omega (arith, fits) in let above : 32 ≤ 45 = omega arith in (above, digits_printed (decimal (suc n)) (digits (suc n) (omega (arith, small))))

-- ---- single arguments

signed_argument : (at : ℕ) (n : ℤ) → FitsSigned w32 n → IsArgument at Signed (signed_decimal n) (signed n)
unfolding argument_bytes
signed_argument at n fits = ap (option_map signed) (signed_read n fits)

byte_argument : (at n : ℕ) → n < 2 ^ 8 → IsArgument at Byte (decimal n) (n ∷ [])
unfolding argument_bytes
byte_argument at n fits = ap (option_map (λ m. m ∷ [])) (below_read 256 n fits (omega arith))

short_argument : (at n : ℕ) → n < 2 ^ 16 → IsArgument at Short (decimal n) (two n)
unfolding argument_bytes
short_argument at n fits = ap (option_map two) (below_read 65536 n fits (omega arith))

word_argument : (at n : ℕ) → n < 2 ^ 32 → IsArgument at Word (decimal n) (four n)
unfolding argument_bytes
word_argument at n fits = ap (option_map four) (below_read 4294967296 n fits (omega arith))

-- A jump's offset is told by the place that it leads to.
abbrev pub IsLed : ℕ → ℤ → Type 0
IsLed at offset = (jump_place at offset < 4294967296) × (offset_to at (jump_place at offset) ≡ offset)

place_argument : (at : ℕ) (offset : ℤ) → IsLed at offset → IsArgument at Place (64 ∷ decimal (jump_place at offset)) (signed offset)
unfolding argument_bytes target_place
place_argument at offset led =
    ap (option_map (λ place. signed (offset_to at place))) (below_read 4294967296 (jump_place at offset) led.0 (omega arith)) ∙ ap (λ o. Some (signed o)) led.1

each_byte : (bytes : List ℕ) → All IsByte bytes → AreBytes bytes
each_byte [] h = tt
each_byte (b ∷ bs) h = let first : b < 256 = h 0 0 (omega arith) in (first, each_byte bs (λ k d lt. h (suc k) d (omega (arith, lt))))

hexes : (bytes : List ℕ) → AreBytes bytes → hex_bytes (flat_map hex_pair bytes) ≡ Some bytes
unfolding hex_bytes
hexes [] h = refl
hexes (b ∷ bs) h = rw (hex_read b h.0, hexes bs h.1) refl

float_argument : (at : ℕ) (bytes : List ℕ) → length bytes ≡ 4 → AreBytes bytes → IsArgument at Float (flat_map hex_pair bytes) bytes
unfolding argument_bytes
float_argument at [] four h = absurd (omega (arith, four))
float_argument at (a ∷ []) four h = absurd (omega (arith, four))
float_argument at (a ∷ b ∷ []) four h = absurd (omega (arith, four))
float_argument at (a ∷ b ∷ c ∷ []) four h = absurd (omega (arith, four))
float_argument at (a ∷ b ∷ c ∷ d ∷ []) four h = hexes (a ∷ b ∷ c ∷ d ∷ []) h
float_argument at (a ∷ b ∷ c ∷ d ∷ e ∷ bytes) four h = absurd (omega (arith, four))

-- ---- arguments in a row

one : (at : ℕ) (a : Argument) (f x : List ℕ) → IsArgument at a f x → AreArguments at (a ∷ []) (32 ∷ f) x
one at a f x h = (f, refl, h)

both : (at : ℕ) (a b : Argument) (f g x y : List ℕ) → IsFree 32 f → IsArgument at a f x → IsArgument at b g y → AreArguments at (a ∷ b ∷ []) (32 ∷ (f ++ 32 ∷ g)) (x ++ y)
both at a b f g x y free first last = (
  f ++ 32 ∷ g,
  refl,
  record {
    field = f;
    rest = g;
    front = x;
    others = y;
    free = free;
    written = refl;
    spelled = refl;
    first = first;
    behind = last;
  },
)

three : (at : ℕ) (a b d : Argument) (f g h x y z : List ℕ) → IsFree 32 f → IsFree 32 g → IsArgument at a f x → IsArgument at b g y → IsArgument at d h z
    → AreArguments at (a ∷ b ∷ d ∷ []) (32 ∷ (f ++ 32 ∷ (g ++ 32 ∷ h))) (x ++ (y ++ z))
three at a b d f g h x y z free also first second last = (
  f ++ 32 ∷ (g ++ 32 ∷ h),
  refl,
  record {
    field = f;
    rest = g ++ 32 ∷ h;
    front = x;
    others = y ++ z;
    free = free;
    written = refl;
    spelled = refl;
    first = first;
    behind = record { field = g; rest = h; front = y; others = z; free = also; written = refl; spelled = refl; first = second; behind = last };
  },
)

number_free : (n : ℕ) → n ≤ 4294967296 → IsFree 32 (decimal n)
number_free n h = digits_free (decimal n) (digits n h)

copy_written : (at : ℕ) (offset : ℤ) (size : ℕ) → FitsSigned w32 offset → size < 2 ^ 16 → AreArguments at (Signed ∷ Short ∷ []) (copied offset size) (signed offset ++ two size)
copy_written at offset size f g =
    both at Signed Short (signed_decimal offset) (decimal size) (signed offset) (two size) (signed_free offset f) (signed_argument at offset f) (short_argument at size g)

run_written : (at size : ℕ) (t : Bool) → size < 2 ^ 16 → AreArguments at (cond t (Short ∷ []) []) (cond t (number size) []) (cond t (two size) [])
run_written at size true h = one at Short (decimal size) (two size) (short_argument at size h)
run_written at size false h = (refl, refl)

literal_written : (at : ℕ) (lit : PlainLit) → HasTextSize lit → LitFits lit → AreArguments at (literal (type_byte (Const lit)) ∷ []) (literal_text lit) (drop 1 (lit_spelling lit))
literal_written at (Int n) size fits = one at Signed (signed_decimal n) (signed n) (signed_argument at n fits)
literal_written at (FloatLit bytes) size fits = one at Float (flat_map hex_pair bytes) bytes (float_argument at bytes fits.0 (each_byte bytes fits.1))
literal_written at (TextLit bytes) size fits =
    one at Text (quoted bytes) (two (length bytes) ++ bytes) (record { string = bytes; each = each_byte bytes fits; fits = size; written = refl; spelled = refl })
literal_written at (Object n) size fits = one at Word (decimal n) (four n) (word_argument at n fits)

-- a jump of the instruction is led so
abbrev pub Led : ℕ → PlainOp → Type 0
Led at (Jmp offset) = IsLed at offset
Led at (Jsr offset) = IsLed at offset
Led at (Jz offset) = IsLed at offset
Led at (Jnz offset) = IsLed at offset
Led at _ = Unit {0}

step_written : (at : ℕ) (offset : ℤ) → FitsSigned w32 offset → AreArguments at (Signed ∷ []) (signed_text offset) (signed offset)
step_written at offset fits = one at Signed (signed_decimal offset) (signed offset) (signed_argument at offset fits)

jump_written : (at : ℕ) (offset : ℤ) → IsLed at offset → AreArguments at (Place ∷ []) (target at offset) (signed offset)
jump_written at offset led = one at Place (64 ∷ decimal (jump_place at offset)) (signed offset) (place_argument at offset led)

pub fields_written : (at : ℕ) (op : PlainOp) → IsOp op → Led at op → AreArguments at (arguments (opcode op) (type_byte op)) (arguments_text at op) (drop 2 (spelling op))
unfolding arguments two
fields_written at (CpDownSp offset size) h led = copy_written at offset size h.fits.0 h.fits.1
fields_written at (CpTopSp offset size) h led = copy_written at offset size h.fits.0 h.fits.1
fields_written at (Const lit) h led = literal_written at lit h.row.sizes h.fits
fields_written at (Action routine count) h led =
    both at Short Byte (decimal routine) (decimal count) (two routine) (count ∷ []) (number_free routine (omega (arith, h.fits.0))) (short_argument at routine h.fits.0)
    (byte_argument at count h.fits.1)
fields_written at (Equal kind size) h led = run_written at size (kind == 0x24) h.fits.1
fields_written at (Nequal kind size) h led = run_written at size (kind == 0x24) h.fits.1
fields_written at (MovSp offset) h led = step_written at offset h.fits
fields_written at (Jmp offset) h led = jump_written at offset led
fields_written at (Jsr offset) h led = jump_written at offset led
fields_written at (Jz offset) h led = jump_written at offset led
fields_written at (Destruct total offset size) h led =
    three at Short Short Short (decimal total) (decimal offset) (decimal size) (two total) (two offset) (two size) (number_free total (omega (arith, h.fits.0)))
    (number_free offset (omega (arith, h.fits.1))) (short_argument at total h.fits.0) (short_argument at offset h.fits.1) (short_argument at size h.fits.2)
fields_written at (DecISp offset) h led = step_written at offset h.fits
fields_written at (IncISp offset) h led = step_written at offset h.fits
fields_written at (Jnz offset) h led = jump_written at offset led
fields_written at (CpDownBp offset size) h led = copy_written at offset size h.fits.0 h.fits.1
fields_written at (CpTopBp offset size) h led = copy_written at offset size h.fits.0 h.fits.1
fields_written at (DecIBp offset) h led = step_written at offset h.fits
fields_written at (IncIBp offset) h led = step_written at offset h.fits
fields_written at (StoreState globals locals) h led =
    both at Word Word (decimal globals) (decimal locals) (four globals) (four locals) (number_free globals (omega (arith, h.fits.0))) (word_argument at globals h.fits.0)
    (word_argument at locals h.fits.1)
fields_written at _ h led = (refl, refl)

split_two : (s : List ℕ) → 2 ≤ length s → s ≡ get_or s 0 0 ∷ get_or s 1 0 ∷ drop 2 s
split_two [] h = absurd (omega (arith, h))
split_two (a ∷ []) h = absurd (omega (arith, h))
split_two (a ∷ b ∷ s) h = refl

-- the line of an instruction, without its newline
abbrev pub op_text : ℕ → PlainOp → List ℕ
op_text at op = heading op ++ arguments_text at op

pub line_written : SizeLaws → (at : ℕ) (op : PlainOp) → IsOp op → Led at op → Writes at (op_text at op) op
line_written sizes at op h led = record {
  is_op = h;
  text = arguments_text at op;
  bytes = drop 2 (spelling op);
  written = refl;
  spelled = split_two (spelling op) (omega (arith, sizes.op op, sizes.some op));
  fields = fields_written at op h led;
}

-- ---- printed text

printed-append : (a b : List ℕ) → IsPrinted a → IsPrinted b → IsPrinted (a ++ b)
printed-append [] b h k = k
printed-append (x ∷ a) b h k = (h.0, printed-append a b h.1 k)

hex_printed : (d : ℕ) → 32 ≤ hex_digit d
hex_printed d = grind (arith, nat_tests)

pair_printed : (b : ℕ) → IsPrinted (hex_pair b)
pair_printed b = (hex_printed (b / 16), (hex_printed (b % 16), tt))

pairs_printed : (bytes : List ℕ) → IsPrinted (flat_map hex_pair bytes)
pairs_printed [] = tt
pairs_printed (b ∷ bs) = printed-append (hex_pair b) (flat_map hex_pair bs) (pair_printed b) (pairs_printed bs)

fact : (a b : ℕ) → nat_le a b ≡ true → a ≤ b
fact a b h = grind (arith, nat_tests)

spelled_by : (b : ℕ) (t u v : Bool) → (v ≡ true → 32 ≤ b) → IsPrinted (cond t (92 ∷ 92 ∷ []) (cond u (92 ∷ 110 ∷ []) (cond v (b ∷ []) (hex_spelling b))))
spelled_by b true u v h = (fact 32 92 refl, (fact 32 92 refl, tt))
spelled_by b false true v h = (fact 32 92 refl, (fact 32 110 refl, tt))
spelled_by b false false true h = (h refl, tt)
spelled_by b false false false h = (fact 32 92 refl, (fact 32 120 refl, (hex_printed (b / 16), (hex_printed (b % 16), tt))))

plain_printed : (b : ℕ) → is_plain true b ≡ true → 32 ≤ b
plain_printed b h = grind (arith, nat_tests)

spelling_printed : (b : ℕ) → IsPrinted (escape.spelling true b)
unfolding escape.spelling
spelling_printed b = spelled_by b (b == 92) (b == 10) (is_plain true b) (plain_printed b)

spellings_printed : (bytes : List ℕ) → IsPrinted (flat_map (escape.spelling true) bytes)
spellings_printed [] = tt
spellings_printed (b ∷ bs) = printed-append (escape.spelling true b) (flat_map (escape.spelling true) bs) (spelling_printed b) (spellings_printed bs)

quoted_printed : (bytes : List ℕ) → IsPrinted (quoted bytes)
unfolding quoted
quoted_printed bytes = (fact 32 34 refl, printed-append (flat_map (escape.spelling true) bytes) (34 ∷ []) (spellings_printed bytes) (fact 32 34 refl, tt))

number_printed : (n : ℕ) → n ≤ 4294967296 → IsPrinted (number n)
number_printed n h = (fact 32 32 refl, digits_printed (decimal n) (digits n h))

step_printed : (n : ℤ) → FitsSigned w32 n → IsPrinted (signed_text n)
step_printed n fits = (fact 32 32 refl, signed_printed n fits)

target_printed : (at : ℕ) (offset : ℤ) → IsLed at offset → IsPrinted (target at offset)
target_printed at offset led = (fact 32 32 refl, (fact 32 64 refl, digits_printed (decimal (jump_place at offset)) (digits (jump_place at offset) (omega (arith, led.0)))))

copy_printed : (offset : ℤ) (size : ℕ) → FitsSigned w32 offset → size < 2 ^ 16 → IsPrinted (copied offset size)
copy_printed offset size f g = printed-append (signed_text offset) (number size) (step_printed offset f) (number_printed size (omega (arith, g)))

run_printed : (size : ℕ) (t : Bool) → size < 2 ^ 16 → IsPrinted (cond t (number size) [])
run_printed size true h = number_printed size (omega (arith, h))
run_printed size false h = tt

literal_printed : (lit : PlainLit) → LitFits lit → IsPrinted (literal_text lit)
literal_printed (Int n) fits = step_printed n fits
literal_printed (FloatLit bytes) fits = (fact 32 32 refl, pairs_printed bytes)
literal_printed (TextLit bytes) fits = (fact 32 32 refl, quoted_printed bytes)
literal_printed (Object n) fits = number_printed n (omega (arith, fits))

numbers_printed : (a b : ℕ) → a ≤ 4294967296 → b ≤ 4294967296 → IsPrinted (number a ++ number b)
numbers_printed a b f g = printed-append (number a) (number b) (number_printed a f) (number_printed b g)

arguments_printed : (at : ℕ) (op : PlainOp) → IsOp op → Led at op → IsPrinted (arguments_text at op)
arguments_printed at (CpDownSp offset size) h led = copy_printed offset size h.fits.0 h.fits.1
arguments_printed at (CpTopSp offset size) h led = copy_printed offset size h.fits.0 h.fits.1
arguments_printed at (Const lit) h led = literal_printed lit h.fits
arguments_printed at (Action routine count) h led = numbers_printed routine count (omega (arith, h.fits.0)) (omega (arith, h.fits.1))
arguments_printed at (Equal kind size) h led = run_printed size (kind == 0x24) h.fits.1
arguments_printed at (Nequal kind size) h led = run_printed size (kind == 0x24) h.fits.1
arguments_printed at (MovSp offset) h led = step_printed offset h.fits
arguments_printed at (Jmp offset) h led = target_printed at offset led
arguments_printed at (Jsr offset) h led = target_printed at offset led
arguments_printed at (Jz offset) h led = target_printed at offset led
arguments_printed at (Destruct total offset size) h led =
    printed-append (number total) (number offset ++ number size) (number_printed total (omega (arith, h.fits.0))) (numbers_printed offset size (omega (arith, h.fits.1)) (omega (arith, h.fits.2)))
arguments_printed at (DecISp offset) h led = step_printed offset h.fits
arguments_printed at (IncISp offset) h led = step_printed offset h.fits
arguments_printed at (Jnz offset) h led = target_printed at offset led
arguments_printed at (CpDownBp offset size) h led = copy_printed offset size h.fits.0 h.fits.1
arguments_printed at (CpTopBp offset size) h led = copy_printed offset size h.fits.0 h.fits.1
arguments_printed at (DecIBp offset) h led = step_printed offset h.fits
arguments_printed at (IncIBp offset) h led = step_printed offset h.fits
arguments_printed at (StoreState globals locals) h led = numbers_printed globals locals (omega (arith, h.fits.0)) (omega (arith, h.fits.1))
arguments_printed at _ h led = tt

pub op_printed : HasOpcode → (at : ℕ) (op : PlainOp) → IsOp op → Led at op → IsPrinted (op_text at op)
op_printed known at op h led =
    printed-append (heading op) (arguments_text at op)
    (printed-append _ (32 ∷ hex_pair (type_byte op)) (good (opcode op) (known op)).printed (fact 32 32 refl, pair_printed (type_byte op))) (arguments_printed at op h led)
