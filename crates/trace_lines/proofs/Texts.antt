-- A line's text has one newline, at its end.
use Rattle.std.proofs.Common.{arith, ◌≡◌, ◌≢◌, ◌+◌, ◌/◌, ◌%◌, ◌==◌, ℕ, zero, suc, ℤ, pos, negsuc, Bool, true, false, cond, List, [], ◌∷◌, ◌++◌, refl, ap, ◌∙◌, append_assoc, codes, if◌then◌else◌}
use Rattle.std.specs.Prelude.{nat_lt, not, ◌&&◌}
use Rattle.std.specs.List.{flat_map, list_all}
use Rattle.std.specs.Fmt.{decimal, signed_decimal, digits, digits_onto, digit_glyph}
use Rattle.std.proofs.lemmas.Bool.Decides.{nat_tests}
use Rattle.std.proofs.lemmas.List.Sums.{sum_by-cons}
use Rattle.nwq_value.specs.Effect.{Effect as EffectRecord}
use Rattle.nwq_value.specs.declared.value.Value.{Value}
use Rattle.nwq_value.specs.declared.value.Value.TheVariants.{Int, Text, Object, Effect, Event}
use Rattle.nwq_text.specs.Cuts.{IsFree}
use Rattle.nwq_text.specs.Escape.{hex_digit, hex_spelling, is_plain, spelling, escaped, quoted}
use Rattle.nwq_text.specs.Values.{comma_parted, object_text, effect_text, event_text, value_text, arguments_text}
use Rattle.world_rules.specs.declared.data.Line.{Line}
use Rattle.world_rules.specs.declared.data.Told.{Told}
use Rattle.world_rules.specs.declared.data.Told.TheVariants.{Print, Speak, Call, NoScript, Deep, Divide, Apply, Remove, Expire}
use Rattle.world_rules.specs.Trace.{print_text, told_text, line_text, trace_text}
use Rattle.trace_lines.specs.Lines.{IsOneLine, newlines, HasPlainName, ArePlain, AreOneLines}
use Rattle.trace_lines.specs.Laws.{NewlinesCountLines}

-- ---- texts without a newline

abbrev Free : List ℕ → Type 0
Free text = IsFree 10 text

free_append : (a b : List ℕ) → Free a → Free b → Free (a ++ b)
free_append [] b f g = g
free_append (x ∷ a) b f g = (f.0, free_append a b f.1 g)

free_all : {A : Type 0} (text : A → List ℕ) (xs : List A) → ((x : A) → Free (text x)) → Free (flat_map text xs)
free_all text [] each = tt
free_all text (x ∷ xs) each = free_append (text x) (flat_map text xs) (each x) (free_all text xs each)

either_free : (b : Bool) (one other : List ℕ) → Free one → Free other → Free (if b then one else other)
either_free true one other f g = f
either_free false one other f g = g

-- ---- numbers

digit_free : (d : ℕ) → digit_glyph false d ≢ 10
digit_free d = on (nat_lt d 10)
  where
    on : (b : Bool) → (if b then 48 + d else (if false then 55 + d else 87 + d)) ≢ 10
    on true = omega arith
    on false = omega arith

digits_free : (k n : ℕ) (behind : List ℕ) → Free behind → Free (digits_onto k 10 false n behind)
digits_free zero n behind f = f
digits_free (suc k) n behind f =
    let one = digit_glyph false (n % 10) ∷ behind in
    either_free (n / 10 == 0) one (digits_onto k 10 false (n / 10) one) (digit_free (n % 10), f) (digits_free k (n / 10) one (digit_free (n % 10), f))

decimal_free : (n : ℕ) → Free (decimal n)
unfolding digits
decimal_free n = digits_free 64 n [] tt

signed_free : (n : ℤ) → Free (signed_decimal n)
signed_free (pos n) = decimal_free n
signed_free (negsuc n) = (omega arith, decimal_free (suc n))

-- ---- escaped texts

hex_free : (d : ℕ) → hex_digit d ≢ 10
hex_free d = on (nat_lt d 10)
  where
    on : (b : Bool) → (if b then 48 + d else 87 + d) ≢ 10
    on true = omega arith
    on false = omega arith

plain_free : (q : Bool) (b : ℕ) → is_plain q b ≡ true → b ≢ 10
plain_free q b h = grind (arith, nat_tests)

spelling_free : (q : Bool) (b : ℕ) → Free (spelling q b)
unfolding spelling
spelling_free q b = on (b == 92) (b == 10) (is_plain q b) refl
  where
    on : (slash newline plain : Bool) → is_plain q b ≡ plain
        → Free (if slash then 92 ∷ 92 ∷ [] else if newline then 92 ∷ 110 ∷ [] else if plain then b ∷ [] else hex_spelling b)
    on true newline plain h = (omega arith, (omega arith, tt))
    on false true plain h = (omega arith, (omega arith, tt))
    on false false true h = (plain_free q b h, tt)
    on false false false h = (omega arith, (omega arith, (hex_free (b / 16), (hex_free (b % 16), tt))))

escaped_free : (bytes : List ℕ) → Free (escaped bytes)
unfolding escaped
escaped_free bytes = free_all (spelling false) bytes (spelling_free false)

quoted_free : (bytes : List ℕ) → Free (quoted bytes)
unfolding quoted
quoted_free bytes = (omega arith, free_append (flat_map (spelling true) bytes) (34 ∷ []) (free_all (spelling true) bytes (spelling_free true)) (omega arith, tt))

-- ---- values

object_free : (o : ℕ) → Free (object_text o)
object_free o = (omega arith, decimal_free o)

parted_free : {A : Type 0} (text : A → List ℕ) (xs : List A) → ((x : A) → Free (text x)) → Free (comma_parted text xs)
parted_free text [] each = tt
parted_free text (x ∷ xs) each = free_append (text x) (flat_map (λ y. 44 ∷ text y) xs) (each x) (free_all (λ y. 44 ∷ text y) xs (λ y. (omega arith, each y)))

effect_free : (e : EffectRecord) → Free (effect_text e)
unfolding effect_text
effect_free e = free_append (decimal e.routine ++ 40 ∷ comma_parted signed_decimal e.ints) (41 ∷ [])
    (free_append (decimal e.routine) (40 ∷ comma_parted signed_decimal e.ints) (decimal_free e.routine) (omega arith, parted_free signed_decimal e.ints signed_free))
    (omega arith, tt)

-- the bytes of a word, tested
abbrev pub has_none : List ℕ → Bool
has_none bytes = list_all (λ b. not (b == 10)) bytes

pub both : (a b : Bool) → (a && b) ≡ true → (a ≡ true) × (b ≡ true)
both true b h = (refl, h)
both false b h = absurd cc

pub word : (bytes : List ℕ) → has_none bytes ≡ true → Free bytes
word [] h = tt
word (b ∷ bytes) h = let tests = both (not (b == 10)) (has_none bytes) h in let other = tests.0 in (grind (arith, nat_tests, other), word bytes tests.1)

event_free : (n : ℤ) → Free (event_text n)
event_free n = free_append (codes "event(" ++ signed_decimal n) (41 ∷ []) (free_append (codes "event(") (signed_decimal n) (word (codes "event(") refl) (signed_free n)) (omega arith, tt)

value_free : (v : Value) → Free (value_text v)
unfolding value_text
value_free (Int n) = signed_free n
value_free (Text bytes) = quoted_free bytes
value_free (Object o) = object_free o
value_free (Effect e) = effect_free e
value_free (Event n) = event_free n

arguments_free : (values : List Value) → Free (arguments_text values)
unfolding arguments_text
arguments_free values = parted_free value_text values value_free

-- ---- what is told

print_free : (v : Value) → Free (print_text v)
print_free (Text bytes) = escaped_free bytes
print_free (Int n) = value_free (Int n)
print_free (Object o) = value_free (Object o)
print_free (Effect e) = value_free (Effect e)
print_free (Event n) = value_free (Event n)

told_free : (what : Told) → HasPlainName what → Free (told_text what)
told_free (Print v) h = free_append (codes "print ") (print_text v) (word (codes "print ") refl) (print_free v)
told_free (Speak bytes) h = free_append (codes "speak ") (escaped bytes) (word (codes "speak ") refl) (escaped_free bytes)
told_free (Call name values) h = free_append ((codes "call " ++ name) ++ 40 ∷ arguments_text values) (41 ∷ [])
    (free_append (codes "call " ++ name) (40 ∷ arguments_text values) (free_append (codes "call ") name (word (codes "call ") refl) h) (omega arith, arguments_free values))
    (omega arith, tt)
told_free (NoScript name) h = free_append (codes "noscript ") (escaped name) (word (codes "noscript ") refl) (escaped_free name)
told_free (Deep name) h = free_append (codes "deep ") (escaped name) (word (codes "deep ") refl) (escaped_free name)
told_free Divide h = word (codes "fault divide") refl
told_free (Apply duration e) h = free_append (codes "apply " ++ signed_decimal duration) (32 ∷ effect_text e)
    (free_append (codes "apply ") (signed_decimal duration) (word (codes "apply ") refl) (signed_free duration)) (omega arith, effect_free e)
told_free (Remove e) h = free_append (codes "remove ") (effect_text e) (word (codes "remove ") refl) (effect_free e)
told_free (Expire e) h = free_append (codes "expire ") (effect_text e) (word (codes "expire ") refl) (effect_free e)

-- ---- a line

one_line : (l : Line) → HasPlainName l.told → IsOneLine (line_text l)
unfolding line_text
one_line l h = record {
  front = (decimal l.clock ++ 32 ∷ object_text l.object) ++ 32 ∷ told_text l.told;
  is = refl;
  free = free_append (decimal l.clock ++ 32 ∷ object_text l.object) (32 ∷ told_text l.told)
      (free_append (decimal l.clock) (32 ∷ object_text l.object) (decimal_free l.clock) (omega arith, object_free l.object)) (omega arith, told_free l.told h);
}

pub one_lines : (lines : List Line) → ArePlain lines → AreOneLines lines
one_lines [] h = tt
one_lines (l ∷ lines) h = (one_line l h.0, one_lines lines h.1)

-- ---- newlines

abbrev newline : ℕ → ℕ
newline b = cond (b == 10) 1 0

counted_past : (front rest : List ℕ) → Free front → newlines (front ++ 10 ∷ rest) ≡ suc (newlines rest)
counted_past [] rest f = let first = sum_by-cons newline 10 rest in omega (arith, first)
counted_past (b ∷ front) rest f =
    let other : (b == 10) ≡ false = grind (arith, nat_tests, f.0) in
    let first : newlines (b ∷ (front ++ 10 ∷ rest)) ≡ newline b + newlines (front ++ 10 ∷ rest) = sum_by-cons newline b (front ++ 10 ∷ rest) in
    let none : newline b ≡ zero = ap (λ (t : Bool). cond t 1 0) other in
    let behind = counted_past front rest f.1 in
    omega (arith, first, none, behind)

pub newlines_count_lines : NewlinesCountLines
unfolding trace_text
newlines_count_lines [] one = refl
newlines_count_lines (l ∷ lines) one =
    let first = one.0 in
    let rest = flat_map line_text lines in
    ap (λ t. newlines (t ++ rest)) first.is ∙ (ap newlines (append_assoc first.front (10 ∷ []) rest)
    ∙ (counted_past first.front rest first.free ∙ ap suc (newlines_count_lines lines one.1)))
