-- Whether a line of an assembler text stands for an instruction is decided: an opcode, a type byte,
-- and the bytes of a string are searched below their bounds, and all else is computed.
use Rattle.std.proofs.Common.{◌≡◌, ◌⊎◌, inl, inr, ℕ, ℤ, zero, suc, ◌<◌, ◌+◌, ◌*◌, ◌^◌, nat_lt, Bool, true, false, cond, List, [], ◌∷◌, ◌++◌, length, drop, Option, Some, None, refl, sym, ap, subst}
use Rattle.std.proofs.Common.{◌∙◌, arith, append_assoc, append-nil, length-append, drop_at}
use Rattle.std.specs.Prelude.{slice_index_or}
use Rattle.std.specs.List.{AllByRecursion, flat_map}
use Rattle.std.specs.Option.{option_map}
use Rattle.std.specs.Str.{bytes_eq}
use Rattle.std.proofs.lemmas.Bool.Decides.{nat_tests}
use Rattle.std.proofs.lemmas.Option.{none-some, some_pair_parts, same_Some}
use Rattle.std.proofs.lemmas.Slice.Eq.{bytes_eq-Decides}
use Rattle.nwq_text.specs.Number.{number_of}
use Rattle.nwq_text.specs.Escape.{AreBytes, quoted, spelling as spelled_byte}
use Rattle.nwq_text.specs.Unescape.{hex_value}
use Rattle.nwq_text.specs.Cuts.{cut_at, CutParts}
use Rattle.nwq_text.specs.Laws.{cut_parts, cut_free}
use Rattle.ncs_code.specs.declared.fault.CodeFault.{CodeFault}
use Rattle.ncs_code.specs.Plain.{PlainOp, PlainLit, Int, Float as FloatLit, Text as TextLit, Object, RsAdd, Const, Equal, Nequal, Geq, Gt, Lt, Leq, Add, Sub, Mul, Div, Neg}
use Rattle.ncs_code.specs.Spelling.{two, four, signed, spelling, opcode, type_byte, fault_of, IsOp, IsByte, Fits}
use Rattle.ncs_code.specs.Names.{name_at}
use Rattle.ncs_code.specs.Laws.{SpellingLaws}
use Rattle.ncs_text.specs.declared.argument.Argument.{Argument}
use Rattle.ncs_text.specs.declared.argument.Argument.TheVariants.{Signed, Byte, Short, Word, Place, Float, Text}
use Rattle.ncs_text.specs.Arguments.{arguments, argument_bytes, below, byte_of, hex_byte, hex_bytes, together, number_below, signed_number, target_place, offset_to, IsString, IsArgument, IsParted}
use Rattle.ncs_text.specs.Arguments.{AreFields, AreArguments}
use Rattle.ncs_text.specs.Assembly.{Writes, IsRemark, heading, hex_pair}
use Rattle.nwq_top.proofs.Decoding.{Spelled, begins_spelled}

-- ---- what is known to be so or not

abbrev pub Known : Type 0 → Type 0
Known A = A ⊎ (A → ⊥)

known_by : {A B : Type 0} → (A → B) → (B → A) → Known A → Known B
known_by to from (inl a) = inl (to a)
known_by to from (inr none) = inr (λ b. none (from b))

known_behind : {A B : Type 0} → A → Known B → Known (A × B)
known_behind a (inl b) = inl (a, b)
known_behind a (inr none) = inr (λ p. none p.1)

known_both : {A B : Type 0} → Known A → (A → Known B) → Known (A × B)
known_both (inl a) next = known_behind a (next a)
known_both (inr none) next = inr (λ p. none p.0)

known_either : {A B : Type 0} → Known A → Known B → Known (A ⊎ B)
known_either (inl a) k = inl (inl a)
known_either (inr not_a) (inl b) = inl (inr b)
known_either (inr not_a) (inr not_b) = inr (λ e. elim e [ inl a ↦ not_a a | inr b ↦ not_b b ])

-- there is one below a bound
record Below (P : ℕ → Type 0) (n : ℕ) : Type 0 where
  number : ℕ
  small : number < n
  is : P number

last_or_before : (P : ℕ → Type 0) (n : ℕ) → P n ⊎ Below P n → Below P (suc n)
last_or_before P n (inl p) = record { number = n; small = omega arith; is = p }
last_or_before P n (inr b) = record { number = b.number; small = omega (arith, b.small); is = b.is }

is_last_or_before : (P : ℕ → Type 0) (n : ℕ) → Below P (suc n) → P n ⊎ Below P n
is_last_or_before P n b = by_case (nat_lt b.number n) refl
  where
    by_case : (t : Bool) → nat_lt b.number n ≡ t → P n ⊎ Below P n
    by_case true e = inr (record { number = b.number; small = grind (arith, nat_tests, e); is = b.is })
    by_case false e =
        let low : n ≡ b.number = grind (arith, nat_tests, e, b.small) in inl (subst P (sym low) b.is)

below_known : (P : ℕ → Type 0) (n : ℕ) → ((k : ℕ) → k < n → Known (P k)) → Known (Below P n)
below_known P zero each = inr (λ b. omega (arith, b.small))
below_known P (suc n) each =
    known_by (last_or_before P n) (is_last_or_before P n) (known_either (each n (omega arith)) (below_known P n (λ k lt. each k (omega (arith, lt)))))

same_known : (a b : List ℕ) → Known (a ≡ b)
same_known a b = by_case (bytes_eq a b) refl
  where
    by_case : (t : Bool) → bytes_eq a b ≡ t → Known (a ≡ b)
    by_case true e = inl ((bytes_eq-Decides a b).0 e)
    by_case false e = inr (λ same. let apart : false ≡ true = sym e ∙ (bytes_eq-Decides a b).1 same in cc)

-- the bytes begin with these
abbrev BeginsWith : List ℕ → List ℕ → Type 0
BeginsWith front bytes = bytes ≡ front ++ drop (length front) bytes

begun : (front rest bytes : List ℕ) → bytes ≡ front ++ rest → (BeginsWith front bytes) × (drop (length front) bytes ≡ rest)
begun front rest bytes e =
    let same : drop (length front) bytes ≡ rest = ap (drop (length front)) e ∙ drop_at front rest (length front) refl in
    (e ∙ ap (λ r. front ++ r) (sym same), same)

begins_known : (front bytes : List ℕ) → Known (BeginsWith front bytes)
begins_known front bytes = same_known bytes (front ++ drop (length front) bytes)

-- ---- strings

-- the text is that of fewer bytes than so many, before a quote, and of the bytes this holds
record Quotes (n : ℕ) (text : List ℕ) (P : List ℕ → Type 0) : Type 0 where
  string : List ℕ
  each : AreBytes string
  short : length string < n
  written : text ≡ flat_map (spelled_byte true) string ++ 34 ∷ []
  is : P string

-- what stands behind the first byte of the text
record QuotesBehind (n : ℕ) (text : List ℕ) (P : List ℕ → Type 0) (b : ℕ) : Type 0 where
  begins : BeginsWith (spelled_byte true b) text
  rest : Quotes n (drop (length (spelled_byte true b)) text) (λ s. P (b ∷ s))

quotes_by : (n : ℕ) (text : List ℕ) (P : List ℕ → Type 0) → ((text ≡ 34 ∷ []) × P []) ⊎ Below (QuotesBehind n text P) 256 → Quotes (suc n) text P
quotes_by n text P (inl end) = record { string = []; each = tt; short = omega arith; written = end.0; is = end.1 }
quotes_by n text P (inr b) =
    let r = b.is.rest in
    record {
      string = b.number ∷ r.string;
      each = (b.small, r.each);
      short = omega (arith, r.short);
      written = b.is.begins ∙ ap (λ t. spelled_byte true b.number ++ t) r.written
          ∙ sym (append_assoc (spelled_byte true b.number) (flat_map (spelled_byte true) r.string) (34 ∷ []));
      is = r.is;
    }

quotes_of : (n : ℕ) (text : List ℕ) (P : List ℕ → Type 0) (s : List ℕ) → AreBytes s → length s < suc n → text ≡ flat_map (spelled_byte true) s ++ 34 ∷ [] → P s
    → ((text ≡ 34 ∷ []) × P []) ⊎ Below (QuotesBehind n text P) 256
quotes_of n text P [] each short written is = inl (written, is)
quotes_of n text P (b ∷ s) each short written is =
    let k = begun (spelled_byte true b) (flat_map (spelled_byte true) s ++ 34 ∷ []) text
    (written ∙ append_assoc (spelled_byte true b) (flat_map (spelled_byte true) s) (34 ∷ [])) in
    inr (record {
      number = b;
      small = each.0;
      is = record { begins = k.0; rest = record { string = s; each = each.1; short = omega (arith, short); written = k.1; is = is } };
    })

quotes_known : (n : ℕ) (text : List ℕ) (P : List ℕ → Type 0) → ((s : List ℕ) → AreBytes s → Known (P s)) → Known (Quotes n text P)
quotes_known zero text P decide = inr (λ q. omega (arith, q.short))
quotes_known (suc n) text P decide =
    known_by (quotes_by n text P) (λ q. quotes_of n text P q.string q.each q.short q.written q.is)
    (known_either (known_both (same_known text (34 ∷ [])) (λ _. decide [] tt))
    (below_known (QuotesBehind n text P) 256 (λ b small.
    known_by (λ p. record { begins = p.0; rest = p.1 }) (λ q. (q.begins, q.rest))
    (known_both (begins_known (spelled_byte true b) text)
    (λ _. quotes_known n (drop (length (spelled_byte true b)) text) (λ s. P (b ∷ s)) (λ s each. decide (b ∷ s) (small, each)))))))

-- ---- bytes of arguments

abbrev Bytes : List ℕ → Type 0
Bytes xs = AllByRecursion IsByte xs

bytes_both : (xs ys : List ℕ) → Bytes xs → Bytes ys → Bytes (xs ++ ys)
bytes_both [] ys h k = k
bytes_both (x ∷ xs) ys h k = (h.0, bytes_both xs ys h.1 k)

two_bytes : (n : ℕ) → Bytes (two n)
unfolding two
two_bytes n = (omega arith, (omega arith, tt))

four_are_bytes : (n : ℕ) → Bytes (four n)
unfolding four
four_are_bytes n = (omega arith, (omega arith, (omega arith, (omega arith, tt))))

signed_bytes : (n : ℤ) → Bytes (signed n)
unfolding signed
signed_bytes n = (omega arith, (omega arith, (omega arith, (omega arith, tt))))

mapped_bytes : {A : Type 0} → (f : A → List ℕ) (o : Option A) (bytes : List ℕ) → option_map f o ≡ Some bytes → ((a : A) → o ≡ Some a → Bytes (f a)) → Bytes bytes
mapped_bytes f None bytes e each = absurd (none-some bytes e)
mapped_bytes f (Some a) bytes e each = subst Bytes (same_Some (f a) bytes e) (each a refl)

below_by : (limit n m : ℕ) (t : Bool) → nat_lt n limit ≡ t → cond t (Some n) None ≡ Some m → m < limit
below_by limit n m true e f = let same : n ≡ m = same_Some n m f in let low : n < limit = grind (arith, nat_tests, e) in omega (arith, same, low)
below_by limit n m false e f = absurd (none-some m f)

below_small : (limit : ℕ) (o : Option ℕ) (m : ℕ) → below limit o ≡ Some m → m < limit
below_small limit None m e = absurd (none-some m e)
below_small limit (Some n) m e = below_by limit n m (nat_lt n limit) refl e

digit_small : (c d : ℕ) → hex_value c ≡ Some d → d < 16
digit_small c d h = grind (arith, nat_tests)

pair_small : (x y : Option ℕ) (high low b : ℕ) → hex_value high ≡ x → hex_value low ≡ y → byte_of x y ≡ Some b → b < 256
pair_small (Some h) (Some l) high low b hx hy e =
    let same : 16 * h + l ≡ b = same_Some (16 * h + l) b e in omega (arith, same, digit_small high h hx, digit_small low l hy)
pair_small (Some h) None high low b hx hy e = absurd (none-some b e)
pair_small None y high low b hx hy e = absurd (none-some b e)

hex_small : (high low b : ℕ) → hex_byte high low ≡ Some b → b < 256
unfolding hex_byte
hex_small high low b e = pair_small (hex_value high) (hex_value low) high low b refl refl e

together_bytes : (o : Option ℕ) (p : Option (List ℕ)) (bytes : List ℕ) → together o p ≡ Some bytes → ((b : ℕ) → o ≡ Some b → b < 256) → ((bs : List ℕ) → p ≡ Some bs → Bytes bs) → Bytes bytes
together_bytes (Some b) (Some bs) bytes e small held = subst Bytes (same_Some (b ∷ bs) bytes e) (small b refl, held bs refl)
together_bytes (Some b) None bytes e small held = absurd (none-some bytes e)
together_bytes None p bytes e small held = absurd (none-some bytes e)

hex_are_bytes : (text bytes : List ℕ) → hex_bytes text ≡ Some bytes → Bytes bytes
unfolding hex_bytes
hex_are_bytes [] bytes e = subst Bytes (same_Some [] bytes e) tt
hex_are_bytes (high ∷ []) bytes e = absurd (none-some bytes e)
hex_are_bytes (high ∷ low ∷ digits) bytes e =
    together_bytes (hex_byte high low) (hex_bytes digits) bytes e (λ b f. hex_small high low b f) (λ bs f. hex_are_bytes digits bs f)

float_by : (t : Bool) (text bytes : List ℕ) → cond t (hex_bytes text) None ≡ Some bytes → Bytes bytes
float_by true text bytes e = hex_are_bytes text bytes e
float_by false text bytes e = absurd (none-some bytes e)

argument_are_bytes : (at : ℕ) (argument : Argument) (text bytes : List ℕ) → argument_bytes at argument text ≡ Some bytes → Bytes bytes
unfolding argument_bytes
argument_are_bytes at Signed text bytes e = mapped_bytes signed (signed_number text) bytes e (λ n f. signed_bytes n)
argument_are_bytes at Byte text bytes e =
    mapped_bytes (λ n. n ∷ []) (number_below 256 text) bytes e (λ n f. (below_small 256 (number_of text) n f, tt))
argument_are_bytes at Short text bytes e = mapped_bytes two (number_below 65536 text) bytes e (λ n f. two_bytes n)
argument_are_bytes at Word text bytes e = mapped_bytes four (number_below 4294967296 text) bytes e (λ n f. four_are_bytes n)
argument_are_bytes at Place text bytes e =
    mapped_bytes (λ place. signed (offset_to at place)) (target_place text) bytes e (λ place f. signed_bytes (offset_to at place))
argument_are_bytes at Float text bytes e = float_by _ text bytes e
argument_are_bytes at Text text bytes e = absurd (none-some bytes e)

-- ---- arguments

-- what stands for some bytes of which this holds
record Stands (Holds P : List ℕ → Type 0) : Type 0 where
  bytes : List ℕ
  holds : Holds bytes
  is : P bytes

-- of bytes it is known whether this holds of them
abbrev Decided : (List ℕ → Type 0) → Type 0
Decided P = (bytes : List ℕ) → Bytes bytes → Known (P bytes)

computed_known : (o : Option (List ℕ)) (P : List ℕ → Type 0) → ((bytes : List ℕ) → o ≡ Some bytes → Bytes bytes) → Decided P → Known (Stands (λ bytes. o ≡ Some bytes) P)
computed_known None P held decide = inr (λ s. none-some s.bytes s.holds)
computed_known (Some bytes) P held decide =
    known_by (λ p. record { bytes = bytes; holds = refl; is = p }) (λ s. subst P (sym (same_Some bytes s.bytes s.holds)) s.is) (decide bytes (held bytes refl))

-- the text is a quote, and what quotes bytes behind it
abbrev IsQuoted : List ℕ → (List ℕ → Type 0) → Type 0
IsQuoted text P = BeginsWith (34 ∷ []) text × Quotes (2 ^ 16) (drop 1 text) (λ s. P (two (length s) ++ s))

string_stands : (text : List ℕ) (P : List ℕ → Type 0) → IsQuoted text P → Stands (IsString text) P
unfolding quoted
string_stands text P h =
    let q = h.1 in
    record {
      bytes = two (length q.string) ++ q.string;
      holds = record { string = q.string; each = q.each; fits = q.short; written = h.0 ∙ ap (λ t. 34 ∷ t) q.written; spelled = refl };
      is = q.is;
    }

stands_string : (text : List ℕ) (P : List ℕ → Type 0) → Stands (IsString text) P → IsQuoted text P
unfolding quoted
stands_string text P s =
    let h = s.holds in
    let k = begun (34 ∷ []) (flat_map (spelled_byte true) h.string ++ 34 ∷ []) text h.written in
    (k.0, record { string = h.string; each = h.each; short = h.fits; written = k.1; is = subst P h.spelled s.is })

string_known : (text : List ℕ) (P : List ℕ → Type 0) → Decided P → Known (Stands (IsString text) P)
string_known text P decide =
    known_by (string_stands text P) (stands_string text P)
    (known_both (begins_known (34 ∷ []) text)
    (λ _. quotes_known (2 ^ 16) (drop 1 text) (λ s. P (two (length s) ++ s)) (λ s each. decide (two (length s) ++ s) (bytes_both (two (length s)) s (two_bytes (length s)) each))))

argument_known : (at : ℕ) (argument : Argument) (text : List ℕ) (P : List ℕ → Type 0) → Decided P → Known (Stands (IsArgument at argument text) P)
argument_known at Signed text P decide = computed_known (argument_bytes at Signed text) P (argument_are_bytes at Signed text) decide
argument_known at Byte text P decide = computed_known (argument_bytes at Byte text) P (argument_are_bytes at Byte text) decide
argument_known at Short text P decide = computed_known (argument_bytes at Short text) P (argument_are_bytes at Short text) decide
argument_known at Word text P decide = computed_known (argument_bytes at Word text) P (argument_are_bytes at Word text) decide
argument_known at Place text P decide = computed_known (argument_bytes at Place text) P (argument_are_bytes at Place text) decide
argument_known at Float text P decide = computed_known (argument_bytes at Float text) P (argument_are_bytes at Float text) decide
argument_known at Text text P decide = string_known text P decide

-- an argument before others, where the text is cut behind it
parts_stand : (at : ℕ) (argument following : Argument) (others : List Argument) (text field rest : List ℕ) (P : List ℕ → Type 0) → cut_at 32 text ≡ Some (field, rest)
    → Stands (IsArgument at argument field) (λ front. Stands (AreFields at following others rest) (λ o. P (front ++ o))) → Stands (AreFields at argument (following ∷ others) text) P
parts_stand at argument following others text field rest P e s =
    let more = s.is in
    let parts : CutParts 32 text (Some (field, rest)) = subst (CutParts 32 text) e (cut_parts 32 text) in
    record {
      bytes = s.bytes ++ more.bytes;
      holds = record {
        field = field;
        rest = rest;
        front = s.bytes;
        others = more.bytes;
        free = parts.1;
        written = parts.0;
        spelled = refl;
        first = s.holds;
        behind = more.holds;
      };
      is = more.is;
    }

cut_again : (text : List ℕ) (First Others : List ℕ → List ℕ → Type 0) (bytes : List ℕ) (p : IsParted First Others text bytes) → cut_at 32 text ≡ Some (p.field, p.rest)
cut_again text First Others bytes p = ap (cut_at 32) p.written ∙ cut_free 32 p.field p.rest p.free

stand_parts : (at : ℕ) (argument following : Argument) (others : List Argument) (text field rest : List ℕ) (P : List ℕ → Type 0) → cut_at 32 text ≡ Some (field, rest)
    → Stands (AreFields at argument (following ∷ others) text) P → Stands (IsArgument at argument field) (λ front. Stands (AreFields at following others rest) (λ o. P (front ++ o)))
stand_parts at argument following others text field rest P e s =
    let p : IsParted (IsArgument at argument) (AreFields at following others) text s.bytes = s.holds in
    let same = some_pair_parts p.field field p.rest rest (sym (cut_again text (IsArgument at argument) (AreFields at following others) s.bytes p) ∙ e) in
    record {
      bytes = p.front;
      holds = subst (λ f. IsArgument at argument f p.front) same.0 p.first;
      is = record { bytes = p.others; holds = subst (λ r. AreFields at following others r p.others) same.1 p.behind; is = subst P p.spelled s.is };
    }

fields_by : (at : ℕ) (argument following : Argument) (others : List Argument) (text : List ℕ) (P : List ℕ → Type 0) → Decided P
    → ((rest : List ℕ) (Q : List ℕ → Type 0) → Decided Q → Known (Stands (AreFields at following others rest) Q))
    → (o : Option (List ℕ × List ℕ)) → cut_at 32 text ≡ o → Known (Stands (AreFields at argument (following ∷ others) text) P)
fields_by at argument following others text P decide next None e =
    inr (λ s.
    let p : IsParted (IsArgument at argument) (AreFields at following others) text s.bytes = s.holds in
    none-some (p.field, p.rest) (sym e ∙ cut_again text (IsArgument at argument) (AreFields at following others) s.bytes p))
fields_by at argument following others text P decide next (Some (field, rest)) e =
    known_by (parts_stand at argument following others text field rest P e) (stand_parts at argument following others text field rest P e)
    (argument_known at argument field (λ front. Stands (AreFields at following others rest) (λ o. P (front ++ o)))
    (λ front held. next rest (λ o. P (front ++ o)) (λ o more. decide (front ++ o) (bytes_both front o held more))))

fields_known : (at : ℕ) (argument : Argument) (others : List Argument) (text : List ℕ) (P : List ℕ → Type 0) → Decided P → Known (Stands (AreFields at argument others text) P)
fields_known at argument [] text P decide = argument_known at argument text P decide
fields_known at argument (following ∷ others) text P decide =
    fields_by at argument following others text P decide (λ rest Q known. fields_known at following others rest Q known) (cut_at 32 text) refl

arguments_known : (at : ℕ) (list : List Argument) (text : List ℕ) (P : List ℕ → Type 0) → Decided P → Known (Stands (AreArguments at list text) P)
arguments_known at [] text P decide =
    known_by (λ k. record { bytes = []; holds = (k.0, refl); is = k.1 }) (λ s. (s.holds.0, subst P s.holds.1 s.is)) (known_both (same_known text []) (λ _. decide [] tt))
arguments_known at (argument ∷ others) text P decide =
    known_by (λ k. let s = k.1 in record { bytes = s.bytes; holds = (drop 1 text, k.0, s.holds); is = s.is })
    (λ s.
    let k = begun (32 ∷ []) s.holds.0 text s.holds.1 in
    (k.0, record { bytes = s.bytes; holds = subst (λ t. AreFields at argument others t s.bytes) (sym k.1) s.holds.2; is = s.is }))
    (known_both (begins_known (32 ∷ []) text) (λ _. fields_known at argument others (drop 1 text) P decide))

-- ---- instructions

-- the bytes are the spelling of an instruction
record Spells (bytes : List ℕ) : Type 0 where
  op : PlainOp
  is_op : IsOp op
  is : spelling op ≡ bytes

spells_known : SpellingLaws → (bytes : List ℕ) → Bytes bytes → Known (Spells bytes)
spells_known laws bytes held = by_fault (fault_of bytes) refl
  where
    by_rest : (s : Spelled bytes) (rest : List ℕ) → s.rest ≡ rest → Known (Spells bytes)
    by_rest s [] e = inl (record { op = s.op; is_op = s.is_op; is = sym (s.is ∙ ap (λ r. spelling s.op ++ r) e ∙ append-nil (spelling s.op)) })
    by_rest s (b ∷ rest) e =
        inr (λ k.
        let same : k.op ≡ s.op = laws.none k.op s.op [] s.rest k.is_op s.is_op (append-nil (spelling k.op) ∙ k.is ∙ s.is) in
        omega (arith, ap length e, ap length s.is, ap length k.is, length-append (spelling s.op) s.rest, ap (λ o. length (spelling o)) same))

    by_fault : (o : Option CodeFault) → fault_of bytes ≡ o → Known (Spells bytes)
    by_fault None e = let s = begins_spelled bytes held e in by_rest s s.rest refl
    by_fault (Some fault) e =
        inr (λ k. none-some fault (sym (laws.sound k.op [] k.is_op) ∙ ap fault_of (append-nil (spelling k.op) ∙ k.is) ∙ e))

-- ---- lines

opcode_small : (op : PlainOp) → opcode op < 46
opcode_small (RsAdd kind) = omega arith
opcode_small _ = omega arith

literal_small : (lit : PlainLit) → type_byte (Const lit) < 256
literal_small (Int n) = omega arith
literal_small (FloatLit bytes) = omega arith
literal_small (TextLit bytes) = omega arith
literal_small (Object n) = omega arith

type_small : (op : PlainOp) → Fits op → type_byte op < 256
type_small (RsAdd kind) h = h
type_small (Const lit) h = literal_small lit
type_small (Equal kind size) h = h.0
type_small (Nequal kind size) h = h.0
type_small (Geq kind) h = h
type_small (Gt kind) h = h
type_small (Lt kind) h = h
type_small (Leq kind) h = h
type_small (Add kind) h = h
type_small (Sub kind) h = h
type_small (Mul kind) h = h
type_small (Div kind) h = h
type_small (Neg kind) h = h
type_small _ h = omega arith

abbrev head : ℕ → ℕ → List ℕ
head code kind = name_at code ++ 32 ∷ hex_pair kind

-- the line stands for an instruction with this opcode and type byte
record Row (at : ℕ) (line : List ℕ) (code kind : ℕ) : Type 0 where
  begins : BeginsWith (head code kind) line
  stands : Stands (AreArguments at (arguments code kind) (drop (length (head code kind)) line)) (λ bytes. Spells (code ∷ kind ∷ bytes))

row_known : SpellingLaws → (at : ℕ) (line : List ℕ) (code kind : ℕ) → code < 46 → kind < 256 → Known (Row at line code kind)
row_known laws at line code kind low small =
    known_by (λ k. record { begins = k.0; stands = k.1 }) (λ r. (r.begins, r.stands))
    (known_both (begins_known (head code kind) line)
    (λ _. arguments_known at (arguments code kind) (drop (length (head code kind)) line) (λ bytes. Spells (code ∷ kind ∷ bytes))
    (λ bytes held. spells_known laws (code ∷ kind ∷ bytes) (omega (arith, low), (small, held)))))

abbrev pub Written : ℕ → List ℕ → Type 0
Written at line = (op : PlainOp) × Writes at line op

abbrev Rows : ℕ → List ℕ → Type 0
Rows at line = Below (λ code. Below (Row at line code) 256) 46

row_written : (at : ℕ) (line : List ℕ) → Rows at line → Written at line
row_written at line rows =
    let code = rows.number in
    let kind = rows.is.number in
    let row = rows.is.is in
    let bytes = row.stands.bytes in
    let s = row.stands.is in
    let text = drop (length (head code kind)) line in
    let code_is : code ≡ opcode s.op = ap (λ b. slice_index_or b 0 0) (sym s.is) in
    let kind_is : kind ≡ type_byte s.op = ap (λ b. slice_index_or b 1 0) (sym s.is) in (
      s.op,
      record {
        is_op = s.is_op;
        text = text;
        bytes = bytes;
        written = row.begins ∙ ap (λ c. head c kind ++ text) code_is ∙ ap (λ k. head (opcode s.op) k ++ text) kind_is;
        spelled = s.is ∙ ap (λ c. c ∷ kind ∷ bytes) code_is ∙ ap (λ k. opcode s.op ∷ k ∷ bytes) kind_is;
        fields = subst (λ k. AreArguments at (arguments (opcode s.op) k) text bytes) kind_is (subst (λ c. AreArguments at (arguments c kind) text bytes) code_is row.stands.holds);
      },
    )

written_row : (at : ℕ) (line : List ℕ) → Written at line → Rows at line
written_row at line w =
    let op = w.0 in
    let is = w.1 in
    let k = begun (heading op) is.text line is.written in
    record {
      number = opcode op;
      small = opcode_small op;
      is = record {
        number = type_byte op;
        small = type_small op is.is_op.fits;
        is = record {
          begins = k.0;
          stands = record {
            bytes = is.bytes;
            holds = subst (λ t. AreArguments at (arguments (opcode op) (type_byte op)) t is.bytes) (sym k.1) is.fields;
            is = record { op = op; is_op = is.is_op; is = is.spelled };
          };
        };
      };
    }

pub written_known : SpellingLaws → (at : ℕ) (line : List ℕ) → Known (Written at line)
written_known laws at line =
    known_by (row_written at line) (written_row at line)
    (below_known (λ code. Below (Row at line code) 256) 46 (λ code low. below_known (Row at line code) 256 (λ kind small. row_known laws at line code kind low small)))

pub remark_known : (line : List ℕ) → Known (IsRemark line)
remark_known line =
    known_either (same_known line [])
    (known_by (λ begins. (drop 1 line, begins)) (λ note. (begun (59 ∷ []) note.0 line note.1).0) (begins_known (59 ∷ []) line))
