use Rattle.std.proofs.Common.{◌≡◌, ℕ, ◌+◌, ◌*◌, ◌/◌, ◌%◌, ◌<◌, ◌≤◌, Bool, true, false, List, [], ◌∷◌, ◌++◌, length, take, Option, Some, None, refl, sym, ap, ◌∙◌, arith, ◌≢◌, length-append}
use Rattle.std.proofs.Common.{append_assoc, append-nil}
use Rattle.std.proofs.lemmas.List.{flat_map_more, take_all, append_cancel_left, append_cancel_right}
use Rattle.std.proofs.lemmas.Bool.Decides.{nat_tests}
use Rattle.std.proofs.lemmas.Option.{cond_some, some_pair_parts, none-some}
use Rattle.std.specs.List.{flat_map}
use Rattle.nwq_value.specs.Limits.{text_limit}
use Rattle.nwq_text.specs.Escape.{spelling, hex_digit, is_plain, escaped, quoted, AreBytes, ReadsText, ReadsQuoted, EscapesApart}
use Rattle.nwq_text.specs.Unescape.{front_spelled, after_backslash, after_x, hex_value, hex_pair, is_spelled_in_hex, Unescapes, KeepsAll}

-- a quote, the spellings and a quote were appended
pub between : (before spelled first second third : List ℕ) → first ≡ before ++ 34 ∷ [] → second ≡ first ++ spelled → third ≡ second ++ 34 ∷ []
    → third ≡ before ++ (34 ∷ spelled ++ 34 ∷ [])
between before spelled first second third a b c =
    rw (c, b, a, append_assoc before (34 ∷ []) spelled, append_assoc before (34 ∷ spelled) (34 ∷ [])) refl

digit_read : (d : ℕ) → d < 16 → hex_value (hex_digit d) ≡ Some d
digit_read d h = grind (arith, nat_tests)

digit_written : (c d : ℕ) → hex_value c ≡ Some d → (c ≡ hex_digit d) × (d < 16)
digit_written c d h = grind (arith, nat_tests)

-- the byte that is spelled at the front is read there
pub front_spelled-spelling : (q : Bool) (b : ℕ) (rest : List ℕ) → b < 256 → front_spelled q (spelling q b ++ rest) ≡ Some (b, rest)
unfolding spelling front_spelled
front_spelled-spelling true b rest h = grind (arith, nat_tests, digit_read)
front_spelled-spelling false b rest h = grind (arith, nat_tests, digit_read)

parts : (high low : ℕ) → low < 16 → ((16 * high + low) / 16 ≡ high) × ((16 * high + low) % 16 ≡ low)
parts high low h = (omega arith, omega arith)

hex_spelled : (q : Bool) (high low : ℕ) → high < 16 → low < 16 → is_spelled_in_hex q (16 * high + low) ≡ true
    → spelling q (16 * high + low) ≡ 92 ∷ 120 ∷ hex_digit high ∷ hex_digit low ∷ []
unfolding spelling
hex_spelled true high low h l is = grind (arith, nat_tests, parts)
hex_spelled false high low h l is = grind (arith, nat_tests, parts)

spelled_pair : (q : Bool) (x y : Option ℕ) (c d : ℕ) (text : List ℕ) (b : ℕ) (rest : List ℕ) → hex_value c ≡ x → hex_value d ≡ y
    → hex_pair q x y text ≡ Some (b, rest) → (92 ∷ 120 ∷ c ∷ d ∷ text ≡ spelling q b ++ rest) × (b < 256)
spelled_pair q (Some x) (Some y) c d text b rest hx hy h =
    let first = digit_written c x hx
    in let second = digit_written d y hy
    in let read = cond_some (is_spelled_in_hex q (16 * x + y)) (16 * x + y, text) (b, rest) h
    in let byte : 16 * x + y ≡ b = ap (λ (p : ℕ × List ℕ). p.0) read.1
    in (
      ap (λ k. 92 ∷ 120 ∷ k ∷ d ∷ text) first.0 ∙ ap (λ k. 92 ∷ 120 ∷ hex_digit x ∷ k ∷ text) second.0
          ∙ sym (ap (λ s. s ++ text) (hex_spelled q x y first.1 second.1 read.0)) ∙ ap (λ (p : ℕ × List ℕ). spelling q p.0 ++ p.1) read.1,
      omega arith,
    )
spelled_pair q (Some x) None c d text b rest hx hy h = absurd cc
spelled_pair q None y c d text b rest hx hy h = absurd cc

spelled_after_x : (q : Bool) (text : List ℕ) (b : ℕ) (rest : List ℕ) → after_x q text ≡ Some (b, rest)
    → (92 ∷ 120 ∷ text ≡ spelling q b ++ rest) × (b < 256)
spelled_after_x q [] b rest h = absurd cc
spelled_after_x q (c ∷ []) b rest h = absurd cc
spelled_after_x q (c ∷ d ∷ text) b rest h = spelled_pair q (hex_value c) (hex_value d) c d text b rest refl refl h

spelling-backslash : (q : Bool) → spelling q 92 ≡ 92 ∷ 92 ∷ []
unfolding spelling
spelling-backslash q = refl

spelling-newline : (q : Bool) → spelling q 10 ≡ 92 ∷ 110 ∷ []
unfolding spelling
spelling-newline q = refl

spelling-plain : (q : Bool) (c : ℕ) → is_plain q c ≡ true → spelling q c ≡ c ∷ []
unfolding spelling
spelling-plain true c h = grind (arith, nat_tests)
spelling-plain false c h = grind (arith, nat_tests)

spelled_after_backslash : (q : Bool) (text : List ℕ) (b : ℕ) (rest : List ℕ) → after_backslash q text ≡ Some (b, rest)
    → (92 ∷ text ≡ spelling q b ++ rest) × (b < 256)
spelled_after_backslash q [] b rest h = absurd cc
spelled_after_backslash q (c ∷ text) b rest h = grind (arith, nat_tests, some_pair_parts, spelled_after_x, spelling-backslash, spelling-newline)

-- what is read at the front is spelled there
pub spelling-front_spelled : (q : Bool) (text : List ℕ) (b : ℕ) (rest : List ℕ) → front_spelled q text ≡ Some (b, rest) → (text ≡ spelling q b ++ rest) × (b < 256)
unfolding front_spelled
spelling-front_spelled q [] b rest h = absurd cc
spelling-front_spelled true (c ∷ text) b rest h = grind (arith, nat_tests, some_pair_parts, spelled_after_backslash, spelling-plain)
spelling-front_spelled false (c ∷ text) b rest h = grind (arith, nat_tests, some_pair_parts, spelled_after_backslash, spelling-plain)

-- no spelling is empty
spelled_nothing : (q : Bool) (b : ℕ) (rest : List ℕ) → b < 256 → [] ≡ spelling q b ++ rest → ⊥
unfolding front_spelled
spelled_nothing q b rest h e =
    let read : front_spelled q [] ≡ Some (b, rest) = ap (front_spelled q) e ∙ front_spelled-spelling q b rest h in cc

shorter_by_one : (q : Bool) (b : ℕ) (text rest : List ℕ) → b < 256 → text ≡ spelling q b ++ rest → length rest < length text
unfolding spelling
shorter_by_one q b text rest h e = rw e (grind (arith, nat_tests, length-append))

-- what is left after the front is shorter
pub length-front_spelled : (q : Bool) (text : List ℕ) (b : ℕ) (rest : List ℕ) → front_spelled q text ≡ Some (b, rest) → length rest < length text
length-front_spelled q text b rest h =
    let front = spelling-front_spelled q text b rest h in shorter_by_one q b text rest front.1 front.0

-- the bytes go on after those done, and the rest is what goes on
record GoesOn (q : Bool) (done bytes rest : List ℕ) : Type 0 where
  tail : List ℕ
  bytes_are : bytes ≡ done ++ tail
  rest_is : rest ≡ flat_map (spelling q) tail
  each : AreBytes tail

same_front : (q : Bool) (b d : ℕ) (x y : List ℕ) → b < 256 → d < 256 → spelling q b ++ x ≡ spelling q d ++ y → (b ≡ d) × (x ≡ y)
same_front q b d x y hb hd e =
    some_pair_parts b d x y (sym (front_spelled-spelling q b x hb) ∙ ap (front_spelled q) e ∙ front_spelled-spelling q d y hd)

goes_on : (q : Bool) (done bytes rest : List ℕ) → AreBytes done → AreBytes bytes
    → flat_map (spelling q) bytes ≡ flat_map (spelling q) done ++ rest → GoesOn q done bytes rest
goes_on q [] bytes rest hd hb e = record { tail = bytes; bytes_are = refl; rest_is = sym e; each = hb }
goes_on q (d ∷ done) [] rest hd hb e =
    absurd (spelled_nothing q d (flat_map (spelling q) done ++ rest) hd.0 (e ∙ append_assoc (spelling q d) (flat_map (spelling q) done) rest))
goes_on q (d ∷ done) (b ∷ bytes) rest hd hb e =
    let front = same_front q b d (flat_map (spelling q) bytes) (flat_map (spelling q) done ++ rest) hb.0 hd.0
    (e ∙ append_assoc (spelling q d) (flat_map (spelling q) done) rest)
    in let more = goes_on q done bytes rest hd.1 hb.1 front.1
    in record { tail = more.tail; bytes_are = ap (λ x. x ∷ bytes) front.0 ∙ ap (λ xs. d ∷ xs) more.bytes_are; rest_is = more.rest_is; each = more.each }

spelled_none : (q : Bool) (bytes : List ℕ) → AreBytes bytes → [] ≡ flat_map (spelling q) bytes → bytes ≡ []
spelled_none q [] h e = refl
spelled_none q (b ∷ bytes) h e = absurd (spelled_nothing q b (flat_map (spelling q) bytes) h.0 e)

-- no two lists of bytes are spelled alike
spelled_apart : (q : Bool) (a b : List ℕ) → AreBytes a → AreBytes b → flat_map (spelling q) a ≡ flat_map (spelling q) b → a ≡ b
spelled_apart q a b ha hb e =
    let more = goes_on q a b [] ha hb (sym e ∙ sym (append-nil (flat_map (spelling q) a)))
    in sym (more.bytes_are ∙ ap (λ tail. a ++ tail) (spelled_none q more.tail more.each more.rest_is) ∙ append-nil a)

pub escapes_apart : EscapesApart
unfolding escaped
escapes_apart a b ha hb e = spelled_apart false a b ha hb e

-- the text is the spellings of the bytes that are done, and a rest
pub record TextSoFar (q : Bool) (text done rest : List ℕ) : Type 0 where
  pub each : AreBytes done
  pub whole : text ≡ flat_map (spelling q) done ++ rest

AreBytes-push : (done : List ℕ) (b : ℕ) → AreBytes done → b < 256 → AreBytes (done ++ b ∷ [])
AreBytes-push [] b h hb = (hb, tt)
AreBytes-push (d ∷ done) b h hb = (h.0, AreBytes-push done b h.1 hb)

pub one_more_read : (q : Bool) (text done rest after : List ℕ) (b : ℕ) → TextSoFar q text done rest → front_spelled q rest ≡ Some (b, after)
    → TextSoFar q text (done ++ b ∷ []) after
one_more_read q text done rest after b so h =
    let front = spelling-front_spelled q rest b after h
    in record {
      each = AreBytes-push done b so.each front.1;
      whole = so.whole ∙ ap (λ r. flat_map (spelling q) done ++ r) front.0 ∙ sym (append_assoc (flat_map (spelling q) done) (spelling q b) after)
          ∙ ap (λ s. s ++ after) (flat_map_more (spelling q) [] done b);
    }

refused_unspelled : (q : Bool) (tail rest : List ℕ) → AreBytes tail → rest ≡ flat_map (spelling q) tail → front_spelled q rest ≡ None → rest ≢ [] → ⊥
refused_unspelled q [] rest each is h some = some is
refused_unspelled q (t ∷ tail) rest each is h some =
    let read = sym h ∙ ap (front_spelled q) is ∙ front_spelled-spelling q t (flat_map (spelling q) tail) each.0 in none-some (t, flat_map (spelling q) tail) read

-- a text that goes on with what is no spelling is that of none
pub unspelled_is_none : (q : Bool) (text done rest : List ℕ) → TextSoFar q text done rest → front_spelled q rest ≡ None → rest ≢ [] → Unescapes q text None
unspelled_is_none q text done rest so h some bytes each is =
    let more = goes_on q done bytes rest so.each each (sym is ∙ so.whole)
    in refused_unspelled q more.tail rest more.each more.rest_is h some

-- and one that ends there is that of the bytes
pub whole_is_read : (q : Bool) (text done rest : List ℕ) → TextSoFar q text done rest → rest ≡ [] → Unescapes q text (Some done)
whole_is_read q text done rest so end =
    (so.each, so.whole ∙ ap (λ r. flat_map (spelling q) done ++ r) end ∙ append-nil (flat_map (spelling q) done))

pub all_kept : (bytes text : List ℕ) → text ≡ take text_limit bytes → length bytes ≤ text_limit → text ≡ bytes
all_kept bytes text is fits = is ∙ take_all text_limit bytes fits

-- the text of bytes whose escaped text this is, where they are no more than a text has
pub text_is_read : (text bytes : List ℕ) (read : Option (List ℕ)) → Unescapes false text (Some bytes) → KeepsAll bytes read → ReadsText text read
unfolding escaped
text_is_read text bytes (Some read) is kept = rw kept.1 (record { fits = kept.0; each = is.0 }, is.1)
text_is_read text bytes None is long = λ other textual same.
    let one = spelled_apart false bytes other is.0 textual.each (sym is.1 ∙ same) in omega (arith, ap length one, textual.fits)

pub no_text : (text : List ℕ) → Unescapes false text None → ReadsText text None
unfolding escaped
no_text text none bytes textual same = none bytes textual.each same

same_inner : (a b : List ℕ) → 34 ∷ a ++ 34 ∷ [] ≡ 34 ∷ b ++ 34 ∷ [] → a ≡ b
same_inner a b e = append_cancel_right a b (34 ∷ []) (append_cancel_left (34 ∷ []) (a ++ 34 ∷ []) (b ++ 34 ∷ []) e)

pub quoted_is_read : (text inner : List ℕ) (read : Option (List ℕ)) → text ≡ 34 ∷ inner ++ 34 ∷ [] → Unescapes true inner read → ReadsQuoted text read
unfolding quoted
quoted_is_read text inner (Some bytes) is read = (read.0, is ∙ ap (λ x. 34 ∷ x ++ 34 ∷ []) read.1)
quoted_is_read text inner None is read = λ bytes each same. read bytes each (same_inner inner (flat_map (spelling true) bytes) (sym is ∙ same))

pub no_quoted : (text : List ℕ) → ((inner : List ℕ) → text ≢ 34 ∷ inner ++ 34 ∷ []) → ReadsQuoted text None
unfolding quoted
no_quoted text none bytes each same = none (flat_map (spelling true) bytes) same

pub ruleset shorter_rest = (length-front_spelled)
