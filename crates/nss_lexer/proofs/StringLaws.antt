-- Reading a string byte by byte finds what its grammar has, and nothing else.
use Rattle.std.specs.Prelude.{Option, Some, None, option_map, ◌==◌}
use Rattle.std.proofs.Common.{◌≡◌, ℕ, suc, ◌+◌, ◌*◌, ◌≤◌, true, false, List, [], ◌∷◌, ◌++◌, length, take, drop, refl, ap, sym, ◌∙◌, arith, ⊎_elim, append-nil}
use Rattle.std.specs.Char.{digit_value}
use Rattle.std.proofs.lemmas.Bool.{cases_Bool, cond_both, eqb-true}
use Rattle.nss_lexer.specs.declared.string.Escape.{Escape}
use Rattle.nss_lexer.specs.declared.string.Escape.TheVariants.{Outside, AfterBackslash, AfterX, AfterDigit}
use Rattle.nss_lexer.specs.declared.string.Step.{Step}
use Rattle.nss_lexer.specs.declared.string.Step.TheVariants.{Gives, Leads, Closes, Fails}
use Rattle.nss_lexer.specs.Bytes.{newline, is_hexadecimal}
use Rattle.nss_lexer.specs.Strings.{Spelling, plain, escaped, line_end, hexadecimal, Inside, closed, more, quoted, IsString, inside_value, escape_value, string_value, is_plain, is_escaped, quote}
use Rattle.nss_lexer.specs.Strings.{backslash, small_n, small_x, OneValue}
use Rattle.nss_lexer.specs.Reading.{step, value_from, closing, length_after}

option_same : (m n : ℕ) → Some m ≡ Some n → m ≡ n
option_same m n e = cc

-- ---- what is spelled is read

-- reading a string's rest: its length, and its bytes
pub record Reads (text more bytes : List ℕ) : Type 0 where
  pub ends : closing Outside (text ++ more) ≡ Some (length text)
  pub value : value_from Outside (text ++ more) ≡ bytes

plain_steps : (b : ℕ) → is_plain b ≡ true → step Outside b ≡ Gives b
plain_steps b h = grind arith

escaped_steps : (b : ℕ) → is_escaped b ≡ true → step AfterBackslash b ≡ Gives b
escaped_steps b h = grind arith

one_read : (b : ℕ) (one text rest bytes : List ℕ) → Spelling one b → Reads text rest bytes → Reads (one ++ text) rest (b ∷ bytes)
one_read b one text rest bytes (plain c h) r = record {
  ends = rw (plain_steps c h, r.ends) (ap Some (omega arith));
  value = rw (plain_steps c h, r.value) refl;
}
one_read b one text rest bytes (escaped c h) r = record {
  ends = rw (escaped_steps c h, r.ends) (ap Some (omega arith));
  value = rw (escaped_steps c h, r.value) refl;
}
one_read b one text rest bytes line_end r = record {
  ends = rw r.ends (ap Some (omega arith));
  value = rw r.value refl;
}
one_read b one text rest bytes (hexadecimal high low h l) r = record {
  ends = rw (h, l, r.ends) (ap Some (omega arith));
  value = rw (h, l, r.value) refl;
}

pub inside_read : (text more bytes : List ℕ) → Inside text bytes → Reads text more bytes
inside_read text rest bytes closed = record { ends = refl; value = refl }
inside_read text rest bytes (more b one after ones s i) = one_read b one after rest ones s (inside_read after rest ones i)

-- ---- and stands for its value

plain_value : (b : ℕ) (text : List ℕ) → is_plain b ≡ true → inside_value (b ∷ text) ≡ b ∷ inside_value text
plain_value b text h = grind arith

escaped_value : (b : ℕ) (text : List ℕ) → is_escaped b ≡ true → escape_value (b ∷ text) ≡ b ∷ inside_value text
escaped_value b text h = grind arith

spelled_value : (b : ℕ) (one text : List ℕ) → Spelling one b → inside_value (one ++ text) ≡ b ∷ inside_value text
spelled_value b one text (plain c h) = plain_value c text h
spelled_value b one text (escaped c h) = escaped_value c text h
spelled_value b one text line_end = refl
spelled_value b one text (hexadecimal high low h l) = refl

inside_is : (text bytes : List ℕ) → Inside text bytes → bytes ≡ inside_value text
inside_is text bytes closed = refl
inside_is text bytes (more b one after ones s i) = ap (λ rest. b ∷ rest) (inside_is after ones i) ∙ sym (spelled_value b one after s)

pub one_value : OneValue
unfolding string_value
one_value text bytes (quoted rest ones i) = inside_is rest ones i

-- reading a string gives its value
pub read_value : (text : List ℕ) → IsString text → value_from Outside (drop 1 text) ≡ string_value text
read_value text (bytes, quoted rest ones i) =
    ap (value_from Outside) (sym (append-nil rest)) ∙ (inside_read rest [] ones i).value ∙ one_value (quote ∷ rest) ones (quoted rest ones i)

-- ---- what is read is spelled so

-- with the bytes of the escape before them, these bytes are the rest of a string
abbrev pub Finishes : Escape → List ℕ → Type 0
Finishes Outside text = (bytes : List ℕ) × Inside text bytes
Finishes AfterBackslash text = (bytes : List ℕ) × Inside (backslash ∷ text) bytes
Finishes AfterX text = (bytes : List ℕ) × Inside (backslash ∷ small_x ∷ text) bytes
Finishes (AfterDigit high) text =
    (c : ℕ) → is_hexadecimal c ≡ true → digit_value c ≡ high → (bytes : List ℕ) × Inside (backslash ∷ small_x ∷ c ∷ text) bytes

abbrev pub Grows : Escape → ℕ → List ℕ → Step → Type 0
Grows state b text Fails = Unit {0}
Grows state b text Closes = Finishes state (b ∷ [])
Grows state b text (Gives c) = Finishes Outside text → Finishes state (b ∷ text)
Grows state b text (Leads next) = Finishes next text → Finishes state (b ∷ text)

plain_from : (b : ℕ) → (b == newline) ≡ false → (b == quote) ≡ false → (b == backslash) ≡ false → is_plain b ≡ true
plain_from b l q s = rw (q, s, l) refl

escaped_from : (b : ℕ) → (b == newline) ≡ false → (b == small_x) ≡ false → (b == small_n) ≡ false → is_escaped b ≡ true
escaped_from b l x n = rw (n, x, l) refl

after_outside : (b : ℕ) (text : List ℕ) → Grows Outside b text (step Outside b)
after_outside b text =
    cond_both (b == newline) Fails _ (Grows Outside b text) (λ _. tt)
    (λ l. cond_both (b == quote) Closes _ (Grows Outside b text) (λ q. let is : b ≡ 34 = eqb-true b 34 q in rw is ([], closed))
    (λ q. cond_both (b == backslash) (Leads AfterBackslash) (Gives b) (Grows Outside b text)
    (λ s f. let is : b ≡ 92 = eqb-true b 92 s in rw is f)
    (λ s f. (b ∷ f.0, more b (b ∷ []) text f.0 (plain b (plain_from b l q s)) f.1))))

after_backslash : (b : ℕ) (text : List ℕ) → Grows AfterBackslash b text (step AfterBackslash b)
after_backslash b text =
    cond_both (b == newline) Fails _ (Grows AfterBackslash b text) (λ _. tt)
    (λ l. cond_both (b == small_x) (Leads AfterX) _ (Grows AfterBackslash b text)
    (λ x f. let is : b ≡ 120 = eqb-true b 120 x in rw is f)
    (λ x f. ⊎_elim
    (λ n. let is : b ≡ 110 = eqb-true b 110 n in rw is (newline ∷ f.0, more newline (backslash ∷ small_n ∷ []) text f.0 line_end f.1))
    (λ n. (b ∷ f.0, more b (backslash ∷ b ∷ []) text f.0 (escaped b (escaped_from b l x n)) f.1))
    (cases_Bool (b == small_n))))

after_x : (b : ℕ) (text : List ℕ) → Grows AfterX b text (step AfterX b)
after_x b text =
    cond_both (is_hexadecimal b) (Leads (AfterDigit (digit_value b))) Fails (Grows AfterX b text) (λ h f. f b h refl) (λ _. tt)

after_digit : (high b : ℕ) (text : List ℕ) → Grows (AfterDigit high) b text (step (AfterDigit high) b)
after_digit high b text =
    cond_both (is_hexadecimal b) (Gives (16 * high + digit_value b)) Fails (Grows (AfterDigit high) b text)
    (λ l f c h is. (_ ∷ f.0, more (16 * digit_value c + digit_value b) (backslash ∷ small_x ∷ c ∷ b ∷ []) text f.0 (hexadecimal c b h l) f.1))
    (λ _. tt)

grows : (state : Escape) (b : ℕ) (text : List ℕ) → Grows state b text (step state b)
grows Outside b text = after_outside b text
grows AfterBackslash b text = after_backslash b text
grows AfterX b text = after_x b text
grows (AfterDigit high) b text = after_digit high b text

pub record Finished (state : Escape) (text : List ℕ) (n : ℕ) : Type 0 where
  pub within : n ≤ length text
  pub finishes : Finishes state (take n text)

one_more : (state next : Escape) (b : ℕ) (text : List ℕ) (found : Option ℕ) (n : ℕ) → ((t : List ℕ) → Finishes next t → Finishes state (b ∷ t))
    → ((m : ℕ) → found ≡ Some m → Finished next text m) → option_map (λ n. n + 1) found ≡ Some n → Finished state (b ∷ text) n
one_more state next b text None n grow known is = absurd (cc)
one_more state next b text (Some m) n grow known is =
    let f = known m refl in
    let e : n ≡ suc m = omega (arith, option_same (m + 1) n is) in
    rw e (record { within = omega (arith, f.within); finishes = grow (take m text) f.finishes })

after_step : (state : Escape) (b : ℕ) (text : List ℕ) (n : ℕ) (s : Step) → ((t : List ℕ) → Grows state b t s)
    → ((next : Escape) (m : ℕ) → closing next text ≡ Some m → Finished next text m)
    → length_after s (λ next. closing next text) ≡ Some n → Finished state (b ∷ text) n
after_step state b text n Fails grow known is = absurd (cc)
after_step state b text n Closes grow known is =
    let e : n ≡ suc 0 = sym (option_same 1 n is) in
    rw e (record { within = omega arith; finishes = grow [] })
after_step state b text n (Gives c) grow known is = one_more state Outside b text (closing Outside text) n grow (known Outside) is
after_step state b text n (Leads next) grow known is = one_more state next b text (closing next text) n grow (known next) is

pub closing_finishes : (state : Escape) (text : List ℕ) (n : ℕ) → closing state text ≡ Some n → Finished state text n
closing_finishes state [] n is = absurd (cc)
closing_finishes state (b ∷ text) n is =
    after_step state b text n (step state b) (λ t. grows state b t) (λ next m. closing_finishes next text m) is
