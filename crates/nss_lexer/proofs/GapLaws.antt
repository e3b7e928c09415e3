-- Passing over blanks and comments one by one finds what the grammar has, and nothing else.
use Rattle.std.specs.Prelude.{Option, Some, None, option_map, ◌==◌, ◌&&◌, not, slice_index}
use Rattle.std.specs.List.{AllByRecursion}
use Rattle.std.proofs.Common.{◌≡◌, ℕ, suc, ◌+◌, true, false, List, [], ◌∷◌, ◌++◌, length, take, drop, refl, ap, sym, ◌∙◌, subst, arith, ⊎_elim}
use Rattle.std.proofs.lemmas.List.{take-append-drop, drop_at, drop-drop}
use Rattle.std.proofs.Math.Numerals.{one-add}
use Rattle.std.proofs.lemmas.Bool.{cases_Bool, and_parts, and_from, not_from_true, not_from_false, false≢true, eqb-true, eqb-false, eq-eqb, ne_eqb, cond-true, cond-false}
use Rattle.nss_lexer.specs.declared.bytes.Class.TheVariants.{Line}
use Rattle.nss_lexer.specs.Bytes.{newline, is_blank}
use Rattle.nss_lexer.specs.Splitting.{Skips, blank, line, block, EndsLine, NeverCloses}
use Rattle.nss_lexer.specs.Reading.{class_run, closing_comment, comment, pass}

option_same : (m n : ℕ) → Some m ≡ Some n → m ≡ n
option_same m n e = cc

-- ---- what may be passed over is found

line_run : (text after : List ℕ) → AllByRecursion (λ b. (b ≡ newline) → ⊥) text → EndsLine after → class_run Line (text ++ after) ≡ length text
line_run [] [] all ends = refl
line_run [] (b ∷ after) all ends = rw ends refl
line_run (b ∷ text) after all ends =
    rw (ne_eqb b newline all.0, line_run text after all.1 ends) (one-add (length text))

never_here : (b c : ℕ) → ((b ≡ 42) → (c ≡ 47) → ⊥) → ((b == 42) && (c == 47)) ≡ false
never_here b c never = grind arith

block_found : (text after : List ℕ) → NeverCloses text → closing_comment (text ++ 42 ∷ 47 ∷ after) ≡ Some (length text + 2)
block_found [] after never = refl
block_found (b ∷ []) after never =
    rw (never_here b 42 (λ _ e. absurd (omega arith))) refl
block_found (b ∷ c ∷ text) after never =
    rw (never_here b c never.0, block_found (c ∷ text) after never.1) (ap Some (omega arith))

-- what follows is what follows the so many bytes that are passed over
pub record Passed (bytes after : List ℕ) : Type 0 where
  pub count : ℕ
  pub found : pass bytes ≡ Some count
  pub left : after ≡ drop count bytes

drop_two : (x y : ℕ) (n : ℕ) (text : List ℕ) → drop (n + 2) (x ∷ y ∷ text) ≡ drop n text
drop_two x y n text = let e : n + 2 ≡ suc (suc n) = omega arith in rw e refl

pub skips_passed : (bytes after : List ℕ) → Skips bytes after → Passed bytes after
unfolding pass
skips_passed bytes after (blank b rest is) = record { count = 1; found = rw is refl; left = refl }
skips_passed bytes after (line text rest all ends) = record {
  count = length text + 2;
  found = rw (line_run text after all ends) refl;
  left = sym (drop_two 47 47 (length text) (text ++ after) ∙ drop_at text after (length text) refl);
}
skips_passed bytes after (block text rest never) = record {
  count = length text + 2 + 2;
  found = rw (block_found text after never) refl;
  left = sym (drop_two 47 42 (length text + 2) (text ++ 42 ∷ 47 ∷ after)
      ∙ sym (drop-drop 2 (length text) (text ++ 42 ∷ 47 ∷ after))
      ∙ ap (drop 2) (drop_at text (42 ∷ 47 ∷ after) (length text) refl));
}

-- ---- what is found may be passed over

abbrev LineSplit : ℕ → List ℕ → Type 0
LineSplit n text = AllByRecursion (λ b. (b ≡ newline) → ⊥) (take n text) × EndsLine (drop n text)

line_split : (text : List ℕ) → LineSplit (class_run Line text) text
line_split [] = (tt, tt)
line_split (b ∷ text) =
    ⊎_elim
    (λ at_end.
    let none : class_run Line (b ∷ text) ≡ 0 = cond-false (not (b == newline)) (1 + class_run Line text) 0 (not_from_true (b == newline) at_end) in
    subst (λ k. LineSplit k (b ∷ text)) (sym none) (tt, eqb-true b newline at_end))
    (λ inside.
    let one : class_run Line (b ∷ text) ≡ suc (class_run Line text) =
    cond-true (not (b == newline)) (1 + class_run Line text) 0 (not_from_false (b == newline) inside) ∙ one-add (class_run Line text) in
    let rest = line_split text in
    subst (λ k. LineSplit k (b ∷ text)) (sym one) ((eqb-false b newline inside, rest.0), rest.1))
    (cases_Bool (b == newline))

pub record BlockSplit (text : List ℕ) (n : ℕ) : Type 0 where
  pub body : List ℕ
  pub after : List ℕ
  pub is : text ≡ body ++ 42 ∷ 47 ∷ after
  pub count : n ≡ length body + 2
  pub never : NeverCloses body

never_grows : (b : ℕ) (body after : List ℕ) → ((b == 42) && (slice_index (body ++ 42 ∷ 47 ∷ after) 0 == 47)) ≡ false → NeverCloses body → NeverCloses (b ∷ body)
never_grows b [] after here rest = tt
never_grows b (c ∷ body) after here rest =
    ((λ star slash. false≢true (sym here ∙ and_from (b == 42) (c == 47) (eq-eqb b 42 star) (eq-eqb c 47 slash))), rest)

closes_here : (b n : ℕ) (text : List ℕ) → ((b == 42) && (slice_index text 0 == 47)) ≡ true → n ≡ 2 → BlockSplit (b ∷ text) n
closes_here b n [] here is = absurd (false≢true (and_parts (b == 42) false here).1)
closes_here b n (c ∷ text) here is =
    let both = and_parts (b == 42) (c == 47) here in
    let star : b ≡ 42 = eqb-true b 42 both.0 in
    let slash : c ≡ 47 = eqb-true c 47 both.1 in
    record { body = []; after = text; is = rw (star, slash) refl; count = is; never = tt }

closes_later : (b n : ℕ) (text : List ℕ) (found : Option ℕ) → ((b == 42) && (slice_index text 0 == 47)) ≡ false
    → ((m : ℕ) → found ≡ Some m → BlockSplit text m) → option_map (λ n. n + 1) found ≡ Some n → BlockSplit (b ∷ text) n
closes_later b n text None here known is = absurd (cc)
closes_later b n text (Some m) here known is =
    let f = known m refl in
    record {
      body = b ∷ f.body;
      after = f.after;
      is = ap (λ t. b ∷ t) f.is;
      count = omega (arith, option_same (m + 1) n is, f.count);
      never = never_grows b f.body f.after (subst (λ t. ((b == 42) && (slice_index t 0 == 47)) ≡ false) f.is here) f.never;
    }

block_split : (text : List ℕ) (n : ℕ) → closing_comment text ≡ Some n → BlockSplit text n
block_split [] n is = absurd (cc)
block_split (b ∷ text) n is =
    ⊎_elim
    (λ here. closes_here b n text here
    (option_same n 2 (sym is ∙ cond-true ((b == 42) && (slice_index text 0 == 47)) (Some 2) (option_map (λ n. n + 1) (closing_comment text)) here)))
    (λ here. closes_later b n text (closing_comment text) here (λ m e. block_split text m e)
    (sym (cond-false ((b == 42) && (slice_index text 0 == 47)) (Some 2) (option_map (λ n. n + 1) (closing_comment text)) here) ∙ is))
    (cases_Bool ((b == 42) && (slice_index text 0 == 47)))

skips_line : (b c : ℕ) (text : List ℕ) (n : ℕ) → ((b == 47) && (c == 47)) ≡ true → n ≡ class_run Line text + 2 → Skips (b ∷ c ∷ text) (drop n (b ∷ c ∷ text))
skips_line b c text n here is =
    let both = and_parts (b == 47) (c == 47) here in
    let first : b ≡ 47 = eqb-true b 47 both.0 in
    let second : c ≡ 47 = eqb-true c 47 both.1 in
    let split = line_split text in
    let whole : take (class_run Line text) text ++ drop (class_run Line text) text ≡ text = take-append-drop (class_run Line text) text in
    rw (first, second, is, drop_two 47 47 (class_run Line text) text)
    (subst (λ t. Skips (47 ∷ 47 ∷ t) (drop (class_run Line text) text)) whole
    (line (take (class_run Line text) text) (drop (class_run Line text) text) split.0 split.1))

skips_split : (text body after : List ℕ) (m : ℕ) → text ≡ body ++ 42 ∷ 47 ∷ after → m ≡ length body + 2 → NeverCloses body
    → Skips (47 ∷ 42 ∷ text) (drop m text)
skips_split text body after m is count never =
    let left : drop m text ≡ after =
    ap (λ t. drop m t) is ∙ ap (λ k. drop k (body ++ 42 ∷ 47 ∷ after)) count
    ∙ sym (drop-drop 2 (length body) (body ++ 42 ∷ 47 ∷ after))
    ∙ ap (drop 2) (drop_at body (42 ∷ 47 ∷ after) (length body) refl) in
    subst (λ r. Skips (47 ∷ 42 ∷ text) r) (sym left) (subst (λ t. Skips (47 ∷ 42 ∷ t) after) (sym is) (block body after never))

skips_block : (b c : ℕ) (text : List ℕ) (n m : ℕ) → ((b == 47) && (c == 42)) ≡ true → closing_comment text ≡ Some m → n ≡ m + 2
    → Skips (b ∷ c ∷ text) (drop n (b ∷ c ∷ text))
skips_block b c text n m here found is =
    let both = and_parts (b == 47) (c == 42) here in
    let first : b ≡ 47 = eqb-true b 47 both.0 in
    let second : c ≡ 42 = eqb-true c 42 both.1 in
    let f = block_split text m found in
    let skips : Skips (47 ∷ 42 ∷ text) (drop m text) = skips_split text f.body f.after m f.is f.count f.never in
    rw (first, second, is, drop_two 47 42 m text) skips

none_some : (n : ℕ) → None ≡ Some n → ⊥
none_some n e = cc

in_block : (b c : ℕ) (text : List ℕ) (n : ℕ) → ((b == 47) && (c == 42)) ≡ true → (found : Option ℕ) → closing_comment text ≡ found
    → option_map (λ n. n + 2) found ≡ Some n → Skips (b ∷ c ∷ text) (drop n (b ∷ c ∷ text))
in_block b c text n here None e is = absurd (cc)
in_block b c text n here (Some m) e is = skips_block b c text n m here e (sym (option_same (m + 2) n is))

skips_comment : (bytes : List ℕ) (n : ℕ) → comment bytes ≡ Some n → Skips bytes (drop n bytes)
skips_comment [] n is = absurd (cc)
skips_comment (b ∷ []) n is = absurd (cc)
skips_comment (b ∷ c ∷ text) n is =
    ⊎_elim
    (λ here. skips_line b c text n here
    (option_same n (class_run Line text + 2) (sym is ∙ cond-true ((b == 47) && (c == 47)) (Some (class_run Line text + 2)) _ here)))
    (λ other. ⊎_elim
    (λ here. in_block b c text n here (closing_comment text) refl
    (sym (cond-false ((b == 47) && (c == 47)) (Some (class_run Line text + 2)) _ other
    ∙ cond-true ((b == 47) && (c == 42)) (option_map (λ n. n + 2) (closing_comment text)) None here) ∙ is))
    (λ here. absurd (none_some n (sym (cond-false ((b == 47) && (c == 47)) (Some (class_run Line text + 2)) _ other
    ∙ cond-false ((b == 47) && (c == 42)) (option_map (λ n. n + 2) (closing_comment text)) None here) ∙ is)))
    (cases_Bool ((b == 47) && (c == 42))))
    (cases_Bool ((b == 47) && (c == 47)))

pub pass_skips : (bytes : List ℕ) (n : ℕ) → pass bytes ≡ Some n → Skips bytes (drop n bytes)
unfolding pass
pass_skips [] n is = absurd (cc)
pass_skips (b ∷ bytes) n is =
    ⊎_elim
    (λ here. let one : n ≡ 1 = option_same n 1 (sym is ∙ cond-true (is_blank b) (Some 1) (comment (b ∷ bytes)) here) in rw one (blank b bytes here))
    (λ here. skips_comment (b ∷ bytes) n (sym (cond-false (is_blank b) (Some 1) (comment (b ∷ bytes)) here) ∙ is))
    (cases_Bool (is_blank b))
