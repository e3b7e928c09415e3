use Rattle.std.proofs.Common.{◌≡◌, ◌≢◌, ℕ, ◌<◌, ◌≤◌, suc, zero, Bool, true, false, ◌||◌, List, [], ◌∷◌, ◌++◌, length, get_or, map, refl, sym, ap, subst, ◌∙◌, arith, length-append}
use Rattle.std.specs.List.{AllByRecursion, slice_get, list_any}
use Rattle.std.specs.Str.{bytes_eq}
use Rattle.std.proofs.lemmas.Slice.Eq.{bytes_eq-Decides}
use Rattle.nss_lexer.specs.Lexemes.{IsLexeme}
use Rattle.nss_include.specs.declared.file.Source.{Source}
use Rattle.nss_include.specs.declared.step.Span.{Span}
use Rattle.nss_include.specs.Steps.{lexeme_in}
use Rattle.nss_include.specs.Units.{is_among, HaveDistinctNames, source}
use Rattle.nss_include.specs.View.{IsSpan, StandsIn, IsSound, HasNames, lexeme_of, bytes_of, file_count_limit}
use Rattle.nwq_value.specs.Limits.{file_limit}
use Rattle.std.proofs.lemmas.List.{length_push}
use Rattle.nwq_value.specs.Index.{number_under, Puts}
use Rattle.std.specs.Cmp.Lexicographic.{nat_list_eq_equiv}
use Rattle.std.specs.Prelude.{Some, is_some, if◌then◌else◌}

-- what a list has at a place stays where the list grows
pub slice_get-append : {A : Type 0} (xs ys : List A) (i : ℕ) → i < length xs → slice_get (xs ++ ys) i ≡ slice_get xs i
slice_get-append [] ys i h = absurd (omega arith)
slice_get-append (x ∷ xs) ys zero h = refl
slice_get-append (x ∷ xs) ys (suc i) h = let below : i < length xs = omega arith in slice_get-append xs ys i below

pub all_push : {A : Type 0} (P : A → Type 0) (xs : List A) (y : A) → AllByRecursion P xs → P y → AllByRecursion P (xs ++ y ∷ [])
all_push P [] y h hy = (hy, tt)
all_push P (x ∷ xs) y h hy = (h.0, all_push P xs y h.1 hy)

pub all_map : {A : Type 0} (P Q : A → Type 0) (xs : List A) → ((x : A) → P x → Q x) → AllByRecursion P xs → AllByRecursion Q xs
all_map P Q [] f h = tt
all_map P Q (x ∷ xs) f h = (f x h.0, all_map P Q xs f h.1)

-- what holds of each element holds of the one at a place
pub all_at : {A : Type 0} (P : A → Type 0) (xs : List A) (i : ℕ) (d : A) → AllByRecursion P xs → i < length xs → P (get_or xs i d)
all_at P [] i d h below = absurd (omega arith)
all_at P (x ∷ xs) zero d h below = h.0
all_at P (x ∷ xs) (suc i) d h below = let rest : i < length xs = omega arith in all_at P xs i d h.1 rest

apart_or : (a b : Bool) → (a || b) ≡ false → (a ≡ false) × (b ≡ false)
apart_or true b h = absurd cc
apart_or false b h = (refl, h)

-- a file of a new name keeps names distinct
pub distinct_more : (files : List Source) (name bytes : List ℕ) → is_among files name ≡ false → HaveDistinctNames files
    → HaveDistinctNames (files ++ source name bytes ∷ [])
unfolding is_among
distinct_more [] name bytes new h = (tt, tt)
distinct_more (f ∷ files) name bytes new h =
    let parts = apart_or (bytes_eq f.name name) (list_any (λ g. bytes_eq g.name name) files) new
    in let other : name ≢ f.name = λ same.
    let is : bytes_eq f.name name ≡ true = (bytes_eq-Decides f.name name).1 (sym same)
    in let e : false ≡ true = sym parts.0 ∙ is in cc
    in (all_push (λ g. g.name ≢ f.name) files (source name bytes) h.0 other, distinct_more files name bytes parts.1 h.1)

pub bytes_stay : (files more : List Source) (i : ℕ) → i < length files → bytes_of (slice_get (files ++ more) i) ≡ bytes_of (slice_get files i)
bytes_stay files more i h = ap bytes_of (slice_get-append files more i h)

pub lexeme_stays : (files more : List Source) (span : Span) → span.file < length files → lexeme_of (files ++ more) span ≡ lexeme_of files span
lexeme_stays files more span h = ap (λ bytes. lexeme_in bytes span) (bytes_stay files more span.file h)

pub span_stays : (files more : List Source) (span : Span) → IsSpan files span → IsSpan (files ++ more) span
span_stays files more span h =
    let same = sym (bytes_stay files more span.file h.file)
    in record {
      file = omega (arith, h.file, length-append files more);
      order = h.order;
      within = subst (λ bytes. span.end ≤ length bytes) same h.within;
      lexeme = subst (λ bytes. IsLexeme span.kind (lexeme_in bytes span).text) same h.lexeme;
    }

pub lexemes_stay : (files more : List Source) (spans : List Span) → AllByRecursion (IsSpan files) spans
    → map (lexeme_of (files ++ more)) spans ≡ map (lexeme_of files) spans
lexemes_stay files more [] h = refl
lexemes_stay files more (span ∷ spans) h =
    ap (λ t. t ∷ map (lexeme_of (files ++ more)) spans) (lexeme_stays files more span h.0.file)
    ∙ ap (λ ts. lexeme_of files span ∷ ts) (lexemes_stay files more spans h.1)

-- the tokens of spans of these files stand in them
pub stand_in : (files : List Source) (spans : List Span) → AllByRecursion (IsSpan files) spans → AllByRecursion (StandsIn files) (map (lexeme_of files) spans)
stand_in files [] h = tt
stand_in files (span ∷ spans) h = (record { file = h.0.file; order = h.0.order; within = h.0.within }, stand_in files spans h.1)

-- the names with that of one more file
pub names_more : (files : List Source) (file : Source) (n : ℕ) (old new : List (List ℕ × ℕ)) → HasNames files old → Puts file.name (Some n) old new → HasNames (files ++ file ∷ []) new
unfolding is_among
names_more files file n old new has put name = ap is_some (put name) ∙ by (bytes_eq name file.name) refl ∙ sym (among_last files)
  where
    among_last : (fs : List Source) → list_any (λ f. bytes_eq f.name name) (fs ++ file ∷ []) ≡ (bytes_eq name file.name || list_any (λ f. bytes_eq f.name name) fs)
    among_last [] = ap (λ b. b || false) (nat_list_eq_equiv.symm file.name name)
    among_last (f ∷ fs) = ap (λ b. bytes_eq f.name name || b) (among_last fs) ∙ swapped (bytes_eq f.name name) (bytes_eq name file.name) (list_any (λ g. bytes_eq g.name name) fs)
      where
        swapped : (a b c : Bool) → (a || (b || c)) ≡ (b || (a || c))
        swapped true true c = refl
        swapped true false c = refl
        swapped false b c = refl

    by : (b : Bool) → bytes_eq name file.name ≡ b → is_some (if b then Some n else number_under name old) ≡ (b || list_any (λ f. bytes_eq f.name name) files)
    by true is = refl
    by false is = has name

pub no_names : (names : List (List ℕ × ℕ)) → names ≡ [] → HasNames [] names
unfolding is_among
no_names names none name = ap (λ ns. is_some (number_under name ns)) none

pub sound_more : (files : List Source) (file : Source) (spans : List Span) → length file.bytes ≤ file_limit → length files < file_count_limit → IsSound files spans → IsSound (files ++ file ∷ []) spans
sound_more files file spans size few sound = record {
  sizes = all_push (λ f. length f.bytes ≤ file_limit) files file sound.sizes size;
  few = omega (arith, few, length_push files file);
  short = sound.short;
  inside = all_map (IsSpan files) (IsSpan (files ++ file ∷ [])) spans (span_stays files (file ∷ [])) sound.inside;
}

pub sound_none : (files : List Source) (spans : List Span) → files ≡ [] → spans ≡ [] → IsSound files spans
sound_none files spans p q = rw (p, q) (record { sizes = tt; few = omega arith; short = omega arith; inside = tt })
