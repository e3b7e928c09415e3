use Rattle.std.proofs.Common.{◌≡◌, ℕ, ◌-◌, ◌<◌, ◌≤◌, Bool, true, false, cond, List, length, take, drop, Some, None, nat_le, refl, sym, ap, ◌∙◌, arith, ◌⊎◌, inl, inr, subst}
use Rattle.std.proofs.lemmas.List.{take_all, length-take}
use Rattle.std.proofs.lemmas.Bool.Decides.{nat_tests}
use Rattle.nss_lexer.specs.Strings.{string_value}
use Rattle.nss_include.specs.declared.step.Step.{Step}
use Rattle.nss_include.specs.declared.step.Step.TheVariants.{Gives, Mentions, Misses}
use Rattle.nss_include.specs.declared.step.Span.{Span}
use Rattle.nss_lexer.specs.Lexemes.{IsLexeme}
use Rattle.nss_lexer.specs.Splitting.{Lexeme, IsFirstToken}
use Rattle.nss_include.specs.Names.{is_include_name}
use Rattle.nwq_value.specs.Limits.{text_limit}
use Rattle.nss_include.specs.Pieces.{is_hash}
use Rattle.nss_include.specs.Steps.{named_step, IsWithin, IsStep, Behind, DirectiveGoesOn, lexeme_in, no_hash, no_include, include, other, sign, begins}

short : (name : List ℕ) → is_include_name name ≡ true → length name ≤ 16
unfolding is_include_name
short name h = grind (arith, nat_tests)

length_cut_by : (n : ℕ) (s : List ℕ) (b : Bool) → nat_le (length s) n ≡ b → (length s ≤ n) ⊎ (n ≤ length (take n s))
length_cut_by n s true h = let few : length s ≤ n = grind (arith, nat_tests) in inl few
length_cut_by n s false h =
    let many : n < length s = grind (arith, nat_tests)
    in let cut : n ≤ length (take n s) = omega (arith, length-take n s)
    in inr cut

length_cut : (n : ℕ) (s : List ℕ) → (length s ≤ n) ⊎ (n ≤ length (take n s))
length_cut n s = length_cut_by n s (nat_le (length s) n) refl

-- a name that is short after it was cut was not cut
kept : (s : List ℕ) → is_include_name (take text_limit s) ≡ true → take text_limit s ≡ s
kept s h = elim (length_cut text_limit s) as (λ _. take text_limit s ≡ s) [ inl few ↦ take_all text_limit s few | inr many ↦ absurd (let few = short (take text_limit s) h in omega arith) ]

pub names : (hash end : ℕ) (text name : List ℕ) → name ≡ take text_limit (string_value text) → is_include_name name ≡ true
    → Mentions hash name end ≡ named_step hash text end
unfolding named_step
names hash end text name is h =
    let same : name ≡ string_value text = is ∙ kept (string_value text) (ap is_include_name (sym is) ∙ h)
    in let named : is_include_name (string_value text) ≡ true = ap is_include_name (sym same) ∙ h
    in rw named (ap (λ n. Mentions hash n end) same)

long : (name : List ℕ) → 17 ≤ length name → is_include_name name ≡ false
unfolding is_include_name
long name h = grind (arith, nat_tests)

cut_by_length : (s : List ℕ) → (length s ≤ text_limit) ⊎ (text_limit ≤ length (take text_limit s)) → is_include_name (take text_limit s) ≡ false → is_include_name s ≡ false
cut_by_length s (inl few) h = ap is_include_name (sym (take_all text_limit s few)) ∙ h
cut_by_length s (inr many) h = let more : 17 ≤ length s = omega (arith, length-take text_limit s) in long s more

cut_too : (s : List ℕ) → is_include_name (take text_limit s) ≡ false → is_include_name s ≡ false
cut_too s h = cut_by_length s (length_cut text_limit s) h

pub names_not : (hash end : ℕ) (text name : List ℕ) → name ≡ take text_limit (string_value text) → is_include_name name ≡ false
    → Misses hash ≡ named_step hash text end
unfolding named_step
names_not hash end text name is h =
    let other : is_include_name (string_value text) ≡ false = cut_too (string_value text) (ap is_include_name (sym is) ∙ h) in rw other refl

within_by : (bytes text : List ℕ) (file hash end : ℕ) (b : Bool) → is_include_name (string_value text) ≡ b → hash ≤ length bytes → end ≤ length bytes
    → IsWithin bytes file (cond b (Mentions hash (string_value text) end) (Misses hash))
within_by bytes text file hash end true is before behind = (before, behind, is)
within_by bytes text file hash end false is before behind = before

-- the places of a named directive are those that it was given
pub named_within : (bytes text : List ℕ) (file hash end : ℕ) (step : Step) → step ≡ named_step hash text end → hash ≤ length bytes → end ≤ length bytes
    → IsWithin bytes file step
unfolding named_step
named_within bytes text file hash end step is before behind =
    subst (IsWithin bytes file) (sym is) (within_by bytes text file hash end (is_include_name (string_value text)) refl before behind)

abbrev pub span_of : Lexeme → Span
span_of t = record { kind = t.kind; file = t.file; start = t.start; end = t.end }

same_text : (bytes : List ℕ) (file at : ℕ) (t : Lexeme) → IsFirstToken bytes file at t → take (t.end - t.start) (drop t.start bytes) ≡ t.text
same_text bytes file at t first =
    let size : t.end - t.start ≡ length t.text = omega (arith, first.last)
    in ap (λ n. take n (drop t.start bytes)) size ∙ sym first.begins.prefix

-- the token of a first token's span is that token
pub lexeme_in-span_of : (bytes : List ℕ) (file at : ℕ) (t : Lexeme) → IsFirstToken bytes file at t → lexeme_in bytes (span_of t) ≡ t
lexeme_in-span_of bytes file at t first =
    let remade : List ℕ → Lexeme = λ (text : List ℕ). record { kind = t.kind; text = text; file = t.file; start = t.start; end = t.end }
    in ap remade (same_text bytes file at t first)

-- a token that begins no directive
pub token_step : (bytes : List ℕ) (file at : ℕ) (t : Lexeme) → IsFirstToken bytes file at t → Behind bytes file t.text t.end None
    → IsStep bytes file at (Gives (span_of t))
token_step bytes file at t first (no_hash h) =
    let same = lexeme_in-span_of bytes file at t first
    in other at (span_of t) (subst (IsFirstToken bytes file at) (sym same) first) (ap is_hash same ∙ h)
token_step bytes file at t first (no_include x stands h) =
    let same = lexeme_in-span_of bytes file at t first
    in sign at (span_of t) x (subst (IsFirstToken bytes file at) (sym same) first) stands h

-- a token that begins one
pub begins_step : (bytes : List ℕ) (file at end : ℕ) (t : Lexeme) (step : Step) → IsFirstToken bytes file at t → Behind bytes file t.text t.end (Some end)
    → DirectiveGoesOn bytes file t.start end step → IsStep bytes file at step
begins_step bytes file at end t step first (include u hash stands word) goes = begins at t u goes.first step first hash stands word goes.stands goes.is

pub token_within : (bytes : List ℕ) (file at : ℕ) (t : Lexeme) → IsFirstToken bytes file at t → IsWithin bytes file (Gives (span_of t))
token_within bytes file at t first =
    let spelled = subst (IsLexeme t.kind) (sym (same_text bytes file at t first)) first.begins.lexeme
    in (first.file, omega (arith, first.last), first.within, spelled)
