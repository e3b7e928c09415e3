-- The last cut of a text, the end of a line, and the parts of a line on a flaw.
use Rattle.std.proofs.Common.{◌≡◌, ◌≢◌, ℕ, ◌+◌, ◌-◌, ◌^◌, ◌<◌, ◌≤◌, ◌==◌, nat_lt, Bool, true, false, cond, inl, inr, List, [], ◌∷◌, ◌++◌, length, get_or, take, drop, Some, None, MatchOption, refl}
use Rattle.std.proofs.Common.{sym, ap, ◌∙◌, subst, arith, append-nil, length-drop}
use Rattle.std.proofs.lemmas.List.{drop_more, drop_all, take_all, take-append-drop}
use Rattle.std.proofs.lemmas.Bool.Decides.{nat_tests}
use Rattle.nwq_text.specs.Cuts.{cut_at}
use Rattle.nwq_text.specs.Number.{number_of}
use Rattle.command_work.specs.declared.status.Status.{Status}
use Rattle.command_work.specs.declared.status.Status.TheVariants as status
use Rattle.message_sentences.specs.Told.{Tale, Nothing, Missing, Long, Place, without_newline, behind, last_cut_at, EndsName, fitting, place_at, name_in, offset_in, cause_in, place_told, or_nothing}
use Rattle.message_sentences.specs.Told.{TellsFlaw, IsTold, IsToldBy}

-- ---- the last cut

equal : (b : ℕ) → (b == b) ≡ true
equal b = grind (arith, nat_tests)

other : (b at : ℕ) → b ≢ at → (b == at) ≡ false
other b at h = grind (arith, nat_tests)

last_of : (at : ℕ) (front back : List ℕ) → last_cut_at at back ≡ None → last_cut_at at (front ++ at ∷ back) ≡ Some (front, back)
unfolding last_cut_at
last_of at [] back none = ap (behind at at back) none ∙ ap (λ t. cond t (Some ([], back)) None) (equal at)
last_of at (b ∷ bs) back none = ap (behind at b (bs ++ at ∷ back)) (last_of at bs back none)

pub cut_here : (at : ℕ) (text : List ℕ) (i j : ℕ) → i < length text → get_or text i 0 ≡ at → last_cut_at at (drop j text) ≡ None → j ≡ i + 1
    → Some (take i text, take (length text - (i + 1)) (drop (i + 1) text)) ≡ last_cut_at at text
cut_here at text i j inside same behind_it next =
    let none : last_cut_at at (drop (i + 1) text) ≡ None = subst (λ n. last_cut_at at (drop n text) ≡ None) next behind_it in
    let whole : text ≡ take i text ++ at ∷ drop (i + 1) text = sym (take-append-drop i text)
    ∙ ap (λ xs. take i text ++ xs) (drop_more text i 0 inside ∙ ap (λ x. x ∷ drop (i + 1) text) same)
    in let rest : take (length text - (i + 1)) (drop (i + 1) text) ≡ drop (i + 1) text
    = take_all (length text - (i + 1)) (drop (i + 1) text) (omega (arith, length-drop (i + 1) text))
    in sym (ap (last_cut_at at) whole ∙ last_of at (take i text) (drop (i + 1) text) none ∙ ap (λ xs. Some (take i text, xs)) (sym rest))

pub cut_more : (at : ℕ) (text : List ℕ) (i j : ℕ) → i < length text → get_or text i 0 ≢ at → last_cut_at at (drop j text) ≡ None → j ≡ i + 1
    → last_cut_at at (drop i text) ≡ None
unfolding last_cut_at
cut_more at text i j inside unlike behind_it next =
    let none : last_cut_at at (drop (i + 1) text) ≡ None = subst (λ n. last_cut_at at (drop n text) ≡ None) next behind_it in
    ap (last_cut_at at) (drop_more text i 0 inside)
    ∙ ap (behind at (get_or text i 0) (drop (i + 1) text)) none
    ∙ ap (λ t. cond t (Some ([], drop (i + 1) text)) None) (other (get_or text i 0) at unlike)

pub none_behind : (at : ℕ) (text : List ℕ) (i : ℕ) → length text ≤ i → last_cut_at at (drop i text) ≡ None
unfolding last_cut_at
none_behind at text i past = ap (last_cut_at at) (drop_all i text past)

-- ---- the end of a line

ended_by : (b : ℕ) (t : Bool) → (b == 10) ≡ t → (front : List ℕ) → without_newline (front ++ b ∷ []) ≡ front ++ cond t [] (b ∷ [])
ended_by b t is [] = ap (λ s. cond s [] (b ∷ [])) is
ended_by b t is (x ∷ []) = ap (λ s. x ∷ cond s [] (b ∷ [])) is
ended_by b t is (x ∷ y ∷ ys) = ap (λ s. x ∷ s) (ended_by b t is (y ∷ ys))

pub ended : (line front : List ℕ) (b : ℕ) → line ≡ front ++ b ∷ [] → (b == 10) ≡ true → front ≡ without_newline line
ended line front b is test = sym (ap without_newline is ∙ ended_by b true test front ∙ append-nil front)

pub unended : (line front : List ℕ) (b : ℕ) → line ≡ front ++ b ∷ [] → (b == 10) ≡ false → line ≡ without_newline line
unended line front b is test = is ∙ sym (ap without_newline is ∙ ended_by b false test front)

pub empty_line : (line : List ℕ) → length line ≡ 0 → line ≡ without_newline line
empty_line [] h = refl
empty_line (b ∷ bs) h = absurd (omega arith)

-- ---- a name and what follows the blank behind it

pub flaw_is : (text : List ℕ) (i : ℕ) → i < length text → get_or text i 0 ≡ 32
    → text ≡ take i text ++ 32 ∷ take (length text - (i + 1)) (drop (i + 1) text)
flaw_is text i inside is =
    let rest : take (length text - (i + 1)) (drop (i + 1) text) ≡ drop (i + 1) text
    = take_all (length text - (i + 1)) (drop (i + 1) text) (omega (arith, length-drop (i + 1) text))
    in sym (take-append-drop i text)
    ∙ ap (λ xs. take i text ++ xs) (drop_more text i 0 inside ∙ ap (λ x. x ∷ drop (i + 1) text) is ∙ ap (λ xs. 32 ∷ xs) (sym rest))

pub ends_here : (text : List ℕ) (n : ℕ) → n < length text → get_or text n 0 ≡ 32 → EndsName text n
ends_here text n inside is = inr (inside, is)

pub ends_nowhere : (text : List ℕ) (n : ℕ) → n ≡ 0 → EndsName text n
ends_nowhere text n none = inl none

pub flaw_named : (text : List ℕ) (n : ℕ) → EndsName text n → n ≢ 0
    → text ≡ take n text ++ 32 ∷ take (length text - (n + 1)) (drop (n + 1) text)
flaw_named text n (inl none) some = absurd (some none)
flaw_named text n (inr here) some = flaw_is text n here.0 here.1

-- ---- an offset

fitting_by : (n : ℕ) (t : Bool) → nat_lt n (2 ^ 32) ≡ t → fitting (Some n) ≡ cond t (Some n) None
fitting_by n t is = ap (λ s. cond s (Some n) None) is

pub no_offset_read : (digits : List ℕ) → None ≡ number_of digits → None ≡ fitting (number_of digits)
no_offset_read digits is = ap fitting is

pub offset_read : (digits : List ℕ) (n : ℕ) → Some n ≡ number_of digits → n ≤ 4294967295 → Some n ≡ fitting (number_of digits)
offset_read digits n is fits =
    let test : nat_lt n 4294967296 ≡ true = grind (arith, nat_tests) in sym (fitting_by n true test) ∙ ap fitting is

pub offset_over : (digits : List ℕ) (n : ℕ) → Some n ≡ number_of digits → 4294967295 < n → None ≡ fitting (number_of digits)
offset_over digits n is past =
    let test : nat_lt n 4294967296 ≡ false = grind (arith, nat_tests) in sym (fitting_by n false test) ∙ ap fitting is

-- ---- the parts of a line on a source text

pub nothing_told : (text : List ℕ) → None ≡ place_told text → Nothing ≡ or_nothing (place_told text)
nothing_told text is = ap or_nothing is

pub some_told : (text : List ℕ) (tale : Tale) → Some tale ≡ place_told text → tale ≡ or_nothing (place_told text)
some_told text tale is = ap or_nothing is

pub no_cause : (text : List ℕ) → None ≡ last_cut_at 32 text → None ≡ place_told text
unfolding place_told
no_cause text one = ap cause_in one

pub no_offset : (text front cause : List ℕ) → Some (front, cause) ≡ last_cut_at 32 text → None ≡ last_cut_at 32 front → None ≡ place_told text
unfolding place_told
no_offset text front cause one two = ap (offset_in cause) two ∙ ap cause_in one

pub no_name : (text front cause middle digits : List ℕ) → Some (front, cause) ≡ last_cut_at 32 text → Some (middle, digits) ≡ last_cut_at 32 front
    → None ≡ last_cut_at 32 middle → None ≡ place_told text
unfolding place_told
no_name text front cause middle digits one two three = ap (name_in digits cause) three ∙ ap (offset_in cause) two ∙ ap cause_in one

pub no_place : (text front cause middle digits name line : List ℕ) → Some (front, cause) ≡ last_cut_at 32 text
    → Some (middle, digits) ≡ last_cut_at 32 front → Some (name, line) ≡ last_cut_at 32 middle → None ≡ fitting (number_of digits)
    → None ≡ place_told text
unfolding place_told
no_place text front cause middle digits name line one two three four =
    ap (place_at name cause) four ∙ ap (name_in digits cause) three ∙ ap (offset_in cause) two ∙ ap cause_in one

pub place_is : (text front cause middle digits name line : List ℕ) (at : ℕ) → Some (front, cause) ≡ last_cut_at 32 text
    → Some (middle, digits) ≡ last_cut_at 32 front → Some (name, line) ≡ last_cut_at 32 middle → Some at ≡ fitting (number_of digits)
    → Some (Place name at cause) ≡ place_told text
unfolding place_told
place_is text front cause middle digits name line at one two three four =
    ap (place_at name cause) four ∙ ap (name_in digits cause) three ∙ ap (offset_in cause) two ∙ ap cause_in one

-- ---- what a line tells by the status

pub told_none : (s : Status) (line text : List ℕ) (tale : Tale) → text ≡ without_newline line → None ≡ cut_at 32 text → tale ≡ Nothing
    → IsToldBy s line tale
told_none s line text tale is cut nothing =
    subst (λ o. MatchOption o (tale ≡ Nothing) (λ p. IsTold s p.1 tale)) (cut ∙ ap (cut_at 32) is) nothing

pub told_some : (s : Status) (line text word rest : List ℕ) (tale : Tale) → text ≡ without_newline line → Some (word, rest) ≡ cut_at 32 text
    → IsTold s rest tale → IsToldBy s line tale
told_some s line text word rest tale is cut told =
    subst (λ o. MatchOption o (tale ≡ Nothing) (λ p. IsTold s p.1 tale)) (cut ∙ ap (cut_at 32) is) told

pub told_missing : (s : Status) (rest : List ℕ) (tale : Tale) → s ≡ status.Missing → tale ≡ Missing rest → IsTold s rest tale
told_missing s rest tale is told = subst (λ x. IsTold x rest tale) (sym is) told

pub told_long : (s : Status) (rest : List ℕ) (tale : Tale) → s ≡ status.Long → tale ≡ Long rest → IsTold s rest tale
told_long s rest tale is told = subst (λ x. IsTold x rest tale) (sym is) told

pub told_script : (s : Status) (rest : List ℕ) (tale : Tale) → s ≡ status.Script → tale ≡ or_nothing (place_told rest) → IsTold s rest tale
told_script s rest tale is told = subst (λ x. IsTold x rest tale) (sym is) told

pub told_code : (s : Status) (rest : List ℕ) (tale : Tale) → s ≡ status.Code → TellsFlaw rest tale → IsTold s rest tale
told_code s rest tale is told = subst (λ x. IsTold x rest tale) (sym is) told

pub told_area : (s : Status) (rest : List ℕ) (tale : Tale) → s ≡ status.Area → TellsFlaw rest tale → IsTold s rest tale
told_area s rest tale is told = subst (λ x. IsTold x rest tale) (sym is) told

pub told_done : (s : Status) (rest : List ℕ) (tale : Tale) → s ≡ status.Done → tale ≡ Nothing → IsTold s rest tale
told_done s rest tale is told = subst (λ x. IsTold x rest tale) (sym is) told

pub told_words : (s : Status) (rest : List ℕ) (tale : Tale) → s ≡ status.Words → tale ≡ Nothing → IsTold s rest tale
told_words s rest tale is told = subst (λ x. IsTold x rest tale) (sym is) told

pub told_limit : (s : Status) (rest : List ℕ) (tale : Tale) → s ≡ status.Limit → tale ≡ Nothing → IsTold s rest tale
told_limit s rest tale is told = subst (λ x. IsTold x rest tale) (sym is) told

pub told_fault : (s : Status) (rest : List ℕ) (tale : Tale) → s ≡ status.Fault → tale ≡ Nothing → IsTold s rest tale
told_fault s rest tale is told = subst (λ x. IsTold x rest tale) (sym is) told

pub told_memory : (s : Status) (rest : List ℕ) (tale : Tale) → s ≡ status.Memory → tale ≡ Nothing → IsTold s rest tale
told_memory s rest tale is told = subst (λ x. IsTold x rest tale) (sym is) told
