-- Works that go on to an end, from what the files hold.
use Rattle.std.proofs.Common.{◌≡◌, inr, ℕ, nat_lt, Bool, true, false, List, ◌++◌, length, Option, Some, None, Ok, Err, refl, ltb-false}
use Rattle.nwq_value.specs.Limits.{file_limit}
use Rattle.nwq_outside.specs.Outside.{Contents, content, with_content}
use Rattle.command_work.specs.Refusal.{line_of, status_of}
use Rattle.command_work.specs.Work.{Work, Gives, Refused, Ends, Writes, Puts, Finds, then, CutsShort, Finished, by_size, bytes_of, file_named}
use Rattle.command_work.specs.Reading.{IsRead}
use Rattle.command_work.specs.Comes.{refusal_not_cut, gives_does, refused_does}
use Rattle.nwq_top.specs.Answers.{Outcome}
use Rattle.nwq_top.proofs.Undeniable.{Undeniable}

-- From these contents the work goes on to an end that is no cut. Of what it gives, and of what the
-- files hold then, this is so.
abbrev pub Goes : {A : Type 0} → Work A → Contents → (A → Contents → Type 0) → Type 0
Goes (Gives a) c Then = Then a c
Goes (Refused refusal) c Then = Unit {0}
Goes (Ends status) c Then = CutsShort status → ⊥
Goes (Writes name bytes rest) c Then = Goes rest (with_content c name bytes) Then
Goes (Puts text rest) c Then = Goes rest c Then
Goes (Finds {B} P next) c Then = (b : B) × P c b × Goes (next b) c Then

-- what follows goes on from there
goes_then : {A B : Type 0} (w : Work A) (f : A → Work B) (c : Contents) (Then : B → Contents → Type 0) → Goes w c (λ a d. Goes (f a) d Then) → Goes (then w f) c Then
goes_then (Gives a) f c Then h = h
goes_then (Refused refusal) f c Then h = tt
goes_then (Ends status) f c Then h = h
goes_then (Writes name bytes rest) f c Then h = goes_then rest f (with_content c name bytes) Then h
goes_then (Puts text rest) f c Then h = goes_then rest f c Then h
goes_then (Finds P next) f c Then h = (h.0, h.1, goes_then (next h.0) f c Then h.2)

pub goes_next : {A B : Type 0} (w : Work A) (f : A → Work B) (c : Contents) (So : A → Contents → Type 0) (Then : B → Contents → Type 0) → Goes w c So
    → ((a : A) (d : Contents) → So a d → Goes (f a) d Then) → Goes (then w f) c Then
goes_next (Gives a) f c So Then h k = k a c h
goes_next (Refused refusal) f c So Then h k = tt
goes_next (Ends status) f c So Then h k = h
goes_next (Writes name bytes rest) f c So Then h k = goes_next rest f (with_content c name bytes) So Then h k
goes_next (Puts text rest) f c So Then h k = goes_next rest f c So Then h k
goes_next (Finds P next) f c So Then h k = (h.0, h.1, goes_next (next h.0) f c So Then h.2 k)

pub goes_weaker : {A : Type 0} (w : Work A) (c : Contents) (So Then : A → Contents → Type 0) → Goes w c So → ((a : A) (d : Contents) → So a d → Then a d) → Goes w c Then
goes_weaker (Gives a) c So Then h k = k a c h
goes_weaker (Refused refusal) c So Then h k = tt
goes_weaker (Ends status) c So Then h k = h
goes_weaker (Writes name bytes rest) c So Then h k = goes_weaker rest (with_content c name bytes) So Then h k
goes_weaker (Puts text rest) c So Then h k = goes_weaker rest c So Then h k
goes_weaker (Finds P next) c So Then h k = (h.0, h.1, goes_weaker (next h.0) c So Then h.2 k)

goes_on : {A : Type 0} (w : Work A) (c : Contents) (So Then : A → Contents → Type 0) → Goes w c So → ((a : A) (d : Contents) → So a d → Undeniable (Then a d))
    → Undeniable (Goes w c Then)
goes_on (Gives a) c So Then h k = k a c h
goes_on (Refused refusal) c So Then h k = λ none. none tt
goes_on (Ends status) c So Then h k = λ none. none h
goes_on (Writes name bytes rest) c So Then h k = goes_on rest (with_content c name bytes) So Then h k
goes_on (Puts text rest) c So Then h k = goes_on rest c So Then h k
goes_on (Finds P next) c So Then h k = λ none. goes_on (next h.0) c So Then h.2 k (λ g. none (h.0, h.1, g))

pub goes_both : {A B : Type 0} (w : Work A) (f : A → Work B) (c : Contents) (So : A → Contents → Type 0) (Then : B → Contents → Type 0) → Undeniable (Goes w c So)
    → ((a : A) (d : Contents) → So a d → Undeniable (Goes (f a) d Then)) → Undeniable (Goes (then w f) c Then)
goes_both w f c So Then h k none = h (λ g. goes_on w c So (λ a d. Goes (f a) d Then) g k (λ m. none (goes_then w f c Then m)))

pub has_outcome : (w : Work Finished) (c : Contents) (t : List ℕ) (Then : Finished → Contents → Type 0) → Goes w c Then → Outcome w c t
has_outcome (Gives a) c t Then h = record { answer = Ok a; left = c; taken = t; whole = λ x. x; does = gives_does a c t }
has_outcome (Refused why) c t Then h =
    record { answer = Err (status_of why); left = c; taken = t ++ line_of why; whole = refusal_not_cut why; does = refused_does why c t }
has_outcome (Ends status) c t Then h = record { answer = Err status; left = c; taken = t; whole = h; does = (refl, (refl, refl)) }
has_outcome (Writes name bytes rest) c t Then h =
    let o = has_outcome rest (with_content c name bytes) t Then h in record { answer = o.answer; left = o.left; taken = o.taken; whole = o.whole; does = inr o.does }
has_outcome (Puts text rest) c t Then h =
    let o = has_outcome rest c (t ++ text) Then h in record { answer = o.answer; left = o.left; taken = o.taken; whole = o.whole; does = inr o.does }
has_outcome (Finds P next) c t Then h =
    let o = has_outcome (next h.0) c t Then h.2 in
    record { answer = o.answer; left = o.left; taken = o.taken; whole = o.whole; does = inr (record { found = h.0; is = h.1; goes = o.does }) }

-- ---- a file that is read

-- whatever comes then
abbrev pub Anything : {A : Type 0} → A → Contents → Type 0
Anything a c = Unit {0}

-- nothing was written, and of what was given this is so
abbrev pub Still : {A : Type 0} → Contents → (A → Type 0) → A → Contents → Type 0
Still c So a d = (d ≡ c) × So a

size_goes : (name bytes : List ℕ) (c : Contents) → content c name ≡ Some bytes → (b : Bool) → nat_lt file_limit (length bytes) ≡ b
    → Goes (by_size b name bytes) c (Still c (IsRead c name))
size_goes name bytes c held true e = tt
size_goes name bytes c held false e = (refl, record { held = held; small = ltb-false file_limit (length bytes) e })

content_goes : (name : List ℕ) (c : Contents) (found : Option (List ℕ)) → content c name ≡ found → Goes (bytes_of name found) c (Still c (IsRead c name))
content_goes name c None e = tt
content_goes name c (Some bytes) e = size_goes name bytes c e (nat_lt file_limit (length bytes)) refl

pub file_goes : (name : List ℕ) (c : Contents) → Goes (file_named name) c (Still c (IsRead c name))
unfolding file_named
file_goes name c = (content c name, refl, content_goes name c (content c name) refl)
