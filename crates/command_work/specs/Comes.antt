-- What comes of a part of a command: it gives a value, is refused, or is cut. So of a file that is
-- read, and of two parts one after the other. Like those of Parts these are lemmas for the proofs
-- of laws above: no contract speaks of them.
use mathlib.Core.Path.{sym, refl, ap, subst, ◌∙◌}
use mathlib.Core.Logic.{inl, inr}
use Rattle.std.specs.Prelude.{◌≡◌, ℕ, nat_lt, Bool, true, false, List, ◌++◌, length, Option, Some, None, Result, Ok, Err}
use Rattle.std.proofs.Common.{ltb-true, ltb-false, lt-ltb, le-ltb}
use Rattle.nwq_value.specs.Limits.{file_limit}
use Rattle.nwq_outside.specs.Outside.{Contents, content}
use Rattle.command_work.specs.declared.status.Status.{Status}
use Rattle.command_work.specs.Refusal.{Refusal, NoForm, Absent, TooLong, At, BadCode, BadArea, line_of, status_of}
use Rattle.command_work.specs.Work.{Work, Gives, Refused, then, CutsShort, IsCut, Does, by_size, bytes_of, file_named, makes}
use Rattle.command_work.specs.Parts.{Refuses, value_or, status_or, ok_not_err, err_not_ok, refused}
use Rattle.command_work.specs.Sequences.{Parts, ends_first, goes_on, parts}
use Rattle.command_work.specs.Reading.{IsRead, IsUnread, absent, long}

-- ---- one part

-- a part that changes no file gave a value that is there, or was refused, or was cut
pub data Came {A : Type 0} (Has : A → Type 0) (Lacks : Refusal → Type 0) (c : Contents) (t : List ℕ)
    (r : Result A Status) (c' : Contents) (t' : List ℕ) : Type 0 where
  gave : (a : A) → Has a → r ≡ Ok a → c' ≡ c → t' ≡ t → Came Has Lacks c t r c' t'
  stopped : (why : Refusal) → Lacks why → r ≡ Err (status_of why) → c' ≡ c → t' ≡ t ++ line_of why
      → Came Has Lacks c t r c' t'
  cut : IsCut r → Came Has Lacks c t r c' t'

-- no refusal is a cut
pub refusal_not_cut : (why : Refusal) → CutsShort (status_of why) → ⊥
refusal_not_cut NoForm x = x
refusal_not_cut (Absent name) x = x
refusal_not_cut (TooLong name) x = x
refusal_not_cut (At name line place cause) x = x
refusal_not_cut (BadCode name flaw) x = x
refusal_not_cut (BadArea name flaw) x = x

pub gives_does : {A : Type 0} (a : A) (c : Contents) (t : List ℕ) → Does (Gives a) c t (Ok a) c t
gives_does a c t = (refl, (refl, refl))

pub refused_does : {A : Type 0} (why : Refusal) (c : Contents) (t : List ℕ)
    → Does {A = A} (Refused why) c t (Err (status_of why)) c (t ++ line_of why)
refused_does why c t = (inl (refl, refl), refl)

module _ {A : Type 0} (Has : A → Type 0) (Lacks : Refusal → Type 0) (c : Contents) (t : List ℕ)
    (r : Result A Status) (c' : Contents) (t' : List ℕ) where
  pub given_comes : (a : A) → Has a → Does (Gives a) c t r c' t' → Came Has Lacks c t r c' t'
  given_comes a has (is, s) = gave a has is s.0 s.1

  pub made_comes : (a : A) → Has a → Does (makes a) c t r c' t' → Came Has Lacks c t r c' t'
  made_comes a has (inl x) = cut x.0
  made_comes a has (inr h) =
      given_comes a has (subst (λ b. Does (Gives b) c t r c' t') h.is h.goes)

  pub refusal_comes : (why : Refusal) → Lacks why → Does {A = A} (Refused why) c t r c' t'
      → Came Has Lacks c t r c' t'
  refusal_comes why lacks (inl i, s) = stopped why lacks i.0 s i.1
  refusal_comes why lacks (inr x, s) = cut x.0

-- ---- two parts

module _ {A B : Type 0} (f : A → Work B) (Has : A → Type 0) (Lacks : Refusal → Type 0)
    (c : Contents) (t : List ℕ) (r : Result B Status) (c' : Contents) (t' : List ℕ) where
  -- the first gave a value and the second was done, or the first was refused
  pub data Follows : Type 0 where
    follows : (a : A) → Has a → Does (f a) c t r c' t' → Follows
    ends : (why : Refusal) → Lacks why → r ≡ Err (status_of why) → c' ≡ c → t' ≡ t ++ line_of why
        → Follows
    cuts : IsCut r → Follows

  ended : (status : Status) → r ≡ Err status → Came {A = A} Has Lacks c t (Err status) c' t'
      → Follows
  ended status is (gave a has e p q) = absurd (err_not_ok a status e)
  ended status is (stopped why lacks e p q) = ends why lacks
      (is ∙ ap Err (ap (status_or status) e)) p q
  ended status is (cut x) = cuts (subst IsCut (sym is) x)

  went : (value : A) (d : Contents) (k : List ℕ) → Does (f value) d k r c' t'
      → Came Has Lacks c t (Ok value) d k → Follows
  went value d k does (gave a has e p q) =
      follows a has (subst (λ x. Does (f x) c t r c' t') (ap (value_or value) e)
      (subst (λ x. Does (f value) x t r c' t') p (subst (λ x. Does (f value) d x r c' t') q does)))
  went value d k does (stopped why lacks e p q) = absurd (ok_not_err value (status_of why) e)
  went value d k does (cut x) = absurd x

  pub then_follows : (w : Work A)
      → ((s : Result A Status) (d : Contents) (k : List ℕ) → Does w c t s d k
      → Came Has Lacks c t s d k)
      → Does (then w f) c t r c' t' → Follows
  then_follows w first does = by_parts (parts w f c c' t t' r does)
    where
      by_parts : Parts w f c t r c' t' → Follows
      by_parts (ends_first h) = ended h.status h.is (first (Err h.status) c' t' h.does)
      by_parts (goes_on h) = went h.value h.between h.taken h.second
          (first (Ok h.value) h.between h.taken h.first)

-- a second part that changes no file either
pub then_comes : {A B : Type 0} (w : Work A) (f : A → Work B) (Has : A → Type 0)
    (Lacks : Refusal → Type 0) (Gets : B → Type 0) (Denies : Refusal → Type 0)
    (c : Contents) (t : List ℕ) (r : Result B Status) (c' : Contents) (t' : List ℕ)
    → ((s : Result A Status) (d : Contents) (k : List ℕ) → Does w c t s d k
    → Came Has Lacks c t s d k)
    → ((a : A) → Has a → Does (f a) c t r c' t' → Came Gets Denies c t r c' t')
    → ((why : Refusal) → Lacks why → Denies why)
    → Does (then w f) c t r c' t' → Came Gets Denies c t r c' t'
then_comes w f Has Lacks Gets Denies c t r c' t' first second denies does = by_follows
    (then_follows f Has Lacks c t r c' t' w first does)
  where
    by_follows : Follows f Has Lacks c t r c' t' → Came Gets Denies c t r c' t'
    by_follows (follows a has next) = second a has next
    by_follows (ends why lacks e p q) = stopped why (denies why lacks) e p q
    by_follows (cuts x) = cut x

-- ---- a file

module _ (c : Contents) (t : List ℕ) (name : List ℕ) where
  pub read_does : (bytes : List ℕ) → IsRead c name bytes → Does (file_named name) c t (Ok bytes) c t
  unfolding file_named
  read_does bytes h =
      inr (record {
        found = Some bytes;
        is = sym h.held;
        goes = subst (λ b. Does (by_size b name bytes) c t (Ok bytes) c t)
            (sym (le-ltb file_limit (length bytes) h.small)) (gives_does bytes c t);
      })

  -- its refusal may be cut while its line is put
  pub unread_refuses : (why : Refusal) (answer : Status) (t' : List ℕ) → IsUnread c name why
      → Refuses why t answer t' → Does (file_named name) c t (Err answer) c t'
  unfolding file_named
  unread_refuses why answer t' (absent none) h = inr
      (record { found = None; is = sym none; goes = refused (Absent name) answer c t t' h })
  unread_refuses why answer t' (long bytes held large) h =
      inr (record {
        found = Some bytes;
        is = sym held;
        goes = subst (λ b. Does (by_size b name bytes) c t (Err answer) c t')
            (sym (lt-ltb file_limit (length bytes) large)) (refused (TooLong name) answer c t t' h);
      })

  pub unread_does : (why : Refusal) → IsUnread c name why
      → Does (file_named name) c t (Err (status_of why)) c (t ++ line_of why)
  unread_does why is = unread_refuses why (status_of why) (t ++ line_of why) is (inl (refl, refl))

  module _ (r : Result (List ℕ) Status) (c' : Contents) (t' : List ℕ) where
    abbrev FileComes : Type 0
    FileComes = Came (IsRead c name) (IsUnread c name) c t r c' t'

    size_comes : (bytes : List ℕ) → content c name ≡ Some bytes → (b : Bool)
        → nat_lt file_limit (length bytes) ≡ b → Does (by_size b name bytes) c t r c' t' → FileComes
    size_comes bytes held true e does =
        refusal_comes (IsRead c name) (IsUnread c name) c t r c' t' (TooLong name)
        (long bytes held (ltb-true file_limit (length bytes) e)) does
    size_comes bytes held false e does =
        given_comes (IsRead c name) (IsUnread c name) c t r c' t' bytes
        (record { held = held; small = ltb-false file_limit (length bytes) e }) does

    content_comes : (found : Option (List ℕ)) → found ≡ content c name
        → Does (bytes_of name found) c t r c' t' → FileComes
    content_comes None is does = refusal_comes (IsRead c name) (IsUnread c name) c t r c' t'
        (Absent name) (absent (sym is)) does
    content_comes (Some bytes) is does = size_comes bytes (sym is)
        (nat_lt file_limit (length bytes)) refl does

    pub file_comes : Does (file_named name) c t r c' t' → FileComes
    unfolding file_named
    file_comes (inl x) = cut x.0
    file_comes (inr h) = content_comes h.found h.is h.goes
