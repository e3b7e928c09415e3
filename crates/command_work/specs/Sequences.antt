-- What the two parts of a work did that was done one after the other. Like the lemmas of Parts
-- these hold of every work, and serve the proofs of laws above: no contract speaks of them.
use mathlib.Core.Path.{sym, refl, ap, subst}
use mathlib.Core.Logic.{inl, inr}
use Rattle.std.specs.Prelude.{◌≡◌, ℕ, List, ◌++◌, Result, Ok, Err}
use Rattle.nwq_outside.specs.Outside.{Contents, with_content, content}
use Rattle.command_work.specs.declared.status.Status.{Status}
use Rattle.command_work.specs.Refusal.{status_of}
use Rattle.command_work.specs.Work.{Work, Gives, Refused, Ends, Writes, Puts, Finds, then, CutsShort, IsCut, Does, makes}
use Rattle.command_work.specs.Parts.{value_or, ok_not_err, then_ok}
use Rattle.command_work.specs.Outcomes.{IsSure, agree}

-- the first part ended, or it gave a value and the second part was done
pub record EndsFirst {A B : Type 0} (w : Work A) (c : Contents) (t : List ℕ) (r : Result B Status)
    (c' : Contents) (t' : List ℕ) : Type 1 where
  pub status : Status
  pub is : r ≡ Err status
  pub does : Does w c t (Err status) c' t'

pub record GoesOn {A B : Type 0} (w : Work A) (f : A → Work B) (c : Contents) (t : List ℕ)
    (r : Result B Status) (c' : Contents) (t' : List ℕ) : Type 1 where
  pub value : A
  pub between : Contents
  pub taken : List ℕ
  pub first : Does w c t (Ok value) between taken
  pub second : Does (f value) between taken r c' t'

pub data Parts {A B : Type 0} (w : Work A) (f : A → Work B) (c : Contents) (t : List ℕ)
    (r : Result B Status) (c' : Contents) (t' : List ℕ) : Type 1 where
  ends_first : EndsFirst w c t r c' t' → Parts w f c t r c' t'
  goes_on : GoesOn w f c t r c' t' → Parts w f c t r c' t'

pub parts : {A B : Type 0} (w : Work A) (f : A → Work B) (c c' : Contents) (t t' : List ℕ)
    (r : Result B Status) → Does (then w f) c t r c' t' → Parts w f c t r c' t'
parts (Gives a) f c c' t t' r does = goes_on
    (record { value = a; between = c; taken = t; first = (refl, (refl, refl)); second = does })
parts (Refused refusal) f c c' t t' r (inl i, s) = ends_first
    (record { status = status_of refusal; is = i.0; does = (inl (refl, i.1), s) })
parts (Refused refusal) f c c' t t' (Ok b) (inr cut, s) = absurd cut.0
parts (Refused refusal) f c c' t t' (Err e) (inr cut, s) = ends_first
    (record { status = e; is = refl; does = (inr cut, s) })
parts (Ends status) f c c' t t' r (i, s) = ends_first
    (record { status = status; is = i; does = (refl, s) })
parts (Writes name bytes rest) f c c' t t' (Ok b) (inl cut) = absurd cut.0
parts (Writes name bytes rest) f c c' t t' (Err e) (inl cut) = ends_first
    (record { status = e; is = refl; does = inl cut })
parts (Writes name bytes rest) f c c' t t' r (inr does) = written
    (parts rest f (with_content c name bytes) c' t t' r does)
  where
    written : Parts rest f (with_content c name bytes) t r c' t'
        → Parts (Writes name bytes rest) f c t r c' t'
    written (ends_first h) = ends_first (record { status = h.status; is = h.is; does = inr h.does })
    written (goes_on h) = goes_on
        (record {
          value = h.value;
          between = h.between;
          taken = h.taken;
          first = inr h.first;
          second = h.second;
        })
parts (Puts text rest) f c c' t t' (Ok b) (inl cut) = absurd cut.0
parts (Puts text rest) f c c' t t' (Err e) (inl cut) = ends_first
    (record { status = e; is = refl; does = inl cut })
parts (Puts text rest) f c c' t t' r (inr does) = put (parts rest f c c' (t ++ text) t' r does)
  where
    put : Parts rest f c (t ++ text) r c' t' → Parts (Puts text rest) f c t r c' t'
    put (ends_first h) = ends_first (record { status = h.status; is = h.is; does = inr h.does })
    put (goes_on h) = goes_on
        (record {
          value = h.value;
          between = h.between;
          taken = h.taken;
          first = inr h.first;
          second = h.second;
        })
parts (Finds P next) f c c' t t' (Ok b) (inl cut) = absurd cut.0
parts (Finds P next) f c c' t t' (Err e) (inl cut) = ends_first
    (record { status = e; is = refl; does = inl cut })
parts (Finds P next) f c c' t t' r (inr h) = found (parts (next h.found) f c c' t t' r h.goes)
  where
    found : Parts (next h.found) f c t r c' t' → Parts (Finds P next) f c t r c' t'
    found (ends_first k) = ends_first
        (record {
          status = k.status;
          is = k.is;
          does = inr (record { found = h.found; is = h.is; goes = k.does });
        })
    found (goes_on k) = goes_on (record {
      value = k.value;
      between = k.between;
      taken = k.taken;
      first = inr (record { found = h.found; is = h.is; goes = k.first });
      second = k.second;
    })

-- ---- a part that ends with a value that has to be made may be cut there

unmade_here : {A : Type 0} (a b : A) (e : Status) (c c' : Contents) (t t' : List ℕ) → CutsShort e
    → Does (makes a) c t (Ok b) c' t' → Does (makes a) c t (Err e) c' t'
unmade_here a b e c c' t t' cut (inl x) = absurd x.0
unmade_here a b e c c' t t' cut (inr h) = inl (cut, h.goes.1)

pub unmade : {A B : Type 0} (w : Work A) (f : A → B) (b : B) (e : Status) (c c' : Contents)
    (t t' : List ℕ) → CutsShort e
    → Does (then w (λ a. makes (f a))) c t (Ok b) c' t'
    → Does (then w (λ a. makes (f a))) c t (Err e) c' t'
unmade w f b e c c' t t' cut does = by_parts (parts w (λ a. makes (f a)) c c' t t' (Ok b) does)
  where
    by_parts : Parts w (λ a. makes (f a)) c t (Ok b) c' t'
        → Does (then w (λ a. makes (f a))) c t (Err e) c' t'
    by_parts (ends_first h) = absurd (ok_not_err b h.status h.is)
    by_parts (goes_on h) =
        then_ok w (λ a. makes (f a)) h.value c h.between c' t h.taken t' (Err e) h.first
        (unmade_here (f h.value) b e h.between c' h.taken t' cut h.second)

-- ---- what a first part gives is what it is known to give

module _ {A B : Type 0} (w : Work A) (f : A → Work B) (sure : IsSure w) (a : A) (c c1 c2 : Contents)
    (t t1 t2 : List ℕ) (r : Result B Status)
    (whole : IsCut r → ⊥) (first : Does w c t (Ok a) c1 t1) where
  not_ended : (h : EndsFirst w c t r c2 t2) → Does (f a) c1 t1 r c2 t2
  not_ended h =
      let same = agree w sure (Ok a) (Err h.status) c c1 c2 t t1 t2 (λ x. x)
      (λ x. whole (subst IsCut (sym h.is) x)) first h.does in
      absurd (ok_not_err a h.status same.answer)

  as_known : (h : GoesOn w f c t r c2 t2) → Does (f a) c1 t1 r c2 t2
  as_known h =
      let same = agree w sure (Ok h.value) (Ok a) c h.between c1 t h.taken t1 (λ x. x)
      (λ x. x) h.first first in
      subst (λ x. Does (f x) c1 t1 r c2 t2) (ap (value_or a) same.answer)
      (subst (λ x. Does (f h.value) x t1 r c2 t2) same.contents
      (subst (λ x. Does (f h.value) h.between x r c2 t2) same.taken h.second))

  pub then_known : Does (then w f) c t r c2 t2 → Does (f a) c1 t1 r c2 t2
  then_known does = by_parts (parts w f c c2 t t2 r does)
    where
      by_parts : Parts w f c t r c2 t2 → Does (f a) c1 t1 r c2 t2
      by_parts (ends_first h) = not_ended h
      by_parts (goes_on h) = as_known h
