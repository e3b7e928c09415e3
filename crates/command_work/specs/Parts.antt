-- How a work is done part by part. These hold of every work, and works live in `Type 1`, where no
-- clause reaches: so they are lemmas, each by cases on the work.
use mathlib.Core.Path.{sym, refl, ap, ◌∙◌, subst}
use mathlib.Core.Logic.{inl, inr}
use mathlib.Core.List.{append-nil}
use Rattle.std.specs.Prelude.{◌≡◌, ℕ, ◌⊎◌, List, [], ◌++◌, Result, Ok, Err}
use Rattle.nwq_outside.specs.Outside.{Contents, TookPrefix, with_content}
use Rattle.nwq_outside.specs.ContentLemmas.{same_keeps}
use Rattle.command_work.specs.declared.status.Status.{Status}
use Rattle.command_work.specs.Refusal.{Refusal, line_of, status_of}
use Rattle.command_work.specs.Work.{Work, Gives, Refused, Ends, Writes, Puts, Finds, then, CutsShort, Does, MayBeCut, makes, Finished, puts, writes, file_named}

-- what a put of a whole text took, by its answer
abbrev pub PutsWhole : List ℕ → List ℕ → Result Finished Status → List ℕ → Type 0
PutsWhole text t (Ok done) t' = t' ≡ t ++ text
PutsWhole text t (Err cut) t' = CutsShort cut × TookPrefix text t t'

-- the line of a refusal was put and its status answered, or the work was cut with a prefix of the
-- line taken
abbrev pub Refuses : Refusal → List ℕ → Status → List ℕ → Type 0
Refuses refusal t answer t' =
    ((answer ≡ status_of refusal) × (t' ≡ t ++ line_of refusal))
    ⊎ (CutsShort answer × TookPrefix (line_of refusal) t t')

-- ---- answers are told apart

abbrev pub value_or : {A : Type 0} → A → Result A Status → A
value_or other (Ok a) = a
value_or other (Err status) = other

abbrev pub status_or : {A : Type 0} → Status → Result A Status → Status
status_or other (Ok a) = other
status_or other (Err status) = status

abbrev IsValue : {A : Type 0} → Result A Status → A → Type 0
IsValue r a = r ≡ Ok a

abbrev IsStatus : {A : Type 0} → Result A Status → Status → Type 0
IsStatus r status = r ≡ Err status

abbrev GaveValue : {A : Type 0} → Result A Status → Type 0
GaveValue (Ok a) = Unit {0}
GaveValue (Err status) = ⊥

ok_same : {A : Type 0} (a b : A) → IsValue {A = A} (Ok a) b → a ≡ b
ok_same a b e = ap (value_or a) e

err_same : {A : Type 0} (d e : Status) → IsStatus {A = A} (Err d) e → d ≡ e
err_same d e p = ap (status_or d) p

pub ok_not_err : {A : Type 0} (a : A) (e : Status) → IsStatus {A = A} (Ok a) e → ⊥
ok_not_err a e p = subst GaveValue p tt

pub err_not_ok : {A : Type 0} (a : A) (e : Status) → IsValue {A = A} (Err e) a → ⊥
err_not_ok a e p = subst GaveValue (sym p) tt

-- ---- the lemmas

-- nothing of a text was taken
pub took_nothing : (text t t' : List ℕ) → t' ≡ t → TookPrefix text t t'
took_nothing text t t' same = record {
  prefix = [];
  rest = text;
  parts = refl;
  taken = same ∙ sym (append-nil t);
}

-- a work that still has something to do may be cut as it begins
pub cut_here : {A : Type 0} (w : Work A) (e : Status) (c c' : Contents) (t t' : List ℕ) → MayBeCut w
    → CutsShort e → c' ≡ c → t' ≡ t
    → Does w c t (Err e) c' t'
cut_here (Gives a) e c c' t t' may cut p q = absurd may
cut_here (Refused refusal) e c c' t t' may cut p q =
    (inr (cut, took_nothing (line_of refusal) t t' q), p)
cut_here (Ends status) e c c' t t' may cut p q = absurd may
cut_here (Writes name bytes rest) e c c' t t' may cut p q = inl (cut, same_keeps name c c' p, q)
cut_here (Puts text rest) e c c' t t' may cut p q = inl (cut, p, took_nothing text t t' q)
cut_here (Finds P next) e c c' t t' may cut p q = inl (cut, (p, q))

-- so may two parts, where the first may
pub may_then : {A B : Type 0} (w : Work A) (f : A → Work B) → MayBeCut w → MayBeCut (then w f)
may_then (Gives a) f may = absurd may
may_then (Refused refusal) f may = tt
may_then (Ends status) f may = absurd may
may_then (Writes name bytes rest) f may = tt
may_then (Puts text rest) f may = tt
may_then (Finds P next) f may = tt

-- a part that gave a value is followed by what goes on with it
pub then_ok : {A B : Type 0} (w : Work A) (f : A → Work B) (a : A) (c c1 c2 : Contents)
    (t t1 t2 : List ℕ) (r : Result B Status)
    → Does w c t (Ok a) c1 t1 → Does (f a) c1 t1 r c2 t2 → Does (then w f) c t r c2 t2
then_ok (Gives b) f a c c1 c2 t t1 t2 r (e, s) goes =
    subst (λ x. Does (f x) c t r c2 t2) (ok_same a b e)
    (subst (λ u. Does (f a) c u r c2 t2) s.1 (subst (λ d. Does (f a) d t1 r c2 t2) s.0 goes))
then_ok (Refused refusal) f a c c1 c2 t t1 t2 r (inl e, s) goes = absurd
    (ok_not_err a (status_of refusal) e.0)
then_ok (Refused refusal) f a c c1 c2 t t1 t2 r (inr cut, s) goes = absurd cut.0
then_ok (Ends status) f a c c1 c2 t t1 t2 r (e, s) goes = absurd (ok_not_err a status e)
then_ok (Writes name bytes rest) f a c c1 c2 t t1 t2 r (inl cut) goes = absurd cut.0
then_ok (Writes name bytes rest) f a c c1 c2 t t1 t2 r (inr does) goes =
    inr (then_ok rest f a (with_content c name bytes) c1 c2 t t1 t2 r does goes)
then_ok (Puts text rest) f a c c1 c2 t t1 t2 r (inl cut) goes = absurd cut.0
then_ok (Puts text rest) f a c c1 c2 t t1 t2 r (inr does) goes = inr
    (then_ok rest f a c c1 c2 (t ++ text) t1 t2 r does goes)
then_ok (Finds P next) f a c c1 c2 t t1 t2 r (inl cut) goes = absurd cut.0
then_ok (Finds P next) f a c c1 c2 t t1 t2 r (inr h) goes =
    inr (record {
      found = h.found;
      is = h.is;
      goes = then_ok (next h.found) f a c c1 c2 t t1 t2 r h.goes goes;
    })

-- a part that ended ends the whole
pub then_err : {A B : Type 0} (w : Work A) (f : A → Work B) (e : Status) (c c1 : Contents)
    (t t1 : List ℕ)
    → Does w c t (Err e) c1 t1 → Does (then w f) c t (Err e) c1 t1
then_err (Gives a) f e c c1 t t1 (p, s) = absurd (err_not_ok a e p)
then_err (Refused refusal) f e c c1 t t1 (inl p, s) =
    (inl (ap Err (err_same e (status_of refusal) p.0), p.1), s)
then_err (Refused refusal) f e c c1 t t1 (inr cut, s) = (inr cut, s)
then_err (Ends status) f e c c1 t t1 (p, s) = (ap Err (err_same e status p), s)
then_err (Writes name bytes rest) f e c c1 t t1 (inl cut) = inl cut
then_err (Writes name bytes rest) f e c c1 t t1 (inr does) = inr
    (then_err rest f e (with_content c name bytes) c1 t t1 does)
then_err (Puts text rest) f e c c1 t t1 (inl cut) = inl cut
then_err (Puts text rest) f e c c1 t t1 (inr does) = inr
    (then_err rest f e c c1 (t ++ text) t1 does)
then_err (Finds P next) f e c c1 t t1 (inl cut) = inl cut
then_err (Finds P next) f e c c1 t t1 (inr h) =
    inr (record { found = h.found; is = h.is; goes = then_err (next h.found) f e c c1 t t1 h.goes })

-- what holds of the files here is found, and the work goes on by it
pub finds_one : {A B : Type 0} (P : Contents → B → Type 0) (next : B → Work A) (b : B)
    (c c' : Contents) (t t' : List ℕ) (r : Result A Status)
    → P c b → Does (next b) c t r c' t' → Does (Finds P next) c t r c' t'
finds_one P next b c c' t t' r is goes = inr (record { found = b; is = is; goes = goes })

-- a value that had to be made is there
pub makes_does : {A : Type 0} (a made : A) (c c' : Contents) (t t' : List ℕ) → made ≡ a → c' ≡ c
    → t' ≡ t → Does (makes a) c t (Ok made) c' t'
makes_does a made c c' t t' is p q = inr (record { found = made; is = is; goes = (refl, (p, q)) })

-- a file that is still to be read or written
pub may_read : (name : List ℕ) → MayBeCut (file_named name)
unfolding file_named
may_read name = tt

pub may_write : (name bytes : List ℕ) → MayBeCut (writes name bytes)
unfolding writes
may_write name bytes = tt

pub may_put : (text : List ℕ) → MayBeCut (puts text)
unfolding puts
may_put text = tt

-- a refusal
pub refused : {A : Type 0} (refusal : Refusal) (answer : Status) (c : Contents) (t t' : List ℕ)
    → Refuses refusal t answer t'
    → Does {A = A} (Refused refusal) c t (Err answer) c t'
refused refusal answer c t t' (inl p) = (inl (ap Err p.0, p.1), refl)
refused refusal answer c t t' (inr cut) = (inr cut, refl)

-- a text that is put last
pub puts_does : (text : List ℕ) (r : Result Finished Status) (c : Contents) (t t' : List ℕ)
    → PutsWhole text t r t' → Does (puts text) c t r c t'
unfolding puts
puts_does text (Ok done) c t t' taken = inr (refl, (refl, taken))
puts_does text (Err cut) c t t' p = inl (p.0, refl, p.1)
