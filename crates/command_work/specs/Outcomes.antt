-- What works come to: two that were not cut agree, and what was put by one that was cut is a prefix
-- of what is put whole. Like the lemmas of Parts these hold of every work; laws over the forms of a
-- command are made of them.
use mathlib.Core.Path.{sym, ap, ◌∙◌, subst}
use mathlib.Core.Logic.{inl, inr}
use mathlib.Core.List.{append_assoc, append-nil}
use Rattle.std.specs.Prelude.{◌≡◌, ℕ, Bool, true, false, List, [], ◌++◌, Result, Ok, Err, Option, Some, None}
use Rattle.nwq_outside.specs.Outside.{Contents, TookPrefix, with_content, content}
use Rattle.command_work.specs.declared.status.Status.{Status}
use Rattle.command_work.specs.Refusal.{line_of}
use Rattle.command_work.specs.Work.{Work, Gives, Refused, Ends, Writes, Puts, Finds, then, IsCut, Does, by_size, bytes_of, file_named, makes, puts, writes}

-- the work has one outcome: at each find at most one value is found
abbrev pub IsSure : {A : Type 0} → Work A → Type 0
IsSure (Gives a) = Unit {0}
IsSure (Refused refusal) = Unit {0}
IsSure (Ends status) = Unit {0}
IsSure (Writes name bytes rest) = IsSure rest
IsSure (Puts text rest) = IsSure rest
IsSure (Finds {B} P next) = ((c : Contents) (a b : B) → P c a → P c b → a ≡ b)
    × ((b : B) → IsSure (next b))

-- two answers, with what each leaves and took, are the same
pub record Agrees {A : Type 0} (r s : Result A Status) (c d : Contents)
    (t u : List ℕ) : Type 0 where
  pub answer : r ≡ s
  pub contents : c ≡ d
  pub taken : t ≡ u

-- the first list is a prefix of the second
abbrev pub IsPrefix : List ℕ → List ℕ → Type 0
IsPrefix xs ys = (rest : List ℕ) × (ys ≡ xs ++ rest)

-- ---- one outcome

stays_agree : {A : Type 0} (end : Result A Status) (r s : Result A Status) (c d e : Contents)
    (t u v : List ℕ)
    → (r ≡ end) × ((d ≡ c) × (u ≡ t)) → (s ≡ end) × ((e ≡ c) × (v ≡ t)) → Agrees r s d e u v
stays_agree end r s c d e t u v (i, p)
    (j, k) = record { answer = i ∙ sym j; contents = p.0 ∙ sym k.0; taken = p.1 ∙ sym k.1 }

-- two works that were not cut agree
pub agree : {A : Type 0} (w : Work A) → IsSure w
    → (r s : Result A Status) (c d e : Contents) (t u v : List ℕ) → (IsCut r → ⊥) → (IsCut s → ⊥)
    → Does w c t r d u → Does w c t s e v → Agrees r s d e u v
agree (Gives a) sure r s c d e t u v whole whole_too x y = stays_agree (Ok a) r s c d e t u v x y
agree (Refused refusal) sure r s c d e t u v whole whole_too (inr cut, p) y = absurd (whole cut.0)
agree (Refused refusal) sure r s c d e t u v whole whole_too (inl i, p) (inr cut, k) = absurd
    (whole_too cut.0)
agree (Refused refusal) sure r s c d e t u v whole whole_too (inl i, p) (inl j, k) =
    record { answer = i.0 ∙ sym j.0; contents = p ∙ sym k; taken = i.1 ∙ sym j.1 }
agree (Ends status) sure r s c d e t u v whole whole_too x y = stays_agree
    (Err status) r s c d e t u v x y
agree (Writes name bytes rest) sure r s c d e t u v whole whole_too (inl cut) y = absurd
    (whole cut.0)
agree (Writes name bytes rest) sure r s c d e t u v whole whole_too (inr x) (inl cut) = absurd
    (whole_too cut.0)
agree (Writes name bytes rest) sure r s c d e t u v whole whole_too (inr x) (inr y) =
    agree rest sure r s (with_content c name bytes) d e t u v whole whole_too x y
agree (Puts text rest) sure r s c d e t u v whole whole_too (inl cut) y = absurd (whole cut.0)
agree (Puts text rest) sure r s c d e t u v whole whole_too (inr x) (inl cut) = absurd
    (whole_too cut.0)
agree (Puts text rest) sure r s c d e t u v whole whole_too (inr x)
    (inr y) = agree rest sure r s c d e (t ++ text) u v whole whole_too x y
agree (Finds P next) sure r s c d e t u v whole whole_too (inl cut) y = absurd (whole cut.0)
agree (Finds P next) sure r s c d e t u v whole whole_too (inr x) (inl cut) = absurd
    (whole_too cut.0)
agree (Finds P next) sure r s c d e t u v whole whole_too (inr x) (inr y) =
    agree (next x.found) (sure.1 x.found) r s c d e t u v whole whole_too x.goes
    (subst (λ b. Does (next b) c t s e v) (sure.0 c y.found x.found y.is x.is) y.goes)

-- ---- what was put before a cut

prefix_of : (xs ys more : List ℕ) → ys ≡ xs ++ more → IsPrefix xs ys
prefix_of xs ys more e = (more, e)

-- what was taken stays in front
pub grows : {A : Type 0} (w : Work A) (r : Result A Status) (c d : Contents) (t u : List ℕ)
    → Does w c t r d u → IsPrefix t u
grows (Gives a) r c d t u h = ([], h.1.1 ∙ sym (append-nil t))
grows (Refused refusal) r c d t u (inl i, p) = (line_of refusal, i.1)
grows (Refused refusal) r c d t u (inr cut, p) = (cut.1.prefix, cut.1.taken)
grows (Ends status) r c d t u h = ([], h.1.1 ∙ sym (append-nil t))
grows (Writes name bytes rest) r c d t u (inl cut) = ([], cut.2 ∙ sym (append-nil t))
grows (Writes name bytes rest) r c d t u (inr x) = grows rest r (with_content c name bytes) d t u x
grows (Puts text rest) r c d t u (inl cut) = (cut.2.prefix, cut.2.taken)
grows (Puts text rest) r c d t u (inr x) =
    let more : IsPrefix (t ++ text) u = grows rest r c d (t ++ text) u x in
    (text ++ more.0, more.1 ∙ append_assoc t text more.0)
grows (Finds P next) r c d t u (inl cut) = ([], cut.1.1 ∙ sym (append-nil t))
grows (Finds P next) r c d t u (inr x) = grows (next x.found) r c d t u x.goes

-- nothing was taken by the one that was cut
from_start : (t u v : List ℕ) → u ≡ t → IsPrefix t v → IsPrefix u v
from_start t u v same more = subst (λ x. IsPrefix x v) (sym same) more

-- a prefix of a text that the other took whole
cut_inside : (text t u v more : List ℕ) → TookPrefix text t u → v ≡ (t ++ text) ++ more
    → IsPrefix u v
cut_inside text t u v more took whole =
    let parts : (t ++ text) ++ more ≡ (t ++ took.prefix) ++ (took.rest ++ more) =
    ap (λ x. (t ++ x) ++ more) took.parts
    ∙ (ap (λ x. x ++ more) (sym (append_assoc t took.prefix took.rest))
    ∙ append_assoc (t ++ took.prefix) took.rest more) in
    (took.rest ++ more, whole ∙ (parts ∙ ap (λ x. x ++ (took.rest ++ more)) (sym took.taken)))

same_prefix : (u v : List ℕ) → v ≡ u → IsPrefix u v
same_prefix u v e = ([], e ∙ sym (append-nil u))

-- what a work put, cut or not, is a prefix of what it puts whole
pub prefixes : {A : Type 0} (w : Work A) → IsSure w
    → (r s : Result A Status) (c d e : Contents) (t u v : List ℕ) → (IsCut s → ⊥)
    → Does w c t r d u → Does w c t s e v → IsPrefix u v
prefixes (Gives a) sure r s c d e t u v whole x y = same_prefix u v (y.1.1 ∙ sym x.1.1)
prefixes (Refused refusal) sure r s c d e t u v whole x (inr cut, k) = absurd (whole cut.0)
prefixes (Refused refusal) sure r s c d e t u v whole (inl i, p) (inl j, k) = same_prefix u v
    (j.1 ∙ sym i.1)
prefixes (Refused refusal) sure r s c d e t u v whole (inr cut, p) (inl j, k) =
    cut_inside (line_of refusal) t u v [] cut.1 (j.1 ∙ sym (append-nil (t ++ line_of refusal)))
prefixes (Ends status) sure r s c d e t u v whole x y = same_prefix u v (y.1.1 ∙ sym x.1.1)
prefixes (Writes name bytes rest) sure r s c d e t u v whole x (inl cut) = absurd (whole cut.0)
prefixes (Writes name bytes rest) sure r s c d e t u v whole (inl cut) (inr y) =
    from_start t u v cut.2 (grows rest s (with_content c name bytes) e t v y)
prefixes (Writes name bytes rest) sure r s c d e t u v whole (inr x)
    (inr y) = prefixes rest sure r s (with_content c name bytes) d e t u v whole x y
prefixes (Puts text rest) sure r s c d e t u v whole x (inl cut) = absurd (whole cut.0)
prefixes (Puts text rest) sure r s c d e t u v whole (inl cut) (inr y) =
    let more : IsPrefix (t ++ text) v = grows rest s c e (t ++ text) v y in
    cut_inside text t u v more.0 cut.2 more.1
prefixes (Puts text rest) sure r s c d e t u v whole (inr x) (inr y) = prefixes rest sure r s c d e
    (t ++ text) u v whole x y
prefixes (Finds P next) sure r s c d e t u v whole x (inl cut) = absurd (whole cut.0)
prefixes (Finds P next) sure r s c d e t u v whole (inl cut) (inr y) = from_start t u v cut.1.1
    (grows (next y.found) s c e t v y.goes)
prefixes (Finds P next) sure r s c d e t u v whole (inr x) (inr y) =
    prefixes (next x.found) (sure.1 x.found) r s c d e t u v whole x.goes
    (subst (λ b. Does (next b) c t s e v) (sure.0 c y.found x.found y.is x.is) y.goes)

-- ---- parts

-- parts that have one outcome make a whole that has
pub sure_then : {A B : Type 0} (w : Work A) (f : A → Work B) → IsSure w → ((a : A) → IsSure (f a))
    → IsSure (then w f)
sure_then (Gives a) f sure each = each a
sure_then (Refused refusal) f sure each = tt
sure_then (Ends status) f sure each = tt
sure_then (Writes name bytes rest) f sure each = sure_then rest f sure each
sure_then (Puts text rest) f sure each = sure_then rest f sure each
sure_then (Finds P next) f sure each = (sure.0, λ b. sure_then (next b) f (sure.1 b) each)

sure_size : (name bytes : List ℕ) (long : Bool) → IsSure (by_size long name bytes)
sure_size name bytes true = tt
sure_size name bytes false = tt

sure_bytes : (name : List ℕ) (content : Option (List ℕ)) → IsSure (bytes_of name content)
sure_bytes name None = tt
sure_bytes name (Some bytes) = sure_size name bytes _

pub sure_file : (name : List ℕ) → IsSure (file_named name)
unfolding file_named
sure_file name = (λ c a b p q. p ∙ sym q, sure_bytes name)

pub sure_makes : {A : Type 0} (a : A) → IsSure (makes a)
sure_makes a = (λ c b d p q. p ∙ sym q, λ b. tt)

pub sure_puts : (text : List ℕ) → IsSure (puts text)
unfolding puts
sure_puts text = tt

pub sure_writes : (name bytes : List ℕ) → IsSure (writes name bytes)
unfolding writes
sure_writes name bytes = tt
