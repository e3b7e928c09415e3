-- A work does what it amounts to, and where it is cut, a front of that.
use mathlib.Core.Path.{sym, refl, ap, subst, ◌∙◌}
use mathlib.Core.Logic.{inl, inr}
use mathlib.Core.List.{append_assoc, append-nil}
use Rattle.std.specs.Prelude.{◌≡◌, ℕ, ◌⊎◌, List, [], ◌∷◌, ◌++◌, Result, Ok, Err}
use Rattle.nwq_outside.specs.Outside.{Contents, with_content, KeepsOthers, TookPrefix}
use Rattle.nwq_outside.specs.ContentLemmas.{same_keeps}
use Rattle.command_work.specs.declared.status.Status.{Status}
use Rattle.command_work.specs.Refusal.{line_of, status_of}
use Rattle.command_work.specs.Work.{Work, Gives, Refused, Ends, Writes, Puts, Finds, Found, IsCut, Does}
use Rattle.command_work.specs.Parts.{took_nothing}
use Rattle.command_work.specs.Outcomes.{IsSure}
use Rattle.command_work.specs.Amounts.{Amount, Write, written, IsAfterFront, IsFirst, BeginsWith, AmountsTo, IsFront}

-- ---- a work that isn't cut does what it amounts to

module _ {A : Type 0} (r : Result A Status) (whole : IsCut r → ⊥) where
  pub amount : (w : Work A) (c c' : Contents) (t t' : List ℕ) → Does w c t r c' t'
      → Amount w c t r c' t'
  amount (Gives a) c c' t t' (is, s) =
      record {
        writes = [];
        text = [];
        is = (is, (refl, refl));
        left = s.0;
        taken = s.1 ∙ sym (append-nil t);
      }
  amount (Refused refusal) c c' t t' (inl i, p) =
      record {
        writes = [];
        text = line_of refusal;
        is = (i.0, (refl, refl));
        left = p;
        taken = i.1;
      }
  amount (Refused refusal) c c' t t' (inr cut, p) = absurd (whole cut.0)
  amount (Ends status) c c' t t' (is, s) =
      record {
        writes = [];
        text = [];
        is = (is, (refl, refl));
        left = s.0;
        taken = s.1 ∙ sym (append-nil t);
      }
  amount (Writes name bytes next) c c' t t' (inl cut) = absurd (whole cut.0)
  amount (Writes name bytes next) c c' t t' (inr does) =
      let rest : Amount next (with_content c name bytes) t r c' t' = amount next
      (with_content c name bytes) c' t t' does in
      record {
        writes = record { name = name; bytes = bytes } ∷ rest.writes;
        text = rest.text;
        is = record { rest = rest.writes; is = refl; goes = rest.is };
        left = rest.left;
        taken = rest.taken;
      }
  amount (Puts piece next) c c' t t' (inl cut) = absurd (whole cut.0)
  amount (Puts piece next) c c' t t' (inr does) =
      let rest : Amount next c (t ++ piece) r c' t' = amount next c c' (t ++ piece) t' does in
      record {
        writes = rest.writes;
        text = piece ++ rest.text;
        is = record { rest = rest.text; is = refl; goes = rest.is };
        left = rest.left;
        taken = rest.taken ∙ append_assoc t piece rest.text;
      }
  amount (Finds P next) c c' t t' (inl cut) = absurd (whole cut.0)
  amount (Finds P next) c c' t t' (inr h) =
      let rest : Amount (next h.found) c t r c' t' = amount (next h.found) c c' t t' h.goes in
      record {
        writes = rest.writes;
        text = rest.text;
        is = record { found = h.found; is = h.is; goes = rest.is };
        left = rest.left;
        taken = rest.taken;
      }

-- ---- a work is a front of what it amounts to, cut or not

nothing_left : (writes : List Write) (c c' : Contents) → c' ≡ c → IsAfterFront writes c c'
nothing_left [] c c' same = same
nothing_left (w ∷ writes) c c' same = inl (same_keeps w.name c c' same)

nothing_done : (writes : List Write) (text : List ℕ) (c c' : Contents) (t t' : List ℕ) → c' ≡ c
    → t' ≡ t → IsFront writes text c t c' t'
nothing_done writes text c c' t t' p q = record {
  files = nothing_left writes c c' p;
  taken = took_nothing text t t' q;
}

all_taken : (text t t' : List ℕ) → t' ≡ t ++ text → TookPrefix text t t'
all_taken text t t' is = record {
  prefix = text;
  rest = [];
  parts = sym (append-nil text);
  taken = is;
}

-- more of a text follows the piece of which a prefix was taken
longer : (piece more t t' : List ℕ) → TookPrefix piece t t' → TookPrefix (piece ++ more) t t'
longer piece more t t' took = record {
  prefix = took.prefix;
  rest = took.rest ++ more;
  parts = ap (λ x. x ++ more) took.parts ∙ append_assoc took.prefix took.rest more;
  taken = took.taken;
}

-- the piece was taken whole, and then a prefix of what follows
after_piece : (piece more t t' : List ℕ) → TookPrefix more (t ++ piece) t'
    → TookPrefix (piece ++ more) t t'
after_piece piece more t t' took = record {
  prefix = piece ++ took.prefix;
  rest = took.rest;
  parts = ap (λ x. piece ++ x) took.parts ∙ sym (append_assoc piece took.prefix took.rest);
  taken = took.taken ∙ append_assoc t piece took.prefix;
}

module _ {A : Type 0} (r s : Result A Status) (c' : Contents) (t' : List ℕ) where
  pub front : (w : Work A) → IsSure w
      → (c : Contents) (t : List ℕ) (writes : List Write) (text : List ℕ)
      → Does w c t r c' t' → AmountsTo w c s writes text → IsFront writes text c t c' t'
  front (Gives a) sure c t writes text
      (is, stays) amounts = nothing_done writes text c c' t t' stays.0 stays.1
  front (Refused refusal) sure c t writes text (inl i, same) amounts =
      record {
        files = nothing_left writes c c' same;
        taken = all_taken text t t' (i.1 ∙ ap (λ x. t ++ x) (sym amounts.1.1));
      }
  front (Refused refusal) sure c t writes text (inr cut, same) amounts =
      record {
        files = nothing_left writes c c' same;
        taken = subst (λ x. TookPrefix x t t') (sym amounts.1.1) cut.1;
      }
  front (Ends status) sure c t writes text
      (is, stays) amounts = nothing_done writes text c c' t t' stays.0 stays.1
  front (Writes name bytes next) sure c t writes text (inl cut) amounts =
      record {
        files = subst (λ all. IsAfterFront all c c') (sym amounts.is) (inl cut.1);
        taken = took_nothing text t t' cut.2;
      }
  front (Writes name bytes next) sure c t writes text (inr does) amounts =
      let rest : IsFront amounts.rest text (with_content c name bytes) t c' t' = front next sure
      (with_content c name bytes) t amounts.rest text does amounts.goes in
      record {
        files = subst (λ all. IsAfterFront all c c') (sym amounts.is) (inr rest.files);
        taken = rest.taken;
      }
  front (Puts piece next) sure c t writes text (inl cut) amounts =
      record {
        files = nothing_left writes c c' cut.1;
        taken = subst (λ x. TookPrefix x t t') (sym amounts.is)
            (longer piece amounts.rest t t' cut.2);
      }
  front (Puts piece next) sure c t writes text (inr does) amounts =
      let rest : IsFront writes amounts.rest c (t ++ piece) c' t' = front next sure c
      (t ++ piece) writes amounts.rest does amounts.goes in
      record {
        files = rest.files;
        taken = subst (λ x. TookPrefix x t t') (sym amounts.is)
            (after_piece piece amounts.rest t t' rest.taken);
      }
  front (Finds P next) sure c t writes text
      (inl cut) amounts = nothing_done writes text c c' t t' cut.1.0 cut.1.1
  front (Finds P next) sure c t writes text (inr h) amounts =
      front (next h.found) (sure.1 h.found) c t writes text h.goes
      (subst (λ b. AmountsTo (next b) c s writes text)
      (sure.0 c amounts.found h.found amounts.is h.is) amounts.goes)

-- ---- what a work amounts to, it does where no call fails

pub amounts_does : {A : Type 0} (w : Work A) (c : Contents) (t : List ℕ) (r : Result A Status)
    (writes : List Write) (text : List ℕ)
    → AmountsTo w c r writes text → Does w c t r (written writes c) (t ++ text)
amounts_does (Gives a) c t r writes text (is, (none, empty)) =
    (is, (ap (λ all. written all c) none, ap (λ x. t ++ x) empty ∙ append-nil t))
amounts_does (Refused refusal) c t r writes text (is, (none, line)) =
    (inl (is, ap (λ x. t ++ x) line), ap (λ all. written all c) none)
amounts_does (Ends status) c t r writes text (is, (none, empty)) =
    (is, (ap (λ all. written all c) none, ap (λ x. t ++ x) empty ∙ append-nil t))
amounts_does (Writes name bytes next) c t r writes text h =
    inr (subst (λ all. Does next (with_content c name bytes) t r (written all c) (t ++ text))
    (sym h.is)
    (amounts_does next (with_content c name bytes) t r h.rest text h.goes))
amounts_does (Puts piece next) c t r writes text h =
    inr (subst (λ u. Does next c (t ++ piece) r (written writes c) u)
    (append_assoc t piece h.rest ∙ ap (λ x. t ++ x) (sym h.is))
    (amounts_does next c (t ++ piece) r writes h.rest h.goes))
amounts_does (Finds P next) c t r writes text h =
    inr (record {
      found = h.found;
      is = h.is;
      goes = amounts_does (next h.found) c t r writes text h.goes;
    })
