-- The names of a list while they are read, and what comes of a list does its work.
use Rattle.std.proofs.Common.{◌≡◌, ℕ, ◌+◌, ◌⊎◌, true, false, inl, inr, List, [], ◌∷◌, ◌++◌, length, take, Result, Ok, Err, refl, sym, ap, subst, ◌∙◌, arith, append_assoc, append-nil, length-append}
use Rattle.nwq_value.specs.Limits.{text_limit}
use Rattle.nwq_outside.specs.Outside.{Contents}
use Rattle.nwq_text.specs.Lines.{lines_of}
use Rattle.command_work.specs.declared.flaw.AreaFlaw.TheVariants as flaw
use Rattle.command_work.specs.declared.status.Status.{Status}
use Rattle.command_work.specs.declared.status.Status.TheVariants.{Memory}
use Rattle.command_work.specs.Refusal.{BadArea}
use Rattle.command_work.specs.Work.{Does}
use Rattle.command_work.specs.Parts.{Refuses, cut_here, finds_one, refused}
use Rattle.command_tables.specs.declared.list.ListFault.TheVariants as fault
use Rattle.command_tables.specs.Lists.{may_follow, AreNames, HasNames, HasBadLine, IsFaulty, ListFate, Whole, Faulty, IsListFate, whole, faulty, names_by, names_in}
use Rattle.command_tables.proofs.NameLemmas.{follows_named, name_short}

pub text_whole : (names : List (List ℕ)) (name : List ℕ) → may_follow names name ≡ true → take text_limit name ≡ name
text_whole names name h = name_short name (follows_named names name h)

-- ---- one name more

no_more : (before after : List (List ℕ)) (name : List ℕ) → [] ≡ before ++ name ∷ after → ⊥
no_more [] after name e = cc
no_more (b ∷ before) after name e = cc

heads_same : (x y : List ℕ) (xs ys : List (List ℕ)) → x ∷ xs ≡ y ∷ ys → x ≡ y
heads_same x y xs ys e = cc

tails_same : (x y : List ℕ) (xs ys : List (List ℕ)) → x ∷ xs ≡ y ∷ ys → xs ≡ ys
tails_same x y xs ys e = cc

-- names and a last one, parted at a name: it is the last one, or lies among the names
abbrev PartsLast : List (List ℕ) → List ℕ → List (List ℕ) → List ℕ → Type 0
PartsLast names line before name = ((before ≡ names) × (name ≡ line)) ⊎ ((front : List (List ℕ)) × (names ≡ before ++ name ∷ front))

part_more : (n b : List ℕ) (names before : List (List ℕ)) (line name : List ℕ) → n ≡ b → PartsLast names line before name
    → PartsLast (n ∷ names) line (b ∷ before) name
part_more n b names before line name same (inl p) = inl (let whole : b ∷ before ≡ n ∷ names = ap (λ x. x ∷ before) (sym same) ∙ ap (λ xs. n ∷ xs) p.0 in whole, p.1)
part_more n b names before line name same (inr p) = inr (p.0, ap (λ x. x ∷ names) same ∙ ap (λ xs. b ∷ xs) p.1)

part_last : (names before after : List (List ℕ)) (line name : List ℕ) → names ++ line ∷ [] ≡ before ++ name ∷ after
    → PartsLast names line before name
part_last [] [] after line name e = inl (refl, sym (heads_same line name [] after e))
part_last [] (b ∷ before) after line name e = absurd (no_more before after name (tails_same line b [] (before ++ name ∷ after) e))
part_last (n ∷ names) [] after line name e = inr (names, ap (λ x. x ∷ names) (heads_same n name (names ++ line ∷ []) after e))
part_last (n ∷ names) (b ∷ before) after line name e =
    part_more n b names before line name (heads_same n b (names ++ line ∷ []) (before ++ name ∷ after) e)
    (part_last names before after line name (tails_same n b (names ++ line ∷ []) (before ++ name ∷ after) e))

are_none : AreNames []
are_none before after name e = absurd (no_more before after name e)

follows_parted : (names before : List (List ℕ)) (line name : List ℕ) → AreNames names → may_follow names line ≡ true
    → PartsLast names line before name → may_follow before name ≡ true
follows_parted names before line name are follows (inl p) = ap (λ b. may_follow b name) p.0 ∙ (ap (may_follow names) p.1 ∙ follows)
follows_parted names before line name are follows (inr p) = are before p.0 name p.1

are_more : (names : List (List ℕ)) (line : List ℕ) → AreNames names → may_follow names line ≡ true → AreNames (names ++ line ∷ [])
are_more names line are follows before after name e =
    follows_parted names before line name are follows (part_last names before after line name e)

-- ---- the names of the lines so far

pub record ReadSoFar (bytes : List ℕ) (read : ℕ) (left names : List (List ℕ)) : Type 0 where
  pub lines : lines_of bytes ≡ names ++ left
  pub are : AreNames names
  pub count : read ≡ length names

module _ (bytes : List ℕ) (read : ℕ) (left names : List (List ℕ)) where
  pub names_begin : lines_of bytes ≡ left → read ≡ 0 → names ≡ [] → ReadSoFar bytes read left names
  names_begin all none e =
      subst (ReadSoFar bytes read left) (sym e) (record { lines = all; are = are_none; count = none })

  module _ (line : List ℕ) (others : List (List ℕ)) (number : ℕ) (so : ReadSoFar bytes read left names) (first : left ≡ line ∷ others) (is : number ≡ read + 1) where
    pub names_go_on : (now : ℕ) (more : List (List ℕ)) → now ≡ number → may_follow names line ≡ true → more ≡ names ++ line ∷ []
        → ReadSoFar bytes now others more
    names_go_on now more counted follows e =
        let longer = length-append names (line ∷ []) in let count = so.count in
        subst (ReadSoFar bytes now others) (sym e)
        (record {
          lines = so.lines ∙ ap (λ ls. names ++ ls) first ∙ sym (append_assoc names (line ∷ []) others);
          are = are_more names line so.are follows;
          count = omega (arith, longer, count, counted, is);
        })

    pub names_stop : may_follow names line ≡ false → HasBadLine bytes number
    names_stop bad = record {
      before = names;
      line = line;
      after = others;
      lines = so.lines ∙ ap (λ ls. names ++ ls) first;
      are = so.are;
      bad = bad;
      is = is ∙ ap (λ n. n + 1) so.count;
    }

  pub names_done : ReadSoFar bytes read left names → left ≡ [] → HasNames bytes names
  names_done so end = record { lines = so.lines ∙ ap (λ ls. names ++ ls) end ∙ append-nil names; are = so.are }

-- ---- what comes of a list

module _ (list bytes : List ℕ) (c : Contents) where
  goes : (fate : ListFate) (r : Result (List (List ℕ)) Status) (t t' : List ℕ) → IsListFate bytes fate → Does (names_by list fate) c t r c t'
      → Does (names_in list bytes) c t r c t'
  unfolding names_in
  goes fate r t t' is does = finds_one (λ (d : Contents) (f : ListFate). IsListFate bytes f) (names_by list) fate c c t t' r is does

  pub list_does : (names : List (List ℕ)) (t : List ℕ) → HasNames bytes names → Does (names_in list bytes) c t (Ok names) c t
  list_does names t has = goes (Whole names) (Ok names) t t (whole names has) (refl, (refl, refl))

  pub list_faulty : (number : ℕ) (answer : Status) (t t' : List ℕ) → IsFaulty bytes (fault.Line number)
      → Refuses (BadArea list (flaw.Line number)) t answer t' → Does (names_in list bytes) c t (Err answer) c t'
  list_faulty number answer t t' is h =
      goes (Faulty number) (Err answer) t t' (faulty number is) (refused (BadArea list (flaw.Line number)) answer c t t' h)

  pub list_cut : (t : List ℕ) → Does (names_in list bytes) c t (Err Memory) c t
  unfolding names_in
  list_cut t = cut_here (names_in list bytes) Memory c c t t tt tt refl refl

pub ruleset lists = (list_does, list_faulty, list_cut)
