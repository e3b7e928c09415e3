-- How often files were read for tables.
use Rattle.std.proofs.Common.{◌≡◌, ℕ, inl, inr, List, [], ◌∷◌, ◌++◌, length, Option, Some, Bor, Result, Ok, Err, IfOk, OnOk, OnErr, refl, sym, ap, subst, ◌∙◌, arith, append_assoc, append-nil}
use Rattle.std.specs.Option.{option_map}
use Rattle.nwq_outside.specs.Outside.{Contents, next}
use Rattle.command_work.specs.declared.status.Status.{Status}
use Rattle.command_work.specs.Refusal.{status_of}
use Rattle.command_work.specs.Work.{Does, file_named}
use Rattle.command_work.specs.Parts.{value_or, ok_not_err}
use Rattle.command_work.specs.Reading.{IsRead, IsUnread}
use Rattle.command_work.specs.Comes.{Came, gave, stopped, cut, file_comes}
use Rattle.command_tables.specs.Lists.{HasNames}
use Rattle.command_tables.specs.Reads.{AtMostOnce, after_each, ReadsFront, ListsNames, ReadsListed, ReadsPart, alone, some, ReadsTables, ReadsSomeTables}

-- ---- one read, or none

pub none_read : (before now : ℕ) → now ≡ before → AtMostOnce before now
none_read before now is = inl is

pub one_read : (before now : ℕ) → now ≡ next before → AtMostOnce before now
one_read before now is = inr is

pub ruleset most_reads = (none_read, one_read)

-- ---- one after another

one_last : (names : List (List ℕ)) (name : List ℕ) (count : ℕ)
    → after_each (names ++ name ∷ []) count ≡ next (after_each names count)
one_last [] name count = refl
one_last (first ∷ names) name count = one_last names name (next count)

-- the tables before these are read
pub record ReadsTo (names rest : List (List ℕ)) (before now : ℕ) : Type 0 where
  pub front : List (List ℕ)
  pub parts : names ≡ front ++ rest
  pub once : now ≡ after_each front before

pub reads_begin : (names : List (List ℕ)) (count : ℕ) → ReadsTo names names count count
reads_begin names count = record { front = []; parts = refl; once = refl }

pub reads_go_on : (names rest others : List (List ℕ)) (name : List ℕ) (before mid now : ℕ) → ReadsTo names rest before mid → rest ≡ name ∷ others → now ≡ next mid
    → ReadsTo names others before now
reads_go_on names rest others name before mid now so e is = record {
  front = so.front ++ name ∷ [];
  parts = so.parts ∙ (ap (λ xs. so.front ++ xs) e ∙ sym (append_assoc so.front (name ∷ []) others));
  once = is ∙ (ap next so.once ∙ sym (one_last so.front name before));
}

a_front : (names rest : List (List ℕ)) (before now : ℕ) → ReadsTo names rest before now → ReadsFront names before now
a_front names rest before now so = record { front = so.front; rest = rest; parts = so.parts; once = so.once }

pub reads_stop : (names rest others : List (List ℕ)) (name : List ℕ) (before mid now : ℕ) → ReadsTo names rest before mid → rest ≡ name ∷ others → AtMostOnce mid now
    → ReadsFront names before now
reads_stop names rest others name before mid now so e (inl is) =
    a_front names rest before now (record { front = so.front; parts = so.parts; once = is ∙ so.once })
reads_stop names rest others name before mid now so e (inr is) =
    a_front names others before now (reads_go_on names rest others name before mid now so e is)

pub reads_done : (names rest : List (List ℕ)) (before now : ℕ) → ReadsTo names rest before now → length rest ≡ 0 → now ≡ after_each names before
reads_done names [] before now so e = so.once ∙ ap (λ xs. after_each xs before) (sym (append-nil so.front) ∙ sym so.parts)
reads_done names (name ∷ rest) before now so e = absurd (omega arith)

-- ---- the list

-- the file that was read is there
was_read : (c c' : Contents) (t t' : List ℕ) (name bytes : List ℕ) → Does (file_named name) c t (Ok bytes) c' t' → IsRead c name bytes
was_read c c' t t' name bytes does = by_came (file_comes c t name (Ok bytes) c' t' does)
  where
    by_came : Came (IsRead c name) (IsUnread c name) c t (Ok bytes) c' t' → IsRead c name bytes
    by_came (gave a has is p q) = subst (IsRead c name) (sym (ap (value_or bytes) is)) has
    by_came (stopped why lacks is p q) = absurd (ok_not_err bytes (status_of why) is)
    by_came (cut x) = absurd x

names_of_file : (r : Result (List (List ℕ)) Status) (c : Contents) (list bytes : List ℕ) → IsRead c list bytes → IfOk r (HasNames bytes) → IfOk r (ListsNames c list)
names_of_file (Ok names) c list bytes read has = record { bytes = bytes; held = read.held; has = has }
names_of_file (Err status) c list bytes read has = tt

pub lists_names : (r : Result (List (List ℕ)) Status) (c c' : Contents) (t t' : List ℕ) (list bytes all : List ℕ) → all ≡ bytes
    → Does (file_named list) c t (Ok bytes) c' t' → IfOk r (HasNames all) → IfOk r (ListsNames c list)
lists_names r c c' t t' list bytes all same does has =
    names_of_file r c list bytes (was_read c c' t t' list bytes does) (subst (λ b. IfOk r (HasNames b)) same has)

pub listed_all : {A : Type 0} (r : Result A Status) (list : List ℕ) (c : Contents) (names all : List (List ℕ)) (before mid now : ℕ) → all ≡ names
    → ListsNames c list names → mid ≡ next before → OnOk r (now ≡ after_each all mid) → OnOk r (ReadsListed list c before now)
listed_all (Ok a) list c names all before mid now same lists is once =
    record { names = names; lists = lists; once = once ∙ (ap (λ xs. after_each xs mid) same ∙ ap (after_each names) is) }
listed_all (Err status) list c names all before mid now same lists is once = tt

pub listed_part : {A : Type 0} (r : Result A Status) (list : List ℕ) (c : Contents) (names all : List (List ℕ)) (before mid now : ℕ) → all ≡ names
    → ListsNames c list names → mid ≡ next before → OnErr r (ReadsFront all mid now) → OnErr r (ReadsPart list c before now)
listed_part (Ok a) list c names all before mid now same lists is front = tt
listed_part (Err status) list c names all before mid now same lists is front =
    some names lists (subst (λ xs. ReadsFront xs (next before) now) same (subst (λ n. ReadsFront all n now) is front))

-- where there is a list, what is read for a command is read for it
module _ {A : Type 0} (r : Result A Status) (list : Option (Bor (List ℕ))) (name : Bor (List ℕ)) (is : list ≡ Some name) (c : Contents) (before now : ℕ) where
  pub given_all : OnOk r (ReadsListed name.now c before now) → OnOk r (ReadsTables (option_map (λ (n : Bor (List ℕ)). n.now) list) c before now)
  given_all reads = subst (λ (o : Option (Bor (List ℕ))). OnOk r (ReadsTables (option_map (λ (n : Bor (List ℕ)). n.now) o) c before now)) (sym is) reads

  pub given_part : OnErr r (ReadsPart name.now c before now) → OnErr r (ReadsSomeTables (option_map (λ (n : Bor (List ℕ)). n.now) list) c before now)
  given_part reads = subst (λ (o : Option (Bor (List ℕ))). OnErr r (ReadsSomeTables (option_map (λ (n : Bor (List ℕ)). n.now) o) c before now)) (sym is) reads
