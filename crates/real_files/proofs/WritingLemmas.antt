-- What the write of a whole file leaves, by what its calls answered.
use Rattle.std.proofs.Common.{◌≡◌, ◌≢◌, ◌⊎◌, inl, inr, ℕ, Bool, true, false, List, Option, Some, None, bytes_eq, true≢false, refl, sym, ap, subst, ◌∙◌}
use Rattle.std.proofs.lemmas.Cmp.{nat_list_cmp_total}
use Rattle.std.proofs.lemmas.Map.Lookups.{exact_bytes}
use Rattle.std.proofs.lemmas.Slice.Eq.{bytes_eq-Decides}
use Rattle.std.specs.FinMap.{get, insert, same_map}
use Rattle.nwq_outside.specs.Outside.{Held}
use Rattle.nwq_outside.specs.ContentLemmas.{put_there, put_elsewhere}
use Rattle.real_files.specs.declared.disk.Failure.{Failure}
use Rattle.real_files.specs.declared.whole.Wrote.{Wrote}
use Rattle.real_files.specs.declared.whole.Wrote.TheVariants.{Fixed, Refused}
use Rattle.real_files.specs.Disk.{Names, SameKind, SameOthers, HasMode, MakesWhole, MakesPart, Renames, Removes, Syncs, WritesInto, WritesPart, KeepsForbidden, Lasts, is_lasting, is_own_name}
use Rattle.real_files.specs.Writing.{Replaces, ReplacesFor, KeepsAll, LeavesOne, WritesWhole, GivesUp, FallsShort, new_name}
use Rattle.real_files.proofs.NameLemmas.{new_is_own}

pub same_or_apart : (a b : List ℕ) → (a ≡ b) ⊎ (a ≢ b)
same_or_apart a b = by_test (bytes_eq a b) refl
  where
    by_test : (t : Bool) → bytes_eq a b ≡ t → (a ≡ b) ⊎ (a ≢ b)
    by_test true e = inl ((bytes_eq-Decides a b).0 e)
    by_test false e = inr (λ same. let yes = (bytes_eq-Decides a b).1 same in cc)

-- maps that hold the same under each name are equal
same_held : (a b : Held) → ((q : List ℕ) → get a q ≡ get b q) → a ≡ b
same_held a b same = same_map nat_list_cmp_total exact_bytes a b same

same_kind : (names : Names) → SameKind names names
same_kind names = record { links = refl; fixed = refl; has_modes = refl }

then_kind : (before mid after : Names) → SameKind before mid → SameKind mid after → SameKind before after
then_kind before mid after one other = record {
  links = other.links ∙ one.links;
  fixed = other.fixed ∙ one.fixed;
  has_modes = other.has_modes ∙ one.has_modes;
}

then_others : (before mid after : Names) (name : List ℕ) → SameOthers before mid name → SameOthers mid after name → SameOthers before after name
then_others before mid after name one other = record {
  kind = then_kind before mid after one.kind other.kind;
  files = λ q apart. other.files q apart ∙ one.files q apart;
  modes = λ q apart. other.modes q apart ∙ one.modes q apart;
}

has_like : (names : Names) (name : List ℕ) (like : Option ℕ) (mode : ℕ) → like ≡ Some mode → HasMode names name like
    → names.has_modes ≡ true → get names.modes name ≡ Some mode
has_like names name like mode is has = subst (HasMode names name) is has

module _ (before mid after : Names) (new name bytes : List ℕ) (like : Option ℕ) (lasting : Bool) where
  -- a new file that is renamed takes the other's place
  replaces : name ≢ new → get before.modes name ≡ like → MakesWhole before mid new like bytes lasting → Renames mid after new name
      → Replaces before after name bytes
  replaces apart is made moved = record {
    kind = then_kind before mid after made.others.kind moved.kind;
    files = same_held after.files (insert before.files name bytes) (λ q. by_name q (same_or_apart q name) (same_or_apart q new));
    mode = λ mode had modes.
        moved.mode ∙ has_like mid new like mode (sym is ∙ had) made.mode (made.others.kind.has_modes ∙ modes);
  }
    where
      by_name : (q : List ℕ) → (q ≡ name) ⊎ (q ≢ name) → (q ≡ new) ⊎ (q ≢ new) → get after.files q ≡ get (insert before.files name bytes) q
      by_name q (inl same) is_new =
          subst (λ n. get after.files n ≡ get (insert before.files name bytes) n) (sym same)
          (moved.moved ∙ ap (λ held. get held new) made.files ∙ put_there before.files new bytes ∙ sym (put_there before.files name bytes))
      by_name q (inr other) (inl same) =
          subst (λ n. get after.files n ≡ get (insert before.files name bytes) n) (sym same)
          (moved.gone (λ e. apart (sym e)) ∙ sym made.was_none ∙ sym (put_elsewhere before.files name bytes new (λ e. apart (sym e))))
      by_name q (inr other) (inr differs) =
          moved.files q differs other ∙ made.others.files q differs ∙ sym (put_elsewhere before.files name bytes q other)

  pub replaced : lasting ≡ is_lasting name → name ≢ new → get before.modes name ≡ like → MakesWhole before mid new like bytes lasting
      → Renames mid after new name → ReplacesFor before after name bytes
  replaced so apart is made moved = record {
    replaces = replaces apart is made moved;
    written = λ lasts. moved.written ∙ made.written (so ∙ lasts);
  }

module _ (before mid after : Names) (new name bytes : List ℕ) where
  -- where the new file is gone, every name has what it had
  kept : name ≢ new → get before.files new ≡ None → SameOthers before mid new → Removes mid after new → KeepsAll before after name
  kept apart none others gone = record {
    kind = both.kind;
    files = same_held after.files before.files (λ q. by_name q (same_or_apart q new));
    mode = both.modes name apart;
  }
    where
      both : SameOthers before after new
      both = then_others before mid after new others gone.others

      by_name : (q : List ℕ) → (q ≡ new) ⊎ (q ≢ new) → get after.files q ≡ get before.files q
      by_name q (inl same) = subst (λ n. get after.files n ≡ get before.files n) (sym same) (gone.gone ∙ sym none)
      by_name q (inr differs) = both.files q differs

  -- and else the new file alone is left
  left : is_own_name new ≡ true → name ≢ new → get before.files new ≡ None → SameOthers before mid new → after ≡ mid → LeavesOne before after name
  left own apart none others same = record {
    new = new;
    own = own;
    apart = apart;
    was_none = none;
    others = subst (λ names. SameOthers before names new) (sym same) others;
  }

  pub given_up : (outcome result : Wrote) → is_own_name new ≡ true → name ≢ new → get before.files new ≡ None → SameOthers before mid new
      → (KeepsAll before after name → WritesWhole before after name bytes outcome) → GivesUp mid after new outcome result
      → WritesWhole before after name bytes result
  given_up outcome result own apart none others means (inl up) =
      subst (WritesWhole before after name bytes) (sym up.0) (means (kept apart none others up.1))
  given_up outcome result own apart none others means (inr up) =
      subst (WritesWhole before after name bytes) (sym up.1.0) (left own apart none others up.1.1)

module _ (before mid after : Names) (new name bytes : List ℕ) (like : Option ℕ) (lasting : Bool) where
  -- a new file that could not be made whole
  pub broken : (why : Failure) (result : Wrote) → is_own_name new ≡ true → name ≢ new → MakesPart before mid new → GivesUp mid after new (Refused why) result
      → WritesWhole before after name bytes result
  broken why result own apart made up =
      given_up before mid after new name bytes (Refused why) result own apart made.was_none made.others (λ keeps. keeps) up

  -- a new file that could not take the old one's place
  pub unmoved : (still : Names) (why : Failure) (result : Wrote) → is_own_name new ≡ true → name ≢ new → MakesWhole before mid new like bytes lasting → still ≡ mid
      → GivesUp still after new (Refused why) result → WritesWhole before after name bytes result
  unmoved still why result own apart made same up =
      given_up before mid after new name bytes (Refused why) result own apart made.was_none made.others (λ keeps. keeps)
      (subst (λ names. GivesUp names after new (Refused why) result) same up)

  pub fixed : (still : Names) (result : Wrote) → is_own_name new ≡ true → name ≢ new → MakesWhole before mid new like bytes lasting → still ≡ mid
      → mid.fixed name ≡ true → GivesUp still after new Fixed result → WritesWhole before after name bytes result
  fixed still result own apart made same is up =
      given_up before mid after new name bytes Fixed result own apart made.was_none made.others
      (λ keeps. (keeps, ap (λ fixed. fixed name) (sym made.others.kind.fixed) ∙ is))
      (subst (λ names. GivesUp names after new Fixed result) same up)

module _ (before after : Names) (name bytes : List ℕ) where
  pub unchanged : after ≡ before → KeepsAll before after name
  unchanged same = subst (λ names. KeepsAll before names name) (sym same) (record { kind = same_kind before; files = refl; mode = refl })

  -- ---- what a write that failed has left

  pub short_kept : KeepsAll before after name → FallsShort before after name bytes
  short_kept keeps = record {
    kind = keeps.kind;
    whole = inr (inl (ap (λ held. get held name) keeps.files));
    mode = λ mode had modes. keeps.mode ∙ had;
    others = λ q apart own. ap (λ held. get held q) keeps.files;
  }

  pub short_same : after ≡ before → FallsShort before after name bytes
  short_same same = short_kept (unchanged same)

  pub short_left : LeavesOne before after name → FallsShort before after name bytes
  short_left one = record {
    kind = one.others.kind;
    whole = inr (inl (one.others.files name one.apart));
    mode = λ mode had modes. one.others.modes name one.apart ∙ had;
    others = λ q apart own. one.others.files q (λ same. let is = ap is_own_name same ∙ one.own in cc);
  }

  pub short_whole : Replaces before after name bytes → FallsShort before after name bytes
  short_whole whole = record {
    kind = whole.kind;
    whole = inr (inr (ap (λ held. get held name) whole.files ∙ put_there before.files name bytes));
    mode = whole.mode;
    others = λ q apart own. ap (λ held. get held q) whole.files ∙ put_elsewhere before.files name bytes q apart;
  }

  pub unsynced : ReplacesFor before after name bytes → Replaces before after name bytes
  unsynced whole = whole.replaces

  pub into : WritesInto before after name bytes → Replaces before after name bytes
  into wrote = record {
    kind = wrote.kind;
    files = wrote.files;
    mode = λ mode had modes. ap (λ held. get held name) wrote.modes ∙ had;
  }

  pub short_into : before.fixed name ≡ true → WritesPart before after name → FallsShort before after name bytes
  short_into is part = record {
    kind = part.kind;
    whole = inl is;
    mode = λ mode had modes. ap (λ held. get held name) part.modes ∙ had;
    others = λ q apart own. part.files q apart;
  }

module _ (before mid after : Names) (name bytes : List ℕ) where
  -- what can't be replaced is written into, where all was kept before
  pub then_into : KeepsAll before mid name → WritesInto mid after name bytes → Replaces before after name bytes
  then_into keeps wrote = record {
    kind = then_kind before mid after keeps.kind wrote.kind;
    files = wrote.files ∙ ap (λ held. insert held name bytes) keeps.files;
    mode = λ mode had modes. ap (λ held. get held name) wrote.modes ∙ keeps.mode ∙ had;
  }

  pub short_then_into : KeepsAll before mid name → before.fixed name ≡ true → WritesPart mid after name → FallsShort before after name bytes
  short_then_into keeps is part = record {
    kind = then_kind before mid after keeps.kind part.kind;
    whole = inl is;
    mode = λ mode had modes. ap (λ held. get held name) part.modes ∙ keeps.mode ∙ had;
    others = λ q apart own. part.files q apart ∙ ap (λ held. get held q) keeps.files;
  }

module _ (before mid after : Names) (name bytes : List ℕ) where
  -- a file whose folder the disk has then
  pub synced : ReplacesFor before mid name bytes → Syncs mid after name → Replaces before after name bytes
  synced whole sync =
      let kind = whole.replaces.kind in
      subst (λ names. Replaces before names name bytes) (sym sync.same)
      (record { kind = record { links = kind.links; fixed = kind.fixed; has_modes = kind.has_modes }; files = whole.replaces.files; mode = whole.replaces.mode })

  pub lasts_synced : ReplacesFor before mid name bytes → Syncs mid after name → Lasts before after name
  lasts_synced whole sync free lasts = (ap (λ names. names.written name) sync.same ∙ whole.written lasts, sync.listed)

  pub short_unsynced : ReplacesFor before mid name bytes → after ≡ mid → FallsShort before after name bytes
  short_unsynced whole same = subst (λ names. FallsShort before names name bytes) (sym same) (short_whole before mid name bytes whole.replaces)

module _ (before after : Names) (name : List ℕ) where
  -- ---- what is to last, and what can't be replaced

  pub lasts_none : is_lasting name ≡ false → Lasts before after name
  lasts_none is free lasts = absurd (true≢false (sym lasts ∙ is))

  pub lasts_fixed : before.fixed name ≡ true → Lasts before after name
  lasts_fixed is free lasts = absurd (true≢false (sym is ∙ free))

  -- ---- what may not be written

  pub forbidden_none : get before.modes name ≡ None → KeepsForbidden before after name
  forbidden_none none mode is barred = let other : None ≡ Some mode = sym none ∙ is in cc

  pub forbidden_asked : before.writable name ≡ true → KeepsForbidden before after name
  forbidden_asked may mode is barred = absurd (true≢false (sym may ∙ barred))

  pub forbidden_same : after ≡ before → KeepsForbidden before after name
  forbidden_same same mode is barred = ap (λ names. get names.files name) same

-- what is written under a new name of this number, where nothing has changed before
pub tried : (before now after : Names) (new name bytes : List ℕ) (like : Option ℕ) (number : ℕ) (result : Wrote) → now ≡ before
    → get before.modes name ≡ like → new ≡ new_name number name → name ≢ new
    → (is_own_name new ≡ true → name ≢ new → get now.modes name ≡ like → WritesWhole now after name bytes result)
    → WritesWhole before after name bytes result
tried before now after new name bytes like number result same is named apart writes =
    subst (λ names. WritesWhole names after name bytes result) same
    (writes (ap is_own_name named ∙ new_is_own number name) apart (subst (λ names. get names.modes name ≡ like) (sym same) is))

pub ruleset writes = (replaced, broken, unmoved, fixed, unchanged)

pub ruleset puts = (unsynced, synced, into, then_into, short_kept, short_same, short_left, short_whole, short_unsynced, short_into, short_then_into, lasts_synced, lasts_none, lasts_fixed)

pub ruleset keeps_forbidden = (forbidden_none, forbidden_asked, forbidden_same)
