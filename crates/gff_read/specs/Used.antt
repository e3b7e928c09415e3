-- The labels of a struct's fields so far, as a set of texts of the file.
use Rattle.std.specs.Prelude.{◌≡◌, ◌||◌, ℕ, Bool, List}
use Rattle.std.specs.Borrow.{Bor}
use Rattle.std.specs.Ordering.{nat_cmp}
use Rattle.std.specs.Cmp.Lexicographic.{slice_cmp}
use Rattle.std.specs.Str.{bytes_eq}
use Rattle.std.specs.BTreeSet.{BTreeSet, contains}
use Rattle.gff_read.specs.Rows.{PlainRow, has_label}

abbrev pub has_text : BTreeSet (Bor (List ℕ)) → Bor (List ℕ) → Bool
has_text used label = contains (λ x y. slice_cmp nat_cmp x.now y.now) used label

-- the set has a label exactly where one of the rows has it
abbrev pub HasLabels : BTreeSet (Bor (List ℕ)) → List PlainRow → Type 0
HasLabels used rows = (label : Bor (List ℕ)) → has_text used label ≡ has_label rows label.now

-- the set has one label more
abbrev pub AddsLabel : BTreeSet (Bor (List ℕ)) → List ℕ → BTreeSet (Bor (List ℕ)) → Type 0
AddsLabel before text after = (label : Bor (List ℕ))
    → has_text after label ≡ (bytes_eq label.now text || has_text before label)
