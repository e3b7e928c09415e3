-- What the loops over a struct's fields and a field's parts keep.
use Rattle.std.proofs.Common.{◌≡◌, ◌+◌, ℕ, suc, Bool, true, false, List, [], ◌∷◌, ◌++◌, Result, Ok, Err, refl, sym, ap, subst, ◌∙◌, append_assoc}
use Rattle.gff_read.specs.declared.fault.TreeFault.{TreeFault}
use Rattle.gff_read.specs.declared.fault.TreeFault.TheVariants as fault
use Rattle.gff_tree.specs.declared.tree.LocPart.{LocPart}
use Rattle.std.specs.Prelude.{map, ◌||◌, cond}
use Rattle.std.specs.Borrow.{Bor}
use Rattle.std.specs.Ordering.{nat_cmp, is_eq}
use Rattle.std.specs.Cmp.Lexicographic.{slice_cmp}
use Rattle.std.specs.BTreeSet.{BTreeSet, Updates}
use Rattle.std.proofs.lemmas.Cmp.{nat_list_eq_equiv}
use Rattle.std.proofs.lemmas.Map.Text.{is_eq-slice_cmp}
use Rattle.std.specs.Str.{bytes_eq}
use Rattle.gff_bytes.specs.declared.rows.StructRow.{StructRow}
use Rattle.gff_bytes.specs.File.{list_word}
use Rattle.gff_read.specs.declared.row.FieldRow.{FieldRow}
use Rattle.gff_read.specs.Rows.{◌>>=◌, placed, parts_in, part_in, words_from, PlainRow, rows_from, row_for, field_number, has_label, TreeFails}
use Rattle.gff_read.specs.Held.{plain_row}
use Rattle.gff_read.specs.Used.{has_text, HasLabels, AddsLabel}

-- what was read so far stands before what is read from here on
abbrev pub with_front : {X : Type 0} → List X → Result (List X) TreeFault → Result (List X) TreeFault
with_front front (Ok rest) = Ok (front ++ rest)
with_front front (Err e) = Err e

pub one_more : {X : Type 0} (front : List X) (x : X) (rest : Result (List X) TreeFault) → with_front front (rest >>= λ xs. Ok (x ∷ xs)) ≡ with_front (front ++ x ∷ []) rest
one_more front x (Ok xs) = ap Ok (sym (append_assoc front (x ∷ []) xs))
one_more front x (Err e) = refl

-- a fault of a step is a fault of the whole
pub fault_of : {A B : Type 0} (e : TreeFault) (read : Result A TreeFault) (whole : Result B TreeFault) → TreeFails e read → (read ≡ Err e → whole ≡ Err e) → TreeFails e whole
fault_of (fault.Range r) read whole here so = so here
fault_of (fault.Kind n) read whole here so = so here
fault_of (fault.Shared n) read whole here so = so here
fault_of (fault.Deep n) read whole here so = so here
fault_of (fault.Label n) read whole here so = so here
fault_of fault.NoMemory read whole here so = tt

-- one more part is read
pub parts_step : (field k j : ℕ) (front now : List LocPart) (bytes rest : List ℕ) (part : LocPart) (whole : Result (List LocPart) TreeFault) →
    with_front front (parts_in field k bytes) ≡ whole → k ≡ suc j → part_in field bytes ≡ Ok (part, rest) → now ≡ front ++ part ∷ [] → with_front now (parts_in field j rest) ≡ whole
parts_step field k j front now bytes rest part whole before more read grown =
    let at : with_front front (parts_in field (suc j) bytes) ≡ whole = subst (λ (i : ℕ). with_front front (parts_in field i bytes) ≡ whole) more before in
    let opened : with_front front (parts_in field j rest >>= λ parts. Ok (part ∷ parts)) ≡ whole = rw read at at in
    rw grown (sym (one_more front part (parts_in field j rest)) ∙ opened)

-- one more number is read
pub words_step : (bytes : List ℕ) (place k j : ℕ) (front now : List ℕ) (word : ℕ) (whole : Result (List ℕ) TreeFault) →
    with_front front (words_from bytes place k) ≡ whole → k ≡ suc j → placed (list_word bytes place) ≡ Ok word → now ≡ front ++ word ∷ [] → with_front now (words_from bytes (place + 4) j) ≡ whole
words_step bytes place k j front now word whole before more read grown =
    let at : with_front front (words_from bytes place (suc j)) ≡ whole = subst (λ (i : ℕ). with_front front (words_from bytes place i) ≡ whole) more before in
    let opened : with_front front (words_from bytes (place + 4) j >>= λ words. Ok (word ∷ words)) ≡ whole = rw read at at in
    rw grown (sym (one_more front word (words_from bytes (place + 4) j)) ∙ opened)

pub words_end : (e : TreeFault) (bytes : List ℕ) (place k j : ℕ) (front : List ℕ) (whole : Result (List ℕ) TreeFault) →
    with_front front (words_from bytes place k) ≡ whole → k ≡ suc j → TreeFails e (placed (list_word bytes place)) → TreeFails e whole
words_end e bytes place k j front whole before more here =
    fault_of e (placed (list_word bytes place)) whole here (λ failed.
    (let at : with_front front (words_from bytes place (suc j)) ≡ whole = subst (λ (i : ℕ). with_front front (words_from bytes place i) ≡ whole) more before in
    sym (rw failed at at)))

-- one more field is read
pub rows_step : (bytes : List ℕ) (row : StructRow) (i k j field : ℕ) (front now : List PlainRow) (next : PlainRow) (whole : Result (List PlainRow) TreeFault) →
    rows_from bytes row i k front ≡ whole → k ≡ suc j → placed (field_number bytes row i) ≡ Ok field
    → row_for bytes front field ≡ Ok next → now ≡ front ++ next ∷ [] → rows_from bytes row (i + 1) j now ≡ whole
rows_step bytes row i k j field front now next whole before more numbered read grown =
    let at : rows_from bytes row i (suc j) front ≡ whole = subst (λ (m : ℕ). rows_from bytes row i m front ≡ whole) more before in
    rw grown (rw (numbered, read) at at)

or_swaps : (a b c : Bool) → (a || (b || c)) ≡ (b || (a || c))
or_swaps true true true = refl
or_swaps true true false = refl
or_swaps true false true = refl
or_swaps true false false = refl
or_swaps false true true = refl
or_swaps false true false = refl
or_swaps false false true = refl
or_swaps false false false = refl

cond_or : (b c : Bool) → cond b true c ≡ (b || c)
cond_or true true = refl
cond_or true false = refl
cond_or false true = refl
cond_or false false = refl

-- one more row has one more label
has_label_more : (rows : List PlainRow) (next : PlainRow) (label : List ℕ) → has_label (rows ++ next ∷ []) label ≡ (bytes_eq label next.label || has_label rows label)
has_label_more [] next label = refl
has_label_more (row ∷ rows) next label =
    ap (λ (b : Bool). bytes_eq label row.label || b) (has_label_more rows next label) ∙ or_swaps (bytes_eq label row.label) (bytes_eq label next.label) (has_label rows label)

-- no label is used before the first field
pub no_labels : (used : BTreeSet (Bor (List ℕ))) (rows : List FieldRow) (label : Bor (List ℕ)) → used.keys ≡ [] → rows ≡ [] → has_text used label ≡ has_label (map plain_row rows) label.now
no_labels used rows label empty none =
    ap (λ (keys : List (Bor (List ℕ))). has_text (record { keys = keys }) label) empty ∙ sym (ap (λ (rs : List FieldRow). has_label (map plain_row rs) label.now) none)

-- what an insertion into the set of labels adds
pub inserts_label : (before after : BTreeSet (Bor (List ℕ))) (key : Bor (List ℕ)) (text : List ℕ) →
    text ≡ key.now → Updates (λ x y. slice_cmp nat_cmp x.now y.now) before after key true → AddsLabel before text after
inserts_label before after key text same updates label =
    let tested : is_eq (slice_cmp nat_cmp key.now label.now) ≡ bytes_eq label.now text =
    is_eq-slice_cmp key.now label.now ∙ nat_list_eq_equiv.symm key.now label.now ∙ ap (bytes_eq label.now) (sym same) in
    updates.0 label ∙ ap (λ (b : Bool). cond b true (has_text before label)) tested ∙ cond_or (bytes_eq label.now text) (has_text before label)

-- the set goes with the rows
pub labels_step : (before after : BTreeSet (Bor (List ℕ))) (front now : List PlainRow) (next : PlainRow) →
    HasLabels before front → AddsLabel before next.label after → now ≡ front ++ next ∷ [] → HasLabels after now
labels_step before after front now next same adds grown label =
    let more : has_label now label.now ≡ (bytes_eq label.now next.label || has_label front label.now) =
    ap (λ (rows : List PlainRow). has_label rows label.now) grown ∙ has_label_more front next label.now in
    adds label ∙ ap (λ (b : Bool). bytes_eq label.now next.label || b) (same label) ∙ sym more

pub rows_end : (e : TreeFault) (bytes : List ℕ) (row : StructRow) (i k j : ℕ) (front : List PlainRow) (whole : Result (List PlainRow) TreeFault) →
    rows_from bytes row i k front ≡ whole → k ≡ suc j → TreeFails e (placed (field_number bytes row i)) → TreeFails e whole
rows_end e bytes row i k j front whole before more here =
    fault_of e (placed (field_number bytes row i)) whole here (λ failed.
    (let at : rows_from bytes row i (suc j) front ≡ whole = subst (λ (m : ℕ). rows_from bytes row i m front ≡ whole) more before in
    sym (rw failed at at)))

pub rows_stop : (e : TreeFault) (bytes : List ℕ) (row : StructRow) (i k j field : ℕ) (front : List PlainRow) (whole : Result (List PlainRow) TreeFault) →
    rows_from bytes row i k front ≡ whole → k ≡ suc j → placed (field_number bytes row i) ≡ Ok field → TreeFails e (row_for bytes front field) → TreeFails e whole
rows_stop e bytes row i k j field front whole before more numbered here =
    fault_of e (row_for bytes front field) whole here (λ failed.
    (let at : rows_from bytes row i (suc j) front ≡ whole = subst (λ (m : ℕ). rows_from bytes row i m front ≡ whole) more before in
    sym (rw (numbered, failed) at at)))
