-- The labels of a written file: each stands once in the table, in sixteen bytes, and is read again.
use Rattle.std.proofs.Common.{◌≡◌, ◌≤◌, ◌<◌, ◌+◌, ◌-◌, ◌*◌, ◌%◌, ℕ, zero, suc, true, false, List, [], ◌∷◌, ◌++◌, length, replicate, Ok, refl, sym, ap, subst, ◌∙◌, ⊎_elim, arith}
use Rattle.std.specs.Prelude.{nat_lt, ◌==◌}
use Rattle.std.specs.Str.{bytes_eq}
use Rattle.std.proofs.lemmas.Bool.{lt-ltb, ltb-true, cases_Bool, cond-true, cond-false, or_parts}
use Rattle.std.proofs.lemmas.List.{length-append, length-replicate}
use Rattle.std.proofs.lemmas.Slice.Eq.{bytes_eq-Decides}
use Rattle.gff_bytes.specs.declared.rows.Part.TheVariants as part
use Rattle.gff_bytes.specs.File.{start_of, count_of, label_row}
use Rattle.gff_tree.specs.Label.{has_zero, label_text}
use Rattle.gff_tree.specs.Tree.{PlainNode, PlainFields, PlainLeaf, PlainNodes, Struct, NoField, MoreFields, Holds, Child, Children, NoNode, MoreNodes}
use Rattle.gff_write.specs.declared.flat.Entry.{Entry}
use Rattle.gff_write.specs.declared.flat.FlatStruct.{FlatStruct}
use Rattle.gff_tree.specs.Count.{node_count, leaf_count}
use Rattle.gff_write.specs.Flat.{padded, entries_from, rows_of, rows_below, leaf_rows, list_rows}
use Rattle.gff_write.specs.File.{label_index, with_label, entry_labels, row_labels, joined}
use Rattle.gff_write.specs.Laws.{IsLabel, IsNode, AreFields, IsLeaf, AreNodes}
use Rattle.gff_write.proofs.PlaceLemmas.{At, front_at, next_at, moved, taken_at, low_is}
use Rattle.gff_write.proofs.SectionLemmas.{Lies}
use Rattle.gff_write.proofs.RowLemmas.{LabelAt, LabelsAt, AllLabelsAt}

-- a table has a label
abbrev pub Has : List (List ℕ) → List ℕ → Type 0
Has table label = label_index table label < length table

abbrev HasAll : List (List ℕ) → List Entry → Type 0
HasAll table [] = Unit {0}
HasAll table (entry ∷ entries) = Has table entry.label × HasAll table entries

abbrev pub HasRows : List (List ℕ) → List FlatStruct → Type 0
HasRows table [] = Unit {0}
HasRows table (row ∷ rows) = HasAll table row.fields × HasRows table rows

abbrev Grows : List (List ℕ) → List (List ℕ) → Type 0
Grows table now = (label : List ℕ) → Has table label → Has now label

place_here : (first : List ℕ) (labels : List (List ℕ)) (label : List ℕ) → bytes_eq first label ≡ true → label_index (first ∷ labels) label ≡ 0
place_here first labels label same = cond-true _ _ _ same

place_later : (first : List ℕ) (labels : List (List ℕ)) (label : List ℕ) → bytes_eq first label ≡ false →
    label_index (first ∷ labels) label ≡ 1 + label_index labels label
place_later first labels label other = cond-false _ _ _ other

has_here : (first : List ℕ) (labels : List (List ℕ)) (label : List ℕ) → bytes_eq first label ≡ true → Has (first ∷ labels) label
has_here first labels label same = subst (λ (p : ℕ). p < suc (length labels)) (sym (place_here first labels label same)) (omega arith)

has_later : (first : List ℕ) (labels : List (List ℕ)) (label : List ℕ) → bytes_eq first label ≡ false → Has labels label → Has (first ∷ labels) label
has_later first labels label other has = subst (λ (p : ℕ). p < suc (length labels)) (sym (place_later first labels label other)) (omega arith)

had_later : (first : List ℕ) (labels : List (List ℕ)) (label : List ℕ) → bytes_eq first label ≡ false → Has (first ∷ labels) label → Has labels label
had_later first labels label other has =
    let more : 1 + label_index labels label < suc (length labels) = subst (λ (p : ℕ). p < suc (length labels)) (place_later first labels label other) has in
    omega (arith, more)

push_grows : (table : List (List ℕ)) (more : List ℕ) → Grows table (table ++ more ∷ [])
push_grows [] more label has = absurd (omega arith)
push_grows (first ∷ labels) more label has =
    ⊎_elim
    (λ (same : bytes_eq first label ≡ true). has_here first (labels ++ more ∷ []) label same)
    (λ (other : bytes_eq first label ≡ false). has_later first (labels ++ more ∷ []) label other (push_grows labels more label (had_later first labels label other has)))
    (cases_Bool (bytes_eq first label))

has_pushed : (table : List (List ℕ)) (label : List ℕ) → Has (table ++ label ∷ []) label
has_pushed [] label = has_here label [] label ((bytes_eq-Decides label label).1 refl)
has_pushed (first ∷ labels) label =
    ⊎_elim
    (λ (same : bytes_eq first label ≡ true). has_here first (labels ++ label ∷ []) label same)
    (λ (other : bytes_eq first label ≡ false). has_later first (labels ++ label ∷ []) label other (has_pushed labels label))
    (cases_Bool (bytes_eq first label))

with_known : (table : List (List ℕ)) (label : List ℕ) → nat_lt (label_index table label) (length table) ≡ true → with_label table label ≡ table
with_known table label known = cond-true _ _ _ known

with_new : (table : List (List ℕ)) (label : List ℕ) → nat_lt (label_index table label) (length table) ≡ false → with_label table label ≡ table ++ label ∷ []
with_new table label new = cond-false _ _ _ new

with_grows : (table : List (List ℕ)) (more : List ℕ) → Grows table (with_label table more)
with_grows table more label has =
    ⊎_elim
    (λ (known : nat_lt (label_index table more) (length table) ≡ true). subst (λ (t : List (List ℕ)). Has t label) (sym (with_known table more known)) has)
    (λ (new : nat_lt (label_index table more) (length table) ≡ false).
    subst (λ (t : List (List ℕ)). Has t label) (sym (with_new table more new)) (push_grows table more label has))
    (cases_Bool (nat_lt (label_index table more) (length table)))

with_has : (table : List (List ℕ)) (label : List ℕ) → Has (with_label table label) label
with_has table label =
    ⊎_elim
    (λ (known : nat_lt (label_index table label) (length table) ≡ true).
    subst (λ (t : List (List ℕ)). Has t label) (sym (with_known table label known)) (ltb-true (label_index table label) (length table) known))
    (λ (new : nat_lt (label_index table label) (length table) ≡ false).
    subst (λ (t : List (List ℕ)). Has t label) (sym (with_new table label new)) (has_pushed table label))
    (cases_Bool (nat_lt (label_index table label) (length table)))

entries_grow : (table : List (List ℕ)) (entries : List Entry) → Grows table (entry_labels table entries)
entries_grow table [] label has = has
entries_grow table (entry ∷ entries) label has = entries_grow (with_label table entry.label) entries label (with_grows table entry.label label has)

rows_grow : (table : List (List ℕ)) (rows : List FlatStruct) → Grows table (row_labels table rows)
rows_grow table [] label has = has
rows_grow table (row ∷ rows) label has = rows_grow (entry_labels table row.fields) rows label (entries_grow table row.fields label has)

entries_has : (table : List (List ℕ)) (entries : List Entry) (now : List (List ℕ)) → Grows (entry_labels table entries) now → HasAll now entries
entries_has table [] now grows = tt
entries_has table (entry ∷ entries) now grows = (
  grows entry.label (entries_grow (with_label table entry.label) entries entry.label (with_has table entry.label)),
  entries_has (with_label table entry.label) entries now grows,
)

-- the table of structs has the labels of all their fields
pub rows_has : (table : List (List ℕ)) (rows : List FlatStruct) → HasRows (row_labels table rows) rows
rows_has table [] = tt
rows_has table (row ∷ rows) = (
  entries_has table row.fields (row_labels (entry_labels table row.fields) rows) (rows_grow (entry_labels table row.fields) rows),
  rows_has (entry_labels table row.fields) rows,
)

-- labels of sixteen bytes
abbrev pub AreFull : List (List ℕ) → Type 0
AreFull [] = Unit {0}
AreFull (label ∷ labels) = (length label ≡ 16) × AreFull labels

abbrev FullEntries : List Entry → Type 0
FullEntries [] = Unit {0}
FullEntries (entry ∷ entries) = (length entry.label ≡ 16) × FullEntries entries

abbrev pub FullRows : List FlatStruct → Type 0
FullRows [] = Unit {0}
FullRows (row ∷ rows) = FullEntries row.fields × FullRows rows

full_push : (table : List (List ℕ)) (label : List ℕ) → AreFull table → length label ≡ 16 → AreFull (table ++ label ∷ [])
full_push [] label full long = (long, tt)
full_push (first ∷ labels) label full long = (full.0, full_push labels label full.1 long)

full_with : (table : List (List ℕ)) (label : List ℕ) → AreFull table → length label ≡ 16 → AreFull (with_label table label)
full_with table label full long =
    ⊎_elim
    (λ (known : nat_lt (label_index table label) (length table) ≡ true). subst AreFull (sym (with_known table label known)) full)
    (λ (new : nat_lt (label_index table label) (length table) ≡ false).
    subst AreFull (sym (with_new table label new)) (full_push table label full long))
    (cases_Bool (nat_lt (label_index table label) (length table)))

full_entries : (table : List (List ℕ)) (entries : List Entry) → AreFull table → FullEntries entries → AreFull (entry_labels table entries)
full_entries table [] full long = full
full_entries table (entry ∷ entries) full long = full_entries (with_label table entry.label) entries (full_with table entry.label full long.0) long.1

pub full_rows : (table : List (List ℕ)) (rows : List FlatStruct) → AreFull table → FullRows rows → AreFull (row_labels table rows)
full_rows table [] full long = full
full_rows table (row ∷ rows) full long = full_rows (entry_labels table row.fields) rows (full_entries table row.fields full long.0) long.1

pub joined_length : (table : List (List ℕ)) → AreFull table → length (joined table) ≡ 16 * length table
joined_length [] full = refl
joined_length (label ∷ labels) full = let long = full.0 in omega (arith, length-append label (joined labels), joined_length labels full.1)

joined_at : {bytes : List ℕ} (place : ℕ) (table : List (List ℕ)) (label : List ℕ) → AreFull table → Has table label →
    At bytes place (joined table) → At bytes (place + 16 * label_index table label) label
joined_at place [] label full has s = absurd (omega arith)
joined_at {bytes = bytes} place (first ∷ labels) label full has s =
    let long = full.0 in
    ⊎_elim
    (λ (same : bytes_eq first label ≡ true).
    (let here = place_here first labels label same in
    let spot : place ≡ place + 16 * label_index (first ∷ labels) label = omega (arith, here) in
    subst (λ (l : List ℕ). At bytes (place + 16 * label_index (first ∷ labels) label) l) ((bytes_eq-Decides first label).0 same) (moved _ spot (front_at first (joined labels) s))))
    (λ (other : bytes_eq first label ≡ false).
    (let later = place_later first labels label other in
    let rest = joined_at (place + 16) labels label full.1 (had_later first labels label other has) (next_at (place + 16) first (joined labels) (omega arith) s) in
    let spot : place + 16 + 16 * label_index labels label ≡ place + 16 * label_index (first ∷ labels) label = omega (arith, later) in
    moved _ spot rest))
    (cases_Bool (bytes_eq first label))

label_at : {bytes : List ℕ} (table : List (List ℕ)) (label : List ℕ) → Lies bytes part.Label (length table) (joined table) → AreFull table →
    length table ≤ 16777216 → length label ≡ 16 → Has table label → LabelAt bytes table label
unfolding label_row
label_at {bytes = bytes} table label s full few long has =
    let count = s.counted in
    let place = label_index table label in
    let low : place % 4294967296 ≡ place = low_is (label_index table label) (omega arith) in
    let at = joined_at (start_of bytes part.Label) table label full has s.at in
    let test : nat_lt (label_index table label) (count_of bytes part.Label) ≡ true = lt-ltb _ _ (omega arith) in
    let read : label_row bytes (label_index table label) ≡ Ok label = cond-true _ _ _ test ∙ ap Ok (taken_at 16 label long at) in
    subst (λ (n : ℕ). label_row bytes n ≡ Ok label) (sym low) read

entry_labels_at : {bytes : List ℕ} (table : List (List ℕ)) (entries : List Entry) → Lies bytes part.Label (length table) (joined table) →
    AreFull table → length table ≤ 16777216 → FullEntries entries → HasAll table entries →
    LabelsAt bytes table entries
entry_labels_at table [] s full few long has = tt
entry_labels_at table (entry ∷ entries) s full few long has = (label_at table entry.label s full few long.0 has.0, entry_labels_at table entries s full few long.1 has.1)

-- each label of the structs' fields stands in its place
pub labels_at : {bytes : List ℕ} (table : List (List ℕ)) (rows : List FlatStruct) → Lies bytes part.Label (length table) (joined table) →
    AreFull table → length table ≤ 16777216 → FullRows rows → HasRows table rows →
    AllLabelsAt bytes table rows
labels_at table [] s full few long has = tt
labels_at table (row ∷ rows) s full few long has = (entry_labels_at table row.fields s full few long.0 has.0, labels_at table rows s full few long.1 has.1)

padded_length : (label : List ℕ) → length label ≤ 16 → length (padded label) ≡ 16
padded_length label short = omega (arith, length-append label (replicate (16 - length label) 0), length-replicate {A = ℕ} (16 - length label) 0)

filled_text : (label : List ℕ) (count : ℕ) → has_zero label ≡ false → label_text (label ++ replicate count 0) ≡ label
filled_text [] zero clear = refl
filled_text [] (suc count) clear = refl
filled_text (b ∷ label) count clear =
    let parts = or_parts (b == 0) (has_zero label) clear in
    cond-false _ _ _ parts.0 ∙ ap (λ (bs : List ℕ). b ∷ bs) (filled_text label count parts.1)

pub padded_text : (label : List ℕ) → IsLabel label → label_text (padded label) ≡ label
padded_text label is = filled_text label (16 - length label) is.1

fields_full : (n : ℕ) (fields : PlainFields) → AreFields fields → FullEntries (entries_from n fields)
fields_full n NoField is = tt
fields_full n (MoreFields label holds rest) is = (padded_length label is.0.0, fields_full (n + leaf_count holds) rest is.2)

full_append : (xs ys : List FlatStruct) → FullRows xs → FullRows ys → FullRows (xs ++ ys)
full_append [] ys a b = b
full_append (x ∷ xs) ys a b = (a.0, full_append xs ys a.1 b)

-- the labels of a tree's fields have sixteen bytes in its structs' rows
mutual
  pub rows_full : (n : ℕ) (node : PlainNode) → IsNode node → FullRows (rows_of n node)
  rows_full n (Struct kind fields) is = (fields_full (n + 1) fields is.1, below_full (n + 1) fields is.1)

  pub below_full : (n : ℕ) (fields : PlainFields) → AreFields fields → FullRows (rows_below n fields)
  below_full n NoField is = tt
  below_full n (MoreFields label holds rest) is = full_append (leaf_rows n holds) (rows_below (n + leaf_count holds) rest) (leaf_full n holds is.1) (below_full (n + leaf_count holds) rest is.2)

  pub leaf_full : (n : ℕ) (holds : PlainLeaf) → IsLeaf holds → FullRows (leaf_rows n holds)
  leaf_full n (Holds scalar) is = tt
  leaf_full n (Child node) is = rows_full n node is
  leaf_full n (Children nodes) is = list_full n nodes is

  pub list_full : (n : ℕ) (nodes : PlainNodes) → AreNodes nodes → FullRows (list_rows n nodes)
  list_full n NoNode is = tt
  list_full n (MoreNodes node rest) is = full_append (rows_of n node) (list_rows (n + node_count node) rest) (rows_full n node is.0) (list_full (n + node_count node) rest is.1)
