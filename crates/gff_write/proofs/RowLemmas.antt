-- Each struct of a written file stands in its row, with its fields, their labels and what they
-- hold.
use Rattle.std.proofs.Common.{◌≡◌, ◌≤◌, ◌<◌, ◌+◌, ◌*◌, ◌%◌, ℕ, zero, suc, true, false, List, [], ◌∷◌, ◌++◌, length, Ok, refl, sym, ap, subst, ◌∙◌, ⊎_elim, arith}
use Rattle.std.specs.Prelude.{nat_lt, nat_le, ◌==◌}
use Rattle.std.specs.List.{flat_map}
use Rattle.std.proofs.lemmas.Bool.{lt-ltb, le-ltb, le-leb, eq-eqb, ne_eqb, cases_lt, cond-true, cond-false}
use Rattle.std.proofs.lemmas.List.{length-append}
use Rattle.gff_bytes.specs.declared.rows.Part.{Part}
use Rattle.gff_bytes.specs.declared.rows.Part.TheVariants as part
use Rattle.gff_bytes.specs.declared.rows.StructRow.{StructRow}
use Rattle.gff_bytes.specs.declared.rows.FieldRow.{FieldRow}
use Rattle.gff_bytes.specs.File.{word_at, start_of, count_of, row_place, struct_row, field_row, label_row, index_at}
use Rattle.gff_read.specs.Rows.{field_number}
use Rattle.gff_write.specs.declared.flat.Content.{Content}
use Rattle.gff_write.specs.declared.flat.Content.TheVariants.{Small, Data, Number, Numbers}
use Rattle.gff_write.specs.declared.flat.Entry.{Entry}
use Rattle.gff_write.specs.declared.flat.FlatStruct.{FlatStruct}
use Rattle.gff_write.specs.Flat.{word}
use Rattle.gff_write.specs.File as file
use Rattle.gff_write.specs.File.{label_index, data_of, list_of, third_of, entry_bytes, entries_data, entries_lists, entries_bytes, rows_data, rows_lists, rows_fields, words_up, indices_of, second_of}
use Rattle.gff_write.specs.File.{rows_indices, rows_structs, field_count}
use Rattle.gff_write.proofs.SizeLemmas.{entry_length, row_length, up_length}
use Rattle.gff_write.proofs.PlaceLemmas.{At, front_at, next_at, word_length, word_stands, words_stand, low_is}

-- these bytes stand in a section that counts bytes, from an offset on
pub record In (bytes : List ℕ) (which : Part) (offset : ℕ) (xs : List ℕ) : Type 0 where
  pub at : At bytes (start_of bytes which + offset) xs
  pub room : offset + length xs ≤ count_of bytes which

pub front_in : {bytes : List ℕ} {which : Part} {offset : ℕ} (xs ys : List ℕ) → In bytes which offset (xs ++ ys) → In bytes which offset xs
front_in xs ys s = let long = length-append xs ys in let room = s.room in record { at = front_at xs ys s.at; room = omega arith }

pub next_in : {bytes : List ℕ} {which : Part} {offset : ℕ} (now : ℕ) (xs ys : List ℕ) → offset + length xs ≡ now →
    In bytes which offset (xs ++ ys) → In bytes which now ys
next_in now xs ys same s =
    let long = length-append xs ys in
    let room = s.room in
    record { at = next_at _ xs ys (omega arith) s.at; room = omega arith }

-- no count of a section needs more than four bytes
abbrev pub Small_counts : List ℕ → Type 0
Small_counts bytes = (which : Part) → count_of bytes which < 4294967296

-- what a field's third number leads to
abbrev pub ContentAt : List ℕ → ℕ → Content → Type 0
ContentAt bytes third (Small n) = third ≡ n % 4294967296
ContentAt bytes third (Data xs) = In bytes part.Data third xs
ContentAt bytes third (Number n) = third ≡ n % 4294967296
ContentAt bytes third (Numbers ns) = In bytes part.List third (word (length ns) ++ flat_map word ns)

-- a field stands at its number
pub record EntryAt (bytes : List ℕ) (field : ℕ) (entry : Entry) : Type 0 where
  pub row : FieldRow
  pub row-is : field_row bytes field ≡ Ok row
  pub kind : row.kind ≡ entry.kind % 4294967296
  pub label : label_row bytes row.label ≡ Ok entry.label
  pub content : ContentAt bytes row.word entry.content

abbrev pub EntriesAt : List ℕ → ℕ → List Entry → Type 0
EntriesAt bytes field [] = Unit {0}
EntriesAt bytes field (entry ∷ entries) = EntryAt bytes field entry × EntriesAt bytes (field + 1) entries

-- a struct stands at its number, and its fields at those that it lists
pub record RowAt (bytes : List ℕ) (n : ℕ) (row : FlatStruct) : Type 0 where
  pub first : ℕ
  pub entry : StructRow
  pub entry-is : struct_row bytes n ≡ Ok entry
  pub kind : entry.kind ≡ row.kind % 4294967296
  pub count : entry.count ≡ length row.fields
  pub numbered : (i : ℕ) → i < length row.fields → field_number bytes entry i ≡ Ok (first + i)
  pub fields : EntriesAt bytes first row.fields

abbrev pub RowsAt : List ℕ → ℕ → List FlatStruct → Type 0
RowsAt bytes n [] = Unit {0}
RowsAt bytes n (row ∷ rows) = RowAt bytes n row × RowsAt bytes (n + 1) rows

-- the table has the label's bytes in its place
abbrev pub LabelAt : List ℕ → List (List ℕ) → List ℕ → Type 0
LabelAt bytes table label = label_row bytes (label_index table label % 4294967296) ≡ Ok label

abbrev pub LabelsAt : List ℕ → List (List ℕ) → List Entry → Type 0
LabelsAt bytes table [] = Unit {0}
LabelsAt bytes table (entry ∷ entries) = LabelAt bytes table entry.label × LabelsAt bytes table entries

abbrev pub AllLabelsAt : List ℕ → List (List ℕ) → List FlatStruct → Type 0
AllLabelsAt bytes table [] = Unit {0}
AllLabelsAt bytes table (row ∷ rows) = LabelsAt bytes table row.fields × AllLabelsAt bytes table rows

offset_low : {bytes : List ℕ} {which : Part} (offset : ℕ) (xs : List ℕ) → Small_counts bytes → In bytes which offset xs → offset % 4294967296 ≡ offset
offset_low {which = which} offset xs small s = let room = s.room in let few = small which in omega arith

content_at : {bytes : List ℕ} (datum list third : ℕ) (content : Content) → Small_counts bytes → In bytes part.Data datum (data_of content) →
    In bytes part.List list (list_of content) →
    third ≡ third_of datum list content % 4294967296 → ContentAt bytes third content
content_at datum list third (Small n) small d l is = is
content_at {bytes = bytes} datum list third (Data xs) small d l is = subst (λ (o : ℕ). In bytes part.Data o xs) (sym (is ∙ offset_low datum xs small d)) d
content_at datum list third (Number n) small d l is = is
content_at {bytes = bytes} datum list third (Numbers ns) small d l is =
    subst (λ (o : ℕ). In bytes part.List o (word (length ns) ++ flat_map word ns)) (sym (is ∙ offset_low list (word (length ns) ++ flat_map word ns) small l)) l

entry_at : {bytes : List ℕ} (table : List (List ℕ)) (field datum list : ℕ) (entry : Entry) → Small_counts bytes → LabelAt bytes table entry.label →
    At bytes (start_of bytes part.Field + 12 * field) (entry_bytes table datum list entry) → field < count_of bytes part.Field →
    In bytes part.Data datum (data_of entry.content) → In bytes part.List list (list_of entry.content) → EntryAt bytes field entry
unfolding field_row
entry_at {bytes = bytes} table field datum list entry small labelled s inside d l =
    let words = words_stand entry.kind (label_index table entry.label) (third_of datum list entry.content) s in
    let place = row_place bytes part.Field field in
    let test : nat_lt field (count_of bytes part.Field) ≡ true = lt-ltb _ _ inside in
    record {
      row = record { kind = word_at bytes place; label = word_at bytes (place + 4); word = word_at bytes (place + 8) };
      row-is = rw test refl;
      kind = words.0;
      label = ap (label_row bytes) words.1 ∙ labelled;
      content = content_at datum list (word_at bytes (place + 8)) entry.content small d l words.2;
    }

pub entries_at : {bytes : List ℕ} (table : List (List ℕ)) (field datum list : ℕ) (entries : List Entry) → Small_counts bytes →
    LabelsAt bytes table entries →
    At bytes (start_of bytes part.Field + 12 * field) (entries_bytes table datum list entries) → field + length entries ≤ count_of bytes part.Field →
    In bytes part.Data datum (entries_data entries) → In bytes part.List list (entries_lists entries) → EntriesAt bytes field entries
entries_at table field datum list [] small labelled s inside d l = tt
entries_at {bytes = bytes} table field datum list (entry ∷ entries) small labelled s inside d l =
    let head = entry_bytes table datum list entry in
    let datas = data_of entry.content in
    let lists = list_of entry.content in
    let rest = entries_bytes table (datum + length datas) (list + length lists) entries in
    let long = entry_length table datum list entry in (
      entry_at table field datum list entry small labelled.0 (front_at head rest s) (omega arith) (front_in datas (entries_data entries) d) (front_in lists (entries_lists entries) l),
      entries_at table (field + 1) (datum + length datas) (list + length lists) entries small labelled.1
          (next_at _ head rest (omega arith) s) (omega arith) (next_in _ datas (entries_data entries) refl d) (next_in _ lists (entries_lists entries) refl l),
    )

-- the numbers in a row
word_up : {bytes : List ℕ} (place first count i : ℕ) → i < count → At bytes place (words_up first count) →
    word_at bytes (place + 4 * i) ≡ (first + i) % 4294967296
word_up place first zero i inside s = absurd (omega arith)
word_up {bytes = bytes} place first (suc count) zero inside s =
    let same : first ≡ first + 0 = omega arith in
    let spot : place ≡ place + 4 * 0 = omega arith in
    ap (word_at bytes) (sym spot) ∙ (word_stands first (front_at (word first) (words_up (first + 1) count) s) ∙ ap (λ (n : ℕ). n % 4294967296) same)
word_up {bytes = bytes} place first (suc count) (suc i) inside s =
    let long = word_length first in
    let rest = word_up (place + 4) (first + 1) count i (omega arith) (next_at (place + 4) (word first) (words_up (first + 1) count) (omega arith) s) in
    let spot : place + 4 * suc i ≡ place + 4 + 4 * i = omega arith in
    let same : first + suc i ≡ first + 1 + i = omega arith in
    ap (word_at bytes) spot ∙ (rest ∙ ap (λ (n : ℕ). n % 4294967296) (sym same))

second_one : (first index count : ℕ) → count ≡ 1 → second_of first index count ≡ first
second_one first index count one = ap (second_of first index) one

second_more : (first index count : ℕ) → 2 ≤ count → second_of first index count ≡ index
second_more first index count more =
    let some : (count == 0) ≡ false = ne_eqb count 0 (λ e. omega arith) in
    let many : (count == 1) ≡ false = ne_eqb count 1 (λ e. omega arith) in
    cond-false _ _ _ some ∙ cond-false _ _ _ many

indices_more : (first count : ℕ) → 2 ≤ count → indices_of first count ≡ words_up first count
indices_more first count more = cond-false _ _ _ (le-ltb count 2 more)

numbered_one : (bytes : List ℕ) (entry : StructRow) (first i : ℕ) → entry.count ≡ 1 → entry.word ≡ first + i →
    field_number bytes entry i ≡ Ok (first + i)
unfolding field_number
numbered_one bytes entry first i one is = cond-true _ _ _ (eq-eqb entry.count 1 one) ∙ ap Ok is

numbered_more : {bytes : List ℕ} (entry : StructRow) (first index count i : ℕ) → i < count → 2 ≤ count → entry.count ≡ count →
    entry.word ≡ index → first + i < 4294967296 →
    In bytes part.Index index (words_up first count) → field_number bytes entry i ≡ Ok (first + i)
unfolding field_number index_at
numbered_more {bytes = bytes} entry first index count i inside more counted is low s =
    let many : (entry.count == 1) ≡ false = ne_eqb entry.count 1 (λ e. omega arith) in
    let long = up_length first count in
    let room = s.room in
    let test : nat_le (entry.word + 4 * i + 4) (count_of bytes part.Index) ≡ true = le-leb _ _ (omega arith) in
    let spot : start_of bytes part.Index + (entry.word + 4 * i) ≡ start_of bytes part.Index + index + 4 * i = omega arith in
    let read = word_up (start_of bytes part.Index + index) first count i inside s.at in
    cond-false _ _ _ many ∙ (cond-true _ _ _ test ∙ ap Ok (ap (word_at bytes) spot ∙ (read ∙ low_is (first + i) low)))

numbered : {bytes : List ℕ} (entry : StructRow) (first index count : ℕ) → Small_counts bytes → entry.count ≡ count →
    entry.word ≡ second_of first index count % 4294967296 →
    first + count ≤ count_of bytes part.Field → In bytes part.Index index (indices_of first count) → (i : ℕ) → i < count →
    field_number bytes entry i ≡ Ok (first + i)
numbered {bytes = bytes} entry first index count small counted is room s i inside =
    let few = small part.Field in
    let own = s.room in
    let fewer = small part.Index in
    ⊎_elim
    (λ (less : count < 2).
    (let one : count ≡ 1 = omega arith in
    let word : entry.word ≡ first + i = is ∙ (ap (λ (n : ℕ). n % 4294967296) (second_one first index count one) ∙ omega arith) in
    numbered_one bytes entry first i (counted ∙ one) word))
    (λ (more : 2 ≤ count).
    (let word : entry.word ≡ index = is ∙ (ap (λ (n : ℕ). n % 4294967296) (second_more first index count more) ∙ low_is index (omega arith)) in
    numbered_more entry first index count i inside more counted word (omega arith) (subst (λ (xs : List ℕ). In bytes part.Index index xs) (indices_more first count more) s)))
    (cases_lt count 2)

row_at : {bytes : List ℕ} (table : List (List ℕ)) (n first index datum list : ℕ) (row : FlatStruct) → Small_counts bytes → LabelsAt bytes table row.fields →
    At bytes (start_of bytes part.Struct + 12 * n) (file.row_bytes first index row) → n < count_of bytes part.Struct →
    At bytes (start_of bytes part.Field + 12 * first) (entries_bytes table datum list row.fields) →
    first + length row.fields ≤ count_of bytes part.Field →
    In bytes part.Index index (indices_of first (length row.fields)) → In bytes part.Data datum (entries_data row.fields) →
    In bytes part.List list (entries_lists row.fields) → RowAt bytes n row
unfolding struct_row
row_at {bytes = bytes} table n first index datum list row small labelled s inside f room x d l =
    let words = words_stand row.kind (second_of first index (length row.fields)) (length row.fields) s in
    let place = row_place bytes part.Struct n in
    let test : nat_lt n (count_of bytes part.Struct) ≡ true = lt-ltb _ _ inside in
    let few = small part.Field in
    let entry : StructRow = record { kind = word_at bytes place; word = word_at bytes (place + 4); count = word_at bytes (place + 8) } in
    let counted : entry.count ≡ length row.fields = words.2 ∙ low_is (length row.fields) (omega arith) in
    record {
      first = first;
      entry = entry;
      entry-is = rw test refl;
      kind = words.0;
      count = counted;
      numbered = numbered entry first index (length row.fields) small counted words.1 room x;
      fields = entries_at table first datum list row.fields small labelled f room d l;
    }

entries_length : (table : List (List ℕ)) (datum list : ℕ) (entries : List Entry) →
    length (entries_bytes table datum list entries) ≡ 12 * length entries
entries_length table datum list [] = refl
entries_length table datum list (entry ∷ entries) =
    let head = entry_bytes table datum list entry in
    let rest = entries_bytes table (datum + length (data_of entry.content)) (list + length (list_of entry.content)) entries in
    omega (
      arith,
      length-append head rest,
      entry_length table datum list entry,
      entries_length table (datum + length (data_of entry.content)) (list + length (list_of entry.content)) entries,
    )

pub rows_at : {bytes : List ℕ} (table : List (List ℕ)) (n first index datum list : ℕ) (rows : List FlatStruct) → Small_counts bytes →
    AllLabelsAt bytes table rows →
    At bytes (start_of bytes part.Struct + 12 * n) (rows_structs first index rows) → n + length rows ≤ count_of bytes part.Struct →
    At bytes (start_of bytes part.Field + 12 * first) (rows_fields table datum list rows) → first + field_count rows ≤ count_of bytes part.Field →
    In bytes part.Index index (rows_indices first rows) → In bytes part.Data datum (rows_data rows) →
    In bytes part.List list (rows_lists rows) → RowsAt bytes n rows
rows_at table n first index datum list [] small labelled s inside f room x d l = tt
rows_at {bytes = bytes} table n first index datum list (row ∷ rows) small labelled s inside f room x d l =
    let count = length row.fields in
    let head = file.row_bytes first index row in
    let entries = entries_bytes table datum list row.fields in
    let datas = entries_data row.fields in
    let lists = entries_lists row.fields in
    let indices = indices_of first count in
    let more_structs = rows_structs (first + count) (index + length indices) rows in
    let more_fields = rows_fields table (datum + length datas) (list + length lists) rows in
    let more_indices = rows_indices (first + count) rows in
    let long = row_length first index row in
    let fields_long = entries_length table datum list row.fields in (
      row_at table n first index datum list row small labelled.0 (front_at head more_structs s) (omega arith) (front_at entries more_fields f) (omega arith)
          (front_in indices more_indices x) (front_in datas (rows_data rows) d) (front_in lists (rows_lists rows) l),
      rows_at table (n + 1) (first + count) (index + length indices) (datum + length datas) (list + length lists) rows small labelled.1
          (next_at _ head more_structs (omega arith) s) (omega arith) (next_at _ entries more_fields (omega arith) f) (omega arith)
          (next_in _ indices more_indices refl x) (next_in _ datas (rows_data rows) refl d) (next_in _ lists (rows_lists rows) refl l),
    )

-- how long the sections of structs and fields are
pub structs_length : (first index : ℕ) (rows : List FlatStruct) → length (rows_structs first index rows) ≡ 12 * length rows
structs_length first index [] = refl
structs_length first index (row ∷ rows) =
    let head = file.row_bytes first index row in
    let rest = rows_structs (first + length row.fields) (index + length (indices_of first (length row.fields))) rows in
    omega (arith, length-append head rest, row_length first index row, structs_length (first + length row.fields) (index + length (indices_of first (length row.fields))) rows)

pub fields_length : (table : List (List ℕ)) (datum list : ℕ) (rows : List FlatStruct) → length (rows_fields table datum list rows) ≡ 12 * field_count rows
fields_length table datum list [] = refl
fields_length table datum list (row ∷ rows) =
    let entries = entries_bytes table datum list row.fields in
    let rest = rows_fields table (datum + length (entries_data row.fields)) (list + length (entries_lists row.fields)) rows in
    omega (
      arith,
      length-append entries rest,
      entries_length table datum list row.fields,
      fields_length table (datum + length (entries_data row.fields)) (list + length (entries_lists row.fields)) rows,
    )
