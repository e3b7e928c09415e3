-- The rows that are read are those that a struct's fields stand for, and the other way round.
use Rattle.std.proofs.Common.{◌≡◌, ◌+◌, ℕ, zero, suc, Bool, true, false, not, ◌&&◌, List, [], ◌∷◌, ◌++◌, map, length, Option, Some, None, Result, Ok, refl, sym, ap, subst, ◌∙◌, append_assoc}
use Rattle.std.specs.Prelude.{slice_get}
use Rattle.std.specs.List.{list_any}
use Rattle.std.specs.Str.{bytes_eq}
use Rattle.std.proofs.lemmas.List.{append-nil, map_push}
use Rattle.gff_bytes.specs.declared.rows.StructRow.{StructRow}
use Rattle.gff_bytes.specs.File.{field_row, label_row, list_word}
use Rattle.gff_read.specs.declared.fault.TreeFault.{TreeFault}
use Rattle.gff_read.specs.declared.kind.FieldKind.{FieldKind}
use Rattle.gff_read.specs.declared.kind.FieldKind.TheVariants as kind
use Rattle.gff_tree.specs.Label.{label_text}
use Rattle.gff_tree.specs.Tree.{Scalar, Holds, Child, Children, differ_after}
use Rattle.gff_read.specs.Rows.{◌>>=◌, placed, kinds, of_kind, words_from, PlainShape, PlainRow, Value, One, Many, leaf_for, scalar_for, shape_for, has_label, row_for, field_number, rows_from}
use Rattle.gff_read.specs.Stands.{ScalarStands, WordsStand, ShapeStands, RowStands, RowsStand}
use Rattle.gff_read.proofs.Steps.{bind_ok, guard_ok, ok_is, placed_ok}
use Rattle.gff_read.proofs.ScalarLaws.{scalar_stands, scalar_read}

words_stand : (bytes : List ℕ) (place n : ℕ) (words : List ℕ) → words_from bytes place n ≡ Ok words → WordsStand bytes place words × (length words ≡ n)
words_stand bytes place zero words e = subst (λ (ws : List ℕ). WordsStand bytes place ws × (length ws ≡ 0)) (ok_is [] words e) (tt, refl)
words_stand bytes place (suc n) words e =
    let b = bind_ok (placed (list_word bytes place)) (λ word. (words_from bytes (place + 4) n >>= λ ws. Ok (word ∷ ws))) words e in
    let r = bind_ok (words_from bytes (place + 4) n) (λ ws. Ok (b.0 ∷ ws)) words b.2 in
    let rest = words_stand bytes (place + 4) n r.0 r.1 in
    subst (λ (ws : List ℕ). WordsStand bytes place ws × (length ws ≡ suc n)) (ok_is (b.0 ∷ r.0) words r.2) ((placed_ok (list_word bytes place) b.0 b.1, rest.0), ap suc rest.1)

words_read : (bytes : List ℕ) (place : ℕ) (words : List ℕ) → WordsStand bytes place words → words_from bytes place (length words) ≡ Ok words
words_read bytes place [] s = refl
words_read bytes place (w ∷ ws) s = rw (s.0, words_read bytes (place + 4) ws s.1) refl

value_stands : (bytes : List ℕ) (field : ℕ) (k : FieldKind) (word : ℕ) (s : PlainShape) → (leaf_for bytes field k word >>= λ holds. Ok (Value holds)) ≡ Ok s → ShapeStands bytes k word s
unfolding leaf_for
value_stands bytes field k word s e =
    let b = bind_ok (leaf_for bytes field k word) (λ holds. Ok (Value holds)) s e in
    let l = bind_ok (scalar_for bytes field k word) (λ scalar. Ok (Holds scalar)) b.0 b.1 in
    let made : Value (Holds l.0) ≡ s = ap Value (ok_is (Holds l.0) b.0 l.2) ∙ ok_is (Value b.0) s b.2 in
    subst (ShapeStands bytes k word) made (scalar_stands bytes field k word l.0 l.1)

value_read : (bytes : List ℕ) (field : ℕ) (k : FieldKind) (word : ℕ) (s : Scalar) → ScalarStands bytes k word s → (leaf_for bytes field k word >>= λ holds. Ok (Value holds)) ≡ Ok (Value (Holds s))
unfolding leaf_for
value_read bytes field k word s stands = rw (scalar_read bytes field k word s stands) refl

shape_stands : (bytes : List ℕ) (field : ℕ) (k : FieldKind) (word : ℕ) (s : PlainShape) → shape_for bytes field k word ≡ Ok s → ShapeStands bytes k word s
unfolding shape_for
shape_stands bytes field kind.Struct word s e = subst (ShapeStands bytes kind.Struct word) (ok_is (One word) s e) (refl, refl)
shape_stands bytes field kind.List word s e =
    let b = bind_ok (placed (list_word bytes word)) (λ count. (words_from bytes (word + 4) count >>= λ words. Ok (Many words))) s e in
    let w = bind_ok (words_from bytes (word + 4) b.0) (λ words. Ok (Many words)) s b.2 in
    let stand = words_stand bytes (word + 4) b.0 w.0 w.1 in
    let counted : list_word bytes word ≡ Ok (length w.0) = placed_ok (list_word bytes word) b.0 b.1 ∙ ap Ok (sym stand.1) in
    subst (ShapeStands bytes kind.List word) (ok_is (Many w.0) s w.2) (refl, counted, stand.0)
shape_stands bytes field kind.Byte word s e = value_stands bytes field kind.Byte word s e
shape_stands bytes field kind.Char word s e = value_stands bytes field kind.Char word s e
shape_stands bytes field kind.Word word s e = value_stands bytes field kind.Word word s e
shape_stands bytes field kind.Short word s e = value_stands bytes field kind.Short word s e
shape_stands bytes field kind.Dword word s e = value_stands bytes field kind.Dword word s e
shape_stands bytes field kind.Int word s e = value_stands bytes field kind.Int word s e
shape_stands bytes field kind.Dword64 word s e = value_stands bytes field kind.Dword64 word s e
shape_stands bytes field kind.Int64 word s e = value_stands bytes field kind.Int64 word s e
shape_stands bytes field kind.Float word s e = value_stands bytes field kind.Float word s e
shape_stands bytes field kind.Double word s e = value_stands bytes field kind.Double word s e
shape_stands bytes field kind.Str word s e = value_stands bytes field kind.Str word s e
shape_stands bytes field kind.Res word s e = value_stands bytes field kind.Res word s e
shape_stands bytes field kind.Loc word s e = value_stands bytes field kind.Loc word s e
shape_stands bytes field kind.Void word s e = value_stands bytes field kind.Void word s e

-- a type of value is read as one
scalar_shape : (bytes : List ℕ) (field : ℕ) (k : FieldKind) (word : ℕ) (s : Scalar) → ScalarStands bytes k word s
    → shape_for bytes field k word ≡ (leaf_for bytes field k word >>= λ holds. Ok (Value holds))
unfolding shape_for
scalar_shape bytes field kind.Struct word s is = absurd is
scalar_shape bytes field kind.List word s is = absurd is
scalar_shape bytes field kind.Byte word s is = refl
scalar_shape bytes field kind.Char word s is = refl
scalar_shape bytes field kind.Word word s is = refl
scalar_shape bytes field kind.Short word s is = refl
scalar_shape bytes field kind.Dword word s is = refl
scalar_shape bytes field kind.Int word s is = refl
scalar_shape bytes field kind.Dword64 word s is = refl
scalar_shape bytes field kind.Int64 word s is = refl
scalar_shape bytes field kind.Float word s is = refl
scalar_shape bytes field kind.Double word s is = refl
scalar_shape bytes field kind.Str word s is = refl
scalar_shape bytes field kind.Res word s is = refl
scalar_shape bytes field kind.Loc word s is = refl
scalar_shape bytes field kind.Void word s is = refl

shape_read : (bytes : List ℕ) (field : ℕ) (k : FieldKind) (word : ℕ) (s : PlainShape) → ShapeStands bytes k word s → shape_for bytes field k word ≡ Ok s
unfolding shape_for
shape_read bytes field k word (Value (Holds s)) is = scalar_shape bytes field k word s is ∙ value_read bytes field k word s is
shape_read bytes field k word (Value (Child node)) is = absurd is
shape_read bytes field k word (Value (Children nodes)) is = absurd is
shape_read bytes field k word (One n) is =
    subst (λ (j : FieldKind). shape_for bytes field j word ≡ Ok (One n)) (sym is.0) (ap (λ (m : ℕ). Ok (One m)) (sym is.1))
shape_read bytes field k word (Many ns) is =
    let listed : shape_for bytes field kind.List word ≡ Ok (Many ns) = rw (is.1, words_read bytes (word + 4) ns is.2) refl in
    subst (λ (j : FieldKind). shape_for bytes field j word ≡ Ok (Many ns)) (sym is.0) listed

kind_ok : {A : Type 0} (field : ℕ) (o : Option FieldKind) (f : FieldKind → Result A TreeFault) (y : A) → of_kind field o f ≡ Ok y → (k : FieldKind) × (o ≡ Some k) × (f k ≡ Ok y)
kind_ok field None f y e = absurd cc
kind_ok field (Some k) f y e = (k, refl, e)

row_stands : (bytes : List ℕ) (rows : List PlainRow) (field : ℕ) (row : PlainRow) → row_for bytes rows field ≡ Ok row → RowStands bytes field row × (has_label rows row.label ≡ false)
unfolding row_for
row_stands bytes rows field row e =
    let b = bind_ok (placed (field_row bytes field)) _ row e in
    let k = kind_ok field (slice_get kinds b.0.kind) _ row b.2 in
    let l = bind_ok (placed (label_row bytes b.0.label)) _ row k.2 in
    let g = guard_ok (has_label rows (label_text l.0)) _ _ row l.2 in
    let s = bind_ok (shape_for bytes field k.0 b.0.word) (λ holds. Ok (record { label = label_text l.0; shape = holds })) row g.1 in
    let made : PlainRow = record { label = label_text l.0; shape = s.0 } in
    let stands : RowStands bytes field made × (has_label rows made.label ≡ false) = (
      record {
        entry = b.0;
        of_kind = k.0;
        name = l.0;
        entry-is = placed_ok (field_row bytes field) b.0 b.1;
        kind-is = k.1;
        name-is = placed_ok (label_row bytes b.0.label) l.0 l.1;
        label = refl;
        shape = shape_stands bytes field k.0 b.0.word s.0 s.1;
      },
      g.0,
    ) in
    subst (λ (r : PlainRow). RowStands bytes field r × (has_label rows r.label ≡ false)) (ok_is made row s.2) stands

row_read : (bytes : List ℕ) (rows : List PlainRow) (field : ℕ) (row : PlainRow) → RowStands bytes field row → has_label rows row.label ≡ false → row_for bytes rows field ≡ Ok row
unfolding row_for
row_read bytes rows field row s fresh =
    let new : has_label rows (label_text s.name) ≡ false = subst (λ (l : List ℕ). has_label rows l ≡ false) s.label fresh in
    let shape = shape_read bytes field s.of_kind s.entry.word row.shape s.shape in
    rw (s.entry-is, s.kind-is, s.name-is, new, shape, ← s.label) refl

abbrev pub labels : List PlainRow → List (List ℕ)
labels rows = map (λ row. row.label) rows

pub rows_stand : (bytes : List ℕ) (entry : StructRow) (i n : ℕ) (front all : List PlainRow) → rows_from bytes entry i n front ≡ Ok all →
    (more : List PlainRow) × (all ≡ front ++ more) × (length more ≡ n) × RowsStand bytes entry i more × (differ_after bytes_eq (labels front) (labels more) ≡ true)
rows_stand bytes entry i zero front all e = ([], sym (ok_is front all e) ∙ sym (append-nil front), refl, tt, refl)
rows_stand bytes entry i (suc n) front all e =
    let b = bind_ok (placed (field_number bytes entry i)) _ all e in
    let r = bind_ok (row_for bytes front b.0) (λ next. rows_from bytes entry (i + 1) n (front ++ next ∷ [])) all b.2 in
    let here = row_stands bytes front b.0 r.0 r.1 in
    let rest = rows_stand bytes entry (i + 1) n (front ++ r.0 ∷ []) all r.2 in
    let grown : labels (front ++ r.0 ∷ []) ≡ labels front ++ r.0.label ∷ [] = map_push _ front r.0 in
    let differ : differ_after bytes_eq (labels front ++ r.0.label ∷ []) (labels rest.0) ≡ true = subst (λ (ls : List (List ℕ)). differ_after bytes_eq ls (labels rest.0) ≡ true) grown rest.4 in (
      r.0 ∷ rest.0,
      rest.1 ∙ append_assoc front (r.0 ∷ []) rest.0,
      ap suc rest.2,
      (b.0, placed_ok (field_number bytes entry i) b.0 b.1, here.0, rest.3),
      rw (here.1, differ) refl,
    )

fresh_of : (same rest : Bool) → (not same && rest) ≡ true → (same ≡ false) × (rest ≡ true)
fresh_of true rest e = absurd cc
fresh_of false rest e = (refl, e)

pub rows_read : (bytes : List ℕ) (entry : StructRow) (i : ℕ) (front more : List PlainRow) → RowsStand bytes entry i more → differ_after bytes_eq (labels front) (labels more) ≡ true →
    rows_from bytes entry i (length more) front ≡ Ok (front ++ more)
rows_read bytes entry i front [] s d = ap Ok (sym (append-nil front))
rows_read bytes entry i front (row ∷ rows) s d =
    let f = fresh_of (list_any (bytes_eq row.label) (labels front)) (differ_after bytes_eq (labels front ++ row.label ∷ []) (labels rows)) d in
    let grown : labels (front ++ row ∷ []) ≡ labels front ++ row.label ∷ [] = map_push _ front row in
    let differ : differ_after bytes_eq (labels (front ++ row ∷ [])) (labels rows) ≡ true = subst (λ (ls : List (List ℕ)). differ_after bytes_eq ls (labels rows) ≡ true) (sym grown) f.1 in
    let rest = rows_read bytes entry (i + 1) (front ++ row ∷ []) rows s.3 differ in
    rw (s.1, row_read bytes front s.0 row s.2 f.0) (rest ∙ ap Ok (append_assoc front (row ∷ []) rows))
