-- There are no more objects in an area than structs in its tree.
use Rattle.std.proofs.Common.{◌≡◌, ◌≤◌, ◌<◌, ◌+◌, ℕ, Bool, true, false, cond, List, [], ◌∷◌, length, map, length-append, Some, refl, ap, subst, arith}
use Rattle.std.specs.Str.{bytes_eq}
use Rattle.std.proofs.lemmas.List.{length-map}
use Rattle.std.proofs.lemmas.Slice.Eq.{bytes_eq-Decides}
use Rattle.gff_tree.specs.Tree.{PlainNode, PlainFields, PlainField, Struct, NoField, MoreFields, fields_in}
use Rattle.gff_tree.specs.Fields.{found}
use Rattle.gff_tree.specs.Count.{node_count, fields_count, leaf_count}
use Rattle.area_rules.specs.Objects.{list_labels, structs_in, object_of, objects_under, objects_of}
use Rattle.area_tree.specs.Reading.{leaves_count}
use Rattle.area_tree.proofs.ReadLemmas.{structs_few}

-- the label is none of these
abbrev IsNone : List ℕ → List (List ℕ) → Type 0
IsNone label [] = Unit {0}
IsNone label (other ∷ labels) = (bytes_eq other label ≡ false) × IsNone label labels

-- no label stands twice
abbrev AreApart : List (List ℕ) → Type 0
AreApart [] = Unit {0}
AreApart (label ∷ labels) = IsNone label labels × AreApart labels

labels_apart : AreApart list_labels
labels_apart = ((refl, (refl, (refl, (refl, tt)))), ((refl, (refl, (refl, tt))), ((refl, (refl, tt)), ((refl, tt), (tt, tt)))))

-- how many structs stand in the fields that are found under these labels
abbrev under_count : List (List ℕ) → List PlainField → ℕ
under_count [] fields = 0
under_count (label ∷ labels) fields = leaves_count (found label fields) + under_count labels fields

passed : (labels : List (List ℕ)) (field : PlainField) (fields : List PlainField) → IsNone field.label labels → under_count labels (field ∷ fields) ≡ under_count labels fields
passed [] field fields none = refl
passed (label ∷ labels) field fields none = rw none.0 (ap (λ (n : ℕ). leaves_count (found label fields) + n) (passed labels field fields none.1))

-- a label's first field is the field, where it has the label, and then no other label's
taken_first : (b : Bool) (label : List ℕ) (labels : List (List ℕ)) (field : PlainField) (fields : List PlainField) → bytes_eq label field.label ≡ b → IsNone label labels
    → under_count labels (field ∷ fields) ≤ leaf_count field.leaf + under_count labels fields
    → leaves_count (cond b (Some field.leaf) (found label fields)) + under_count labels (field ∷ fields) ≤ leaf_count field.leaf + (leaves_count (found label fields) + under_count labels fields)
taken_first true label labels field fields is none others =
    omega (arith, passed labels field fields (subst (λ (l : List ℕ). IsNone l labels) ((bytes_eq-Decides label field.label).0 is) none))
taken_first false label labels field fields is none others = omega (arith, others)

taken : (labels : List (List ℕ)) (field : PlainField) (fields : List PlainField) → AreApart labels → under_count labels (field ∷ fields) ≤ leaf_count field.leaf + under_count labels fields
taken [] field fields apart = omega arith
taken (label ∷ labels) field fields apart =
    taken_first (bytes_eq label field.label) label labels field fields refl apart.0 (taken labels field fields apart.1)

none_under : (labels : List (List ℕ)) → under_count labels [] ≡ 0
none_under [] = refl
none_under (label ∷ labels) = omega (arith, none_under labels)

counted : (labels : List (List ℕ)) (fields : PlainFields) → AreApart labels → under_count labels (fields_in fields) ≤ fields_count fields
counted labels NoField apart = omega (arith, none_under labels)
counted labels (MoreFields name leaf rest) apart = omega (arith, taken labels (record { label = name; leaf = leaf }) (fields_in rest) apart, counted labels rest apart)

long_under : (labels : List (List ℕ)) (fields : List PlainField) → length (objects_under labels fields) ≤ under_count labels fields
long_under [] fields = omega arith
long_under (label ∷ labels) fields =
    omega (
      arith,
      length-append (map object_of (structs_in (found label fields))) (objects_under labels fields),
      length-map (structs_in (found label fields)) object_of,
      structs_few (found label fields),
      long_under labels fields,
    )

pub objects_few : (top : PlainNode) → length (objects_of top) < node_count top
objects_few (Struct kind fields) = omega (arith, long_under list_labels (fields_in fields), counted list_labels fields labels_apart)
