-- A member of a struct's value is a field of it.
use Rattle.std.proofs.Common.{arith, ◌≡◌, ◌+◌, List, [], ◌∷◌, ◌++◌, length, take, drop, refl, sym, ap, ◌∙◌, append_assoc}
use Rattle.std.proofs.lemmas.List.{length-append, take_at, drop_at}
use Rattle.nwq_value.specs.declared.value.Ty.{Ty}
use Rattle.nwq_value.specs.declared.value.Value.{Value}
use Rattle.typing_rules.specs.Cells.{Structs, cell_types, cells}
use Rattle.source_meaning.specs.Values.{parts_of, with_parts}
use Rattle.source_meaning.specs.Expressions.{all_parts}
use Rattle.source_meaning.specs.Fields.{fields_cells}
use Rattle.source_meaning.specs.Laws.{FieldsAreParts, HaveCells, MembersAreFields}

parts_in_row : (front back : List (List Value)) → all_parts (front ++ back) ≡ all_parts front ++ all_parts back
parts_in_row [] back = refl
parts_in_row (v ∷ front) back = ap (λ rest. v ++ rest) (parts_in_row front back) ∙ sym (append_assoc v (all_parts front) (all_parts back))

field_read : (before field behind : List Value) → parts_of (length before) (length field) (before ++ (field ++ behind)) ≡ field
field_read before field behind =
    ap (take (length field)) (drop_at before (field ++ behind) (length before) refl) ∙ take_at field behind (length field) refl

field_written : (before field behind new : List Value) → length new ≡ length field → with_parts (length before) new (before ++ (field ++ behind)) ≡ before ++ (new ++ behind)
field_written before field behind new same =
    let whole = before ++ (field ++ behind) in
    let both = length-append before field in
    let first : take (length before) whole ≡ before = take_at before (field ++ behind) (length before) refl in
    let last : drop (length before + length new) whole ≡ behind =
    ap (drop (length before + length new)) (sym (append_assoc before field behind)) ∙ drop_at (before ++ field) behind (length before + length new) (omega (arith, both, same)) in
    ap (λ a. a ++ (new ++ drop (length before + length new) whole)) first ∙ ap (λ b. before ++ (new ++ b)) last

pub fields_are_parts : FieldsAreParts
fields_are_parts front field back = (
  ap (parts_of (length (all_parts front)) (length field)) (parts_in_row front (field ∷ back)) ∙ field_read (all_parts front) field (all_parts back),
  λ new same. ap (with_parts (length (all_parts front)) new) (parts_in_row front (field ∷ back))
      ∙ field_written (all_parts front) field (all_parts back) new same ∙ sym (parts_in_row front (new ∷ back)),
)

-- ---- members

cells_in_row : (structs : Structs) (ts : List Ty) (vs : List (List Value)) → HaveCells structs ts vs → length (all_parts vs) ≡ length (fields_cells structs ts)
cells_in_row structs [] [] h = refl
cells_in_row structs (t ∷ ts) (v ∷ vs) h =
    let first = h.0 in
    let rest = cells_in_row structs ts vs h.1 in
    let parts = length-append v (all_parts vs) in
    let types = length-append (cell_types structs t) (fields_cells structs ts) in
    omega (arith, first, rest, parts, types)
cells_in_row structs (t ∷ ts) [] h = absurd h
cells_in_row structs [] (v ∷ vs) h = absurd h

pub members_are_fields : MembersAreFields
members_are_fields structs fields whole part before m front field back have count =
    let stands : before ≡ length (all_parts front) = m.offset ∙ sym (cells_in_row structs m.front front have) in
    let value = all_parts (front ++ field ∷ back) in
    let are = fields_are_parts front field back in (
      ap (λ b. parts_of b (cells structs part) value) stands ∙ (ap (λ n. parts_of (length (all_parts front)) n value) (sym count) ∙ are.0),
      λ new same. ap (λ b. with_parts b new value) stands ∙ are.1 new (same ∙ sym count),
    )
