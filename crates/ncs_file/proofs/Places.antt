-- The table of a file tells where instructions begin, and what begins at a place is spelled there.
use Rattle.std.proofs.Common.{◌≡◌, ◌<◌, ◌≤◌, ◌+◌, ◌-◌, ◌++◌, ◌∷◌, [], ℕ, suc, zero, List, length, drop, get_or, sym, ◌∙◌, ap, arith, refl, subst, true, false, replicate, Bool, eqb, Some, None}
use Rattle.std.proofs.Common.{inl, inr, append_assoc}
use Rattle.std.specs.Prelude.{is_some}
use Rattle.std.specs.List.{flat_map, AllByRecursion}
use Rattle.std.proofs.lemmas.Bool.{ne_eqb, cases_lt}
use Rattle.std.proofs.lemmas.List.{get_or-replicate, length-replicate, drop-drop, drop_at, length-append, get_or_append_left, get_or-append_right}
use Rattle.ncs_code.specs.Plain.{PlainOp}
use Rattle.ncs_code.specs.Spelling.{spelling, op_size, four, IsOp}
use Rattle.ncs_code.specs.File.{spellings, ops_size, file_bytes, file_length, op_from, op_at}
use Rattle.ncs_code.specs.Laws.{SizeLaws, PlaceLaws}
use Rattle.ncs_file.specs.Marks.{mark, marks}

op_from_here : (at : ℕ) (op : PlainOp) (ops : List PlainOp) → op_from at (op ∷ ops) (at + 0) ≡ Some op
op_from_here at op ops =
    let same : at + 0 ≡ at = omega arith in
    let test : eqb at at ≡ true = grind arith in
    rw (same, test) refl

module _ (sizes : SizeLaws) where
  -- nothing begins before the first
  none_below : (at : ℕ) (ops : List PlainOp) (place : ℕ) → place < at → op_from at ops place ≡ None
  none_below at [] place h = refl
  none_below at (op ∷ ops) place h =
      let test : eqb place at ≡ false = ne_eqb place at (λ same. omega (arith, same, h)) in
      rw test (none_below (at + op_size op) ops place (omega arith))

  -- a place behind the first instruction
  op_from_behind : (at k : ℕ) (op : PlainOp) (ops : List PlainOp) → 1 ≤ k → op_from at (op ∷ ops) (at + k) ≡ op_from (at + op_size op) ops (at + k)
  op_from_behind at k op ops some =
      let test : eqb (at + k) at ≡ false = ne_eqb (at + k) at (λ same. omega (arith, same, some)) in
      rw test refl

  length_mark : (op : PlainOp) → length (mark op) ≡ op_size op
  length_mark op = omega (arith, sizes.some op, length-replicate (op_size op - 1) false)

  marked_from : (ops : List PlainOp) (at k : ℕ) → get_or (flat_map mark ops) k false ≡ is_some (op_from at ops (at + k))
  marked_from [] at k = refl
  marked_from (op ∷ ops) at zero = rw (op_from_here at op ops) refl
  marked_from (op ∷ ops) at (suc k) =
      elim (cases_lt (suc k) (op_size op)) [
        | inl lt ↦
            let left = get_or_append_left (mark op) (flat_map mark ops) false (suc k) (omega (arith, length_mark op)) in
            let inside = get_or-replicate (op_size op - 1) k false false (omega arith) in
            let none = op_from_behind at (suc k) op ops (omega arith) ∙ none_below (at + op_size op) ops (at + suc k) (omega arith) in
            left ∙ inside ∙ sym (ap is_some none)
        | inr le ↦
            let right = get_or-append_right (mark op) (flat_map mark ops) (op_size op) (suc k) false (length_mark op) le in
            let j : ℕ = suc k - op_size op in
            let place : at + op_size op + j ≡ at + suc k = omega arith in
            let others = marked_from ops (at + op_size op) j in
            right ∙ others ∙ ap (λ p. is_some (op_from (at + op_size op) ops p)) place ∙ sym (ap is_some (op_from_behind at (suc k) op ops (omega arith)))
      ]

  -- the table tells where instructions begin
  pub marked : (ops : List PlainOp) (n : ℕ) → get_or (marks ops) n false ≡ is_some (op_at ops n)
  unfolding op_at
  marked ops n =
      elim (cases_lt n 13) [
        | inl lt ↦
            get_or_append_left (replicate 13 false) (flat_map mark ops) false n (omega arith) ∙ get_or-replicate 13 n false false lt ∙ sym (ap is_some (none_below 13 ops n lt))
        | inr le ↦
            let place : 13 + (n - 13) ≡ n = omega arith in
            get_or-append_right (replicate 13 false) (flat_map mark ops) 13 n false refl le ∙ marked_from ops 13 (n - 13) ∙ ap (λ p. is_some (op_from 13 ops p)) place
      ]

  length_flat_marks : (ops : List PlainOp) → length (flat_map mark ops) ≡ ops_size ops
  length_flat_marks [] = refl
  length_flat_marks (op ∷ ops) = omega (arith, length-append (mark op) (flat_map mark ops), length_mark op, length_flat_marks ops)

  pub length_marks : (ops : List PlainOp) → length (marks ops) ≡ file_length ops
  length_marks ops = omega (arith, length-append (replicate 13 false) (flat_map mark ops), length_flat_marks ops)

-- a table that is that of the instructions
pub begins_marked : SizeLaws → (ops : List PlainOp) (table : List Bool) (place : ℕ) → table ≡ marks ops → get_or table place false ≡ is_some (op_at ops place)
begins_marked sizes ops table place is = ap (λ (t : List Bool). get_or t place false) is ∙ marked sizes ops place

-- ---- what is spelled at a place

-- the bytes begin with the instruction
pub record Found (op : PlainOp) (bytes : List ℕ) : Type 0 where
  pub is_op : IsOp op
  pub rest : List ℕ
  pub prefix : bytes ≡ spelling op ++ rest

pub drop_header : (ops : List PlainOp) → drop 13 (file_bytes ops) ≡ spellings ops
unfolding four
drop_header ops = refl

spellings_append : (before behind : List PlainOp) → spellings (before ++ behind) ≡ spellings before ++ spellings behind
spellings_append [] behind = refl
spellings_append (op ∷ before) behind =
    ap (λ (rest : List ℕ). spelling op ++ rest) (spellings_append before behind) ∙ sym (append_assoc (spelling op) (spellings before) (spellings behind))

one_of : (before behind : List PlainOp) (op : PlainOp) → AllByRecursion IsOp (before ++ op ∷ behind) → IsOp op
one_of [] behind op each = each.0
one_of (x ∷ before) behind op each = one_of before behind op each.1

-- what begins at a place is spelled there
pub found_at : SizeLaws → PlaceLaws → (ops : List PlainOp) (n : ℕ) (op : PlainOp) → AllByRecursion IsOp ops → op_at ops n ≡ Some op → Found op (drop n (file_bytes ops))
found_at sizes places ops n op each is =
    let s = places.stands ops n op is in
    let place : 13 + ops_size s.before ≡ n = sym s.place in
    let spelled : spellings ops ≡ spellings s.before ++ spellings (op ∷ s.behind) = ap spellings s.both ∙ spellings_append s.before (op ∷ s.behind) in
    record {
      is_op = one_of s.before s.behind op (subst (AllByRecursion IsOp) s.both each);
      rest = spellings s.behind;
      prefix = ap (λ k. drop k (file_bytes ops)) (sym place) ∙ sym (drop-drop (ops_size s.before) 13 (file_bytes ops)) ∙ ap (drop (ops_size s.before)) (drop_header ops ∙ spelled)
          ∙ drop_at (spellings s.before) (spellings (op ∷ s.behind)) (ops_size s.before) (sym (sizes.ops s.before));
    }
