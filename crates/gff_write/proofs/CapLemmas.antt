-- Sums that stay at the greatest number compose.
use Rattle.std.proofs.Common.{◌≡◌, ℕ, zero, suc, ◌+◌, ◌≤◌, ◌<◌, List, [], ◌∷◌, ◌++◌, length, drop, get_or, refl, sym, ap, subst, arith, add-one, drop-cons, length-append}
use Rattle.std.specs.List.{flat_map}
use Rattle.gff_tree.specs.declared.tree.Field.{Field}
use Rattle.gff_tree.specs.declared.tree.Node.{Node}
use Rattle.gff_tree.specs.declared.tree.LocPart.{LocPart}
use Rattle.gff_tree.specs.Tree.{plain_node, plain_leaf, fields_list, nodes_list}
use Rattle.std.specs.Int.{w32, cast_unsigned}
use Rattle.gff_tree.specs.declared.tree.Loc.{Loc}
use Rattle.gff_write.specs.File.{joined}
use Rattle.gff_write.specs.Flat.{word, wide, part_bytes, length_prefixed, localized_bytes}
use Rattle.gff_write.specs.Size.{capped, index_bytes, own_count, node_bytes, leaf_bytes, fields_bytes, nodes_bytes}

pub capped_small : (n : ℕ) → capped n ≤ 18446744073709551615
unfolding capped
capped_small n = omega arith

-- a turn of a loop that adds n bytes and an item to its total
pub turn : (total n item rest mid got now whole : ℕ) → capped (total + (n + item + rest)) ≡ whole
    → mid ≡ capped (total + n) → got ≡ capped item → now ≡ capped (mid + got) → capped (now + rest) ≡ whole
unfolding capped
turn total n item rest mid got now whole before first second third = omega (arith, before, first, second, third)

-- the end of a loop
pub end : (total whole : ℕ) → capped (total + 0) ≡ whole → total ≤ 18446744073709551615 → total ≡ whole
unfolding capped
end total whole before small = omega (arith, before)

pub fields_turn : (total mid got now whole i : ℕ) (items : List Field) (item : Field) → i < length items → item ≡ get_or items i item
    → capped (total + fields_bytes (fields_list (drop i items))) ≡ whole → mid ≡ capped (total + 12) → got ≡ capped (leaf_bytes (plain_leaf item.leaf)) → now ≡ capped (mid + got)
    → capped (now + fields_bytes (fields_list (drop (i + 1) items))) ≡ whole
fields_turn total mid got now whole i items item lt is before first second third =
    let next : drop i items ≡ item ∷ drop (i + 1) items = rw (add-one, drop-cons items i item) (ap (λ (f : Field). f ∷ drop (suc i) items) (sym is)) in
    turn total 12 (leaf_bytes (plain_leaf item.leaf)) (fields_bytes (fields_list (drop (i + 1) items))) mid got now whole
    (subst (λ (fs : List Field). capped (total + fields_bytes (fields_list fs)) ≡ whole) next before) first second third

pub nodes_turn : (total mid got now whole i : ℕ) (items : List Node) (item : Node) → i < length items → item ≡ get_or items i item
    → capped (total + nodes_bytes (nodes_list (drop i items))) ≡ whole → mid ≡ capped (total + 4) → got ≡ capped (node_bytes (plain_node item)) → now ≡ capped (mid + got)
    → capped (now + nodes_bytes (nodes_list (drop (i + 1) items))) ≡ whole
nodes_turn total mid got now whole i items item lt is before first second third =
    let next : drop i items ≡ item ∷ drop (i + 1) items = rw (add-one, drop-cons items i item) (ap (λ (n : Node). n ∷ drop (suc i) items) (sym is)) in
    turn total 4 (node_bytes (plain_node item)) (nodes_bytes (nodes_list (drop (i + 1) items))) mid got now whole
    (subst (λ (ns : List Node). capped (total + nodes_bytes (nodes_list ns)) ≡ whole) next before) first second third

word_length : (n : ℕ) → length (word n) ≡ 4
unfolding word
word_length n = refl

part_length : (part : LocPart) → length (part_bytes part) ≡ 8 + length part.text
part_length part =
    omega (
      arith,
      length-append (word (cast_unsigned w32 part.id)) (length_prefixed part.text),
      length-append (word (length part.text)) part.text,
      word_length (cast_unsigned w32 part.id),
      word_length (length part.text),
    )

pub parts_turn : (total mid now whole i : ℕ) (items : List LocPart) (item : LocPart) → i < length items → item ≡ get_or items i item
    → capped (total + length (flat_map part_bytes (drop i items))) ≡ whole → mid ≡ capped (total + 8) → now ≡ capped (mid + length item.text)
    → capped (now + length (flat_map part_bytes (drop (i + 1) items))) ≡ whole
unfolding capped
parts_turn total mid now whole i items item lt is before first third =
    let next : drop i items ≡ item ∷ drop (i + 1) items = rw (add-one, drop-cons items i item) (ap (λ (p : LocPart). p ∷ drop (suc i) items) (sym is)) in
    let at : capped (total + length (part_bytes item ++ flat_map part_bytes (drop (i + 1) items)))
    ≡ whole = subst (λ (ps : List LocPart). capped (total + length (flat_map part_bytes ps)) ≡ whole) next before in
    omega (arith, at, first, third, part_length item, length-append (part_bytes item) (flat_map part_bytes (drop (i + 1) items)))

labels_turn : (total now whole i : ℕ) (items : List (List ℕ)) (item : List ℕ) → i < length items → item ≡ get_or items i item
    → capped (total + length (joined (drop i items))) ≡ whole → now ≡ capped (total + length item)
    → capped (now + length (joined (drop (i + 1) items))) ≡ whole
unfolding capped
labels_turn total now whole i items item lt is before got =
    let next : drop i items ≡ item ∷ drop (i + 1) items = rw (add-one, drop-cons items i item) (ap (λ (l : List ℕ). l ∷ drop (suc i) items) (sym is)) in
    let at : capped (total + length (item ++ joined (drop (i + 1) items))) ≡ whole = subst (λ (ls : List (List ℕ)). capped (total + length (joined ls)) ≡ whole) next before in
    omega (arith, at, got, length-append item (joined (drop (i + 1) items)))

got_same : (xs : List (List ℕ)) (i : ℕ) (d e : List ℕ) → i < length xs → get_or xs i d ≡ get_or xs i e
got_same [] i d e h = absurd (omega arith)
got_same (x ∷ xs) zero d e h = refl
got_same (x ∷ xs) (suc i) d e h = got_same xs i d e (omega arith)

-- the same of a label that is read by any default
pub labels_by : (total now whole i : ℕ) (items : List (List ℕ)) (d : List ℕ) → i < length items
    → capped (total + length (joined (drop i items))) ≡ whole → now ≡ capped (total + length (get_or items i d))
    → capped (now + length (joined (drop (i + 1) items))) ≡ whole
labels_by total now whole i items d lt before got = labels_turn total now whole i items (get_or items i d) lt (got_same items i d (get_or items i d) lt) before got

pub localized_length : (loc : Loc) → length (localized_bytes loc) ≡ 12 + length (flat_map part_bytes loc.parts)
localized_length loc =
    let body : List ℕ = word loc.str_ref ++ word (length loc.parts) ++ flat_map part_bytes loc.parts in
    omega (
      arith,
      length-append (word (length body)) body,
      length-append (word loc.str_ref ++ word (length loc.parts)) (flat_map part_bytes loc.parts),
      length-append (word loc.str_ref) (word (length loc.parts)),
      word_length (length body),
      word_length loc.str_ref,
      word_length (length loc.parts),
    )

pub eight : (n : ℕ) → 8 ≡ capped (length (wide n))
unfolding wide capped
eight n = refl

pub counted_size : (text : List ℕ) → capped (4 + length text) ≡ capped (length (length_prefixed text))
counted_size text = ap capped (omega (arith, length-append (word (length text)) text, word_length (length text)))

pub localized_size : (loc : Loc) → capped (12 + length (flat_map part_bytes loc.parts)) ≡ capped (length (localized_bytes loc))
localized_size loc = ap capped (sym (localized_length loc))

pub own_counted : (fields : List Field) → own_count (fields_list fields) ≡ length fields
own_counted [] = refl
own_counted (field ∷ fields) = omega (arith, own_counted fields)

-- the start of a loop over fields
pub start : (a b n m total rest : ℕ) → n ≡ m → b ≡ capped (index_bytes n) → total ≡ capped (a + b) → capped (total + rest) ≡ capped (a + index_bytes m + rest)
unfolding capped
start a b n m total rest same second third = omega (arith, second, third, ap index_bytes same)
