-- The walk that puts labels into a table, over the fields and structs of a tree.
use Rattle.std.proofs.Common.{◌≡◌, ℕ, ◌+◌, ◌<◌, List, [], ◌∷◌, ◌++◌, length, drop, get_or, refl, sym, ap, subst, ◌∙◌, suc, add-one, drop-cons}
use Rattle.gff_tree.specs.declared.tree.Field.{Field}
use Rattle.gff_tree.specs.declared.tree.Node.{Node}
use Rattle.gff_tree.specs.Tree.{plain_node, plain_leaf, fields_list, nodes_list}
use Rattle.gff_write.specs.Size.{node_labels, labels_below, leaf_labels, list_labels, with_labels}
use Rattle.gff_write.proofs.TableLemmas.{with_append}

pub fields_turn : (table now whole : List (List ℕ)) (i : ℕ) (items : List Field) (item : Field) → i < length items → item ≡ get_or items i item
    → with_labels table (labels_below (fields_list (drop i items))) ≡ whole → now ≡ with_labels table (leaf_labels (plain_leaf item.leaf))
    → with_labels now (labels_below (fields_list (drop (i + 1) items))) ≡ whole
fields_turn table now whole i items item lt is before got =
    let next : drop i items ≡ item ∷ drop (i + 1) items = rw (add-one, drop-cons items i item) (ap (λ (f : Field). f ∷ drop (suc i) items) (sym is)) in
    let rest = labels_below (fields_list (drop (i + 1) items)) in
    ap (λ (t : List (List ℕ)). with_labels t rest) got
    ∙ (sym (with_append table (leaf_labels (plain_leaf item.leaf)) rest) ∙ subst (λ (fs : List Field). with_labels table (labels_below (fields_list fs)) ≡ whole) next before)

pub nodes_turn : (table now whole : List (List ℕ)) (i : ℕ) (items : List Node) (item : Node) → i < length items → item ≡ get_or items i item
    → with_labels table (list_labels (nodes_list (drop i items))) ≡ whole → now ≡ with_labels table (node_labels (plain_node item))
    → with_labels now (list_labels (nodes_list (drop (i + 1) items))) ≡ whole
nodes_turn table now whole i items item lt is before got =
    let next : drop i items ≡ item ∷ drop (i + 1) items = rw (add-one, drop-cons items i item) (ap (λ (n : Node). n ∷ drop (suc i) items) (sym is)) in
    let rest = list_labels (nodes_list (drop (i + 1) items)) in
    ap (λ (t : List (List ℕ)). with_labels t rest) got
    ∙ (sym (with_append table (node_labels (plain_node item)) rest) ∙ subst (λ (ns : List Node). with_labels table (list_labels (nodes_list ns)) ≡ whole) next before)
