-- The labels of a file are those of the tree, once each.
use Rattle.std.proofs.Common.{◌≡◌, ℕ, ◌+◌, List, [], ◌∷◌, ◌++◌, refl, sym, ap, ◌∙◌}
use Rattle.gff_tree.specs.Tree.{PlainNode, PlainFields, PlainLeaf, PlainNodes, Struct, NoField, MoreFields, Holds, Child, Children, NoNode, MoreNodes}
use Rattle.gff_write.specs.declared.flat.FlatStruct.{FlatStruct}
use Rattle.gff_write.specs.File.{with_label, entry_labels, row_labels}
use Rattle.gff_tree.specs.Count.{node_count, leaf_count}
use Rattle.gff_write.specs.Flat.{padded, entries_from, rows_of, rows_below, leaf_rows, list_rows}
use Rattle.gff_write.specs.Size.{own_labels, node_labels, labels_below, leaf_labels, list_labels, with_labels}

entries_table : (table : List (List ℕ)) (n : ℕ) (fields : PlainFields) → entry_labels table (entries_from n fields) ≡ with_labels table (own_labels fields)
entries_table table n NoField = refl
entries_table table n (MoreFields label holds rest) = entries_table (with_label table (padded label)) (n + leaf_count holds) rest

rows_append : (table : List (List ℕ)) (first rows : List FlatStruct) → row_labels table (first ++ rows) ≡ row_labels (row_labels table first) rows
rows_append table [] rows = refl
rows_append table (row ∷ first) rows = rows_append (entry_labels table row.fields) first rows

pub with_append : (table first labels : List (List ℕ)) → with_labels table (first ++ labels) ≡ with_labels (with_labels table first) labels
with_append table [] labels = refl
with_append table (x ∷ xs) labels = with_append (with_label table x) xs labels

mutual
  pub node_table : (table : List (List ℕ)) (n : ℕ) (node : PlainNode) → row_labels table (rows_of n node) ≡ with_labels table (node_labels node)
  node_table table n (Struct kind fields) =
      ap (λ (t : List (List ℕ)). row_labels t (rows_below (n + 1) fields)) (entries_table table (n + 1) fields)
      ∙ (below_table (with_labels table (own_labels fields)) (n + 1) fields ∙ sym (with_append table (own_labels fields) (labels_below fields)))

  below_table : (table : List (List ℕ)) (n : ℕ) (fields : PlainFields) → row_labels table (rows_below n fields) ≡ with_labels table (labels_below fields)
  below_table table n NoField = refl
  below_table table n (MoreFields label holds rest) =
      rows_append table (leaf_rows n holds) (rows_below (n + leaf_count holds) rest)
      ∙ (ap (λ (t : List (List ℕ)). row_labels t (rows_below (n + leaf_count holds) rest)) (leaf_table table n holds)
      ∙ (below_table (with_labels table (leaf_labels holds)) (n + leaf_count holds) rest ∙ sym (with_append table (leaf_labels holds) (labels_below rest))))

  leaf_table : (table : List (List ℕ)) (n : ℕ) (holds : PlainLeaf) → row_labels table (leaf_rows n holds) ≡ with_labels table (leaf_labels holds)
  leaf_table table n (Holds scalar) = refl
  leaf_table table n (Child node) = node_table table n node
  leaf_table table n (Children nodes) = list_table table n nodes

  list_table : (table : List (List ℕ)) (n : ℕ) (nodes : PlainNodes) → row_labels table (list_rows n nodes) ≡ with_labels table (list_labels nodes)
  list_table table n NoNode = refl
  list_table table n (MoreNodes node rest) =
      rows_append table (rows_of n node) (list_rows (n + node_count node) rest)
      ∙ (ap (λ (t : List (List ℕ)). row_labels t (list_rows (n + node_count node) rest)) (node_table table n node)
      ∙ (list_table (with_labels table (node_labels node)) (n + node_count node) rest ∙ sym (with_append table (node_labels node) (list_labels rest))))
