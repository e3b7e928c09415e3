-- No two variables of a tree's object have one type and name, where the tree breaks no rule.
use Rattle.std.proofs.Common.{◌≡◌, ◌+◌, ℕ, Bool, true, false, cond, List, [], ◌∷◌, ◌++◌, map, Option, None, Some, refl, sym, subst, append_assoc}
use Rattle.std.specs.Prelude.{codes}
use Rattle.std.specs.List.{list_any, IsDistinct, AllByRecursion}
use Rattle.std.specs.Cmp.{IsEquivalence}
use Rattle.std.proofs.lemmas.List.{append-nil}
use Rattle.std.proofs.lemmas.Map.Keys.{IsDistinct-push}
use Rattle.gff_tree.specs.Tree.{PlainNode, PlainLeaf, PlainField, Holds, Child, Children, nodes_in}
use Rattle.gff_tree.specs.Fields.{fields_of, found}
use Rattle.local_variables.specs.Variables.{Variable, same_variable}
use Rattle.area_rules.specs.Objects.{AreaObject, Entry, Broken, Unread, Tells, entry_of, with_entry, variables_in, structs_in, object_of, list_labels, objects_under, objects_of}
use Rattle.area_rules.specs.Broken.{Place, at_entry, entry_places, with_later, entries_places, tag_places, table_places, member_places, members_places, list_places, lists_places, broken_places}
use Rattle.area_rules.specs.Area.{HaveDistinct}

none_parts : {X : Type 0} (xs ys : List X) → xs ++ ys ≡ [] → (xs ≡ []) × (ys ≡ [])
none_parts [] ys e = (refl, e)
none_parts (x ∷ xs) ys e = absurd cc

entry_apart : (place : Place) (earlier : List Variable) (v : Variable) → entry_places place earlier (Tells v) ≡ [] → list_any (same_variable v) earlier ≡ false
entry_apart place earlier v e = by_test (list_any (same_variable v) earlier) e
  where
    by_test : (b : Bool) → cond b (place ∷ []) [] ≡ [] → b ≡ false
    by_test true h = absurd cc
    by_test false h = refl

later_more : (earlier rest : List Variable) (place : Place) (entry : Entry) → entry_places place earlier entry ≡ [] → with_later earlier entry ++ rest ≡ earlier ++ with_entry entry rest
later_more earlier rest place Broken e = absurd cc
later_more earlier rest place Unread e = refl
later_more earlier rest place (Tells v) e = append_assoc earlier (v ∷ []) rest

all_both : (P : AreaObject → Type 0) (xs ys : List AreaObject) → AllByRecursion P xs → AllByRecursion P ys → AllByRecursion P (xs ++ ys)
all_both P [] ys p q = q
all_both P (x ∷ xs) ys p q = (p.0, all_both P xs ys p.1 q)

module _ (same : IsEquivalence same_variable) where
  later_distinct : (place : Place) (earlier : List Variable) (entry : Entry) → entry_places place earlier entry ≡ []
      → IsDistinct same_variable earlier → IsDistinct same_variable (with_later earlier entry)
  later_distinct place earlier Broken e d = absurd cc
  later_distinct place earlier Unread e d = d
  later_distinct place earlier (Tells v) e d = IsDistinct-push same earlier v d (entry_apart place earlier v e)

  entries_distinct : (n m e : ℕ) (earlier : List Variable) (entries : List PlainNode)
      → entries_places n m e earlier entries ≡ [] → IsDistinct same_variable earlier
      → IsDistinct same_variable (earlier ++ variables_in entries)
  entries_distinct n m e earlier [] none d = subst (IsDistinct same_variable) (sym (append-nil earlier)) d
  entries_distinct n m e earlier (entry ∷ entries) none d =
      let place = at_entry n m e in
      let parts = none_parts (entry_places place earlier (entry_of entry)) (entries_places n m (e + 1) (with_later earlier (entry_of entry)) entries) none in
      subst (IsDistinct same_variable) (later_more earlier (variables_in entries) place (entry_of entry) parts.0)
      (entries_distinct n m (e + 1) (with_later earlier (entry_of entry)) entries parts.1 (later_distinct place earlier (entry_of entry) parts.0 d))

  pub table_distinct : (n m : ℕ) (table : Option PlainLeaf) → table_places n m table ≡ [] → IsDistinct same_variable (variables_in (structs_in table))
  unfolding IsDistinct
  table_distinct n m None none = tt
  table_distinct n m (Some (Holds scalar)) none = tt
  table_distinct n m (Some (Child node)) none = tt
  table_distinct n m (Some (Children entries)) none = entries_distinct n m 1 [] (nodes_in entries) none tt

  member_distinct : (n m : ℕ) (node : PlainNode) → member_places n m node ≡ [] → IsDistinct same_variable (object_of node).vars
  member_distinct n m node none =
      table_distinct n m (found (codes "VarTable") (fields_of node))
      (none_parts (tag_places n m (found (codes "Tag") (fields_of node)))
      (table_places n m (found (codes "VarTable") (fields_of node))) none).1

  members_distinct : (n m : ℕ) (nodes : List PlainNode) → members_places n m nodes ≡ [] → HaveDistinct (map object_of nodes)
  members_distinct n m [] none = tt
  members_distinct n m (node ∷ nodes) none =
      let parts = none_parts (member_places n m node) (members_places n (m + 1) nodes) none in
      (member_distinct n m node parts.0, members_distinct n (m + 1) nodes parts.1)

  list_distinct : (n : ℕ) (leaf : Option PlainLeaf) → list_places n leaf ≡ [] → HaveDistinct (map object_of (structs_in leaf))
  list_distinct n None none = tt
  list_distinct n (Some (Holds scalar)) none = tt
  list_distinct n (Some (Child node)) none = tt
  list_distinct n (Some (Children nodes)) none = members_distinct n 1 (nodes_in nodes) none

  lists_distinct : (n : ℕ) (labels : List (List ℕ)) (fields : List PlainField) → lists_places n labels fields ≡ [] → HaveDistinct (objects_under labels fields)
  lists_distinct n [] fields none = tt
  lists_distinct n (label ∷ labels) fields none =
      let parts = none_parts (list_places n (found label fields)) (lists_places (n + 1) labels fields) none in
      all_both (λ object. IsDistinct same_variable object.vars) (map object_of (structs_in (found label fields)))
      (objects_under labels fields) (list_distinct n (found label fields) parts.0)
      (lists_distinct (n + 1) labels fields parts.1)

  pub objects_distinct : (top : PlainNode) → broken_places top ≡ [] → HaveDistinct (objects_of top)
  objects_distinct top none = lists_distinct 0 list_labels (fields_of top) none
