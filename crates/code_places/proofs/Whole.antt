-- The code of a whole unit has its marks.
use Rattle.std.proofs.Common.{◌≡◌, sym, subst, [], ◌++◌, drop, None, Some, ◌⊎◌, inl, inr, ◌+◌}
use Rattle.std.proofs.lemmas.List.{append-nil}
use Rattle.std.proofs.lemmas.Option.{same_Some}
use Rattle.typing_rules.specs.Typed.{TypedUnit}
use Rattle.emission_rules.specs.Layout.{layout_of}
use Rattle.emission_rules.specs.Units.{body_count, has_globals, start_labels, unit_code}
use Rattle.code_places.specs.Nodes.{nodes_items, unit_nodes}
use Rattle.code_places.specs.Marks.{unit_marks}
use Rattle.code_places.specs.Laws.{HasCode, OwnersHold, StandsIn}
use Rattle.code_places.proofs.Owned as owned
use Rattle.code_places.proofs.Owned.{Marked}
use Rattle.code_places.proofs.Owners.{From, functions_marked, start_marked}

pub unit_marked : (u : TypedUnit) → Marked (HasCode (layout_of u) (unit_nodes u)) None (unit_code u).lines (unit_marks u)
unit_marked u =
    owned.both (HasCode (layout_of u) (unit_nodes u)) (start_marked (layout_of u) (unit_nodes u) (body_count u.items) (has_globals u.items) u.items u.entry [] whole)
    (functions_marked (layout_of u) (unit_nodes u) (body_count u.items + start_labels (has_globals u.items) u.items) 0 (Some 0) u.items [] whole)
  where
    whole : From (unit_nodes u) (Some 0) (nodes_items u.items ++ [])
    whole = record { is = λ j e. subst (λ m. drop m (unit_nodes u) ≡ nodes_items u.items ++ []) (same_Some 0 j e) (sym (append-nil (nodes_items u.items))) }

pub owners_hold : OwnersHold
owners_hold u i j h = on ((unit_marked u).owners i j h)
  where
    on : (None ≡ Some j) ⊎ StandsIn (HasCode (layout_of u) (unit_nodes u)) (unit_code u).lines i j
        → StandsIn (HasCode (layout_of u) (unit_nodes u)) (unit_code u).lines i j
    on (inl e) = absurd cc
    on (inr r) = r
