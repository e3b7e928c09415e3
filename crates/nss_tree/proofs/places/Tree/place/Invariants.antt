use Rattle.std.proofs.Common.{◌≡◌, drop}
use Rattle.nss_tree.specs.Places.{places_each, places_item}
use Rattle.nss_tree.specs.Reading.{plain_item}
use Rattle.nss_tree.specs.Seeking.{sought}
use Rattle.nss_tree.proofs.places.Tree.place.Given as goal

-- what is left, from here, leads where the whole list leads
abbrev pub invariant-loop-item : goal.invariant-loop-item
invariant-loop-item l = sought (places_each (λ x. places_item (plain_item x)) (drop l.item-index l.item-items)) l.seek
    ≡ sought (places_each (λ x. places_item (plain_item x)) l.item-items) l.initial.seek
