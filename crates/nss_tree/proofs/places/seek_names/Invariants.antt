use Rattle.std.proofs.Common.{◌≡◌, drop}
use Rattle.nss_tree.specs.Places.{places_each, places_declared}
use Rattle.nss_tree.specs.Reading.{plain_name}
use Rattle.nss_tree.specs.Seeking.{sought}
use Rattle.nss_tree.proofs.places.seek_names.Given as goal

-- what is left, from here, leads where the whole list leads
abbrev pub invariant-loop-name : goal.invariant-loop-name
invariant-loop-name l = sought (places_each (λ x. places_declared (plain_name x)) (drop l.name-index l.names)) l.seek
    ≡ sought (places_each (λ x. places_declared (plain_name x)) l.names) l.initial.seek
