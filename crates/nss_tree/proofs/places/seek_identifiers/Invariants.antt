use Rattle.std.proofs.Common.{◌≡◌, drop}
use Rattle.nss_tree.specs.Places.{places_each, places_identifier}
use Rattle.nss_tree.specs.Seeking.{sought}
use Rattle.nss_tree.proofs.places.seek_identifiers.Given as goal

-- what is left, from here, leads where the whole list leads
abbrev pub invariant-loop-name : goal.invariant-loop-name
invariant-loop-name l = sought (places_each (places_identifier) (drop l.name-index l.names)) l.seek ≡ sought (places_each (places_identifier) l.names) l.initial.seek
