use Rattle.std.proofs.Common.{◌≡◌, drop}
use Rattle.nss_tree.specs.Places.{places_each, places_parameter}
use Rattle.nss_tree.specs.Seeking.{sought}
use Rattle.nss_tree.proofs.places.seek_parameters.Given as goal

-- what is left, from here, leads where the whole list leads
abbrev pub invariant-loop-parameter : goal.invariant-loop-parameter
invariant-loop-parameter l = sought (places_each (places_parameter) (drop l.parameter-index l.parameters)) l.seek ≡ sought (places_each (places_parameter) l.parameters) l.initial.seek
