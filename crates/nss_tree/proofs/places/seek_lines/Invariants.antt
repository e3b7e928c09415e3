use Rattle.std.proofs.Common.{◌≡◌, drop}
use Rattle.nss_tree.specs.Places.{places_each, places_line}
use Rattle.nss_tree.specs.Seeking.{sought}
use Rattle.nss_tree.proofs.places.seek_lines.Given as goal

-- what is left, from here, leads where the whole list leads
abbrev pub invariant-loop-line : goal.invariant-loop-line
invariant-loop-line l = sought (places_each (places_line) (drop l.line-index l.lines)) l.seek ≡ sought (places_each (places_line) l.lines) l.initial.seek
