use Rattle.std.proofs.Common.{◌≡◌, drop}
use Rattle.nss_reasons.specs.Reasons.{fields_nodes}
use Rattle.expression_reasons.specs.Seen.{seen}
use Rattle.nss_reasons.proofs.line.fields.Given as goal

abbrev pub invariant-loop-l : goal.invariant-loop-l
invariant-loop-l l = seen l.k l.found (fields_nodes l.structs (drop l.l-index l.ls)) ≡ seen l.k l.initial.found (fields_nodes l.structs l.ls)
