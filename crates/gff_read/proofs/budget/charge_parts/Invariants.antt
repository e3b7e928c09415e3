use Rattle.std.proofs.Common.{◌≡◌, ◌+◌, drop}
use Rattle.gff_read.specs.Charge.{parts_charge}
use Rattle.gff_read.proofs.budget.charge_parts.Given as goal

abbrev pub invariant-loop-part : goal.invariant-loop-part
invariant-loop-part l = l.fn.left + parts_charge (drop l.part-index l.part-items) ≡ l.left + parts_charge l.part-items
