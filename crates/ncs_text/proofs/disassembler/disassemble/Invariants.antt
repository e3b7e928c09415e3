use Rattle.std.proofs.Common.{◌-◌}
use Rattle.ncs_code.specs.File.{file_length}
use Rattle.ncs_text.proofs.Listings.{Listed}
use Rattle.ncs_text.proofs.disassembler.disassemble.Given as goal

abbrev pub invariant-loop-op : goal.invariant-loop-op
invariant-loop-op l = Listed l.code l.text.items l.at

abbrev pub decreases-loop-op : goal.decreases-loop-op
decreases-loop-op l = file_length l.code - l.at
