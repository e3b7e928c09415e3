use Rattle.std.proofs.Common.{arith}
use Rattle.ncs_file.proofs.Scanning.{scan_ends}
use Rattle.ncs_file.proofs.scan.starts_of.Goals as goal

pub returns-clause-scanned : goal.returns-clause-scanned
returns-clause-scanned c = scan_ends c.spelling_laws.ensures.spelling c.size_laws.ensures.sizes _ _ c.loop-at.at _ c.loop-at.invariant (omega arith) c.requires.begun
