use Rattle.std.proofs.Common.{◌++◌, drop, length}
use Rattle.ncs_code.specs.File.{spellings}
use Rattle.ncs_emit.specs.Labelled.{program}
use Rattle.ncs_emit.specs.Emitting.{lines_of}
use Rattle.ncs_emit.proofs.Putting.{PutSoFar}
use Rattle.ncs_emit.proofs.finishing.put_lines.Given as goal

abbrev pub invariant-loop-line : goal.invariant-loop-line
invariant-loop-line l =
    PutSoFar (l.fn.file.items ++ spellings (program (lines_of l.bytes l.kept))) (lines_of l.bytes l.kept) (length l.places) l.size l.file.items l.rest (drop l.line-index l.kept)
