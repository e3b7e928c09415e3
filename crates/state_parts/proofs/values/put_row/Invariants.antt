use Rattle.state_format.specs.Parts.{IsCell}
use Rattle.state_format.specs.Fields.{cell_fields}
use Rattle.state_parts.specs.World.{cell_of}
use Rattle.state_parts.specs.Told.{cell_part}
use Rattle.state_parts.specs.ShortTexts.{is_short_cell}
use Rattle.state_parts.specs.PuttingLemmas.{ArePut}
use Rattle.state_parts.proofs.values.put_row.Given as goal

abbrev pub invariant-loop-i : goal.invariant-loop-i
invariant-loop-i g l = ArePut cell_of IsCell is_short_cell cell_fields cell_part l.cells (g.W.Writer.taken l.fn.out) l.i (g.W.Writer.taken l.out)
