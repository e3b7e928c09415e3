use Rattle.state_format.specs.Parts.{IsEntry}
use Rattle.state_format.specs.Fields.{entry_fields}
use Rattle.state_parts.specs.World.{entry_of}
use Rattle.state_parts.specs.Told.{entry_part}
use Rattle.state_parts.specs.ShortTexts.{is_short_entry}
use Rattle.state_parts.specs.PuttingLemmas.{ArePut}
use Rattle.state_parts.proofs.agenda.put_row.Given as goal

abbrev pub invariant-loop-entry : goal.invariant-loop-entry
invariant-loop-entry g l = ArePut entry_of IsEntry is_short_entry entry_fields entry_part l.entries (g.W.Writer.taken l.fn.out) l.entry-index (g.W.Writer.taken l.out)
