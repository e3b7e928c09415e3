use Rattle.std.proofs.Common.{arith}
use Rattle.state_format.specs.Parts.{IsCell}
use Rattle.state_format.specs.Fields.{cell_fields}
use Rattle.state_parts.specs.World.{cell_of}
use Rattle.state_parts.specs.Told.{cell_part}
use Rattle.state_parts.specs.ShortTexts.{is_short_cell}
use Rattle.state_parts.specs.Keeping.{HoldsValue}
use Rattle.state_parts.specs.KeepingLemmas.{all_got}
use Rattle.state_parts.proofs.Keeping.{lent_none, lent_some, got_within}
use Rattle.state_parts.specs.PuttingLemmas.{put_none, put_got, put_end, parts_end}
use Rattle.state_parts.proofs.values.put_row.Goals as goal

pub loop-i-init : goal.loop-i-init
loop-i-init g c = put_none cell_of IsCell is_short_cell cell_fields cell_part c.args.cells.now (g.W.Writer.taken c.args.out.now)

pub loop-i-preserved : goal.loop-i-preserved
loop-i-preserved g c = put_got cell_of IsCell is_short_cell cell_fields cell_part c.args.cells.now
    (g.W.Writer.taken c.args.out.now) c.loop-i.i c.in-Some.held.now (g.W.Writer.taken c.loop-i.out)
    (g.W.Writer.taken c.put_cell.new.out)
    c.loop-i.invariant c.in_ok-put_cell-in-Some.ensures.put c.in_ok-put_cell-in-Some.ensures.part (lent_some c.args.cells.now c.loop-i.i c.get.result c.in-Some.held c.get.ensures.cell c.in-Some.is)

pub put_cell-requires : goal.put_cell-requires
put_cell-requires g c = record { holds = all_got HoldsValue c.args.cells.now c.loop-i.i c.in-Some.held.now c.requires.hold (lent_some c.args.cells.now c.loop-i.i c.get.result c.in-Some.held c.get.ensures.cell c.in-Some.is) }

pub unreachable-requires : goal.unreachable-requires
unreachable-requires g c =
    let past = got_within c.args.cells.now c.loop-i.i (lent_none c.args.cells.now c.loop-i.i c.get.result c.get.ensures.cell c.in-None.is) in
    omega (arith, past, c.loop-i-test.true, c.len-i-end.ensures.count)

pub returns : goal.returns
returns g c = record {
  put = put_end cell_of IsCell is_short_cell cell_fields cell_part c.args.cells.now
      (g.W.Writer.taken c.args.out.now) c.loop-i.i (g.W.Writer.taken c.loop-i.out) c.loop-i.invariant
      (omega (arith, c.loop-i-test.false, c.len-i-end.ensures.count));
  parts = parts_end cell_of IsCell is_short_cell cell_fields cell_part c.args.cells.now
      (g.W.Writer.taken c.args.out.now) c.loop-i.i (g.W.Writer.taken c.loop-i.out) c.loop-i.invariant
      (omega (arith, c.loop-i-test.false, c.len-i-end.ensures.count));
}
