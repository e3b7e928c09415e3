use Rattle.command_generate.proofs.SummaryLemmas.{summary_is}
use Rattle.command_generate.proofs.summary.summary_of.Goals as goal

pub returns : goal.returns
returns c = record {
  text = λ p w ends told lines at.
      summary_is c.args.number p w c.args.played.now c.args.clock c.creatures_of-creatures.result c.rounds_of.result c.events_of-events.result c.args.trace.now
      c.put_made.new.out.items c.new-out.result.items c.put_end_line.new.out.items ends told
      (c.plays_tell_lines.ensures.counted p.last.trace lines) at c.creatures_of-creatures.ensures.count c.rounds_of.ensures.count
      c.events_of-events.ensures.count c.new-out.ensures.items c.in_ok-put_made.ensures.line c.in_ok-put_end_line.ensures.line;
}
