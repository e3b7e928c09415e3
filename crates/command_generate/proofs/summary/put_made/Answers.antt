use Rattle.std.proofs.Common.{length}
use Rattle.trace_lines.specs.Lines.{newlines}
use Rattle.command_generate.proofs.SummaryLemmas.{line_is}
use Rattle.command_generate.proofs.summary.put_made.Goals as goal

pub returns : goal.returns
returns c = record {
  line = line_is c.args.creatures c.args.events (newlines c.args.trace.now) (length c.args.trace.now) _ _ _ c.args.out.now.items _ _ _ _ _ c.from.ensures c.from-2.ensures c.newlines_in.ensures.count
      c.in_ok-put_counted.ensures.text c.in_ok-put_counted-2.ensures.text c.in_ok-put_counted-3.ensures.text c.in_ok-put_counted-4.ensures.text
      c.in_ok-push.ensures.items;
}
