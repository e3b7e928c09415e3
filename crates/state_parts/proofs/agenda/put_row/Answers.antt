use Rattle.std.proofs.Common.{arith}
use Rattle.saved_state.specs.declared.saved.Saved.{Saved}
use Rattle.delay_agenda.specs.declared.entry.Entry.{Entry}
use Rattle.state_format.specs.Parts.{IsEntry}
use Rattle.state_format.specs.Fields.{entry_fields}
use Rattle.state_parts.specs.World.{entry_of}
use Rattle.state_parts.specs.Told.{entry_part}
use Rattle.state_parts.specs.ShortTexts.{is_short_entry}
use Rattle.state_parts.specs.Keeping.{KindHasValues}
use Rattle.state_parts.specs.KeepingLemmas.{all_got}
use Rattle.state_parts.specs.PuttingLemmas.{asked, put_none, put_got, put_end, parts_end}
use Rattle.state_parts.proofs.agenda.put_row.Goals as goal

pub loop-entry-init : goal.loop-entry-init
loop-entry-init g c = put_none entry_of IsEntry is_short_entry entry_fields entry_part c.args.entries.now (g.W.Writer.taken c.args.out.now)

pub loop-entry-preserved : goal.loop-entry-preserved
loop-entry-preserved g c = put_got entry_of IsEntry is_short_entry entry_fields entry_part c.args.entries.now
    (g.W.Writer.taken c.args.out.now) c.loop-entry.entry-index c.entry-item.result (g.W.Writer.taken c.loop-entry.out)
    (g.W.Writer.taken c.put_entry.new.out) c.loop-entry.invariant c.in_ok-put_entry.ensures.put c.in_ok-put_entry.ensures.part
    (asked c.args.entries.now c.loop-entry.entry-index c.entry-item.result c.loop-entry-test.true c.entry-item.is)

pub put_entry-requires : goal.put_entry-requires
put_entry-requires g c = record {
  values = all_got (λ (e : Entry Saved). KindHasValues e.kind) c.args.entries.now c.loop-entry.entry-index c.entry-item.result c.requires.values
      (asked c.args.entries.now c.loop-entry.entry-index c.entry-item.result c.loop-entry-test.true c.entry-item.is);
}

pub returns : goal.returns
returns g c = record {
  put = put_end entry_of IsEntry is_short_entry entry_fields entry_part c.args.entries.now
      (g.W.Writer.taken c.args.out.now) c.loop-entry.entry-index
      (g.W.Writer.taken c.loop-entry.out) c.loop-entry.invariant c.loop-entry-test.false;
  parts = parts_end entry_of IsEntry is_short_entry entry_fields entry_part c.args.entries.now
      (g.W.Writer.taken c.args.out.now) c.loop-entry.entry-index
      (g.W.Writer.taken c.loop-entry.out) c.loop-entry.invariant c.loop-entry-test.false;
}
