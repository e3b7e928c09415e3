use Rattle.std.proofs.Common.{arith}
use Rattle.message_notes.proofs.UnderLemmas.{lack_shown}
use Rattle.message_notes.proofs.notes.put_lack.Goals as goal

-- src/notes.rt:106:1
pub returns : goal.returns
returns c =
    record {
      shows =
          lack_shown c.put_note_at.result c.args.plan.name.now c.args.plan.bytes.now c.args.text.place c.args.text.bytes.now
          c.args.lack c.lack_at-field.result c.min-at.result c.sentence_of.result.now c.piece_of.result.now
          c.args.out.now.items c.put_note_at.new.out.items c.lack_at-field.ensures.under
          (omega (arith, c.saturating_add.ensures, c.min-at.ensures, c.requires.size)) c.put_note_at.ensures.shows;
    }
