use Rattle.message_sentences.proofs.FormLemmas.{note_at_shown}
use Rattle.message_sentences.proofs.form.put_note_at.Goals as goal

pub returns : goal.returns
returns c =
    record {
      shows =
          note_at_shown c.put_place.result c.args.name.now c.args.bytes.now c.args.at c.args.sentence.now c.args.piece.now _ _ _ _
          c.in_ok-put_spot.ensures.shows c.in_ok-put_note_text.ensures.appends c.put_place.ensures.shows;
    }
