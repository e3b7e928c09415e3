use Rattle.message_sentences.proofs.FormLemmas.{note_shown}
use Rattle.message_sentences.proofs.form.put_note.Goals as goal

pub returns : goal.returns
returns c =
    record {
      shows =
          note_shown c.put_note_text.result c.args.name.now c.args.sentence.now c.args.piece.now _ _ _ c.in_ok-put_name.ensures.shows
          c.put_note_text.ensures.appends;
    }
