use Rattle.message_sentences.proofs.FormLemmas.{end_shown}
use Rattle.message_sentences.proofs.form.put_end.Goals as goal

pub returns : goal.returns
returns c =
    record {
      shows = end_shown c.put_place.result c.args.kind.now c.args.bytes.now c.args.at _ _ _ c.in_ok-put_kind.ensures.appends c.put_place.ensures.shows;
    }
