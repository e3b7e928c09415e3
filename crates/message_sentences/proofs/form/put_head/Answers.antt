use Rattle.message_sentences.proofs.FormLemmas.{head_shown}
use Rattle.message_sentences.proofs.form.put_head.Goals as goal

pub returns : goal.returns
returns c =
    record {
      shows = head_shown c.put_words.result c.args.name.now c.args.bytes.now c.args.at _ _ _ c.in_ok-put_spot.ensures.shows c.put_words.ensures.appends;
    }
