use Rattle.message_remarks.proofs.Shown.{spot_shown}
use Rattle.message_remarks.proofs.there.put_spot.Goals as goal

pub returns : goal.returns
returns c =
    record {
      shows =
          spot_shown c.put_count.result c.args.name.now c.args.bytes.now c.args.at c.column.result _ _ _ _ _ _ c.in_ok-put_name.ensures.shows
          c.in_ok-put_words.ensures.appends c.in_ok-put_line_number.ensures c.in_ok-put_words-2.ensures.appends c.column.ensures.column c.put_count.ensures.ok;
    }
