use Rattle.message_text.proofs.ShownLemmas.{both_shown}
use Rattle.message_text.proofs.shown.put_place.Goals as goal

pub returns : goal.returns
returns c =
    record {
      shows =
          both_shown c.put_caret.result c.args.bytes.now c.args.at c.window_of-window.result c.is_readable-text.result c.args.out.now.items
          c.put_line.new.out.items c.put_caret.new.out.items c.window_of-window.ensures.window c.is_readable-text.ensures.readable c.in_ok-put_line.ensures c.put_caret.ensures;
    }
