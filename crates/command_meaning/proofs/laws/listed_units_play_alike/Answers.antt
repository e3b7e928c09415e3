use Rattle.command_meaning.proofs.Playing.{listed_plays_end, listed_plays_stop, listed_texts_agree}
use Rattle.command_meaning.proofs.laws.listed_units_play_alike.Goals as goal

pub returns : goal.returns
returns c =
    let answers = c.tables_answer_in_types.ensures.typed in
    let ready = c.typed_scripts_are_ready.ensures.ready in
    record {
      end = listed_plays_end answers ready c.source_plays_end.ensures.end;
      stop = listed_plays_stop answers ready c.code_plays_end.ensures.end;
      texts = listed_texts_agree c.end_texts_agree.ensures.agree;
    }
