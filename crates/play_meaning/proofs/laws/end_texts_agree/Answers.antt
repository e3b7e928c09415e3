use Rattle.play_meaning.proofs.EndTexts.{end_texts_agree}
use Rattle.play_meaning.proofs.laws.end_texts_agree.Goals as goal

pub returns : goal.returns
returns c = record { agree = end_texts_agree }
