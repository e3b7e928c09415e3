use Rattle.ncs_text.proofs.Answering.{one_answer}
use Rattle.ncs_text.proofs.laws.one_answer.Goals as goal

pub returns : goal.returns
returns c = record { one = one_answer c.spelling_laws.ensures.spelling c.size_laws.ensures.sizes c.place_laws.ensures.places c.one_name.ensures.code }
