use Rattle.nwq_top.proofs.Sources.{one_fault}
use Rattle.nwq_top.proofs.word_laws.one_refusal_of_types.Goals as goal

pub returns : goal.returns
returns c = record { one = one_fault c.one_source.ensures.units c.one_least_fault.ensures.least }
