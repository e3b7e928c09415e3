use Rattle.engine_table.proofs.TokenLemmas.{SomeSplit, some_answer}
use Rattle.engine_table.proofs.Whole.{OneSplit, one_header}
use Rattle.engine_table.proofs.laws.one_header.Goals as goal

pub returns : goal.returns
returns c =
    let one : OneSplit = c.one_split.ensures.one in
    let some : SomeSplit = c.some_split.ensures.some in
    record { one = one_header one (some_answer some) }
