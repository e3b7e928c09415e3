use Rattle.table_2da.proofs.FrontLemmas.{nothing_there}
use Rattle.table_2da.proofs.words.front_of.Goals as goal

pub returns-in-None : goal.returns-in-None
returns-in-None c = record {
  front = nothing_there c.args.line.now c.behind_blanks-rest.result.now c.behind_blanks-rest.ensures.rest c.in-None.ensures.cases;
}
