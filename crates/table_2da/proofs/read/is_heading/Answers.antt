use Rattle.table_2da.proofs.TableLemmas.{heading_by, no_heading}
use Rattle.table_2da.proofs.read.is_heading.Goals as goal

pub returns-in-Some : goal.returns-in-Some
returns-in-Some c = record {
  heading = heading_by c.args.line.now c.in-Some.rest.now c.are_blanks.result c.in-Some.ensures.rest c.are_blanks.ensures.blanks;
}

pub returns-in-None : goal.returns-in-None
returns-in-None c = record { heading = no_heading c.args.line.now c.in-None.ensures.rest }
