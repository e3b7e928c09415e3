use Rattle.emission_rules.specs.Units.{unit_code}
use Rattle.emission_rules.proofs.laws.file_is_code.Goals as goal

pub returns : goal.returns
returns c = record {
  code = λ u bounded small.
      let whole = c.code_is_whole.ensures.whole u bounded in
      c.finished_is_code.ensures.code (unit_code u).labels (unit_code u).lines whole.fits whole.leads whole.closes small;
}
