use Rattle.ncs_file.proofs.OneFault.{no_fault_in_code, one_fault}
use Rattle.ncs_file.proofs.laws.one_fault.Goals as goal

pub returns-clause-one : goal.returns-clause-one
returns-clause-one c = one_fault c.spelling_laws.ensures.spelling c.size_laws.ensures.sizes c.one_first_bad.ensures.one

pub returns-clause-none : goal.returns-clause-none
returns-clause-none c = no_fault_in_code c.spelling_laws.ensures.spelling c.size_laws.ensures.sizes c.place_laws.ensures.places
