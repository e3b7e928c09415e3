use Rattle.emission_laws.proofs.Typing.{switches_fit, first_values_call_engine}
use Rattle.emission_laws.proofs.laws.typed_units_fit.Goals as goal

pub returns : goal.returns
returns c = record { switches = switches_fit; values = first_values_call_engine }
