use Rattle.play_meaning.proofs.TypedScripts.{typed_scripts_are_ready}
use Rattle.play_meaning.proofs.laws.typed_scripts_are_ready.Goals as goal

pub returns : goal.returns
returns c = record { ready = typed_scripts_are_ready c.units_are_ready.ensures.ready }
