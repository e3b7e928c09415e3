use Rattle.world_core.proofs.AnswerLemmas.{answers_typed}
use Rattle.world_core.proofs.laws.answers_have_types.Goals as goal

pub returns : goal.returns
returns g c = record { typed = answers_typed c.roles_tell.ensures.built c.roles_tell.ensures.hooks c.roles_tell.ensures.world }
