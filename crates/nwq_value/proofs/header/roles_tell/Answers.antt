use Rattle.nwq_value.proofs.RowLemmas.{built_as_header, pure_as_header, header_as_role, world_is_callable, uncallable_is_barred}
use Rattle.nwq_value.proofs.header.roles_tell.Goals as goal

pub returns-clause-built : goal.returns-clause-built
returns-clause-built c = built_as_header

pub returns-clause-hooks : goal.returns-clause-hooks
returns-clause-hooks c = pure_as_header

pub returns-clause-rows : goal.returns-clause-rows
returns-clause-rows c = header_as_role

pub returns-clause-world : goal.returns-clause-world
returns-clause-world c = world_is_callable

pub returns-clause-uncallable : goal.returns-clause-uncallable
returns-clause-uncallable c = uncallable_is_barred
