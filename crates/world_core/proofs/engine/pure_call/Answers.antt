use Rattle.std.proofs.Common.{◌≡◌, sym}
use Rattle.hook_table.specs.Standard.{types_of_values, IsAnswer}
use Rattle.world_core.proofs.EngineLemmas.{served, inside, of_some, for_some}
use Rattle.world_core.proofs.engine.pure_call.Goals as goal

pub call-requires-clause-hook : goal.call-requires-clause-hook
call-requires-clause-hook g c =
    let s = served c.args.hooks.now.all.items
    (λ h. h.known) c.args.k c.args.routine.now c.args.args.now c.roles_tell.ensures.hooks c.standard_hooks_serve.ensures.serve c.requires.hooks c.requires.routine c.requires.role c.requires.types in
    inside c.args.hooks.now.all.items c.args.k s.hook s.there

pub call-requires-clause-types : goal.call-requires-clause-types
call-requires-clause-types g c =
    let s = served c.args.hooks.now.all.items
    (λ h. h.known) c.args.k c.args.routine.now c.args.args.now c.roles_tell.ensures.hooks c.standard_hooks_serve.ensures.serve c.requires.hooks c.requires.routine c.requires.role c.requires.types in
    λ h is. for_some (λ x. types_of_values c.args.args.now ≡ x.known.params) _ s.hook h s.there is s.types

pub returns-in-Ok : goal.returns-in-Ok
returns-in-Ok g c =
    let s = served c.args.hooks.now.all.items
    (λ h. h.known) c.args.k c.args.routine.now c.args.args.now c.roles_tell.ensures.hooks c.standard_hooks_serve.ensures.serve c.requires.hooks c.requires.routine c.requires.role c.requires.types in
    record { value = sym (s.answers c.in-Ok.value (of_some (λ x. IsAnswer x.known.tables x.known.name x.known.result c.args.args.now c.in-Ok.value) _ s.hook s.there c.in-Ok.ensures.answer)) }
