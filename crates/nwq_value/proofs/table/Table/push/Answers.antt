use Rattle.std.proofs.Common.{◌∙◌, ◌<◌, ◌+◌, ap, sym, subst, length, arith}
use Rattle.nwq_value.specs.Engine.{routine_named, constant_named}
use Rattle.nwq_value.proofs.FoundLemmas.{kept_pushed}
use Rattle.nwq_value.proofs.table.Table.push.Goals as goal

pub push_routine-requires : goal.push_routine-requires
push_routine-requires c = record {
  new = c.self.invariant.0.used c.args.routine.name
      (ap (λ t. routine_named c.args.routine.name t.routines) c.self.view_is ∙ c.requires.no_routine)
      (ap (λ t. constant_named c.args.routine.name t.constants) c.self.view_is ∙ c.requires.no_constant);
  free = c.self.invariant.0.free_routine (c.len.result + c.len-2.result) (omega (arith, c.len.ensures.len, c.len-2.ensures.len));
}

pub invariant_of-self : goal.invariant_of-self
invariant_of-self c =
    kept_pushed c.push_routine.result (c.len.result + c.len-2.result) c.self.inside.routines.entries c.push_routine.new.routines.entries
    c.self.inside.constants.entries c.args.routine c.self.inside.names c.push_routine.new.names
    (omega (arith, c.len.ensures.len, c.len-2.ensures.len)) c.self.invariant
    (ap (λ t. routine_named c.args.routine.name t.routines) c.self.view_is ∙ c.requires.no_routine)
    (ap (λ t. constant_named c.args.routine.name t.constants) c.self.view_is ∙ c.requires.no_constant)
    (subst (λ t. length t.routines < 65535) (sym c.self.view_is) c.requires.room)
    (record { few = c.requires.few; result_type = c.requires.result_type; param_types = c.requires.param_types; role = c.requires.role })
    c.push_routine.ensures.entries c.push_routine.ensures.number c.push_routine.ensures.same_entries c.push_routine.ensures.same_names
