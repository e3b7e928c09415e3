use Rattle.std.proofs.Common.{◌∙◌, ◌+◌, ap, arith}
use Rattle.nwq_value.specs.Engine.{routine_named, constant_named}
use Rattle.nwq_value.proofs.FoundLemmas.{kept_defined}
use Rattle.nwq_value.proofs.table.Table.define.Goals as goal

pub push_constant-requires : goal.push_constant-requires
push_constant-requires c = record {
  new = c.self.invariant.0.used c.args.name
      (ap (λ t. routine_named c.args.name t.routines) c.self.view_is ∙ c.requires.no_routine)
      (ap (λ t. constant_named c.args.name t.constants) c.self.view_is ∙ c.requires.no_constant);
  free = c.self.invariant.0.free_constant (c.len.result + c.len-2.result) (omega (arith, c.len.ensures.len, c.len-2.ensures.len));
}

pub invariant_of-self : goal.invariant_of-self
invariant_of-self c =
    kept_defined c.push_constant.result (c.len.result + c.len-2.result) c.self.inside.routines.entries c.self.inside.constants.entries
    c.push_constant.new.constants.entries (record { name = c.args.name; value = c.args.value }) c.self.inside.names c.push_constant.new.names
    (omega (arith, c.len.ensures.len, c.len-2.ensures.len)) c.self.invariant
    (ap (λ t. routine_named c.args.name t.routines) c.self.view_is ∙ c.requires.no_routine)
    (ap (λ t. constant_named c.args.name t.constants) c.self.view_is ∙ c.requires.no_constant) c.requires.value
    c.push_constant.ensures.entries c.push_constant.ensures.number c.push_constant.ensures.same_entries c.push_constant.ensures.same_names
