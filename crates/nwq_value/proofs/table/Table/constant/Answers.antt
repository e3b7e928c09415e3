use Rattle.std.proofs.Common.{◌∙◌, ap, subst}
use Rattle.std.specs.Option.{option_and_then}
use Rattle.nwq_value.specs.Engine.{constant_named, IsTable}
use Rattle.nwq_value.specs.Entries.{constant_under}
use Rattle.nwq_value.specs.TableLemmas.{lent_apart}
use Rattle.nwq_value.proofs.table.Table.constant.Goals as goal

pub returns-in-Some-clause-value : goal.returns-in-Some-clause-value
returns-in-Some-clause-value c =
    c.value_of.ensures ∙ ap (option_and_then (constant_under c.self.inside.constants.entries)) c.in-Some.ensures.number
    ∙ c.self.invariant.0.constant c.args.name.now ∙ ap (λ t. constant_named c.args.name.now t.constants) c.self.view_is

pub returns-in-Some-clause-apart : goal.returns-in-Some-clause-apart
returns-in-Some-clause-apart c =
    lent_apart c.value_of.result c.args.name.now c.args.self.now (subst IsTable c.self.view_is c.self.invariant.1) (returns-in-Some-clause-value c)
