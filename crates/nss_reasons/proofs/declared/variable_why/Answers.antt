use Rattle.std.proofs.Common.{◌∙◌, ap}
use Rattle.std.specs.Option.{option_map}
use Rattle.nss_tree.specs.Reading.{plain_name}
use Rattle.typing_rules.specs.Reading.{plain}
use Rattle.nss_scopes.specs.Views.{in_sight}
use Rattle.nss_reasons.specs.Why.{declared_why}
use Rattle.nss_reasons.proofs.JudgedNames.{variable_is}
use Rattle.nss_reasons.proofs.declared.variable_why.Goals as goal

pub returns-in-Some-value : goal.returns-in-Some-value
returns-in-Some-value c =
    let s = in_sight c.args.table.now c.args.c.now in
    rw (c.in-Some.is, c.in-Some-value.is)
    (c.declared_why.ensures ∙ (ap (declared_why s c.args.name.now.name c.in-Some.ty) c.type_there.ensures.ty
    ∙ variable_is s (plain_name c.args.name.now) c.in-Some.ty (option_map plain c.in-Some-value.value)))
