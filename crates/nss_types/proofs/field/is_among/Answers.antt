use Rattle.std.proofs.Common.{◌∙◌, ap, is_some}
use Rattle.nss_types.proofs.FieldRows.{among_is}
use Rattle.nss_types.proofs.field.is_among.Goals as goal

pub returns : goal.returns
returns c = c.is_some.ensures ∙ (ap is_some c.first.ensures.first ∙ among_is c.args.name.now c.args.names.now)
