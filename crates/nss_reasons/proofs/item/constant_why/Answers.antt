use Rattle.std.proofs.Common.{◌∙◌, ap, false}
use Rattle.typing_rules.specs.Sight.{is_taken}
use Rattle.typing_rules.specs.Types.{same_type}
use Rattle.nss_scopes.specs.Views.{in_sight}
use Rattle.expression_reasons.specs.declared.reason.Reason.TheVariants.{Value}
use Rattle.nss_reasons.specs.Why.{declared_by}
use Rattle.nss_reasons.proofs.JudgedNames.{constant_is}
use Rattle.nss_reasons.proofs.item.constant_why.Goals as goal

pub returns-in-Some-value : goal.returns-in-Some-value
returns-in-Some-value c =
    let s = in_sight c.args.table.now c.args.c.now in
    let t = c.in-Some.ty in
    let given = c.ty-given.result in
    rw (c.in-Some.is, c.in-Some-value.is)
    (c.constant_by.ensures
    ∙ (ap (λ b. declared_by b (same_type t given) false (Value given t)) c.is_taken.ensures.taken
    ∙ (ap (λ g. declared_by (is_taken s c.args.name.now) (same_type t g) false (Value g t)) c.ty-given.ensures.ty
    ∙ constant_is s c.args.name.now t c.in-Some-value.value)))
