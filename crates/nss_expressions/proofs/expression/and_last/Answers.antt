use Rattle.std.proofs.Common.{◌∙◌, ap, Some}
use Rattle.typing_rules.specs.Reading.{plain_all}
use Rattle.nss_expressions.specs.ArgumentLaws.{pushed}
use Rattle.nss_expressions.proofs.expression.and_last.Goals as goal

pub returns-in_ok-push-in-Some-one : goal.returns-in_ok-push-in-Some-one
returns-in_ok-push-in-Some-one c =
    rw (c.in-Some.is, c.in-Some-one.is) (ap Some (ap plain_all c.in_ok-push-in-Some-one.ensures.ok ∙ pushed c.in-Some.all c.in-Some-one.one))
