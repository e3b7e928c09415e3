use Rattle.std.proofs.Common.{ap, sym, ◌∙◌}
use Rattle.nss_include.proofs.StepLemmas.{names, names_not}
use Rattle.nss_include.specs.Names.{is_include_name}
use Rattle.nss_include.proofs.step.named.Goals as goal

pub returns-then-is_name : goal.returns-then-is_name
returns-then-is_name c = names _ _ _ _ c.in_ok-name.ensures.value (ap is_include_name (sym c.bytes.ensures.same) ∙ sym c.is_name.ensures ∙ c.if-is_name.true)

pub returns-else-is_name : goal.returns-else-is_name
returns-else-is_name c = names_not _ _ _ _ c.in_ok-name.ensures.value (ap is_include_name (sym c.bytes.ensures.same) ∙ sym c.is_name.ensures ∙ c.if-is_name.false)
