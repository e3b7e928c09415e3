use Rattle.std.proofs.Common.{◌∙◌, ap}
use Rattle.std.specs.Prelude.{codes}
use Rattle.nwq_value.specs.declared.value.Ty.TheVariants as ty
use Rattle.typing_rules.specs.Rules.{begins, when}
use Rattle.typing_rules.specs.Sight.{body_number}
use Rattle.nss_types.proofs.UnitLemmas.{none_begins, second_begins}
use Rattle.nss_types.proofs.entry.entry.Goals as goal

pub returns-in-Some-begins : goal.returns-in-Some-begins
returns-in-Some-begins c =
    second_begins (begins (codes "main") ty.Void c.args.heads.now) (begins (codes "StartingConditional") ty.Int c.args.heads.now) (body_number (codes "main") c.args.heads.now)
    (body_number (codes "StartingConditional") c.args.heads.now) c.in-Some-begins.number
    (c.in-None.ensures ∙ ap (λ x. when (begins x ty.Void c.args.heads.now) (body_number x c.args.heads.now)) c.as_slice.ensures)
    (c.in-Some-begins.ensures ∙ ap (λ x. when (begins x ty.Int c.args.heads.now) (body_number x c.args.heads.now)) c.as_slice-in-None.ensures)

pub returns-in-None-begins : goal.returns-in-None-begins
returns-in-None-begins c =
    none_begins (begins (codes "main") ty.Void c.args.heads.now) (begins (codes "StartingConditional") ty.Int c.args.heads.now) (body_number (codes "main") c.args.heads.now)
    (body_number (codes "StartingConditional") c.args.heads.now)
    (c.in-None.ensures ∙ ap (λ x. when (begins x ty.Void c.args.heads.now) (body_number x c.args.heads.now)) c.as_slice.ensures)
    (c.in-None-begins.ensures ∙ ap (λ x. when (begins x ty.Int c.args.heads.now) (body_number x c.args.heads.now)) c.as_slice-in-None.ensures)
