use Rattle.std.proofs.Common.{sym, ap, ◌∙◌}
use Rattle.plan_text.specs.Drafts.{plain_draft}
use Rattle.plan_text.proofs.LineLemmas.{headless_nothing, headless_other, faulty, has_plan, is_heading, is_other}
use Rattle.plan_text.proofs.reader.read_plan.Goals as goal

pub returns-in_default-clause-fault : goal.returns-in_default-clause-fault
returns-in_default-clause-fault c = headless_nothing c.args.bytes.now (ap (λ r. r.left) (sym c.of-lines.ensures.all) ∙ c.in_default.ensures.none)

pub returns-in_default-version_of-clause-fault : goal.returns-in_default-version_of-clause-fault
returns-in_default-version_of-clause-fault c =
    headless_other c.args.bytes.now c.in-Some.first.bytes.now _ (ap (λ r. r.left) (sym c.of-lines.ensures.all) ∙ c.in-Some.ensures.first)
    (is_other c.in-Some.first.bytes.now (sym (c.in_default-version_of.ensures {u = tt})))

pub returns-in-Err-clause-fault : goal.returns-in-Err-clause-fault
returns-in-Err-clause-fault c =
    let head = is_heading c.in-Some.first.bytes.now c.in-Some-version_of.version (sym (c.in-Some-version_of.ensures {u = tt}))
    in faulty c.in-Some-version_of.version c.args.bytes.now c.in-Some.first.bytes.now _ c.in-Err.fault
    (ap (λ r. r.left) (sym c.of-lines.ensures.all) ∙ c.in-Some.ensures.first) head.0 head.1 (c.in-Err.ensures {u = tt}).fault

pub returns-in-Ok-clause-plan : goal.returns-in-Ok-clause-plan
returns-in-Ok-clause-plan c =
    let head = is_heading c.in-Some.first.bytes.now c.in-Some-version_of.version (sym (c.in-Some-version_of.ensures {u = tt}))
    in has_plan c.in-Some-version_of.version c.args.bytes.now c.in-Some.first.bytes.now _ (plain_draft c.in-Ok.draft) c.plan.result
    (ap (λ r. r.left) (sym c.of-lines.ensures.all) ∙ c.in-Some.ensures.first) head.0 head.1 (c.in-Ok.ensures {u = tt}).plan c.plan.ensures
