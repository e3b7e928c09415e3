use Rattle.std.proofs.Common.{sym, subst, ap, ◌∙◌, ◌≡◌, ◌<◌, length, false}
use Rattle.plan_text.specs.Drafts.{plain_draft}
use Rattle.plan_text.specs.Plans.{is_listed}
use Rattle.plan_text.proofs.PlannedLemmas.{listed}
use Rattle.plan_text.proofs.draft.Draft.take_script.Goals as goal

pub returns : goal.returns
returns c =
    let fresh : is_listed c.args.name.now c.args.self.now.scripts ≡ false
    = ap (is_listed c.args.name.now) (sym c.as_slice.ensures.items) ∙ sym (c.if-is_listed.ensures {u = tt})
    in let room : length c.args.self.now.scripts < 256 = subst (λ n. n < 256) c.len.ensures.len c.if-len-ge-MOST_SCRIPTS.false
    in listed (plain_draft c.args.self.now) _ c.args.name.now c.in_ok-name.name c.args.binary (sym (c.if-not-is_script_name.ensures.test)) fresh room
    c.in_ok-name.ensures.ok (ap (λ xs. record (plain_draft c.args.self.now) { scripts = xs }) (c.in_ok-push.ensures {u = tt}).ok)
