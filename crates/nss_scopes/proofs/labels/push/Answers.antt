use Rattle.std.proofs.Common.{to_z, of_z, w32}
use Rattle.nss_scopes.proofs.CaseLemmas.{cases_more}
use Rattle.nss_scopes.proofs.labels.push.Goals as goal

pub returns-clause-kept : goal.returns-clause-kept
returns-clause-kept c =
    rw (c.in_ok-push.ensures.items, c.in_ok-reserve.ensures.items)
    (cases_more c.args.cases.now.items c.args.seen.now c.insert.new.self (to_z w32 (of_z w32 c.args.value)) c.requires.kept c.in_ok-insert.ensures.updates)
