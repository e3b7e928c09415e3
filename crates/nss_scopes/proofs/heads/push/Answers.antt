use Rattle.std.proofs.Common.{rules}
use Rattle.nss_scopes.proofs.EntryLemmas.{heads_more}
use Rattle.nss_scopes.proofs.heads.push.Goals as goal

pub returns-then-is_ok-clause-kept : goal.returns-then-is_ok-clause-kept
returns-then-is_ok-clause-kept c =
    rw c.in_ok-push.ensures.items
    (heads_more c.args.all.now.items c.args.places.now c.args.bodies.now c.push_names.new.places c.push_names.new.bodies c.args.head c.args.name c.args.other
    c.requires.kept c.requires.name c.requires.other (search rules) (search rules) (search rules))
