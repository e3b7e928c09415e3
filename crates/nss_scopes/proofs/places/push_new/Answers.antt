use Rattle.nss_scopes.proofs.PlaceLemmas.{first_new}
use Rattle.nss_scopes.proofs.places.push_new.Goals as goal

pub returns-clause-index : goal.returns-clause-index
returns-clause-index c =
    rw (c.in_ok-push.ensures.items, c.in_ok-reserve.ensures.items)
    (first_new c.args.names.now.items c.args.name c.args.first.now c.set.new.self c.requires.index c.requires.new
    (λ x. let put = c.in_ok-set.ensures.ok x in let own = c.bytes.ensures.same in let len = c.len.ensures in let same = c.in_ok-reserve.ensures.items in cc))
