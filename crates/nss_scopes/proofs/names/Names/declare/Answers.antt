use Rattle.nss_scopes.proofs.NameLemmas.{has_last_more}
use Rattle.nss_scopes.proofs.names.Names.declare.Goals as goal

pub invariant_of-self-in-Ok : goal.invariant_of-self-in-Ok
invariant_of-self-in-Ok c =
    let own = c.bytes.ensures.same in
    rw (c.in_ok-push-in-Ok.ensures.items, c.in-Ok.ensures.same)
    (has_last_more c.self.inside.slots.items (record { entry = record { called = c.args.called; means = c.args.means }; hidden = c.in-Ok.hidden })
    c.self.inside.last c.note.new.last c.self.invariant (let hidden = c.in-Ok.ensures.hidden in cc) (λ x. let put = c.in-Ok.ensures.put x in cc))
