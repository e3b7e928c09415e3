use Rattle.std.proofs.Common.{None, Some, map, refl, subst}
use Rattle.nwq_value.specs.Index.{entry, number_under, Puts}
use Rattle.nwq_value.specs.declared.index.Numbered.{Numbered}
use Rattle.nwq_value.proofs.HashLemmas.{puts_in, same_puts, taken_out, where_none, where_some}
use Rattle.nwq_value.proofs.IndexLemmas.{puts}
use Rattle.nwq_value.proofs.index.NameIndex.set.Goals as goal

pub returns-in-None-clause-ok : goal.returns-in-None-clause-ok
returns-in-None-clause-ok c =
    let own = c.self.inside in
    let name = c.args.name.now in
    puts_in name (Some c.args.number) (number_under name (map entry own.others.entries)) (Some c.args.number)
    own.first c.put_first.new.first own.others own.others c.args.self.now c.self.view_is c.self.invariant
    (where_none _ _ c.in_ok-put_first.field-0 c.in-None.is c.in_ok-put_first.ensures.ok)
    (same_puts name (map entry own.others.entries)) refl

pub returns-in_ok-insert-in-Some-clause-ok : goal.returns-in_ok-insert-in-Some-clause-ok
returns-in_ok-insert-in-Some-clause-ok c =
    let own = c.self.inside in
    let name = c.args.name.now in
    let more = map entry c.insert.new.self.entries in
    let back = where_some _ _ c.in_ok-put_first.field-0 c.in-Some.back c.in-Some.is c.in_ok-put_first.ensures.ok in
    puts_in name None (Some c.args.number) (Some c.args.number) own.first c.put_first.new.first own.others c.insert.new.self c.args.self.now
    c.self.view_is c.self.invariant (taken_out name own.first c.put_first.new.first c.self.invariant back.1)
    (subst (λ k. Puts k (Some c.args.number) (map entry own.others.entries) more) c.in_ok-key.ensures.items
    (subst (λ (n : Numbered). Puts n.name.items (Some n.number) (map entry own.others.entries) more) back.0
    (puts c.in-Some.back.name.items own.others c.insert.new.self (Some c.in-Some.back.number) c.in_ok-insert-in-Some.ensures.updates))) refl
