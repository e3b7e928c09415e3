use Rattle.std.proofs.Common.{◌<◌, ◌++◌, length, drop, option_to_list, arith, add-one, sym, ap, ◌∙◌}
use Rattle.std.specs.Vec.Iter.{into_iter_items}
use Rattle.area_back.proofs.BackLemmas.{next_of, members_turn, members_done}
use Rattle.area_back.proofs.back.put_members.Goals as goal

pub loop-i-preserved : goal.loop-i-preserved
loop-i-preserved c =
    let whole = into_iter_items c.args.objects.now in
    let after = into_iter_items c.next.new.self in
    let next = next_of whole c.loop-i.i c.in-Some.object after (sym c.loop-i.invariant.rest ∙ (c.next.ensures.items ∙ ap (λ r. option_to_list r ++ after) c.in-Some.is)) in
    let in_first : c.loop-i.i < length c.args.nodes.now.items = omega (arith, c.loop-i-test.true, c.len-i-end.ensures, c.args.nodes.now.ok.0) in
    record {
      members =
          members_turn whole c.args.nodes.now.items c.loop-i.nodes.items c.loop-i.i c.in-Some.object c.index_mut.result.now c.put_object.new.node next.inside in_first next.at
          c.loop-i.invariant.members (omega (arith, in_first, c.loop-i.invariant.long, c.args.nodes.now.ok.0, c.loop-i.nodes.ok.0)) c.index_mut.ensures.value
          c.in_ok-put_object-in-Some.ensures;
      rest = next.left ∙ ap (λ k. drop k whole) (sym (add-one c.loop-i.i));
      long = c.loop-i.invariant.long;
    }

pub returns-clause-members : goal.returns-clause-members
returns-clause-members c =
    c.loop-i.invariant.members
    ∙ members_done (into_iter_items c.args.objects.now) c.args.nodes.now.items c.loop-i.i (omega (arith, c.loop-i-test.false, c.len-i-end.ensures, c.args.nodes.now.ok.0))
