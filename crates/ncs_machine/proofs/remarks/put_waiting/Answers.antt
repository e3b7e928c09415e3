use Rattle.std.proofs.Common.{arith, ◌≡◌, ◌++◌, ◌∷◌, [], take, sym, subst}
use Rattle.ncs_machine.proofs.RemarkLemmas.{all_wait, few_are, nothing_put, one_more_waits}
use Rattle.ncs_machine.proofs.remarks.put_waiting.Goals as goal

pub loop-i-init : goal.loop-i-init
loop-i-init c = nothing_put c.args.most c.args.returns.now.items c.requires.few

pub put_spot-requires : goal.put_spot-requires
put_spot-requires c = record { few = few_are c.args.most c.loop-i.returns.items _ c.loop-i.invariant }

pub put_returns-requires : goal.put_returns-requires
put_returns-requires c = record { few = few_are c.args.most c.put_spot.new.returns.items _ c.in_ok-put_spot-in-Some.ensures.put }

pub loop-i-preserved : goal.loop-i-preserved
loop-i-preserved c =
    one_more_waits c.args.most c.loop-i.i c.args.machine.now.waiting c.in-Some.frame.now c.args.returns.now.items c.loop-i.returns.items c.put_spot.new.returns.items
    c.put_returns.new.returns.items (sym c.in-Some.ensures.frame) c.loop-i.invariant
    (subst (λ s. c.put_spot.new.returns.items ≡ take c.args.most (c.loop-i.returns.items ++ s ∷ [])) c.spot_of.ensures.spot c.in_ok-put_spot-in-Some.ensures.put)
    c.in_ok-put_returns-in-Some.ensures.put

pub returns : goal.returns
returns c = record {
  put = all_wait c.args.most c.loop-i.i c.args.machine.now.waiting c.args.returns.now.items c.loop-i.returns.items
      (omega (arith, c.loop-i-test.false, c.waiting_count-count.ensures.count)) c.loop-i.invariant;
}
