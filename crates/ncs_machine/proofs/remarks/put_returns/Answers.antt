use Rattle.std.proofs.Common.{arith, ◌≡◌, ◌++◌, ◌∷◌, [], take, sym, subst}
use Rattle.ncs_machine.proofs.RemarkLemmas.{all_returns, as_many_returns, few_are, nothing_put, one_more_return}
use Rattle.ncs_machine.proofs.remarks.put_returns.Goals as goal

pub loop-i-init : goal.loop-i-init
loop-i-init c = nothing_put c.args.most c.args.returns.now.items c.requires.few

pub returns-in-None : goal.returns-in-None
returns-in-None c = record {
  put = all_returns c.args.most c.loop-i.i c.args.frame.now c.args.returns.now.items c.loop-i.returns.items (sym c.in-None.ensures.place) c.loop-i.invariant;
}

pub put_spot-requires : goal.put_spot-requires
put_spot-requires c = record { few = few_are c.args.most c.loop-i.returns.items _ c.loop-i.invariant }

pub loop-i-preserved : goal.loop-i-preserved
loop-i-preserved c =
    one_more_return c.args.most c.loop-i.i c.args.frame.now c.args.returns.now.items c.loop-i.returns.items c.put_spot.new.returns.items c.in-Some.place
    (sym c.in-Some.ensures.place) c.loop-i.invariant
    (subst (λ n. c.put_spot.new.returns.items ≡ take c.args.most (c.loop-i.returns.items ++ record { script = n; place = c.in-Some.place } ∷ []))
    c.script-script.ensures.script c.in_ok-put_spot-in-Some.ensures.put)

pub returns : goal.returns
returns c = record {
  put = as_many_returns c.args.most c.loop-i.i c.args.frame.now c.args.returns.now.items c.loop-i.returns.items (omega (arith, c.loop-i-test.false)) c.loop-i.invariant;
}
