use Rattle.ncs_machine.proofs.RemarkLemmas.{all_put, few_are}
use Rattle.ncs_machine.proofs.remarks.returns_of.Goals as goal

pub put_waiting-requires : goal.put_waiting-requires
put_waiting-requires c = record { few = few_are c.args.most c.put_returns.new.returns.items _ c.in_ok-put_returns.ensures.put }

pub returns : goal.returns
returns c = record {
  returns = all_put c.args.most c.args.machine.now.running c.frame.result.now c.args.machine.now.waiting c.new-returns.result.items c.put_returns.new.returns.items
      c.put_waiting.new.returns.items c.frame.ensures.frame c.new-returns.ensures.items c.in_ok-put_returns.ensures.put c.in_ok-put_waiting.ensures.put;
}
