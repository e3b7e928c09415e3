use Rattle.std.proofs.Common.{arith, sym}
use Rattle.ncs_machine.proofs.RemarkLemmas.{none_more}
use Rattle.ncs_machine.proofs.remarks.put_spot.Goals as goal

pub returns-else-len-most : goal.returns-else-len-most
returns-else-len-most c = record {
  put = sym (none_more c.args.most c.args.returns.now.items c.args.spot c.requires.few
      (grind (arith, c.if-len-most.false, c.len.ensures)));
}
