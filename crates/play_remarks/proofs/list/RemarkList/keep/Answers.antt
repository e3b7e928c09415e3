use Rattle.std.proofs.Common.{arith, sym}
use Rattle.play_remarks.specs.Kept.{most_remarks}
use Rattle.play_remarks.proofs.KeptLemmas.{none_more}
use Rattle.play_remarks.proofs.list.RemarkList.keep.Goals as goal

pub returns-else-len-lt-MOST_REMARKS-clause-kept :
    goal.returns-else-len-lt-MOST_REMARKS-clause-kept
returns-else-len-lt-MOST_REMARKS-clause-kept c =
    sym (none_more most_remarks c.args.self.now c.args.remark
    (grind (arith, c.self.invariant, c.self.view_is))
    (grind (arith, c.if-len-lt-MOST_REMARKS.false, c.len.ensures, c.self.view_is)))
