use Rattle.std.proofs.Common.{Some, rules}
use Rattle.nwq_value.proofs.IndexLemmas.{puts, not_there}
use Rattle.nwq_value.proofs.index.replace.Goals as goal

pub returns-in-Some : goal.returns-in-Some
returns-in-Some c =
    puts c.args.name.now c.args.others.now (c.get_mut.follows.lender c.args.number) (Some c.args.number)
    ((c.get_mut.follows.holds c.args.number).3 (search rules))

pub returns-in_default : goal.returns-in_default
returns-in_default c = not_there c.args.name.now c.args.others.now.entries c.in_default.ensures.value c.requires.there
