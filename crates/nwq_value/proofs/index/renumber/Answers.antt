use Rattle.std.proofs.Common.{rules}
use Rattle.nwq_value.specs.declared.index.Numbered.{Numbered}
use Rattle.nwq_value.proofs.HashLemmas.{renumbers, not_missing}
use Rattle.nwq_value.proofs.index.renumber.Goals as goal

pub returns-in-Some : goal.returns-in-Some
returns-in-Some c =
    let held = c.in-Some.held.now in
    let changed : Numbered = record { name = held.name; number = c.args.number } in
    let writes = c.get_mut.follows.holds changed in
    renumbers c.args.name.now c.hash_of.result c.args.number held c.args.first.now (c.get_mut.follows.lender changed)
    c.hash_of.ensures c.requires.hashed c.requires.there c.in-Some.ensures.value writes.4 (writes.3 (search rules)).0

pub returns-in_default : goal.returns-in_default
returns-in_default c =
    not_missing c.args.name.now c.hash_of.result c.args.first.now c.hash_of.ensures c.requires.there c.in_default.ensures.value
