use Rattle.memory_disk.proofs.TreeLemmas.{insert_held}
use Rattle.memory_disk.proofs.nodes.put.Goals as goal

pub returns-clause-ok : goal.returns-clause-ok
returns-clause-ok c =
    insert_held c.args.held.now c.insert.new.self c.in_ok-key.key c.args.name.now c.args.node c.in_ok-key.ensures.items c.in_ok-insert.ensures.updates
