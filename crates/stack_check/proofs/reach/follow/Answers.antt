use Rattle.stack_check.proofs.Handing.{hands_row}
use Rattle.stack_check.proofs.Following.{reached_keeps, reached_takes}
use Rattle.stack_check.proofs.reach.follow.Goals as goal

pub returns-clause-keeps : goal.returns-clause-keeps
returns-clause-keeps c =
    reached_keeps _ _ _ c.args.facts.now _ _ _ c.args.held c.in_ok-seen.seen c.requires.keeps c.requires.owed c.requires.inside c.in_ok-seen.ensures

pub returns-clause-takes : goal.returns-clause-takes
returns-clause-takes c = reached_takes c.args.heap.now c.args.facts.now c.reach.new.facts c.args.spot.trial c.args.spot.place c.args.held c.in_ok-seen.seen c.in_ok-seen.ensures

pub returns-clause-hands : goal.returns-clause-hands
returns-clause-hands c =
    hands_row c.args.heap.now c.args.facts.now c.reach.new.facts c.args.todo.now c.note.new.todo c.args.spot c.args.held c.in_ok-seen.seen c.in_ok-seen.ensures
    c.in_ok-note.ensures.handed c.in_ok-note.ensures.stays c.in_ok-note.ensures.calls
