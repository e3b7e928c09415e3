use Rattle.std.proofs.Common.{arith, subst, sym}
use Rattle.stack_lists.specs.Notes.{AreNoted}
use Rattle.stack_lists.proofs.Noting.{noted_after, noted_before, noted_behind, noted_failed, noted_ready}
use Rattle.stack_lists.proofs.notes.add_noted.Goals as goal
use Rattle.stack_lists.proofs.notes.add_noted.Goals.{then-last-gt0+in_ok-put-2, else-last-gt0}

pub returns-in_err-put-2-clause-noted : goal.returns-in_err-put-2-clause-noted
returns-in_err-put-2-clause-noted c =
    noted_failed c.args.links.now c.args.newest.now c.put.new.self c.args.older.now c.put-then-last-gt0.new.self c.args.link.below c.get-last.result
    c.requires.noted c.in_ok-put.ensures.put c.get-last.ensures.number c.in_err-put-2.ensures.err

pub returns-in_err-push-2-clause-noted : goal.returns-in_err-push-2-clause-noted
returns-in_err-push-2-clause-noted c = elim c.if-last-gt0.branch [
  | then-last-gt0+in_ok-put-2 w ↦
      subst (λ links. AreNoted links c.put.new.self c.if-last-gt0.older) (sym c.in_err-push-2.ensures.err)
      (subst (λ older. AreNoted c.args.links.now c.put.new.self older) (sym w.older-is)
      (noted_before c.args.links.now c.args.newest.now c.put.new.self c.args.older.now _ c.args.link.below _ c.get-last.result
      c.requires.noted c.in_ok-put.ensures.put c.get-last.ensures.number w.in_ok-put-2.ensures.put (omega (arith, c.len-count.ensures.len, c.in_ok-room.ensures.room))))
  | else-last-gt0 w ↦
      subst (λ links. AreNoted links c.put.new.self c.if-last-gt0.older) (sym c.in_err-push-2.ensures.err)
      (subst (λ older. AreNoted c.args.links.now c.put.new.self older) (sym w.older-is)
      (noted_ready c.args.links.now c.args.newest.now c.put.new.self c.args.older.now c.args.link.below c.get-last.result
      c.requires.noted c.in_ok-put.ensures.put c.get-last.ensures.number))
]

pub returns-clause-noted : goal.returns-clause-noted
returns-clause-noted c = elim c.if-last-gt0.branch [
  | then-last-gt0+in_ok-put-2 w ↦
      subst (λ older. AreNoted c.push-2.new.self c.set.new.self older) (sym w.older-is)
      (noted_behind c.args.links.now c.push-2.new.self c.args.newest.now c.put.new.self c.set.new.self c.args.older.now _ c.args.link _ c.get-last.result
      c.requires.noted c.in_ok-put.ensures.put c.get-last.ensures.number w.in_ok-put-2.ensures.put (omega (arith, c.len-count.ensures.len, c.in_ok-room.ensures.room))
      c.in_ok-push-2.ensures.ok c.set.ensures.put)
  | else-last-gt0 w ↦
      subst (λ older. AreNoted c.push-2.new.self c.set.new.self older) (sym w.older-is)
      (noted_after c.args.links.now c.push-2.new.self c.args.newest.now c.put.new.self c.set.new.self c.args.older.now c.args.link _ c.get-last.result
      c.requires.noted c.in_ok-put.ensures.put c.get-last.ensures.number (omega (arith, w.if-last-gt0.false)) (omega (arith, c.len-count.ensures.len, c.in_ok-room.ensures.room))
      c.in_ok-push-2.ensures.ok c.set.ensures.put)
]
