use Rattle.std.proofs.Common.{arith, ◌≡◌, None, subst, sym}
use Rattle.stack_lists.specs.Rows.{row_in}
use Rattle.stack_lists.proofs.RowLemmas.{index_after, index_pushed}
use Rattle.stack_lists.proofs.rows.Rows.add.Goals as goal

pub invariant_of-self : goal.invariant_of-self
invariant_of-self c =
    index_after c.self.inside.rows c.self.inside.firsts c.note.new.firsts c.self.inside.index c.note.new.index c.args.trial c.args.place c.self.invariant
    (subst (λ rows. row_in rows c.args.trial c.args.place ≡ None) (sym c.self.view_is) c.requires.new) c.note.ensures.others

pub invariant_of-self-2 : goal.invariant_of-self-2
invariant_of-self-2 c =
    let new = subst (λ rows. row_in rows c.args.trial c.args.place ≡ None) (sym c.self.view_is) c.requires.new in
    index_pushed c.self.inside.rows c.push.new.self c.note.new.firsts c.note.new.index c.args.trial c.args.place c.len-number.result c.args.held c.push.result
    (index_after c.self.inside.rows c.self.inside.firsts c.note.new.firsts c.self.inside.index c.note.new.index c.args.trial c.args.place c.self.invariant new
    c.note.ensures.others)
    new c.ranges.trial.fits c.ranges.place.fits c.len-number.ensures.len (omega (arith, c.in_ok-room.ensures.room)) c.in_ok-note.ensures.kept
    c.push.ensures.ok c.push.ensures.err
