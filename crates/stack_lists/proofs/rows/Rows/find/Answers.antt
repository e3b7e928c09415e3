use Rattle.std.proofs.Common.{arith, ◌≡◌, ◌-◌, None, Some, slice_get, subst, sym}
use Rattle.stack_lists.specs.Rows.{held_in, row_in}
use Rattle.stack_lists.proofs.RowLemmas.{find_held, find_none}
use Rattle.stack_lists.proofs.rows.Rows.find.Goals as goal

pub returns-then-first-eq0 : goal.returns-then-first-eq0
returns-then-first-eq0 c = record {
  row = subst (λ rows. None ≡ row_in rows c.args.trial c.args.place) c.self.view_is
      (find_none c.self.inside.rows c.self.inside.firsts c.self.inside.index c.args.trial c.args.place c.get-first.result c.self.invariant
      c.get-first.ensures.number (omega (arith, c.if-first-eq0.true)));
}

pub returns-in-Some : goal.returns-in-Some
returns-in-Some c = record {
  row = subst (λ rows. Some c.in-Some.held ≡ row_in rows c.args.trial c.args.place) c.self.view_is
      (find_held c.self.inside.rows c.self.inside.firsts c.self.inside.index (c.get-first.result - 1) c.args.trial c.args.place c.in-Some.held
      c.self.invariant (subst (λ rows. Some c.in-Some.held ≡ held_in (slice_get rows (c.get-first.result - 1)) c.args.trial c.args.place)
      (sym c.self.view_is) c.in-Some.ensures.held));
}
