use Rattle.std.proofs.Common.{arith, ◌≡◌, ◌-◌, Some, slice_get, subst, sym}
use Rattle.stack_lists.specs.Rows.{IsNumberOf, held_in}
use Rattle.stack_lists.proofs.RowLemmas.{find_none, number_held, number_none}
use Rattle.stack_lists.proofs.rows.Rows.number.Goals as goal

pub returns-then-first-eq0 : goal.returns-then-first-eq0
returns-then-first-eq0 c = record {
  number = subst (λ rows. IsNumberOf rows c.args.trial c.args.place 0) c.self.view_is
      (number_none c.self.inside.rows c.args.trial c.args.place 0
      (find_none c.self.inside.rows c.self.inside.firsts c.self.inside.index c.args.trial c.args.place c.get-first.result c.self.invariant
      c.get-first.ensures.number (omega (arith, c.if-first-eq0.true))));
}

pub returns-in-Some : goal.returns-in-Some
returns-in-Some c = record {
  number = subst (λ rows. IsNumberOf rows c.args.trial c.args.place (c.get-first.result - 1)) c.self.view_is
      (number_held c.self.inside.rows c.self.inside.firsts c.self.inside.index (c.get-first.result - 1) c.args.trial c.args.place c.in-Some.field-0 c.self.invariant
      (subst (λ rows. Some c.in-Some.field-0 ≡ held_in (slice_get rows (c.get-first.result - 1)) c.args.trial c.args.place) (sym c.self.view_is) c.in-Some.ensures.held));
}
