use Rattle.std.proofs.Common.{rules, ◌≡◌, ◌∙◌, ◌↔◌, IsTrue, sym, ap}
use Rattle.std.specs.Cmp.Rules.{signed_items}
use Rattle.nwq_value.proofs.ValueLemmas.{same_effect}
use Rattle.nwq_value.proofs.value.Effect.same.Goals as goal

pub returns-then-routine : goal.returns-then-routine
returns-then-routine c =
    let routine : c.args.self.now.routine ≡ c.args.other.now.routine =
    sym c.routine.ensures.routine ∙ c.if-routine.true ∙ c.routine-2.ensures.routine in
    let ints : IsTrue c.eq.result ↔ (c.args.self.now.ints ≡ c.args.other.now.ints) =
    let h = c.eq.ensures in search (rules, signed_items) in
    record { equal = (λ t. same_effect _ _ routine (ints.0 t), λ e. ints.1 (ap (λ x. x.ints) e)) }
