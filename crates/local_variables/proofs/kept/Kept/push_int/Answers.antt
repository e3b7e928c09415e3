use Rattle.std.specs.Int.{w32}
use Rattle.std.proofs.lemmas.Int.{to_z-of_z}
use Rattle.std.proofs.lemmas.Cmp.{nat_list_eq_equiv}
use Rattle.std.proofs.Common.{arith, ◌≡◌, ◌+◌, ◌++◌, ◌∷◌, [], ap, ◌∙◌}
use Rattle.local_variables.specs.Variables.{IntVar}
use Rattle.local_variables.proofs.KeptLemmas.{ints, pushed}
use Rattle.local_variables.proofs.kept.Kept.push_int.Goals as goal

pub invariant_of-self-2 : goal.invariant_of-self-2
invariant_of-self-2 c =
    let higher : c.self.inside.next + 1 ≡ c.in_ok-next.next = grind (arith, c.checked_add.ensures, c.in_ok-next.ensures.ok_part) in
    (pushed ints c.args.name.now c.self.invariant c.self.view_is c.in_ok-held.held (nat_list_eq_equiv.refl c.args.name.now) c.in_ok-held.ensures.variable higher c.in_ok-add.ensures.all
    c.requires.new c.in_ok-add.ensures.stamps).kept

pub returns-clause-ok : goal.returns-clause-ok
returns-clause-ok c =
    let higher : c.self.inside.next + 1 ≡ c.in_ok-next.next = grind (arith, c.checked_add.ensures, c.in_ok-next.ensures.ok_part) in
    (pushed ints c.args.name.now c.self.invariant c.self.view_is c.in_ok-held.held (nat_list_eq_equiv.refl c.args.name.now) c.in_ok-held.ensures.variable higher c.in_ok-add.ensures.all
    c.requires.new c.in_ok-add.ensures.stamps).view
    ∙ ap (λ m. c.args.self.now ++ IntVar c.args.name.now m ∷ []) (to_z-of_z w32 c.args.n c.ranges.n)
