use Rattle.std.specs.Int.{w32}
use Rattle.std.proofs.lemmas.Int.{to_z-of_z}
use Rattle.std.proofs.Common.{rules, ◌∷◌, [], ◌++◌, ◌∙◌, sym, ap, refl}
use Rattle.local_variables.specs.Variables.{IntVar}
use Rattle.local_variables.proofs.VariableLaws.{put_last}
use Rattle.local_variables.proofs.KeptLemmas.{ints, not_there, written, int_becomes, put_ok}
use Rattle.local_variables.proofs.kept.Kept.set_int.Goals as goal

pub push_int-requires : goal.push_int-requires
push_int-requires c = record { new = not_there ints c.args.name.now c.self.invariant c.self.view_is c.in-None.ensures.number }

pub returns-in-None-clause-ok : goal.returns-in-None-clause-ok
returns-in-None-clause-ok c =
    let none = not_there ints c.args.name.now c.self.invariant c.self.view_is c.in-None.ensures.number in
    put_ok c.push_int.new.self _ _ c.push_int.result
    (put_last (IntVar c.args.name.now c.args.n) c.args.self.now none
    ∙ ap (λ m. c.args.self.now ++ IntVar c.args.name.now m ∷ [])
    (sym (to_z-of_z w32 c.args.n c.ranges.n))) c.push_int.ensures.ok

pub invariant_of-self : goal.invariant_of-self
invariant_of-self c = (written ints c.args.name.now c.self.invariant c.self.view_is _ refl (int_becomes c.args.name.now c.args.n (search rules)) c.keeps.ensures.rise c.in-Some.ensures.number
    c.write.ensures).kept

pub returns-in-Some-clause-ok : goal.returns-in-Some-clause-ok
returns-in-Some-clause-ok c = (written ints c.args.name.now c.self.invariant c.self.view_is _ refl (int_becomes c.args.name.now c.args.n (search rules)) c.keeps.ensures.rise
    c.in-Some.ensures.number c.write.ensures).view
