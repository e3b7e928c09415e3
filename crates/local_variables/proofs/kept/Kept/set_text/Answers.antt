use Rattle.std.proofs.Common.{refl}
use Rattle.local_variables.specs.Variables.{TextVar}
use Rattle.local_variables.proofs.VariableLaws.{put_last}
use Rattle.local_variables.proofs.KeptLemmas.{texts, turned, not_there, written, text_becomes, put_ok}
use Rattle.local_variables.proofs.kept.Kept.set_text.Goals as goal

pub push_text-requires : goal.push_text-requires
push_text-requires c = record { new = not_there texts c.args.name.now (turned c.self.invariant) c.self.view_is c.in-None.ensures.number }

pub returns-in-None-clause-ok : goal.returns-in-None-clause-ok
returns-in-None-clause-ok c =
    let none = not_there texts c.args.name.now (turned c.self.invariant) c.self.view_is c.in-None.ensures.number in
    put_ok c.push_text.new.self _ _ c.push_text.result (put_last (TextVar c.args.name.now c.args.text) c.args.self.now none) c.push_text.ensures.ok

pub invariant_of-self : goal.invariant_of-self
invariant_of-self c = turned (written texts c.args.name.now (turned c.self.invariant) c.self.view_is _ refl (text_becomes c.args.name.now c.args.text) c.keeps.ensures.rise
    c.in-Some.ensures.number c.write.ensures).kept

pub returns-in-Some-clause-ok : goal.returns-in-Some-clause-ok
returns-in-Some-clause-ok c = (written texts c.args.name.now (turned c.self.invariant) c.self.view_is _ refl (text_becomes c.args.name.now c.args.text) c.keeps.ensures.rise
    c.in-Some.ensures.number c.write.ensures).view
