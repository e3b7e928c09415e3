use Rattle.std.proofs.Common.{◌≡◌, Some, rules}
use Rattle.ncs_code.specs.Plain.{plain}
use Rattle.ncs_code.specs.Spelling.{op_size}
use Rattle.ncs_code.specs.File.{op_at}
use Rattle.decoded_code.proofs.Filling.{decoded_more}
use Rattle.decoded_code.proofs.steps.add_step.Goals as goal

pub returns-clause-decoded : goal.returns-clause-decoded
returns-clause-decoded c =
    let stands : op_at c.args.code.now c.args.at ≡ Some (plain c.in-Some.op) = search rules in
    let size : c.in-Some.size ≡ op_size (plain c.in-Some.op) = search rules in
    decoded_more c.args.code.now c.args.at c.in-Some.size (plain c.in-Some.op) c.in_ok-step-in-Some.step c.args.steps.now.items c.put_at.new.steps.items
    c.place_laws.ensures.places c.size_laws.ensures.sizes c.next_begins.ensures.next c.requires.decoded stands size
    c.in_ok-step-in-Some.ensures.same c.in_ok-put_at-in-Some.ensures.put c.in_ok-put_at-in-Some.ensures.count
    (λ i other is. c.in_ok-put_at-in-Some.ensures.others i other is)
