use Rattle.std.proofs.Common.{subst}
use Rattle.ncs_text.specs.Steps.{IsPassed}
use Rattle.ncs_text.proofs.Targets.{has_code, has_length, stops_nowhere, leads_astray}
use Rattle.ncs_text.proofs.assembler.test_targets.Goals as goal

pub unreachable-requires-in-Err-Length : goal.unreachable-requires-in-Err-Length
unreachable-requires-in-Err-Length c =
    let fault = rw c.in-Err-Length.field-0-is at (c.in-Err-Length.ensures {u = tt}).fault
    in has_length c.size_laws.ensures.sizes c.args.text.now c.args.body.now c.in_ok-file.file.items c.args.size c.requires.whole (c.in_ok-file.ensures {u = tt}) fault.1

pub unreachable-requires-in-Err-At : goal.unreachable-requires-in-Err-At
unreachable-requires-in-Err-At c =
    let fault = rw c.in-Err-At.field-0-is at (c.in-Err-At.ensures {u = tt}).fault
    in stops_nowhere c.spelling_laws.ensures.spelling c.size_laws.ensures.sizes c.args.text.now c.args.body.now c.in_ok-file.file.items c.args.size c.in-Err-At.field-0-0 c.in-Err-At.field-0-1
    c.requires.whole (c.in_ok-file.ensures {u = tt}) fault

pub returns-in-Ok-clause-code : goal.returns-in-Ok-clause-code
returns-in-Ok-clause-code c =
    has_code c.spelling_laws.ensures.spelling c.args.text.now c.args.body.now c.in_ok-file.file.items c.args.size c.in-Ok._code c.requires.whole (c.in_ok-file.ensures {u = tt})
    (c.in-Ok.ensures {u = tt}).loaded

pub returns-in_ok-found-in-Err-Target-clause-fault : goal.returns-in_ok-found-in-Err-Target-clause-fault
returns-in_ok-found-in-Err-Target-clause-fault c =
    let fault = rw c.in-Err-Target.field-0-is at (c.in-Err-Target.ensures {u = tt}).fault
    in leads_astray c.spelling_laws.ensures.spelling c.size_laws.ensures.sizes c.place_laws.ensures.places c.one_name.ensures.code c.args.text.now c.args.body.now c.in_ok-file.file.items
    c.in_ok-found-in-Err-Target.found.body.items c.args.size c.in-Err-Target.place _ c.in_ok-found-in-Err-Target.found.number c.requires.whole (c.in_ok-file.ensures {u = tt}) fault
    (subst (λ s. IsPassed c.args.text.now s c.in_ok-found-in-Err-Target.found.body.items c.in_ok-found-in-Err-Target.found.size c.in_ok-found-in-Err-Target.found.number)
    c.from.ensures (c.in_ok-found-in-Err-Target.ensures {u = tt}).passed)
