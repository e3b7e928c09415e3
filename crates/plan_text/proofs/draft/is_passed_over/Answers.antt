use Rattle.std.proofs.Common.{◌==◌, refl}
use Rattle.std.proofs.lemmas.List.{nil_from_length}
use Rattle.plan_text.proofs.WordLemmas.{reads_empty, passed_by}
use Rattle.plan_text.proofs.draft.is_passed_over.Goals as goal

pub returns-in-None : goal.returns-in-None
returns-in-None c d = reads_empty d c.args.line.now (nil_from_length c.args.line.now (c.in-None.ensures {u = tt}).cases)

pub returns-in-Some : goal.returns-in-Some
returns-in-Some c =
    passed_by c.args.line.now c.in-Some.field-0-1.now c.in-Some.first.now (c.in-Some.first.now == 59) refl (c.in-Some.ensures {u = tt}).cases.0
