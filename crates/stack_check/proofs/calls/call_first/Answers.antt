use Rattle.std.proofs.Common.{None, refl, subst}
use Rattle.stack_shape.specs.declared.shape.Entry.TheVariants.{Called}
use Rattle.stack_check.specs.Inference.{TrialBegins}
use Rattle.stack_check.proofs.Calling.{call_begins}
use Rattle.stack_check.proofs.CallSteps.{first_in}
use Rattle.stack_check.proofs.calls.call_first.Goals as goal

pub begin-requires-clause-begins : goal.begin-requires-clause-begins
begin-requires-clause-begins c =
    subst (λ target. TrialBegins c.args.judged.now.table.now c.args.judged.now.code.now c.args.heap.now
    (record {
      entry = Called target;
      taken = c.args.from.held.cells;
      under = c.args.from.held.under;
      given = None;
      unseen = record { cells = c.depth.result; under = c.depth-2.result };
      at_first = record { cells = c.depth.result; under = c.depth-2.result };
    }))
    c.requires.op.leads
    (call_begins c.args.judged.now.table.now c.args.judged.now.code.now c.args.heap.now c.args.facts.now c.args.from.trial c.args.from.place c.requires.op.offset c.args.from.held _
    c.requires.keeps c.requires.row c.requires.op.stands c.depth.ensures.depth c.depth-2.ensures.depth c.depth.ensures.few c.depth-2.ensures.few)

pub begin-requires-clause-inside : goal.begin-requires-clause-inside
begin-requires-clause-inside c =
    first_in c.args.heap.now c.args.facts.now c.args.from.trial c.args.from.place c.args.from.held c.args.judged.now.table.now c.args.judged.now.code.now _ c.requires.keeps
    c.requires.row refl refl refl c.depth.ensures.depth c.depth-2.ensures.depth refl
