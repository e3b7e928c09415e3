use Rattle.std.proofs.Common.{[], ◌∷◌, ◌++◌, ◌∙◌, None, ap}
use Rattle.stack_shape.specs.declared.shape.Entry.TheVariants.{Start}
use Rattle.stack_check.proofs.Ending.{empty_row, one_waits, starts, starts_found, starts_settled}
use Rattle.stack_check.proofs.infer.first_facts.Goals as goal

pub add-requires : goal.add-requires
add-requires c = record { new = empty_row c.new-rows.result 0 13 c.new-rows.ensures.empty }

pub returns : goal.returns
returns c = record {
  keeps = starts c.args.judged.now.table.now c.args.judged.now.code.now c.args.heap.now c.new-rows.result c.add.new.self c.push.new.self c.new.result c.new-2.result
      c.new-rows.ensures.empty c.in_ok-add.ensures.added
      (c.in_ok-push.ensures.ok ∙ ap
      (λ trials. trials ++ record {
        entry = Start;
        taken = 0;
        under = 0;
        given = None;
        unseen = record { cells = 0; under = 0 };
        at_first = record { cells = 0; under = 0 };
      } ∷ []) c.new-trials.ensures.empty)
      c.new.ensures.empty c.new-2.ensures.empty;
  begins = starts_found c.new-rows.result c.add.new.self c.push.new.self c.new.result c.new-2.result
      c.new-rows.ensures.empty c.in_ok-add.ensures.added
      (c.in_ok-push.ensures.ok ∙ ap
      (λ trials. trials ++ record {
        entry = Start;
        taken = 0;
        under = 0;
        given = None;
        unseen = record { cells = 0; under = 0 };
        at_first = record { cells = 0; under = 0 };
      } ∷ []) c.new-trials.ensures.empty)
      c.new.ensures.empty c.new-2.ensures.empty;
  settled = starts_settled c.args.judged.now.table.now c.args.judged.now.code.now c.args.heap.now c.new-rows.result _ c.args.todo.now c.add-2.new.self
      c.new-rows.ensures.empty c.in_ok-add.ensures.added c.in_ok-add-2.ensures.added c.in_ok-add-2.ensures.calls c.requires.empty;
  one = one_waits c.args.todo.now c.add-2.new.self _ c.in_ok-add-2.ensures.added;
}
