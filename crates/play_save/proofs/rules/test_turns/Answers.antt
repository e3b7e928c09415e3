use Rattle.std.proofs.Common.{refl, rules}
use Rattle.std.proofs.lemmas.Bool.{iff_false}
use Rattle.play_save.proofs.Turning.{settled_is}
use Rattle.play_save.proofs.rules.test_turns.Goals as goal

pub returns-then-branch : goal.returns-then-branch
returns-then-branch c = record {
  kept = (settled_is c.args.parts.now c.as_slice.result.now c.as_slice-2.result.now c.in_ok-are_settled.field-0 c.as_slice.ensures.items c.as_slice-2.ensures.items
      c.in_ok-are_settled.ensures.test).0 (search rules);
}

pub returns-else-branch : goal.returns-else-branch
returns-else-branch c = record {
  kept = (
    refl,
    iff_false (settled_is c.args.parts.now c.as_slice.result.now c.as_slice-2.result.now c.in_ok-are_settled.field-0 c.as_slice.ensures.items c.as_slice-2.ensures.items
        c.in_ok-are_settled.ensures.test) (search rules),
  );
}
