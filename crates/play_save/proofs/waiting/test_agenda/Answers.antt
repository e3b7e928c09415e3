use Rattle.std.proofs.Common.{rules, arith, refl, sym, subst, ◌+◌, ◌-◌, ◌<◌, length}
use Rattle.std.proofs.lemmas.Bool.{iff_false}
use Rattle.play_save.specs.Breaking.{IsBeforeFirst}
use Rattle.play_save.proofs.Lists.{rest_whole}
use Rattle.play_save.proofs.Agendas.{waiting_at, waiting_step, number_new, number_old, numbers_step}
use Rattle.play_save.proofs.waiting.test_agenda.Goals as goal
use Rattle.play_save.proofs.waiting.test_agenda.Goals.{then-not-is_waiting-via-then-not-is_waiting, then-not-is_waiting-via-else-not-is_waiting+then-not-is_before}

pub returns-then-not-is_waiting : goal.returns-then-not-is_waiting
returns-then-not-is_waiting c =
    let inside : c.loop-left.left - 1 < length c.args.entries.now = omega (arith, c.loop-left-test.true, c.loop-left.invariant.1.1) in
    elim c.then-not-is_waiting.branch [
      | then-not-is_waiting-via-then-not-is_waiting w ↦ record {
        kept = (
          refl,
          λ all. iff_false c.is_waiting.ensures.test (search rules)
              (waiting_at c.args.next c.args.clock c.args.objects c.args.entries.now (c.loop-left.left - 1) c.index-entries-left.result inside c.index-entries-left.is all).by_itself,
        );
      }
      | then-not-is_waiting-via-else-not-is_waiting+then-not-is_before w ↦ record {
        kept = (
          refl,
          λ all. iff_false w.is_before.ensures.test (search rules)
              (subst (IsBeforeFirst c.index-entries-left.result) (sym (rest_whole (c.loop-left.left - 1 + 1) c.args.entries.now))
              (waiting_at c.args.next c.args.clock c.args.objects c.args.entries.now (c.loop-left.left - 1) c.index-entries-left.result inside c.index-entries-left.is all).before),
        );
      }
    ]

pub returns-then-not-branch : goal.returns-then-not-branch
returns-then-not-branch c = record {
  kept = (
    refl,
    number_old c.args.next c.args.clock c.args.objects c.loop-left.numbers c.args.entries.now (c.loop-left.left - 1) c.loop-left.left c.index-entries-left.result
        c.in_ok-add.field-0 c.loop-left.invariant.1.0 c.in_ok-add.ensures.new (search rules) (omega (arith, c.loop-left-test.true))
        (omega (arith, c.loop-left-test.true, c.loop-left.invariant.1.1)) c.index-entries-left.is,
  );
}

pub loop-left-preserved : goal.loop-left-preserved
loop-left-preserved c =
    let inside : c.loop-left.left - 1 < length c.args.entries.now = omega (arith, c.loop-left-test.true, c.loop-left.invariant.1.1) in (
      waiting_step c.args.next c.args.clock c.args.objects c.args.entries.now (c.loop-left.left - 1) c.loop-left.left c.index-entries-left.result
          (c.is_waiting.ensures.test.0 (search rules))
          (subst (IsBeforeFirst c.index-entries-left.result)
          (rest_whole (c.loop-left.left - 1 + 1) c.args.entries.now) (c.is_before.ensures.test.0 (search rules)))
          (number_new c.loop-left.numbers c.args.entries.now (c.loop-left.left - 1) c.loop-left.left c.index-entries-left.result c.in_ok-add.field-0 c.loop-left.invariant.1.0
          c.in_ok-add.ensures.new (search rules) (omega (arith, c.loop-left-test.true)))
          c.loop-left.invariant.0 (omega (arith, c.loop-left-test.true)) inside c.index-entries-left.is,
      (
        numbers_step c.loop-left.numbers c.add.new.numbers c.args.entries.now (c.loop-left.left - 1) c.loop-left.left c.index-entries-left.result c.loop-left.invariant.1.0
            c.in_ok-add.ensures.added (omega (arith, c.loop-left-test.true)) inside c.index-entries-left.is,
        omega (arith, c.loop-left.invariant.1.1),
      ),
    )
