use Rattle.std.proofs.Common.{refl, rules}
use Rattle.play_save.proofs.CapturedLemmas.{states_tested, items_untested, entries_untested}
use Rattle.play_save.proofs.Scripts.{holds_scripts}
use Rattle.play_save.proofs.rules.test_states.Goals as goal

pub returns-then-not-branch : goal.returns-then-not-branch
returns-then-not-branch c = record {
  kept = (
    refl,
    items_untested c.args.parts.now c.args.prepared.now c.as_slice.result.now c.in_ok-objects_fit.field-0
        (holds_scripts c.args.parts.now c.args.prepared.now c.requires.prepared c.requires.few) c.as_slice.ensures.items
        c.in_ok-objects_fit.ensures.test (search rules),
  );
}

pub returns-then-not-branch-2 : goal.returns-then-not-branch-2
returns-then-not-branch-2 c = record {
  kept = (
    refl,
    entries_untested c.args.parts.now c.args.prepared.now c.as_slice-2.result.now c.in_ok-entries_fit.field-0
        (holds_scripts c.args.parts.now c.args.prepared.now c.requires.prepared c.requires.few) c.as_slice-2.ensures.items
        c.in_ok-entries_fit.ensures.test (search rules),
  );
}

pub returns : goal.returns
returns c = record {
  kept = states_tested c.args.parts.now c.args.prepared.now c.as_slice.result.now c.as_slice-2.result.now c.in_ok-objects_fit.field-0 c.in_ok-entries_fit.field-0
      (record { header = c.one_header.ensures.one; spellings = c.spelling_laws.ensures.spelling; fits = c.fits_too.ensures.fits })
      (holds_scripts c.args.parts.now c.args.prepared.now c.requires.prepared c.requires.few) c.as_slice.ensures.items
      c.as_slice-2.ensures.items c.in_ok-objects_fit.ensures.test c.in_ok-entries_fit.ensures.test (search rules) (search rules);
}
