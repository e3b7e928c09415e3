use Rattle.std.proofs.Common.{subst}
use Rattle.area_tree.specs.Scripts.{NotesFirst}
use Rattle.area_tree.proofs.ScriptLemmas.{first_next}
use Rattle.area_tree.proofs.scripts.note_all.Goals as goal

pub loop-place-preserved : goal.loop-place-preserved
loop-place-preserved c =
    let notes = subst (λ label. NotesFirst label c.loop-place.place c.loop-place.first c.note.new.first) c.label.ensures c.in_ok-note.ensures.notes in
    first_next c.args.all.now c.loop-place.place c.index-all-place.result c.loop-place.first c.note.new.first c.loop-place-test.true c.index-all-place.is c.loop-place.invariant notes
