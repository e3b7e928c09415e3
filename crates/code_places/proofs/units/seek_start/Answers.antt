use Rattle.std.proofs.Common.{◌∙◌, ap, sym}
use Rattle.typing_rules.specs.UnitReading.{typed_items}
use Rattle.code_places.specs.Marks as marks
use Rattle.code_places.specs.Seeking.{sought}
use Rattle.code_places.proofs.Seeking.{last, parts}
use Rattle.code_places.proofs.units.seek_start.Goals as goal

pub returns-then-has_globals : goal.returns-then-has_globals
returns-then-has_globals c =
    c.seek_begin.ensures
    ∙ ap (λ b. sought (marks.start_marks c.args.layout.now b (typed_items c.args.items.now) c.args.entry) c.args.seek) (sym c.if-has_globals.true ∙ c.has_globals.ensures)

pub returns-else-has_globals : goal.returns-else-has_globals
returns-else-has_globals c =
    parts c.args.seek _ _ c.seek_entry.ensures (last c.seek_entry.result _ c.pass.ensures)
    ∙ ap (λ b. sought (marks.start_marks c.args.layout.now b (typed_items c.args.items.now) c.args.entry) c.args.seek) (sym c.if-has_globals.false ∙ c.has_globals.ensures)
