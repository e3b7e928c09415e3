use Rattle.std.proofs.Common.{◌∙◌, ap, sym}
use Rattle.code_places.specs.Marks as marks
use Rattle.code_places.specs.Seeking.{sought}
use Rattle.code_places.proofs.Seeking.{last, one_more}
use Rattle.code_places.proofs.units.seek_entry.Goals as goal

pub returns-in-Conditional : goal.returns-in-Conditional
returns-in-Conditional c =
    one_more c.args.seek _ _ c.pass-seek.ensures (one_more c.pass-seek.result _ _ c.pass-in-Conditional.ensures (last c.pass-in-Conditional.result _ c.pass-in-Conditional-2.ensures))
    ∙ ap (λ e. sought (marks.entry_marks e) c.args.seek) (sym c.in-Conditional.is)
