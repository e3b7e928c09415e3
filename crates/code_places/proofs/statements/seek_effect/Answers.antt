use Rattle.std.proofs.Common.{◌∙◌, ap, sym, option_map}
use Rattle.typing_rules.specs.Reading.{plain}
use Rattle.code_places.specs.Marks as marks
use Rattle.code_places.specs.Seeking.{sought}
use Rattle.code_places.proofs.statements.seek_effect.Goals as goal

pub returns-in-Some : goal.returns-in-Some
returns-in-Some c =
    c.seek_dropped.ensures
    ∙ ap (λ o. sought (marks.evaluated_marks c.args.layout.now c.args.of c.args.node (option_map plain o)) c.args.seek) (sym c.in-Some.is)
