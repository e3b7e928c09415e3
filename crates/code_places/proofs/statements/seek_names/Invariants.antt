use Rattle.std.proofs.Common.{◌≡◌, drop}
use Rattle.typing_rules.specs.UnitReading.{typed_names}
use Rattle.code_places.specs.Marks as marks
use Rattle.code_places.specs.Seeking.{sought}
use Rattle.code_places.proofs.statements.seek_names.Given as goal

abbrev pub invariant-loop-name : goal.invariant-loop-name
invariant-loop-name l = sought (marks.names_marks l.layout l.node (typed_names (drop l.name-index l.names))) l.seek
    ≡ sought (marks.names_marks l.layout l.initial.node (typed_names l.names)) l.initial.seek
