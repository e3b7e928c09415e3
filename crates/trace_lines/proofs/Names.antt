-- No routine of the built-in header has a newline in its name.
use Rattle.std.proofs.Common.{◌≡◌, true, List, [], ◌∷◌, refl}
use Rattle.std.specs.List.{AllByRecursion, list_all}
use Rattle.nwq_value.specs.declared.engine.Routine.{Routine}
use Rattle.nwq_value.specs.Header.{header_routines}
use Rattle.nwq_value.specs.HeaderTable.{header_table}
use Rattle.nwq_text.specs.Cuts.{IsFree}
use Rattle.trace_lines.specs.Laws.{BuiltInNamesArePlain}
use Rattle.trace_lines.proofs.Texts.{both, has_none, word}

all_plain : (routines : List Routine) → list_all (λ (r : Routine). has_none r.name) routines ≡ true → AllByRecursion (λ (r : Routine). IsFree 10 r.name) routines
all_plain [] h = tt
all_plain (r ∷ routines) h = let tests = both (has_none r.name) (list_all (λ (r : Routine). has_none r.name) routines) h in (word r.name tests.0, all_plain routines tests.1)

pub built_in_plain : BuiltInNamesArePlain
unfolding header_table header_routines
built_in_plain = all_plain header_table.routines refl
