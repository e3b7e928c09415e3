use Rattle.command_compile.proofs.OneScript.{sure_typed, sure_compiled, sure_compiles}
use Rattle.command_compile.proofs.laws.one_script.Goals as goal

pub returns-clause-typed : goal.returns-clause-typed
returns-clause-typed c = sure_typed c.one_typed.ensures.one c.typed_exactly.ensures.faultless c.verdicts_are_right.ensures.least

pub returns-clause-compiled : goal.returns-clause-compiled
returns-clause-compiled c =
    sure_compiled c.one_source.ensures.units (sure_typed c.one_typed.ensures.one c.typed_exactly.ensures.faultless c.verdicts_are_right.ensures.least)

pub returns-clause-command : goal.returns-clause-command
returns-clause-command c =
    sure_compiles c.one_source.ensures.tables
    (sure_compiled c.one_source.ensures.units (sure_typed c.one_typed.ensures.one c.typed_exactly.ensures.faultless c.verdicts_are_right.ensures.least))
