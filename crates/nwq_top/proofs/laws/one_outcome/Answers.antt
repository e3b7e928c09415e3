use Rattle.nwq_top.proofs.Sure.{sure_work, sure_whole, one_outcome, all_prefixes, one_whole, whole_prefixes}
use Rattle.nwq_top.proofs.Cuts.{works_amount, whole_amounts, cuts_leave_fronts, whole_cuts_leave_fronts}
use Rattle.nwq_top.proofs.laws.one_outcome.Goals as goal

pub returns-clause-one : goal.returns-clause-one
returns-clause-one c = one_outcome c.one_file.ensures.commands c.one_check.ensures.command c.one_script.ensures.command
    c.one_run.ensures.runs c.one_game.ensures.command c.one_generated.ensures.generated c.one_save.ensures.saves c.one_save.ensures.resumes

pub returns-clause-prefixes : goal.returns-clause-prefixes
returns-clause-prefixes c = all_prefixes c.one_file.ensures.commands c.one_check.ensures.command c.one_script.ensures.command
    c.one_run.ensures.runs c.one_game.ensures.command c.one_generated.ensures.generated c.one_save.ensures.saves c.one_save.ensures.resumes

pub returns-clause-whole : goal.returns-clause-whole
returns-clause-whole c = one_whole c.one_file.ensures.commands c.one_check.ensures.command c.one_script.ensures.command
    c.one_run.ensures.runs c.one_game.ensures.command c.one_generated.ensures.generated c.one_save.ensures.saves c.one_save.ensures.resumes c.one_set_of_tables.ensures.tables

pub returns-clause-whole_prefixes : goal.returns-clause-whole_prefixes
returns-clause-whole_prefixes c = whole_prefixes c.one_file.ensures.commands c.one_check.ensures.command c.one_script.ensures.command
    c.one_run.ensures.runs c.one_game.ensures.command c.one_generated.ensures.generated c.one_save.ensures.saves c.one_save.ensures.resumes c.one_set_of_tables.ensures.tables

pub returns-clause-amounts : goal.returns-clause-amounts
returns-clause-amounts c = works_amount

pub returns-clause-whole_amounts : goal.returns-clause-whole_amounts
returns-clause-whole_amounts c = whole_amounts

pub returns-clause-fronts : goal.returns-clause-fronts
returns-clause-fronts c = cuts_leave_fronts (sure_work c.one_file.ensures.commands c.one_check.ensures.command c.one_script.ensures.command
    c.one_run.ensures.runs c.one_game.ensures.command c.one_generated.ensures.generated c.one_save.ensures.saves c.one_save.ensures.resumes)

pub returns-clause-whole_fronts : goal.returns-clause-whole_fronts
returns-clause-whole_fronts c = whole_cuts_leave_fronts (sure_whole c.one_file.ensures.commands c.one_check.ensures.command c.one_script.ensures.command
    c.one_run.ensures.runs c.one_game.ensures.command c.one_generated.ensures.generated c.one_save.ensures.saves c.one_save.ensures.resumes c.one_set_of_tables.ensures.tables)
