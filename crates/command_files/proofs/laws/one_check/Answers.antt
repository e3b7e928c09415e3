use Rattle.command_files.proofs.OneCheck.{sure_ops, sure_loaded, sure_checked, sure_checks}
use Rattle.command_files.proofs.laws.one_check.Goals as goal

pub returns-clause-ops : goal.returns-clause-ops
returns-clause-ops c = sure_ops

pub returns-clause-loaded : goal.returns-clause-loaded
returns-clause-loaded c = sure_loaded c.one_file.ensures.bytes

pub returns-clause-checked : goal.returns-clause-checked
returns-clause-checked c = sure_checked c.one_file.ensures.codes

pub returns-clause-command : goal.returns-clause-command
returns-clause-command c = sure_checks c.one_source.ensures.tables c.one_file.ensures.codes
