use Rattle.command_files.proofs.OneCode.{sure_bytes, sure_codes}
use Rattle.command_files.proofs.OneTree.{sure_trees}
use Rattle.command_files.proofs.OneAssembly.{sure_assemblies}
use Rattle.command_files.proofs.OneCommand.{sure_commands}
use Rattle.command_files.proofs.laws.one_file.Goals as goal

pub returns-clause-bytes : goal.returns-clause-bytes
returns-clause-bytes c = sure_bytes c.spelling_laws.ensures.spelling c.one_fault.ensures.one c.one_fault.ensures.none

pub returns-clause-trees : goal.returns-clause-trees
returns-clause-trees c = sure_trees c.one_tree.ensures.one

pub returns-clause-codes : goal.returns-clause-codes
returns-clause-codes c = sure_codes (sure_bytes c.spelling_laws.ensures.spelling c.one_fault.ensures.one c.one_fault.ensures.none)

pub returns-clause-assemblies : goal.returns-clause-assemblies
returns-clause-assemblies c = sure_assemblies c.one_answer.ensures.one

pub returns-clause-commands : goal.returns-clause-commands
returns-clause-commands c =
    sure_commands (sure_trees c.one_tree.ensures.one) (sure_codes (sure_bytes c.spelling_laws.ensures.spelling c.one_fault.ensures.one c.one_fault.ensures.none))
    (sure_assemblies c.one_answer.ensures.one)
