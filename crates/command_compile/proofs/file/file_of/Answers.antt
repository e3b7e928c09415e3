use Rattle.command_compile.proofs.file.file_of.Goals as goal

pub generate-requires-clause-bounded : goal.generate-requires-clause-bounded
generate-requires-clause-bounded g c = c.requires.bounded

pub generate-requires-clause-few : goal.generate-requires-clause-few
generate-requires-clause-few g c = c.requires.few
