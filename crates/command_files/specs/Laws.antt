-- Statements about the parts that read files. Each stands on the contract of a function of `laws`.
use Rattle.std.specs.Prelude.{ℕ, List}
use Rattle.command_work.specs.Outcomes.{IsSure}
use Rattle.command_files.specs.Trees.{tree_named}
use Rattle.command_files.specs.Codes.{code_in, code_named}
use Rattle.command_files.specs.Assemblies.{assembly_named}
use Rattle.command_files.specs.Commands.{shows_tree, disassembles, assembles}

-- the bytes of a file of bytecode decide which instructions it has, or what is wrong with it
abbrev pub SureBytes : Type 0
SureBytes = (name bytes : List ℕ) → IsSure (code_in name bytes)

-- what the files hold decides what comes of a GFF file, of a file of bytecode, and of an assembler
-- text
abbrev pub SureTrees : Type 0
SureTrees = (name : List ℕ) → IsSure (tree_named name)

abbrev pub SureCodes : Type 0
SureCodes = (name : List ℕ) → IsSure (code_named name)

abbrev pub SureAssemblies : Type 0
SureAssemblies = (name : List ℕ) → IsSure (assembly_named name)

-- and so of each command over them
pub record SureCommands : Type 0 where
  pub tree : (file : List ℕ) → IsSure (shows_tree file)
  pub disassembled : (file to : List ℕ) → IsSure (disassembles file to)
  pub assembled : (file to : List ℕ) → IsSure (assembles file to)
