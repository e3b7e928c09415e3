-- What clauses say of a unit, and of its tree, as it is read.
use Rattle.std.specs.Prelude.{Err}
use Rattle.nwq_outside.specs.declared.counts.FileCounts.{FileCounts}
use Rattle.nss_tree.specs.Source.{SourceTree}
use Rattle.nss_symbols.specs.Nest.{IsWithinNest}
use Rattle.nss_parser.specs.declared.fault.ParseFault.{ParseFault}
use Rattle.nss_parser.specs.Fault.{Refuses}
use Rattle.nss_parser.specs.Sentence.{Parses}
use Rattle.nss_include.specs.declared.fault.GatherFault.{GatherFault}
use Rattle.nss_include.specs.View.{Gathered}
use Rattle.nss_include.specs.Gather.{CountsGathered}
use Rattle.command_sources.specs.Units.{grammar_symbols}

-- the counts of files, before and now, as a reading left them that ended in this fault
abbrev pub IsCounted : GatherFault → FileCounts → FileCounts → Type 0
IsCounted fault before now = CountsGathered {A = Gathered} (Err fault) before now

-- a unit has this tree, and nests within the limit
pub record HasTree (unit : Gathered) (tree : SourceTree) : Type 0 where
  pub nest : IsWithinNest (grammar_symbols unit.tokens)
  pub parses : Parses (grammar_symbols unit.tokens) tree

-- a unit is refused for this
abbrev pub HasFault : Gathered → ParseFault → Type 0
HasFault unit fault = Refuses (grammar_symbols unit.tokens) fault
