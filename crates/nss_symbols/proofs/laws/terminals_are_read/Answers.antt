use Rattle.nss_symbols.specs.Spellings.{each_is_read}
use Rattle.nss_symbols.proofs.TerminalsRead.{each_sign, each_word, is_written_so}
use Rattle.nss_symbols.proofs.laws.terminals_are_read.Goals as goal

pub returns-clause-each : goal.returns-clause-each
returns-clause-each c = each_is_read

pub returns-clause-written : goal.returns-clause-written
returns-clause-written c = is_written_so

pub returns-clause-words : goal.returns-clause-words
returns-clause-words c = each_word

pub returns-clause-signs : goal.returns-clause-signs
returns-clause-signs c = each_sign
