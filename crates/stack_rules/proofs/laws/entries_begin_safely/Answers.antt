use Rattle.stack_rules.proofs.EntryLemmas.{continues_safely}
use Rattle.stack_rules.proofs.laws.entries_begin_safely.Goals as goal

-- src/laws.rt:5:1
pub returns-clause-states : goal.returns-clause-states
returns-clause-states c = continues_safely
