-- Tables of shapes by the numbers of scripts, one for each. No contract speaks of these lemmas; they
-- serve the proofs of play_save and of play_states.
use Rattle.std.proofs.Common.{zero, suc, List, [], ◌∷◌, ◌≡◌, subst}
use Rattle.std.specs.List.{AllByRecursion}
use Rattle.nwq_value.specs.Engine.{EngineTable}
use Rattle.machine_rules.specs.Machine.{Script}
use Rattle.stack_rules.specs.Rules.{MeetsRules, WellStacked}
use Rattle.stack_rules.specs.Fits.{Tables}
use Rattle.stack_rules.specs.Laws.{AllMeet}
use Rattle.ncs_machine.specs.Host.{no_table}

abbrev pub chosen : (header : EngineTable) (scripts : List Script)
    → AllByRecursion (λ (s : Script). WellStacked header s.code) scripts → Tables
chosen header [] stacked n = no_table
chosen header (s ∷ ss) stacked zero = stacked.0.0
chosen header (s ∷ ss) stacked (suc n) = chosen header ss stacked.1 n

pub chosen_meet : (header : EngineTable) (scripts : List Script)
    (stacked : AllByRecursion (λ (s : Script). WellStacked header s.code) scripts)
    → AllMeet header scripts (chosen header scripts stacked)
chosen_meet header [] stacked n script at = absurd cc
chosen_meet header (s ∷ ss) stacked zero script at = let same : s ≡ script = cc in
    subst (λ (x : Script). MeetsRules header x.code stacked.0.0) same stacked.0.1
chosen_meet header (s ∷ ss) stacked (suc n) script at = chosen_meet header ss stacked.1 n script at
