-- What a work that isn't cut does is what it amounts to, and what is left of one that is cut is a
-- front of that.
use Rattle.world_rules.specs.Pure.{CellLookup}
use Rattle.command_work.specs.Outcomes.{IsSure}
use Rattle.command_work.specs.AmountLemmas.{amount, front}
use Rattle.command_words.specs.Words.{Form}
use Rattle.nwq_top.specs.Command.{work_of, whole_work}
use Rattle.nwq_top.specs.Cuts.{IsFrontOf}
use Rattle.nwq_top.specs.Laws.{WorksAmount, WholeAmounts, CutsLeaveFronts, WholeCutsLeaveFronts}

pub works_amount : WorksAmount
works_amount cell form r c c' t t' whole does = amount r whole (work_of cell form) c c' t t' does

pub whole_amounts : WholeAmounts
whole_amounts form r c c' t t' whole does = amount r whole (whole_work form) c c' t t' does

pub cuts_leave_fronts : ((cell : CellLookup) (form : Form) → IsSure (work_of cell form)) → CutsLeaveFronts
unfolding IsFrontOf
cuts_leave_fronts sure cell form r c c' t t' does s writes text amounts =
    front r s c' t' (work_of cell form) (sure cell form) c t writes text does amounts

pub whole_cuts_leave_fronts : ((form : Form) → IsSure (whole_work form)) → WholeCutsLeaveFronts
unfolding IsFrontOf
whole_cuts_leave_fronts sure form r c c' t t' does s writes text amounts =
    front r s c' t' (whole_work form) (sure form) c t writes text does amounts
