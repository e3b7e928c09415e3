use Rattle.ncs_emit.proofs.Leading.{both_lead_on, both_close, instruction_closes}
use Rattle.ncs_emit.proofs.Lines.{placements_add}
use Rattle.ncs_emit.proofs.Standing.{lines_size_adds, both_stand}
use Rattle.ncs_emit.proofs.laws.part_laws.Goals as goal

pub returns : goal.returns
returns c = record {
  parts = record {
    placements = placements_add;
    size = lines_size_adds;
    stand = both_stand;
    lead = both_lead_on;
    close = both_close;
    last = instruction_closes;
  };
}
