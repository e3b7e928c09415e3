use Rattle.ncs_machine.proofs.Leading.{runs_lead}
use Rattle.ncs_machine.proofs.laws.runs_lead.Goals as goal

pub returns : goal.returns
returns c = record {
  lead = runs_lead (record {
    engine = c.calls_keep_worlds.ensures.engine;
    no_script = c.calls_keep_worlds.ensures.no_script;
    too_deep = c.calls_keep_worlds.ensures.too_deep;
  });
}
