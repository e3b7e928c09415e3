-- What a plan lists is well stacked.
use Rattle.std.proofs.Common.{List, [], ◌∷◌}
use Rattle.nwq_value.specs.Engine.{EngineTable}
use Rattle.nwq_outside.specs.Outside.{Contents}
use Rattle.plan_text.specs.declared.plan.Script.{Script as ScriptLine}
use Rattle.machine_rules.specs.Machine.{Script}
use Rattle.stack_rules.specs.Rules.{WellStacked}
use Rattle.command_meaning.specs.CodeEnds.{AreStacked}
use Rattle.nwq_top.specs.Accepting.{HasLine, HasScripts}
use Rattle.nwq_top.specs.Accepting as accepting

module _ (header : EngineTable) where
  line_is_stacked : (line : ScriptLine) (c d : Contents) (script : Script) → HasLine header c line script d → WellStacked header script.code
  line_is_stacked line c d script (accepting.source e unit h) = h.passes.stacked
  line_is_stacked line c d script (accepting.binary e ops h) = h.stacked

  pub lines_are_stacked : (lines : List ScriptLine) (c d : Contents) (scripts : List Script) → HasScripts header lines c scripts d → AreStacked header scripts
  lines_are_stacked [] c d scripts (accepting.none _) = tt
  lines_are_stacked (line ∷ lines) c d scripts (accepting.more _ _ _ e _ script others h k) =
      (line_is_stacked line c e script h, lines_are_stacked lines e d others k)
