use Rattle.std.proofs.Common.{sym, subst}
use Rattle.stack_rules.specs.Safe.{IsSafeFrame}
use Rattle.ncs_machine.specs.InSetting.{seen}
use Rattle.ncs_machine.specs.Settings.{scripts_in, tables_in}
use Rattle.ncs_machine.proofs.Beginning.{start_safe}
use Rattle.ncs_machine.proofs.entry.run.Goals as goal

pub run_frame-requires-clause-safe : goal.run_frame-requires-clause-safe
run_frame-requires-clause-safe g c =
    subst (IsSafeFrame (scripts_in (seen c.args.setting.now)) (tables_in (seen c.args.setting.now))) (sym c.started-frame.ensures.frame)
    (start_safe c.args.setting.now.code.scripts
    (tables_in (seen c.args.setting.now)) c.args.setting.now.code.table c.args.script c.args.caller c.entries_begin_safely.ensures.scripts c.requires.begins.listed c.keeps.ensures.checked.meets)
