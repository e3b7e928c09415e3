use Rattle.std.proofs.Common.{sym, subst}
use Rattle.hook_table.specs.InHooks.{known_by}
use Rattle.ncs_machine.specs.Settings.{IsSet}
use Rattle.ncs_machine.proofs.Beginning.{cut_here, last_here, run_here, runs_here, setting_is}
use Rattle.ncs_machine.proofs.RemarkLemmas.{remark_is}
use Rattle.ncs_machine.proofs.entry.run_remarked.Goals as goal

pub run_machine-ran-requires-clause-set : goal.run_machine-ran-requires-clause-set
run_machine-ran-requires-clause-set g c =
    subst IsSet (sym (setting_is c.args.setting.now.code _ _ (known_by c.args.setting.now.hooks.now) c.scripts.ensures.scripts c.table.ensures.table))
    (record { checked = c.keeps.ensures.checked; serving = c.args.setting.now.serving })

pub run_machine-ran-requires-clause-begins : goal.run_machine-ran-requires-clause-begins
run_machine-ran-requires-clause-begins g c =
    runs_here _ _ _ _ (sym (setting_is c.args.setting.now.code _ _ (known_by c.args.setting.now.hooks.now) c.scripts.ensures.scripts c.table.ensures.table))
    (sym c.of-machine.ensures.frames) c.requires.safe

pub returns-clause-run : goal.returns-clause-run
returns-clause-run g c =
    run_here _ _ _ _ _ _ _ _ _ _ (setting_is c.args.setting.now.code _ _ (known_by c.args.setting.now.hooks.now) c.scripts.ensures.scripts c.table.ensures.table)
    c.of-machine.ensures.frames c.run_machine-ran.ensures.run

pub returns-clause-cut : goal.returns-clause-cut
returns-clause-cut g c =
    cut_here _ _ _ _ _ _ _ _ _ (setting_is c.args.setting.now.code _ _ (known_by c.args.setting.now.hooks.now) c.scripts.ensures.scripts c.table.ensures.table)
    c.of-machine.ensures.frames c.run_machine-ran.ensures.cut

pub returns-clause-remark : goal.returns-clause-remark
returns-clause-remark g c =
    remark_is _ _ _ _ _ _ c.of-begun.ensures.begun
    (last_here _ _ _ 0 0 _ _ _ _ _ _ (setting_is c.args.setting.now.code _ _ (known_by c.args.setting.now.hooks.now) c.scripts.ensures.scripts c.table.ensures.table)
    c.of-machine.ensures.frames c.run_machine-ran.ensures.last)
    c.end_remark-remark.ensures.remark
