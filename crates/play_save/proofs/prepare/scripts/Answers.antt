use Rattle.std.proofs.Common.{arith}
use Rattle.play_save.proofs.Scripts.{first_broken, others_broken, scripts_kept}
use Rattle.play_save.proofs.prepare.scripts.Goals as goal

pub returns-in-Err-clause-broken : goal.returns-in-Err-clause-broken
returns-in-Err-clause-broken c =
    first_broken c.args.table.now c.args.parts.now c.split_at.result.0.now c.min.result c.in-Err.fault c.split_at.ensures.front c.in-Err.ensures.broken

pub returns-in-Err-test_scripts-clause-broken : goal.returns-in-Err-test_scripts-clause-broken
returns-in-Err-test_scripts-clause-broken c =
    others_broken c.args.table.now c.args.parts.now c.split_at.result.1.now c.min.result c.in-Err-test_scripts.fault c.split_at.ensures.back c.in-Err-test_scripts.ensures.broken

pub returns-in-Ok-test_scripts-clause-scripts : goal.returns-in-Ok-test_scripts-clause-scripts
returns-in-Ok-test_scripts-clause-scripts c =
    scripts_kept c.args.table.now c.args.parts.now c.split_at.result.0.now c.split_at.result.1.now c.in-Ok.kept c.min.result (omega (arith, c.min.ensures)) c.split_at.ensures.front
    c.split_at.ensures.back
    c.in-Ok.ensures.scripts c.in-Ok-test_scripts.ensures.sound
