use Rattle.module_player.proofs.Cutting.{ran_out, run_cut}
use Rattle.module_player.proofs.Runs.{over_told, divided_told, stopped_told}
use Rattle.module_player.proofs.scripts.run_scripts.Goals as goal

pub returns-in-Ended-clause-run : goal.returns-in-Ended-clause-run
returns-in-Ended-clause-run g c = over_told _ _ _ _ _ _ _ _ _ _ c.in-Ended.is c.requires.ready.fit c.run-ran.ensures.run

pub returns-in-Divide-clause-run : goal.returns-in-Divide-clause-run
returns-in-Divide-clause-run g c = divided_told _ _ _ _ _ _ _ _ _ _ c.in-Divide.is c.requires.ready.fit c.run-ran.ensures.run

pub returns-in-Limit-clause-run : goal.returns-in-Limit-clause-run
returns-in-Limit-clause-run g c = stopped_told _ _ _ _ _ _ _ _ _ _ c.in-Limit.is c.requires.ready.fit c.run-ran.ensures.run

pub returns-in-NoMemory-clause-cut : goal.returns-in-NoMemory-clause-cut
returns-in-NoMemory-clause-cut g c = run_cut _ _ _ _ _ _ _ _ (ran_out _ _ c.in-NoMemory.is c.run-ran.ensures.cut)
