-- What stops a part of a run stops the run.
use Rattle.std.proofs.Common.{inl, inr, subst, sym}
use Rattle.command_work.specs.declared.status.Status.{Status}
use Rattle.command_work.specs.declared.status.Status.TheVariants.{Done, Words, Script, Code, Area, Limit, Missing, Fault, Memory, Long}
use Rattle.command_work.specs.Work.{CutsShort}
use Rattle.command_work.specs.Counts.{StopsSource, Refusing}
use Rattle.command_run.specs.Runs.{StopsRun}

pub source_stops : (status : Status) → StopsSource status → StopsRun status
source_stops Done h = h
source_stops Words h = h
source_stops Script h = h
source_stops Code h = absurd h
source_stops Area h = h
source_stops Limit h = tt
source_stops Missing h = h
source_stops Fault h = h
source_stops Memory h = h
source_stops Long h = h

cut_stops : (status : Status) → CutsShort status → StopsRun status
cut_stops Done cut = absurd cut
cut_stops Words cut = absurd cut
cut_stops Script cut = tt
cut_stops Code cut = absurd cut
cut_stops Area cut = absurd cut
cut_stops Limit cut = tt
cut_stops Missing cut = tt
cut_stops Fault cut = tt
cut_stops Memory cut = tt
cut_stops Long cut = tt

pub play_stops : (status : Status) → Refusing Limit status → StopsRun status
play_stops status (inl is) = subst StopsRun (sym is) tt
play_stops status (inr cut) = cut_stops status cut

pub ruleset runs_stop = (source_stops, play_stops)
