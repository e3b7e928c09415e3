-- What stops the parts of the command stops it.
use Rattle.std.proofs.Common.{inl, inr, subst, sym}
use Rattle.command_work.specs.declared.status.Status.{Status}
use Rattle.command_work.specs.declared.status.Status.TheVariants.{Done, Words, Script, Code, Area, Limit, Missing, Fault, Memory, Long}
use Rattle.command_work.specs.Work.{CutsShort}
use Rattle.command_work.specs.Counts.{Refusing}
use Rattle.command_generate.specs.Generated.{StopsGenerate}

cut_stops : (s : Status) → CutsShort s → StopsGenerate s
cut_stops Done cut = absurd cut
cut_stops Words cut = absurd cut
cut_stops Script cut = absurd cut
cut_stops Code cut = absurd cut
cut_stops Area cut = absurd cut
cut_stops Limit cut = tt
cut_stops Missing cut = absurd cut
cut_stops Fault cut = tt
cut_stops Memory cut = tt
cut_stops Long cut = absurd cut

pub limit_stops : (s : Status) → Refusing Limit s → StopsGenerate s
limit_stops s (inl is) = subst StopsGenerate (sym is) tt
limit_stops s (inr cut) = cut_stops s cut

-- and a part of it that only a limit stops
pub cut_refuses : (s : Status) → CutsShort s → Refusing Limit s
cut_refuses s cut = inr cut
