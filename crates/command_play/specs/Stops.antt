-- What stops the parts of a play stops the play. No contract speaks of these lemmas; they serve the
-- proofs of commands that play.
use mathlib.Core.Path.{sym, subst}
use mathlib.Core.Logic.{inl, inr}
use Rattle.std.specs.Prelude.{Result, Ok, Err, IfErr}
use Rattle.command_work.specs.declared.status.Status.{Status}
use Rattle.command_work.specs.declared.status.Status.TheVariants.{Done, Words, Script, Code, Area, Limit, Missing, Fault, Memory, Long}
use Rattle.command_work.specs.Work.{CutsShort, Finished}
use Rattle.command_work.specs.Counts.{Refusing, StopsSource, StopsArea}
use Rattle.play_inputs.specs.Listings.{StopsListing}
use Rattle.command_play.specs.Tellings.{StopsGame, StopsEnd}

pub listing_stops : (status : Status) → StopsListing status → StopsGame status
listing_stops Done h = absurd h
listing_stops Words h = absurd h
listing_stops Script h = tt
listing_stops Code h = tt
listing_stops Area h = tt
listing_stops Limit h = tt
listing_stops Missing h = tt
listing_stops Fault h = tt
listing_stops Memory h = tt
listing_stops Long h = tt

pub source_stops : (status : Status) → StopsSource status → StopsGame status
source_stops Done h = absurd h
source_stops Words h = absurd h
source_stops Script h = tt
source_stops Code h = tt
source_stops Area h = tt
source_stops Limit h = tt
source_stops Missing h = tt
source_stops Fault h = tt
source_stops Memory h = tt
source_stops Long h = tt

pub area_stops : (status : Status) → StopsArea status → StopsGame status
area_stops Done h = absurd h
area_stops Words h = absurd h
area_stops Script h = tt
area_stops Code h = tt
area_stops Area h = tt
area_stops Limit h = tt
area_stops Missing h = tt
area_stops Fault h = tt
area_stops Memory h = tt
area_stops Long h = tt

pub cut_stops : (status : Status) → CutsShort status → StopsGame status
cut_stops Done h = absurd h
cut_stops Words h = absurd h
cut_stops Script h = tt
cut_stops Code h = tt
cut_stops Area h = tt
cut_stops Limit h = tt
cut_stops Missing h = tt
cut_stops Fault h = tt
cut_stops Memory h = tt
cut_stops Long h = tt

pub limit_stops : (status : Status) → Refusing Limit status → StopsGame status
limit_stops status (inl is) = subst StopsGame (sym is) tt
limit_stops status (inr cut) = cut_stops status cut

pub large_stops : (status : Status) → Refusing Area status → StopsGame status
large_stops status (inl is) = subst StopsGame (sym is) tt
large_stops status (inr cut) = cut_stops status cut

pub end_stops : (status : Status) → StopsEnd status → StopsGame status
end_stops Done h = absurd h
end_stops Words h = absurd h
end_stops Script h = absurd h
end_stops Code h = absurd h
end_stops Area h = tt
end_stops Limit h = tt
end_stops Missing h = absurd h
end_stops Fault h = tt
end_stops Memory h = tt
end_stops Long h = absurd h

pub cut_ends : (status : Status) → CutsShort status → StopsEnd status
cut_ends Done h = absurd h
cut_ends Words h = absurd h
cut_ends Script h = absurd h
cut_ends Code h = absurd h
cut_ends Area h = absurd h
cut_ends Limit h = absurd h
cut_ends Missing h = absurd h
cut_ends Fault h = tt
cut_ends Memory h = tt
cut_ends Long h = absurd h

pub limit_ends : (status : Status) → Refusing Limit status → StopsEnd status
limit_ends status (inl is) = subst StopsEnd (sym is) tt
limit_ends status (inr cut) = cut_ends status cut

pub large_ends : (status : Status) → Refusing Area status → StopsEnd status
large_ends status (inl is) = subst StopsEnd (sym is) tt
large_ends status (inr cut) = cut_ends status cut

pub ends_stop : (r : Result Finished Status) → IfErr r StopsEnd → IfErr r StopsGame
ends_stop (Ok done) only = tt
ends_stop (Err status) only = end_stops status only
