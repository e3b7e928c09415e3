-- What stops the reading of a script's code stops the listing.
use Rattle.std.proofs.Common.{inl, inr, subst, sym}
use Rattle.command_work.specs.declared.status.Status.{Status}
use Rattle.command_work.specs.declared.status.Status.TheVariants.{Done, Words, Script, Code, Area, Limit, Missing, Fault, Memory, Long}
use Rattle.command_work.specs.Work.{CutsShort}
use Rattle.command_work.specs.Counts.{Refusing, StopsSource, StopsCode}
use Rattle.play_inputs.specs.Listings.{StopsListing}

pub source_stops : (status : Status) → StopsSource status → StopsListing status
source_stops Done h = absurd h
source_stops Words h = absurd h
source_stops Script h = tt
source_stops Code h = tt
source_stops Area h = absurd h
source_stops Limit h = absurd h
source_stops Missing h = tt
source_stops Fault h = tt
source_stops Memory h = tt
source_stops Long h = tt

pub code_stops : (status : Status) → StopsCode status → StopsListing status
code_stops Done h = absurd h
code_stops Words h = absurd h
code_stops Script h = tt
code_stops Code h = tt
code_stops Area h = absurd h
code_stops Limit h = absurd h
code_stops Missing h = tt
code_stops Fault h = tt
code_stops Memory h = tt
code_stops Long h = tt

pub cut_stops : (status : Status) → CutsShort status → StopsListing status
cut_stops Done h = absurd h
cut_stops Words h = absurd h
cut_stops Script h = tt
cut_stops Code h = tt
cut_stops Area h = absurd h
cut_stops Limit h = absurd h
cut_stops Missing h = absurd h
cut_stops Fault h = tt
cut_stops Memory h = tt
cut_stops Long h = absurd h

pub refused_stops : (status : Status) → Refusing Code status → StopsListing status
refused_stops status (inl is) = subst StopsListing (sym is) tt
refused_stops status (inr cut) = cut_stops status cut

pub ruleset stops = (source_stops, code_stops, cut_stops, refused_stops)
