-- What stops the parts of the commands stops the commands.
use Rattle.command_work.specs.declared.status.Status.{Status}
use Rattle.command_work.specs.declared.status.Status.TheVariants.{Done, Words, Script, Code, Area, Limit, Missing, Fault, Memory, Long}
use Rattle.command_work.specs.Counts.{StopsArea}
use Rattle.command_play.specs.Tellings.{StopsEnd}
use Rattle.command_play.specs.Stops.{listing_stops, source_stops, area_stops, cut_stops, limit_stops, large_stops, end_stops, cut_ends}
use Rattle.command_save.specs.Tellings.{StopsResume}

pub area_resumes : (status : Status) → StopsArea status → StopsResume status
area_resumes Done h = absurd h
area_resumes Words h = absurd h
area_resumes Script h = absurd h
area_resumes Code h = absurd h
area_resumes Area h = tt
area_resumes Limit h = tt
area_resumes Missing h = tt
area_resumes Fault h = tt
area_resumes Memory h = tt
area_resumes Long h = tt

pub end_resumes : (status : Status) → StopsEnd status → StopsResume status
end_resumes Done h = absurd h
end_resumes Words h = absurd h
end_resumes Script h = absurd h
end_resumes Code h = absurd h
end_resumes Area h = tt
end_resumes Limit h = tt
end_resumes Missing h = absurd h
end_resumes Fault h = tt
end_resumes Memory h = tt
end_resumes Long h = absurd h

pub ruleset stops = (listing_stops, source_stops, area_stops, cut_stops, limit_stops, large_stops, end_stops, cut_ends, area_resumes, end_resumes)
