-- The lemmas by which what stops a part stops the whole, under one name each.
use Rattle.command_play.specs.Stops.{listing_stops, source_stops, area_stops, cut_stops, limit_stops, large_stops, end_stops, cut_ends, limit_ends, large_ends}

pub ruleset stops = (listing_stops, source_stops, area_stops, cut_stops, limit_stops, large_stops, end_stops)

pub ruleset ends = (cut_ends, limit_ends, large_ends)
