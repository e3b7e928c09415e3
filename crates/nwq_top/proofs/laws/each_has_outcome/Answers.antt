use Rattle.nwq_top.proofs.Answering.{each_has_outcome, each_whole_has_outcome, plain_have_outcomes}
use Rattle.nwq_top.proofs.laws.each_has_outcome.Goals as goal

pub returns-clause-each : goal.returns-clause-each
returns-clause-each c = each_has_outcome c.one_header.ensures.one c.some_split.ensures.some c.tree_or_place.ensures.either
    c.verdicts_are_right.ensures.typed c.verdicts_are_right.ensures.settled c.units_pass.ensures.pass c.scripts_play_units.ensures.units
    c.headers_have_tables.ensures.read c.headers_have_tables.ensures.built_in c.sources_compile.ensures.compile
    c.spelling_laws.ensures.spelling c.size_laws.ensures.sizes c.place_laws.ensures.places (record { read = c.read_trees_stand.ensures.read; stand = c.read_trees_stand.ensures.stands })
    c.code_is_bytes.ensures.bytes
    c.first_entries_have_states.ensures.states c.plans_keep.ensures.keep

pub returns-clause-whole : goal.returns-clause-whole
returns-clause-whole c = each_whole_has_outcome c.one_header.ensures.one c.some_split.ensures.some c.tree_or_place.ensures.either
    c.verdicts_are_right.ensures.typed c.verdicts_are_right.ensures.settled c.units_pass.ensures.pass c.scripts_play_units.ensures.units
    c.headers_have_tables.ensures.read c.headers_have_tables.ensures.built_in c.sources_compile.ensures.compile
    c.spelling_laws.ensures.spelling c.size_laws.ensures.sizes c.place_laws.ensures.places (record { read = c.read_trees_stand.ensures.read; stand = c.read_trees_stand.ensures.stands })
    c.code_is_bytes.ensures.bytes
    c.first_entries_have_states.ensures.states c.plans_keep.ensures.keep

pub returns-clause-plain : goal.returns-clause-plain
returns-clause-plain c = plain_have_outcomes c.one_header.ensures.one c.some_split.ensures.some c.tree_or_place.ensures.either
    c.verdicts_are_right.ensures.typed c.verdicts_are_right.ensures.settled c.units_pass.ensures.pass c.scripts_play_units.ensures.units
    c.headers_have_tables.ensures.read c.headers_have_tables.ensures.built_in c.sources_compile.ensures.compile
    c.spelling_laws.ensures.spelling c.size_laws.ensures.sizes c.place_laws.ensures.places (record { read = c.read_trees_stand.ensures.read; stand = c.read_trees_stand.ensures.stands })
    c.code_is_bytes.ensures.bytes
    c.first_entries_have_states.ensures.states c.plans_keep.ensures.keep
