-- Scripts of typed units are as the laws on plays ask.
use Rattle.typed_laws.specs.Laws.{UnitsAreReady}
use Rattle.play_meaning.specs.TypedScripts.{TypedScriptsAreReady}

pub typed_scripts_are_ready : UnitsAreReady → TypedScriptsAreReady
typed_scripts_are_ready units s is_table typed script l is self waiting =
    let t = typed script l is in
    units s.table t.tokens t.tree l.unit is_table t.parses t.types script self waiting
