use Rattle.engine_table.specs.Turns.{known_of}
use Rattle.engine_table.proofs.KeepLemmas.{turn_keeps}
use Rattle.engine_table.proofs.reader.take.Goals as goal

pub go-requires-clause-keeps : goal.go-requires-clause-keeps
go-requires-clause-keeps c =
    turn_keeps (known_of c.args.known.now) c.args.stage c.args.place c.args.symbol c.in-Ok.turn c.keeps.ensures.table.constants c.requires.bounds c.requires.keeps c.in-Ok.ensures
