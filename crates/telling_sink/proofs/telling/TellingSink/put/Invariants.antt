use Rattle.telling_sink.specs.Noting.{noted_of}
use Rattle.telling_sink.proofs.telling.TellingSink.put.Given as goal

abbrev pub ghost-then : goal.ghost-then
ghost-then g a = noted_of a._event.now
