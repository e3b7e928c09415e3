use Rattle.nss_lexer.specs.Splitting.{plain}
use Rattle.engine_table.proofs.TokenLemmas.{passed_more, passed_all, passed_bad}
use Rattle.engine_table.proofs.reader.first_bad.Goals as goal

pub returns-in-End : goal.returns-in-End
returns-in-End c = passed_all c.args.bytes.now c.args.from c.loop-place.at c.loop-place.invariant c.in-End.ensures.first

pub returns-in-Bad : goal.returns-in-Bad
returns-in-Bad c = passed_bad c.args.bytes.now c.args.from c.loop-place.at c.in-Bad.place c.loop-place.invariant c.in-Bad.ensures.first

pub loop-place-preserved : goal.loop-place-preserved
loop-place-preserved c =
    passed_more c.args.bytes.now c.args.from c.loop-place.at (plain c.in-Token.token) c.loop-place.invariant c.in-Token.ensures.first
