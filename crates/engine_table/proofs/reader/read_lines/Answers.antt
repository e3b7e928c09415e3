use Rattle.nss_lexer.specs.Splitting.{plain}
use Rattle.engine_table.proofs.TokenLemmas.{read_all_ok, read_all_err, read_more, read_bad, read_bad_behind, read_broken}
use Rattle.engine_table.proofs.reader.read_lines.Goals as goal

pub returns-in-End-clause-table : goal.returns-in-End-clause-table
returns-in-End-clause-table c =
    read_all_ok c.args.bytes.now c.loop-known.at
    (record {
      known = c.loop-known.known;
      stage = c.loop-known.stage;
    }) c.finish.result c.loop-known.invariant c.in-End.ensures.first c.finish.ensures.ended

pub returns-in-End-clause-refused : goal.returns-in-End-clause-refused
returns-in-End-clause-refused c =
    read_all_err c.args.bytes.now c.loop-known.at
    (record {
      known = c.loop-known.known;
      stage = c.loop-known.stage;
    }) c.finish.result c.loop-known.invariant c.in-End.ensures.first c.finish.ensures.ended

pub returns-in-Bad-clause-refused : goal.returns-in-Bad-clause-refused
returns-in-Bad-clause-refused c =
    read_bad c.args.bytes.now c.loop-known.at c.in-Bad.place (record { known = c.loop-known.known; stage = c.loop-known.stage }) c.loop-known.invariant c.in-Bad.ensures.first

pub returns-in-Some-clause-refused : goal.returns-in-Some-clause-refused
returns-in-Some-clause-refused c =
    read_bad_behind c.args.bytes.now c.loop-known.at c.in-Some.place (record { known = c.loop-known.known; stage = c.loop-known.stage }) (plain c.in-Token.token) c.loop-known.invariant
    c.in-Token.ensures.first c.in-Some.ensures

pub returns-in-None-clause-refused : goal.returns-in-None-clause-refused
returns-in-None-clause-refused c =
    read_broken c.args.bytes.now c.loop-known.at (record { known = c.loop-known.known; stage = c.loop-known.stage }) (plain c.in-Token.token) c.in-Err.fault c.loop-known.invariant
    c.in-Token.ensures.first c.in-None.ensures c.in-Err.ensures.fails

pub loop-known-preserved : goal.loop-known-preserved
loop-known-preserved c =
    read_more c.args.bytes.now c.loop-known.at (record { known = c.loop-known.known; stage = c.loop-known.stage })
    (record { known = c.read.new.known; stage = c.in-Ok.next }) (plain c.in-Token.token) c.loop-known.invariant
    c.in-Token.ensures.first c.in-Ok.ensures.goes c.in-Ok.ensures.keeps c.in-Ok.ensures.counted
