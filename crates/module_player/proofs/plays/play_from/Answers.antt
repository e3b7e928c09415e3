use Rattle.module_player.proofs.Cutting.{last_whole}
use Rattle.module_player.proofs.Playing.{cut_short, cut_told, play_begins, play_fails, play_is_last, play_rests, play_runs_out, play_stops, plays_go_on}
use Rattle.module_player.proofs.plays.play_from.Goals as goal

pub loop-number-init : goal.loop-number-init
loop-number-init g c = play_begins _ _ _ _ _ _ _ _ _ c.requires.world.fit c.requires.world.quiet c.requires.goes.within c.requires.world.next c.requires.goes.few

pub loop-number-preserved : goal.loop-number-preserved
loop-number-preserved g c =
    plays_go_on _ _ _ _ _ _ _ _ _ _ _ _ c.loop-number.invariant _ _ _ _ c.loop-number-test.true c.if-number-limits.false c.args.limits.few_instructions c.in-Goes.ensures.turns
    c.in-Goes.ensures.taken c.in-Goes.ensures.counts

pub returns-in-Stops : goal.returns-in-Stops
returns-in-Stops g c = record {
  played = play_stops _ _ _ _ _ _ _ _ _ _ _ _ c.loop-number.invariant _ _ _ _ c.loop-number-test.true c.if-number-limits.false c.args.limits.few_instructions c.args.limits.few_entries
      c.in-Stops.ensures.turns c.in-Stops.ensures.taken c.in-Stops.ensures.counts;
  cut = tt;
  told = λ can. tt;
}

pub returns-in-Rests : goal.returns-in-Rests
returns-in-Rests g c = record {
  played = play_rests _ _ _ _ _ _ _ _ _ _ _ _ c.loop-number.invariant _ _ _ c.loop-number-test.true c.if-number-limits.false c.args.limits.few_entries c.in-Rests.ensures.turns
      c.in-Rests.ensures.taken c.in-Rests.ensures.counts;
  cut = tt;
  told = λ can. tt;
}

pub returns-in-Fault : goal.returns-in-Fault
returns-in-Fault g c = record {
  played = play_fails _ _ _ _ _ _ _ _ _ _ _ _ c.loop-number.invariant _ _ _ _ _ c.loop-number-test.true c.if-number-limits.false c.in-Fault.ensures.taken c.in-Fault.ensures.counts;
  cut = cut_short _ _ _ _ _ _ _ _ _ _ _ _ c.loop-number.invariant _ c.in-Fault.ensures.cut;
  told = λ can. cut_told _ _ _ _ _ _ _ _ _ _ _ _ c.loop-number.invariant _ c.in-Fault.ensures.taken can;
}

pub returns-in-NoMemory : goal.returns-in-NoMemory
returns-in-NoMemory g c = record {
  played = play_runs_out _ _ _ _ _ _ _ _ _ _ _ _ c.loop-number.invariant _ _ _ _ _ c.loop-number-test.true c.if-number-limits.false c.in-NoMemory.ensures.taken c.in-NoMemory.ensures.counts;
  cut = cut_short _ _ _ _ _ _ _ _ _ _ _ _ c.loop-number.invariant _ c.in-NoMemory.ensures.cut;
  told = λ can. cut_told _ _ _ _ _ _ _ _ _ _ _ _ c.loop-number.invariant _ c.in-NoMemory.ensures.taken can;
}

pub returns-then-number-limits : goal.returns-then-number-limits
returns-then-number-limits g c = record {
  played = play_is_last _ _ _ _ _ _ _ _ _ _ _ _ c.loop-number.invariant _ c.loop-number-test.true c.if-number-limits.true c.args.limits.few_entries c.last_end.ensures.ending;
  cut = last_whole _ _ _ c.last_end.ensures.ending;
  told = λ can. last_whole _ _ _ c.last_end.ensures.ending;
}
