use Rattle.std.proofs.Common.{arith}
use Rattle.area_back.specs.Back.{valued}
use Rattle.area_back.proofs.BackLemmas.{changed_plain}
use Rattle.area_back.proofs.back.set_values.Goals as goal

pub loop-i-preserved : goal.loop-i-preserved
loop-i-preserved c = record {
  values =
      changed_plain (valued c.args.vars.now) c.args.entries.now.items c.loop-i.entries.items c.loop-i.i c.index_mut.result.now c.set_value.new.entry
      (omega (arith, c.loop-i-test.true, c.len-i-end.ensures, c.args.entries.now.ok.0))
      c.loop-i.invariant.values c.index_mut.ensures.value (omega (arith, c.loop-i-test.true, c.len-i-end.ensures, c.loop-i.invariant.long, c.loop-i.entries.ok.0)) c.in_ok-set_value.ensures;
  long = c.loop-i.invariant.long;
}
