use Rattle.std.proofs.Common.{refl, arith, ap, sym, map, List, ◌∙◌}
use Rattle.state_format.specs.declared.parts.Object.{Object}
use Rattle.state_format.specs.declared.parts.Variable.{Variable}
use Rattle.state_parts.specs.World.{variable_of}
use Rattle.play_save.proofs.Given.{given_none, given_more, given_within, given_whole, lent_distinct}
use Rattle.play_save.proofs.world.give.Goals as goal

pub loop-i-init : goal.loop-i-init
loop-i-init c = given_none c.args.area

pub variables-requires : goal.variables-requires
variables-requires c = record {
  distinct = lent_distinct c.args.objects.now c.loop-i.i c.index-objects-i.result c.as_slice.result.now c.requires.distinct c.loop-i-test.true c.index-objects-i.is
      (c.as_slice.ensures.items ∙ ap (λ (o : Object). o.variables) (sym c.index-objects-i.is));
}

pub loop-i-preserved : goal.loop-i-preserved
loop-i-preserved c = given_more c.args.area c.loop-i.area c.put_vars.new.self c.args.objects.now c.loop-i.i _ c.index-objects-i.result c.in_ok-vars.vars c.requires.counted c.loop-i.invariant
    c.put_vars.ensures.vars refl
    (c.in_ok-vars.ensures.tells ∙ ap (λ (l : List Variable). map variable_of l) (c.as_slice.ensures.items ∙ ap (λ (o : Object). o.variables) (sym c.index-objects-i.is)))
    c.loop-i-test.true c.index-objects-i.is

pub put_vars-requires : goal.put_vars-requires
put_vars-requires c = record {
  first = omega arith;
  within = given_within c.args.area c.loop-i.area c.args.objects.now c.loop-i.i c.loop-i.invariant c.requires.counted c.loop-i-test.true;
}

pub returns : goal.returns
returns c = record { given = given_whole c.args.area c.loop-i.area c.args.objects.now c.loop-i.i c.loop-i.invariant c.loop-i-test.false }
