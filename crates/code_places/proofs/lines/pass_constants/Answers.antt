use Rattle.std.proofs.Common.{◌≡◌, ◌∙◌, ap, sym, arith, drop, length}
use Rattle.std.proofs.lemmas.List.{drop_all}
use Rattle.code_places.specs.Marks as marks
use Rattle.code_places.specs.Seeking.{sought}
use Rattle.code_places.proofs.Loops.{back}
use Rattle.code_places.proofs.Seeking.{last, nothing, parts}
use Rattle.code_places.proofs.lines.pass_constants.Goals as goal

pub loop-i-init : goal.loop-i-init
loop-i-init c = (
  omega arith,
  nothing c.args.seek ∙ ap (λ ys. sought (marks.constants_marks c.args.node ys) c.args.seek) (sym (drop_all (length c.args.constants.now) c.args.constants.now (omega arith))),
)

pub loop-i-preserved : goal.loop-i-preserved
loop-i-preserved c = (
  omega (arith, c.loop-i.invariant.0),
  parts c.args.seek _ _ c.loop-i.invariant.1 (last c.loop-i.seek _ c.pass_constant-seek.ensures)
      ∙ sym (back (λ ys. sought (marks.constants_marks c.args.node ys) c.args.seek) _ _ _ c.index-constants-i.is c.loop-i-test.true c.loop-i.invariant.0),
)

pub returns : goal.returns
returns c =
    let none : c.loop-i.i ≡ 0 = omega (arith, c.loop-i-test.false) in
    c.loop-i.invariant.1 ∙ ap (λ j. sought (marks.constants_marks c.args.node (drop j c.args.constants.now)) c.args.seek) none
