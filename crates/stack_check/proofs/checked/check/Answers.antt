use Rattle.std.proofs.Common.{subst}
use Rattle.std.specs.Prelude.{◌≤◌, ◌+◌, IfSome, MatchOption, length}
use Rattle.stack_rules.specs.Rules.{WellStacked}
use Rattle.stack_check.specs.Facts.{found}
use Rattle.stack_check.specs.Inference.{IsFound}
use Rattle.stack_check.proofs.Ending.{kept_meets, kept_stands, turns_under}
use Rattle.stack_check.proofs.Costs.{looks_under}
use Rattle.stack_check.specs.Costs.{most_looks}
use Rattle.stack_check.proofs.checked.check.Goals as goal

pub returns-in-Some-clause-meets : goal.returns-in-Some-clause-meets
returns-in-Some-clause-meets c =
    kept_meets c.args.table.now c.args.code (record { code = c.args.code; heap = c.in-Some.kept.heap; facts = c.in-Some.kept.facts; turns = c.in-Some.kept.turns; looks = c.in-Some.kept.looks; calls = c.in-Some.kept.calls })
    (subst (λ o. MatchOption o (WellStacked c.args.table.now c.args.code → ⊥) (λ k. IsFound c.args.table.now c.args.code k.heap k.facts)) c.in-Some.is
    c.in_ok-infer.ensures.found)

pub returns-in-Some-clause-stored : goal.returns-in-Some-clause-stored
returns-in-Some-clause-stored c other meets =
    kept_stands c.args.table.now c.args.code (record { code = c.args.code; heap = c.in-Some.kept.heap; facts = c.in-Some.kept.facts; turns = c.in-Some.kept.turns; looks = c.in-Some.kept.looks; calls = c.in-Some.kept.calls }) other
    (subst (λ o. MatchOption o (WellStacked c.args.table.now c.args.code → ⊥) (λ k. IsFound c.args.table.now c.args.code k.heap k.facts)) c.in-Some.is
    c.in_ok-infer.ensures.found) meets

pub returns-in-Some-clause-turns : goal.returns-in-Some-clause-turns
returns-in-Some-clause-turns c =
    turns_under c.args.table.now c.args.code (record { code = c.args.code; heap = c.in-Some.kept.heap; facts = c.in-Some.kept.facts; turns = c.in-Some.kept.turns; looks = c.in-Some.kept.looks; calls = c.in-Some.kept.calls })
    c.in-Some.kept.turns
    (subst (λ o. MatchOption o (WellStacked c.args.table.now c.args.code → ⊥) (λ k. IsFound c.args.table.now c.args.code k.heap k.facts)) c.in-Some.is
    c.in_ok-infer.ensures.found)
    (subst (λ o. IfSome o (λ k. k.turns ≤ found k.facts)) c.in-Some.is c.in_ok-infer.ensures.turns)

pub returns-in-Some-clause-looks : goal.returns-in-Some-clause-looks
returns-in-Some-clause-looks c =
    looks_under _ _ c.in-Some.kept.looks _
    (subst (λ o. IfSome o (λ k. k.looks ≤ most_looks k.turns k.calls + 1)) c.in-Some.is c.in_ok-infer.ensures.looks)
    (turns_under c.args.table.now c.args.code (record { code = c.args.code; heap = c.in-Some.kept.heap; facts = c.in-Some.kept.facts; turns = c.in-Some.kept.turns; looks = c.in-Some.kept.looks; calls = c.in-Some.kept.calls })
    c.in-Some.kept.turns
    (subst (λ o. MatchOption o (WellStacked c.args.table.now c.args.code → ⊥) (λ k. IsFound c.args.table.now c.args.code k.heap k.facts)) c.in-Some.is
    c.in_ok-infer.ensures.found)
    (subst (λ o. IfSome o (λ k. k.turns ≤ found k.facts)) c.in-Some.is c.in_ok-infer.ensures.turns))

pub returns-in-Some-clause-calls : goal.returns-in-Some-clause-calls
returns-in-Some-clause-calls c = subst (λ o. IfSome o (λ k. k.calls ≤ length k.facts.rows)) c.in-Some.is c.in_ok-infer.ensures.calls
