use Rattle.std.proofs.Common.{◌≡◌, drop}
use Rattle.typing_rules.specs.Reading.{plain_all}
use Rattle.typing_rules.specs.Rules.{all_taken}
use Rattle.nss_expressions.proofs.call.all_taken.Given as goal

abbrev pub invariant-loop-x : goal.invariant-loop-x
invariant-loop-x l = all_taken (plain_all (drop l.x-index l.xs)) l.rest ≡ all_taken (plain_all l.xs) l.params
