use Rattle.std.proofs.Common.{ℕ, ◌≡◌, ◌≤◌, Bool, true, false, cond, ltb, arith}
use Rattle.emission_rules.specs.Units.{unit_code}
use Rattle.emission_rules.proofs.laws.code_stands.Goals as goal

at_most_once : (b : Bool) (count : ℕ) → count ≡ cond b 1 0 → count ≤ 1
at_most_once true count is = omega arith
at_most_once false count is = omega arith

pub returns : goal.returns
returns c = record {
  stands = λ u. c.program_stands.ensures.stands (unit_code u).lines
      (λ label. at_most_once (ltb label (unit_code u).labels) _ (c.each_placed_once.ensures.once u label));
}
