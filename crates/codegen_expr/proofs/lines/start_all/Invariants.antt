use Rattle.std.proofs.Common.{◌≡◌, ◌++◌, drop}
use Rattle.std.specs.List.{AllByRecursion}
use Rattle.emission_rules.specs.Bounds.{IsCell}
use Rattle.emission_rules.specs.Operations as code
use Rattle.codegen_expr.proofs.lines.start_all.Given as goal

abbrev pub invariant-loop-ty : goal.invariant-loop-ty
invariant-loop-ty l =
    AllByRecursion IsCell (drop l.ty-index l.types)
    × (record l.out { lines = l.out.lines ++ code.started (drop l.ty-index l.types) } ≡ record l.initial.out { lines = l.initial.out.lines ++ code.started l.types })
