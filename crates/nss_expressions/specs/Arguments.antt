-- Arguments by their number and their order.
use Rattle.std.specs.Prelude.{ℕ, Bool, false, nat_lt, length, drop, List, [], ◌∷◌, Option, None, if◌then◌else◌}
use Rattle.nwq_value.specs.declared.engine.Const.{Const}
use Rattle.nwq_value.specs.declared.engine.Param.{Param}
use Rattle.std.specs.Option.{option_map}
use Rattle.typing_rules.specs.Nodes.{two}
use Rattle.typing_rules.specs.Rules.{defaults, takes}
use Rattle.typing_rules.specs.Typed.{TypedExpr, TypedExprs, no_typed, more_typed}

-- the defaults of the parameters behind so many; None where there are fewer of them, or one has no
-- default
abbrev pub defaults_behind : ℕ → List Param → Option (List Const)
defaults_behind n ps = if nat_lt (length ps) n then None else defaults (drop n ps)

-- there is a first parameter, and it takes the value
abbrev pub first_takes : List Param → TypedExpr → Bool
first_takes [] x = false
first_takes (p ∷ ps) x = takes p.ty x

-- ---- typed expressions in a row

abbrev pub joined_typed : TypedExprs → TypedExprs → TypedExprs
joined_typed no_typed ys = ys
joined_typed (more_typed x xs) ys = more_typed x (joined_typed xs ys)

-- one behind others
abbrev pub last_typed : TypedExprs × TypedExpr → TypedExprs
last_typed p = joined_typed p.0 (more_typed p.1 no_typed)

abbrev pub with_last : Option TypedExprs → Option TypedExpr → Option TypedExprs
with_last all one = option_map last_typed (two all one)

abbrev pub both_typed : TypedExprs × TypedExprs → TypedExprs
both_typed p = joined_typed p.0 p.1

-- some, and others behind them
abbrev pub with_others : Option TypedExprs → Option TypedExprs → Option TypedExprs
with_others all others = option_map both_typed (two all others)
