-- The one reading of the plain typed expression from the one that code holds.
use Rattle.std.specs.Prelude.{List, [], ◌∷◌}
use Rattle.typing_rules.specs.declared.expressions.Expression.{Expression, Literal, Name, Call', Member', Prefix', Postfix', Binary', Assign', Row_of-Expression, end_of-Expression, more_of-Expression}
use Rattle.typing_rules.specs.Typed.{TypedExpr, TypedExprs}
use Rattle.typing_rules.specs.Typed as t

unfoldable mutual
  pub plain : Expression → TypedExpr
  plain (Literal k) = t.literal k
  plain (Name y p) = t.name y p
  plain (Call' y f shape xs ks) = t.call y f (plain_row xs) ks
  plain (Member' y p x n) = t.member y (plain x) n
  plain (Prefix' y o p x) = t.prefix y o (plain x)
  plain (Postfix' y o p x) = t.postfix y o (plain x)
  plain (Binary' y o p x q z) = t.binary y o (plain x) (plain z)
  plain (Assign' y o p x q z) = t.assign y o (plain x) (plain z)

  pub plain_row : {m : _} → Row_of-Expression m → TypedExprs
  plain_row end_of-Expression = t.no_typed
  plain_row (more_of-Expression x xs) = t.more_typed (plain x) (plain_row xs)

-- the same of the list that code sees
unfoldable pub plain_all : List Expression → TypedExprs
plain_all [] = t.no_typed
plain_all (x ∷ xs) = t.more_typed (plain x) (plain_all xs)
