use Rattle.std.proofs.Common.{refl}
use Rattle.typing_rules.specs.Readings.{plain_call, plain_prefix, plain_postfix, plain_binary, plain_assign}
use Rattle.typing_rules.proofs.expressions.Expression.+is_place.Goals as goal

pub returns-in-Call : goal.returns-in-Call
returns-in-Call bound c = rw (plain_call _ _ _ _ _ c.in-Call.is) (record { place = refl })

pub returns-in-Prefix : goal.returns-in-Prefix
returns-in-Prefix bound c = rw (plain_prefix _ _ _ _ c.in-Prefix.is) (record { place = refl })

pub returns-in-Postfix : goal.returns-in-Postfix
returns-in-Postfix bound c = rw (plain_postfix _ _ _ _ c.in-Postfix.is) (record { place = refl })

pub returns-in-Binary : goal.returns-in-Binary
returns-in-Binary bound c = rw (plain_binary _ _ _ _ _ c.in-Binary.is) (record { place = refl })

pub returns-in-Assign : goal.returns-in-Assign
returns-in-Assign bound c = rw (plain_assign _ _ _ _ _ c.in-Assign.is) (record { place = refl })
