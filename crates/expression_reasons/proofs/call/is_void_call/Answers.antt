use Rattle.std.proofs.Common.{refl}
use Rattle.typing_rules.specs.Readings.{plain_call, plain_member, plain_prefix, plain_postfix, plain_binary, plain_assign}
use Rattle.expression_reasons.proofs.call.is_void_call.Goals as goal

pub returns-in-Call : goal.returns-in-Call
returns-in-Call c = rw (plain_call _ _ _ _ _ c.in-Call.is) c.is_void.ensures.test

pub returns-in-Member : goal.returns-in-Member
returns-in-Member c = rw (plain_member _ _ _ _ c.in-Member.is) refl

pub returns-in-Prefix : goal.returns-in-Prefix
returns-in-Prefix c = rw (plain_prefix _ _ _ _ c.in-Prefix.is) refl

pub returns-in-Postfix : goal.returns-in-Postfix
returns-in-Postfix c = rw (plain_postfix _ _ _ _ c.in-Postfix.is) refl

pub returns-in-Binary : goal.returns-in-Binary
returns-in-Binary c = rw (plain_binary _ _ _ _ _ c.in-Binary.is) refl

pub returns-in-Assign : goal.returns-in-Assign
returns-in-Assign c = rw (plain_assign _ _ _ _ _ c.in-Assign.is) refl
