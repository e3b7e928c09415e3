use Rattle.std.proofs.Common.{refl}
use Rattle.typing_rules.specs.Readings.{plain_assign, plain_binary, plain_call, plain_member, plain_postfix, plain_prefix}
use Rattle.codegen_expr.proofs.Above.{member_falls, member_near}
use Rattle.codegen_expr.proofs.Nodes.{no_home}
use Rattle.codegen_expr.proofs.places.+home_of.Goals as goal

pub returns-in-Call : goal.returns-in-Call
returns-in-Call t c = record { home = no_home c.args.layout.now _ _ (plain_call _ _ _ _ _ c.in-Call.is) refl; above = tt }

pub returns-in-Prefix : goal.returns-in-Prefix
returns-in-Prefix t c = record { home = no_home c.args.layout.now _ _ (plain_prefix _ _ _ _ c.in-Prefix.is) refl; above = tt }

pub returns-in-Postfix : goal.returns-in-Postfix
returns-in-Postfix t c = record { home = no_home c.args.layout.now _ _ (plain_postfix _ _ _ _ c.in-Postfix.is) refl; above = tt }

pub returns-in-Binary : goal.returns-in-Binary
returns-in-Binary t c = record { home = no_home c.args.layout.now _ _ (plain_binary _ _ _ _ _ c.in-Binary.is) refl; above = tt }

pub returns-in-Assign : goal.returns-in-Assign
returns-in-Assign t c = record { home = no_home c.args.layout.now _ _ (plain_assign _ _ _ _ _ c.in-Assign.is) refl; above = tt }

pub home_of-requires : goal.home_of-requires
home_of-requires t c = (
  member_falls _ _ _ _ _ t (plain_member _ _ _ _ c.in-Member.is) c.deref.ensures c.decreases,
  member_near _ _ _ _ _ (plain_member _ _ _ _ c.in-Member.is) c.deref.ensures c.requires.near,
)
