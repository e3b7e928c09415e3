-- What is in sight as the definitions have it, and what is left of it when a scope ends.
use Rattle.std.specs.Prelude.{ℤ, [], ◌∷◌, ◌++◌, length, take}
use Rattle.nwq_value.specs.Engine.{EngineTable}
use Rattle.nss_scopes.specs.declared.sight.Sight.{Sight}
use Rattle.nss_scopes.specs.declared.sight.Mark.{Mark}
use Rattle.typing_rules.specs.Sight as spec

abbrev pub in_sight : EngineTable → Sight → spec.Sight
in_sight table c = record {
  table = table;
  names = c.names;
  scope = c.scope;
  next = c.next;
  frame = c.frame;
  structs = c.structs;
  seen = c.seen;
  at_file = c.at_file;
  result = c.result;
  in_loop = c.in_loop;
  may_break = c.may_break;
  labels = c.labels;
}

abbrev pub mark_of : Sight → Mark
mark_of c = record {
  names = length c.names;
  scope = c.scope;
  frame = c.frame;
  at_file = c.at_file;
  result = c.result;
  in_loop = c.in_loop;
  may_break = c.may_break;
  labels = c.labels;
}

abbrev pub left_by : Mark → Sight → Sight
left_by m d = record d {
  names = take m.names d.names;
  scope = m.scope;
  frame = m.frame;
  at_file = m.at_file;
  result = m.result;
  in_loop = m.in_loop;
  may_break = m.may_break;
  labels = m.labels;
}

-- a case of this value more
abbrev pub with_int : ℤ → spec.Labels → spec.Labels
with_int v l = record l { cases = l.cases ++ v ∷ [] }
