use Rattle.std.proofs.Common.{◌≡◌, drop}
use Rattle.typing_rules.specs.Verdicts.{members_of_line}
use Rattle.nss_scopes.specs.Entries.{members_of}
use Rattle.nss_types.proofs.field.line_members.Given as goal

abbrev pub invariant-loop-x : goal.invariant-loop-x
invariant-loop-x l =
    members_of_line l.structs l.ty (members_of l.members) (drop l.x-index l.xs) ≡ members_of_line l.structs l.ty (members_of l.initial.members) l.xs
