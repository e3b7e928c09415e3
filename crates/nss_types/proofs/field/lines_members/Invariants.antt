use Rattle.std.proofs.Common.{◌≡◌, drop}
use Rattle.typing_rules.specs.Verdicts.{members_of_lines}
use Rattle.nss_scopes.specs.Entries.{members_of}
use Rattle.nss_types.proofs.field.lines_members.Given as goal

abbrev pub invariant-loop-l : goal.invariant-loop-l
invariant-loop-l l =
    members_of_lines l.structs (members_of l.members) (drop l.l-index l.ls) ≡ members_of_lines l.structs (members_of l.initial.members) l.ls
