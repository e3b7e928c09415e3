use Rattle.std.proofs.Common.{◌≡◌, drop, map}
use Rattle.typing_rules.specs.Sight.{find_member}
use Rattle.nss_scopes.specs.Entries.{member_of}
use Rattle.nss_scopes.proofs.structs.Members.find.Given as goal

abbrev pub invariant-loop-member : goal.invariant-loop-member
invariant-loop-member l =
    find_member l.name (map member_of (drop l.member-index l.member-items)) ≡ find_member l.name (map member_of l.self.fields)
