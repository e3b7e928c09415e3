use Rattle.std.proofs.Common.{ap, arith}
use Rattle.typing_rules.specs.Verdicts.{members_of_line}
use Rattle.nss_scopes.specs.Entries.{members_of}
use Rattle.nss_types.proofs.FieldCells.{line_fits}
use Rattle.nss_types.proofs.field.lines_members.Goals as goal

pub line_members-requires : goal.line_members-requires
line_members-requires c = record {
  few = omega (
    arith,
    c.requires.few,
    ap (λ ns. (members_of_line c.args.structs.now c.l-item.result.ty (members_of c.loop-l.members) ns).cells) c.as_slice.ensures.items,
    line_fits _ _ _ c.args.ls.now c.loop-l.l-index c.l-item.result c.loop-l-test.true c.l-item.is c.loop-l.invariant,
  );
}
