use Rattle.nss_types.proofs.FieldCells.{typed_few}
use Rattle.nss_types.proofs.item.structure.Goals as goal

pub declare_struct-requires : goal.declare_struct-requires
declare_struct-requires c = record {
  few = typed_few _ c.args.name.now c.args.ls.now _ c.in_ok-typed.ensures.value;
}
