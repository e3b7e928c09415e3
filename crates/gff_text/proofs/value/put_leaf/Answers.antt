use Rattle.std.proofs.Common.{◌≡◌, length, arith}
use Rattle.gff_text.proofs.LineLemmas.{list_line}
use Rattle.gff_text.proofs.value.put_leaf.Goals as goal

pub returns-in-List : goal.returns-in-List
returns-in-List c =
    list_line c.put_unsigned-in-List.result c.put_unsigned-in-List.new.out.items c.args.out.now.items c.as_slice-in-List.result.now _ c.in-List.nodes.items c.len.result c.fields_tell.ensures.nodes
    (c.readings_tell.ensures.list c.args.leaf.now c.in-List.nodes c.in-List.is)
    (let of : c.in-List.nodes.len
    ≡ length c.in-List.nodes.items = omega (arith, c.in-List.nodes.ok.0) in omega
    (arith, of, c.len.ensures)) c.as_slice-in-List.ensures c.put_unsigned-in-List.ensures
