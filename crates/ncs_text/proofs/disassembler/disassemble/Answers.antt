use Rattle.ncs_code.specs.Plain.{plain}
use Rattle.ncs_text.proofs.Listings.{listed_more, listed_ends}
use Rattle.ncs_text.proofs.disassembler.disassemble.Goals as goal

pub loop-op-preserved : goal.loop-op-preserved
loop-op-preserved c =
    listed_more c.size_laws.ensures.sizes c.place_laws.ensures.places c.args.code.now c.loop-op.text.items c.put_line.new.out.items c.loop-op.at c.in-Some.size (plain c.in-Some.op)
    c.loop-op.invariant c.in-Some.ensures.op.0 c.in-Some.ensures.op.1 (c.in_ok-put_line.ensures {u = tt})

pub returns : goal.returns
returns c = record {
  text = listed_ends c.place_laws.ensures.places c.args.code.now c.loop-op.text.items c.loop-op.at c.loop-op.invariant c.in_default.ensures.op;
}
