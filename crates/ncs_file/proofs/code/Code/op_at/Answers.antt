use Rattle.std.proofs.Common.{ap, sym, ◌∙◌, Some}
use Rattle.ncs_code.specs.Spelling.{op_size}
use Rattle.ncs_file.proofs.Loaded.{none_there, one_there}
use Rattle.ncs_file.proofs.code.Code.op_at.Goals as goal

pub returns-then-not-is_marked : goal.returns-then-not-is_marked
returns-then-not-is_marked c = record {
  op = none_there c.size_laws.ensures.sizes _ _ _ _ _ _ _ c.self.invariant c.self.view_is c.as_slice.ensures.value c.is_marked.ensures c.if-not-is_marked.true;
}

pub decode-requires-clause-inside : goal.decode-requires-clause-inside
decode-requires-clause-inside c =
    (one_there c.size_laws.ensures.sizes c.place_laws.ensures.places _ _ _ _ _ _ _ _ c.self.invariant c.self.view_is c.as_slice-2.ensures.value c.as_slice.ensures.value c.is_marked.ensures
    c.if-not-is_marked.false).inside

pub unreachable-requires : goal.unreachable-requires
unreachable-requires c =
    let there = one_there c.size_laws.ensures.sizes c.place_laws.ensures.places _ _ _ _ _ _ _ _ c.self.invariant c.self.view_is c.as_slice-2.ensures.value c.as_slice.ensures.value
    c.is_marked.ensures c.if-not-is_marked.false in
    c.in-Err.ensures.only there.op there.rest there.is_op there.prefix

pub returns : goal.returns
returns c =
    let there = one_there c.size_laws.ensures.sizes c.place_laws.ensures.places _ _ _ _ _ _ _ _ c.self.invariant c.self.view_is c.as_slice-2.ensures.value c.as_slice.ensures.value
    c.is_marked.ensures c.if-not-is_marked.false in
    let found = c.in-Ok.ensures.only there.op there.rest there.is_op there.prefix in
    record { op = (there.is ∙ ap Some (sym found.0), found.1 ∙ ap op_size (sym found.0)) }
