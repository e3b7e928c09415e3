use Rattle.std.proofs.Common.{◌∙◌, None, refl, sym, ap}
use Rattle.std.specs.Option.{is_some}
use Rattle.std.specs.BTreeMap.{get}
use Rattle.std.specs.Ordering.{nat_cmp}
use Rattle.nwq_value.specs.Hashed.{hash_of, is_free}
use Rattle.nwq_value.proofs.HashLemmas.{updates_first, free_where_in, none_from_not_some, stays_out}
use Rattle.nwq_value.proofs.index.take_out.Goals as goal

pub returns-then-is_some : goal.returns-then-is_some
returns-then-is_some c =
    let name = c.args.name.now in
    let old = c.args.first.now in
    let there = ap is_some (sym c.first_of.ensures) ∙ sym c.is_some.ensures ∙ c.if-is_some.true in
    updates_first name c.hash_of.result None old c.remove.new.self c.hash_of.ensures c.requires.hashed c.remove.ensures.ordered
    (ap (λ h. is_free name (get nat_cmp old h)) c.hash_of.ensures ∙ free_where_in name (get nat_cmp old (hash_of name)) there)
    refl c.remove.ensures.updates.0

pub returns-else-is_some : goal.returns-else-is_some
returns-else-is_some c =
    stays_out c.args.name.now c.args.first.now c.requires.hashed
    (sym c.first_of.ensures ∙ none_from_not_some c.first_of.result (sym c.is_some.ensures ∙ c.if-is_some.false))
