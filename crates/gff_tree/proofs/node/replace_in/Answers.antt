use Rattle.std.proofs.Common.{map, Some, sym, ap, ◌∙◌, refl, arith}
use Rattle.gff_tree.specs.Tree.{plain_field, plain_leaf}
use Rattle.gff_tree.specs.Places.{place_of_field}
use Rattle.gff_tree.proofs.NodeLemmas.{place_none, place_below, replace_some}
use Rattle.gff_tree.proofs.node.replace_in.Goals as goal

pub index_mut-requires : goal.index_mut-requires
index_mut-requires c =
    let lt = place_below c.args.label.now c.args.fields.now.items c.in-Some.i
    (ap (λ fs. place_of_field c.args.label.now (map plain_field fs)) (sym c.deref.ensures.value) ∙ (sym c.place_in.ensures ∙ c.in-Some.is)) in
    omega (arith, lt, c.args.fields.now.ok.0)

pub returns-in-Some-clause-old : goal.returns-in-Some-clause-old
returns-in-Some-clause-old c =
    let r = replace_some c.args.label.now (plain_leaf c.args.leaf) c.args.fields.now.items c.in-Some.i c.index_mut.result.now
    (ap (λ fs. place_of_field c.args.label.now (map plain_field fs)) (sym c.deref.ensures.value) ∙ (sym c.place_in.ensures ∙ c.in-Some.is)) c.index_mut.ensures.value in
    r.1 ∙ ap (λ l. Some (plain_leaf l)) (sym c.replace.ensures.value)

pub returns-in-Some-clause-new : goal.returns-in-Some-clause-new
returns-in-Some-clause-new c =
    let r = replace_some c.args.label.now (plain_leaf c.args.leaf) c.args.fields.now.items c.in-Some.i c.index_mut.result.now
    (ap (λ fs. place_of_field c.args.label.now (map plain_field fs)) (sym c.deref.ensures.value) ∙ (sym c.place_in.ensures ∙ c.in-Some.is)) c.index_mut.ensures.value in
    r.2 _ refl (ap plain_leaf c.replace.ensures.after)

pub returns-in-None-clause-old : goal.returns-in-None-clause-old
returns-in-None-clause-old c =
    (place_none c.args.label.now (plain_leaf c.args.leaf) (map plain_field c.args.fields.now.items)
    (ap (λ fs. place_of_field c.args.label.now (map plain_field fs)) (sym c.deref.ensures.value) ∙ (sym c.place_in.ensures ∙ c.in-None.is))).0

pub returns-in-None-clause-new : goal.returns-in-None-clause-new
returns-in-None-clause-new c =
    (place_none c.args.label.now (plain_leaf c.args.leaf) (map plain_field c.args.fields.now.items)
    (ap (λ fs. place_of_field c.args.label.now (map plain_field fs)) (sym c.deref.ensures.value) ∙ (sym c.place_in.ensures ∙ c.in-None.is))).1
