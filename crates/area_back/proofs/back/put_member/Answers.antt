use Rattle.std.proofs.Common.{codes, sym, ap, subst, ◌≡◌, ◌∙◌, None, Some}
use Rattle.gff_tree.specs.Tree.{plain_node, plain_leaf}
use Rattle.gff_tree.specs.Fields.{kind_of, fields_of, node_from, found, replaced}
use Rattle.area_back.specs.Back.{member_back}
use Rattle.area_back.proofs.BackLemmas.{taken_none, taken_back, member_some, ok_along}
use Rattle.area_back.proofs.back.put_member.Goals as goal

pub append_table-requires : goal.append_table-requires
append_table-requires c =
    let same = taken_none c.fields_tell.ensures.fields c.fields_tell.ensures.node (plain_node c.args.node.now)
    (plain_node c.replace.new.self) c.as_slice.result.now _ c.in-None.ensures.old c.in-None.ensures.new in
    subst (λ l. found l (fields_of (plain_node c.replace.new.self)) ≡ None) c.as_slice.ensures
    (ap (λ n. found c.as_slice.result.now (fields_of n)) same ∙ c.in-None.ensures.old)

pub returns-in-None : goal.returns-in-None
returns-in-None c =
    let same = taken_none c.fields_tell.ensures.fields c.fields_tell.ensures.node (plain_node c.args.node.now)
    (plain_node c.replace.new.self) c.as_slice.result.now _ c.in-None.ensures.old c.in-None.ensures.new in
    ok_along (plain_node c.replace.new.self) (plain_node c.args.node.now) (plain_node c.append_table.new.node) c.append_table.result (member_back c.args.vars.now) same c.append_table.ensures

pub returns-in_ok-table-in-Some : goal.returns-in_ok-table-in-Some
returns-in_ok-table-in-Some c =
    let node = plain_node c.args.node.now in
    let first : plain_node c.replace.new.self ≡ node_from (kind_of node) (replaced (codes "VarTable") _ (fields_of node)) =
    c.in-Some.ensures.new ∙ ap (λ l. node_from (kind_of node) (replaced l _ (fields_of node))) c.as_slice.ensures in
    let second = c.replace-in-Some.ensures.new
    ∙ ap (λ l. node_from (kind_of (plain_node c.replace.new.self))
    (replaced l (plain_leaf c.in_ok-table-in-Some.table)
    (fields_of (plain_node c.replace.new.self)))) c.as_slice-in-Some.ensures in
    let held : found (codes "VarTable") (fields_of node) ≡ Some (plain_leaf c.in-Some.table) = ap (λ l. found l (fields_of node)) (sym c.as_slice.ensures) ∙ c.in-Some.ensures.old in
    taken_back c.fields_tell.ensures.fields node (plain_node c.replace.new.self) (plain_node c.replace-in-Some.new.self) (codes "VarTable") _ (plain_leaf c.in_ok-table-in-Some.table) first second
    ∙ (ap (λ l. node_from (kind_of node) (replaced (codes "VarTable") l (fields_of node))) c.in_ok-table-in-Some.ensures
    ∙ sym (member_some c.args.vars.now node (plain_leaf c.in-Some.table) held))
