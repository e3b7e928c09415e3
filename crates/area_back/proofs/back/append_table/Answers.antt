use Rattle.std.proofs.Common.{sym, ◌∙◌}
use Rattle.gff_tree.specs.Tree.{plain_node}
use Rattle.area_back.proofs.BackLemmas.{empty_member}
use Rattle.area_back.proofs.back.append_table.Goals as goal

pub returns-then-len-eq0 : goal.returns-then-len-eq0
returns-then-len-eq0 c = empty_member c.fields_tell.ensures.node c.args.vars.now (plain_node c.args.node.now) (sym c.len.ensures.len ∙ c.if-len-eq0.true) c.requires
