use Rattle.std.proofs.lemmas.List.Filters.{FiltersInPlace}
use Rattle.gff_tree.specs.Tree.{plain_node}
use Rattle.area_back.specs.Back.{is_kept}
use Rattle.area_back.proofs.back.keep_entries.Given as goal

abbrev pub invariant-loop-i : goal.invariant-loop-i
invariant-loop-i l = FiltersInPlace (λ n. is_kept l.vars (plain_node n)) l.fn.entries.items l.entries.items l.kept l.i
