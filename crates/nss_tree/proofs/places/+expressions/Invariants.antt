use Rattle.std.proofs.Common.{◌≡◌, drop}
use Rattle.nss_tree.specs.Places.{places_each, places_expr}
use Rattle.nss_tree.specs.Reading.{plain_expr}
use Rattle.nss_tree.specs.Seeking.{sought}
use Rattle.nss_tree.proofs.places.+expressions.Given as goal

-- what is left, from here, leads where the whole list leads
abbrev pub invariant-seek_exprs-loop-expr : goal.invariant-seek_exprs-loop-expr
invariant-seek_exprs-loop-expr l = sought
    (places_each (λ x. places_expr (plain_expr x)) (drop l.expr-index l.exprs)) l.seek
    ≡ sought (places_each (λ x. places_expr (plain_expr x)) l.exprs) l.initial.seek
