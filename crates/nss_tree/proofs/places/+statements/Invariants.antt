use Rattle.std.proofs.Common.{◌≡◌, drop}
use Rattle.nss_tree.specs.Places.{places_each, places_stmt}
use Rattle.nss_tree.specs.Reading.{plain_stmt}
use Rattle.nss_tree.specs.Seeking.{sought}
use Rattle.nss_tree.proofs.places.+statements.Given as goal

-- what is left, from here, leads where the whole list leads
abbrev pub invariant-seek_stmts-loop-stmt : goal.invariant-seek_stmts-loop-stmt
invariant-seek_stmts-loop-stmt l = sought
    (places_each (λ x. places_stmt (plain_stmt x)) (drop l.stmt-index l.stmts)) l.seek
    ≡ sought (places_each (λ x. places_stmt (plain_stmt x)) l.stmts) l.initial.seek
