use Rattle.std.proofs.Common.{◌≡◌, ◌-◌, [], map, false}
use Rattle.nss_parser.specs.ReadUnit as read
use Rattle.nss_tree.specs.Reading.{plain_item}
use Rattle.nss_parser.specs.ReadStatement as statements
use Rattle.nss_parser.proofs.unit.unit.Given as goal

-- what is left to read gives what all gives
abbrev pub invariant-loop-turn : goal.invariant-loop-turn
invariant-loop-turn l =
    read.items_from l.fn.depth (statements.entries l.fn.depth (statements.statement l.fn.depth) false) l.fn.depth [] l.fn.tokens
    ≡ read.items_from l.fn.depth (statements.entries l.fn.depth (statements.statement l.fn.depth) false) (l.depth - l._turn) (map plain_item l.items) l.tokens
