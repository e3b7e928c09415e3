use Rattle.std.proofs.Common.{ℕ, ◌+◌, ◌-◌, ◌≤◌, length, map, sym, subst, arith, false}
use Rattle.nss_tree.specs.Reading.{plain_item}
use Rattle.nss_parser.specs.Sentence.{IsPlace}
use Rattle.nss_symbols.specs.Cursor.{plain_symbol}
use Rattle.nss_parser.specs.ReadStatement.{entries, statement}
use Rattle.nss_parser.specs.ReadUnit.{items}
use Rattle.nss_parser.proofs.ReaderLemmas.{reads_ok, reads_syntax, reads_deep, got_of, stuck_of, left_of, deep_of}
use Rattle.nss_parser.proofs.Trees.{each_tree_is_known}
use Rattle.nss_parser.proofs.reader.tree_of.Goals as goal

pub overflow_sub-passed : goal.overflow_sub-passed
overflow_sub-passed c =
    let stuck = reads_syntax (map plain_item) (items (length c.args.symbols.now + 2) (entries (length c.args.symbols.now + 2) (statement (length c.args.symbols.now + 2)) false) c.new-cursor.result)
    c.unit.result c.unit.new.tokens c.in-Err-Syntax.field-0 c.unit.ensures c.in-Err-Syntax.is c.in-Err-Syntax.field-0-is in
    let within = left_of c.args.symbols.now (length c.args.symbols.now + 2) c.new-cursor.result c.unit.new.tokens c.new-cursor.ensures.all stuck in
    subst (λ (k : ℕ). k ≤ length c.args.symbols.now) (sym c.left.ensures.count) within

pub unreachable-requires : goal.unreachable-requires
unreachable-requires c =
    let deep = reads_deep (map plain_item) (items (length c.args.symbols.now + 2) (entries (length c.args.symbols.now + 2) (statement (length c.args.symbols.now + 2)) false) c.new-cursor.result)
    c.unit.result c.unit.new.tokens c.in-Err-TooDeep.field-0 c.unit.ensures c.in-Err-TooDeep.is c.in-Err-TooDeep.field-0-is in
    deep_of c.args.symbols.now (length c.args.symbols.now + 2) c.new-cursor.result c.new-cursor.ensures.all (omega arith) deep

pub returns-in-Ok-clause-tree : goal.returns-in-Ok-clause-tree
returns-in-Ok-clause-tree c =
    let got = reads_ok (map plain_item) (items (length c.args.symbols.now + 2) (entries (length c.args.symbols.now + 2) (statement (length c.args.symbols.now + 2)) false) c.new-cursor.result)
    c.unit.result c.unit.new.tokens c.in-Ok.items c.unit.ensures c.in-Ok.is in
    got_of c.args.symbols.now (length c.args.symbols.now + 2) (map plain_item c.in-Ok.items) c.new-cursor.result c.unit.new.tokens c.new-cursor.ensures.all got

pub returns-in-Err-Syntax-clause-refused : goal.returns-in-Err-Syntax-clause-refused
returns-in-Err-Syntax-clause-refused c =
    let stuck = reads_syntax (map plain_item) (items (length c.args.symbols.now + 2) (entries (length c.args.symbols.now + 2) (statement (length c.args.symbols.now + 2)) false) c.new-cursor.result)
    c.unit.result c.unit.new.tokens c.in-Err-Syntax.field-0 c.unit.ensures c.in-Err-Syntax.is c.in-Err-Syntax.field-0-is in
    subst (λ (k : ℕ). IsPlace (map plain_symbol c.args.symbols.now) (length c.args.symbols.now - k)) (sym c.left.ensures.count)
    (stuck_of c.args.symbols.now (length c.args.symbols.now + 2) c.new-cursor.result c.unit.new.tokens c.new-cursor.ensures.all (omega arith) stuck)

pub returns-in-Ok-clause-known : goal.returns-in-Ok-clause-known
returns-in-Ok-clause-known c =
    let got = reads_ok (map plain_item) (items (length c.args.symbols.now + 2) (entries (length c.args.symbols.now + 2) (statement (length c.args.symbols.now + 2)) false) c.new-cursor.result)
    c.unit.result c.unit.new.tokens c.in-Ok.items c.unit.ensures c.in-Ok.is in
    each_tree_is_known (map plain_symbol c.args.symbols.now) _ c.requires.literals
    (got_of c.args.symbols.now (length c.args.symbols.now + 2) (map plain_item c.in-Ok.items) c.new-cursor.result c.unit.new.tokens c.new-cursor.ensures.all got)
