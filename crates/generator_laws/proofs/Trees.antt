-- The tree of a source.
use Rattle.std.proofs.Common.{◌≡◌, ℕ, List, [], ◌∷◌, ◌++◌, Some, None, refl, codes}
use Rattle.std.specs.Prelude.{pos}
use Rattle.std.specs.Int.{cast_signed, w32}
use Rattle.nss_tree.specs.declared.operators.BinaryOperator.TheVariants as binary
use Rattle.nss_tree.specs.declared.operators.AssignOperator.TheVariants as assign
use Rattle.nss_tree.specs.declared.constants.TypeName.TheVariants as type
use Rattle.nss_tree.specs.Expressions as tree
use Rattle.nss_tree.specs.Statements as stmt
use Rattle.nss_tree.specs.Units as item
use Rattle.nss_tree.specs.Source.{SourceStmts, SourceItems, SourceTree}
use Rattle.nss_symbols.specs.Outcome.{Got, first, here, take, same_terminal}
use Rattle.nss_symbols.specs.Symbols as symbol
use Rattle.nss_symbols.specs.Symbols.{Symbol, numbered_from}
use Rattle.nss_parser.specs.ReadDeclaration as declaration
use Rattle.nss_parser.specs.ReadExpression as expression
use Rattle.nss_parser.specs.ReadParts as part
use Rattle.nss_parser.specs.ReadStatement as statement
use Rattle.nss_parser.specs.ReadUnit as unit
use Rattle.nss_parser.specs.ReadWhole as whole
use Rattle.nss_parser.specs.ReadWhole.{ReadingGivesTree}
use Rattle.nss_parser.specs.Sentence.{Parses}
use Rattle.generator_laws.proofs.Pieces.{front_symbols, smaller_symbols, sum_symbols, teller_symbols, counter_symbols, kept_symbols, grown_symbols, asked_symbols, delayed_symbols, assigned_symbols}
use Rattle.generator_laws.proofs.Pieces.{back_symbols}

-- what the grammar sees of the source of a number and so many creatures
abbrev pub made_symbols : ℕ → ℕ → List Symbol
made_symbols n creatures =
    front_symbols ++ symbol.Int n ∷ (smaller_symbols ++ (sum_symbols ++ (teller_symbols ++ (counter_symbols ++ (kept_symbols ++ (grown_symbols
    ++ (asked_symbols ++ (delayed_symbols ++ (assigned_symbols ++ symbol.Int creatures ∷ back_symbols)))))))))

-- ---- its items

abbrev f_body : SourceStmts
f_body =
    stmt.more_stmts (stmt.if_only 12 (tree.binary 15 binary.Less (tree.name 14 (codes "k")) (tree.int 16 (pos 2))) (stmt.return_from 18 (Some (tree.name 19 (codes "k")))))
    (stmt.more_stmts (stmt.return_from 21
    (Some (tree.binary 28 binary.Add
    (tree.call 22 (codes "F")
    (tree.more_exprs (tree.binary 25 binary.Subtract (tree.name 24 (codes "k"))
    (tree.int 26 (pos 1))) tree.no_expr))
    (tree.call 29 (codes "F")
    (tree.more_exprs (tree.binary 32 binary.Subtract (tree.name 31 (codes "k"))
    (tree.int 33 (pos 2))) tree.no_expr)))))
    stmt.no_stmt)

abbrev tell_body : SourceStmts
tell_body =
    stmt.more_stmts (stmt.expression 44 (tree.call 44 (codes "PrintInteger") (tree.more_exprs (tree.binary 47 binary.Add (tree.name 46 (codes "g")) (tree.name 48 (codes "k"))) tree.no_expr)))
    stmt.no_stmt

abbrev main_body : ℕ → SourceStmts
main_body creatures =
    stmt.more_stmts (stmt.declaration 57 type.Int
    (record {
      token = 58;
      name = codes "n";
      value = Some (tree.binary 66 binary.Add
          (tree.call 60 (codes "GetLocalInt")
          (tree.more_exprs (tree.object_self 62) (tree.more_exprs (tree.text 64 (codes "n")) tree.no_expr)))
          (tree.int 67 (pos 1)));
    } ∷ []))
    (stmt.more_stmts (stmt.expression 69
    (tree.call 69 (codes "SetLocalInt")
    (tree.more_exprs (tree.object_self 71)
    (tree.more_exprs (tree.text 73 (codes "n")) (tree.more_exprs (tree.name 75 (codes "n")) tree.no_expr)))))
    (stmt.more_stmts (stmt.expression 78 (tree.assign 79 assign.Set (tree.name 78 (codes "g")) (tree.binary 81 binary.Add (tree.name 80 (codes "g")) (tree.name 82 (codes "n")))))
    (stmt.more_stmts (stmt.expression 84 (tree.call 84 (codes "ActionWait") (tree.more_exprs (tree.int 86 (pos 50)) tree.no_expr)))
    (stmt.more_stmts (stmt.expression 89
    (tree.call 89 (codes "ActionDoCommand")
    (tree.more_exprs (tree.call 91 (codes "Tell")
    (tree.more_exprs (tree.call 93 (codes "F")
    (tree.more_exprs (tree.binary 96 binary.Remainder (tree.name 95 (codes "n"))
    (tree.int 97 (pos 8))) tree.no_expr)) tree.no_expr)) tree.no_expr)))
    (stmt.more_stmts (stmt.expression 102
    (tree.call 102 (codes "DelayCommand")
    (tree.more_exprs (tree.binary 105 binary.Multiply (tree.name 104 (codes "n")) (tree.int 106 (pos 100)))
    (tree.more_exprs (tree.call 108 (codes "Tell")
    (tree.more_exprs (tree.binary 111 binary.Subtract (tree.int 110 (pos 0))
    (tree.name 112 (codes "n"))) tree.no_expr)) tree.no_expr))))
    (stmt.more_stmts (stmt.expression 116
    (tree.call 116 (codes "AssignCommand")
    (tree.more_exprs (tree.call 118 (codes "GetObjectByTag")
    (tree.more_exprs (tree.binary 121 binary.Add (tree.text 120 (codes "c"))
    (tree.call 122 (codes "IntToString")
    (tree.more_exprs (tree.binary 125 binary.Remainder (tree.name 124 (codes "g"))
    (tree.int 126 (cast_signed w32 creatures))) tree.no_expr))) tree.no_expr))
    (tree.more_exprs (tree.call 130 (codes "Tell")
    (tree.more_exprs (tree.name 132 (codes "n")) tree.no_expr)) tree.no_expr))))
    stmt.no_stmt))))))

-- the items of the source of a number and so many creatures
abbrev pub made_items : ℕ → ℕ → SourceItems
made_items n creatures =
    item.global 0 type.Int (record { token = 1; name = codes "g"; value = Some (tree.int 3 (cast_signed w32 n)) } ∷ []) ∷
    item.function 6 type.Int (codes "F") (record { token = 8; ty = type.Int; name = codes "k"; default = None } ∷ []) (Some f_body) ∷
    item.function 38 type.Void (codes "Tell") (record { token = 40; ty = type.Int; name = codes "k"; default = None } ∷ []) (Some tell_body) ∷
    item.function 53 type.Void (codes "main") [] (Some (main_body creatures)) ∷
    []

abbrev pub made_tree : ℕ → ℕ → SourceTree
made_tree n creatures = record { items = made_items n creatures; count = 137 }

made_got : (n creatures : ℕ) → whole.unit 140 (numbered_from 0 (made_symbols n creatures)) ≡ Got (made_items n creatures) []
unfolding whole.unit unit.items unit.item unit.after_type unit.function unit.body unit.parameters unit.parameter unit.global unit.default
    declaration.type_name declaration.typed declaration.identifier declaration.declared_after declaration.declared declaration.declared_names
    expression.suffix expression.operand expression.arguments expression.after_name expression.primary expression.prefix expression.operation
    expression.assigned expression.after_first expression.level part.else_part part.if_rest statement.condition statement.optional statement.declaration
    statement.expression_statement statement.return_statement statement.entry statement.entries statement.block statement.after_then statement.if_statement
    statement.some_statement statement.statement first here take same_terminal
made_got n creatures = refl

pub made_parses : ReadingGivesTree → (n creatures : ℕ) → Parses (made_symbols n creatures) (made_tree n creatures)
made_parses gives n creatures = gives (made_symbols n creatures) 140 (made_items n creatures) [] (made_got n creatures)
