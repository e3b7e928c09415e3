-- The nodes of a typed tree and the tokens of the tree that it is the typed one of, number by number.
use Rattle.std.specs.Prelude.{◌≡◌, ℕ, Bool, List, [], ◌∷◌, Some}
use Rattle.nss_tree.specs.Expressions.{PlainExpr, int, float, text, object_self, object_invalid, name, call, member, prefix, postfix, binary, assign}
use Rattle.nss_tree.specs.Places.{places}
use Rattle.nss_tree.specs.Source.{SourceTree}
use Rattle.nss_tree.specs.Statements.{block, empty, expression, if_only, if_else, while_loop, do_loop, for_loop, switch, break_off, continue_on, return_from, declaration, case_label, default_label}
use Rattle.nss_tree.specs.Units.{structure, constant, global, function}
use Rattle.nwq_value.specs.Engine.{EngineTable}
use Rattle.ncs_emit.specs.Labelled.{Line}
use Rattle.typing_rules.specs.Sight.{Head, Sight}
use Rattle.typing_rules.specs.Typed.{TypedExpr, TypedStmt, TypedItem, TypedUnit}
use Rattle.typing_rules.specs.Meaning.{Types, TypesUnit}
use Rattle.emission_rules.specs.Layout.{Layout, layout_of}
use Rattle.emission_rules.specs.Units.{unit_code}
use Rattle.code_places.specs.Nodes.{Node, AnExpression, AStatement, AName, AnItem, Bare, unit_nodes}
use Rattle.code_places.specs.Seeking.{token_at}
use Rattle.code_places.specs.Laws.{IsCodeOf, LiesIn, StandsIn}

abbrev pub expr_token : PlainExpr → ℕ
expr_token (int n v) = n
expr_token (float n) = n
expr_token (text n v) = n
expr_token (object_self n) = n
expr_token (object_invalid n) = n
expr_token (name n f) = n
expr_token (call n f xs) = n
expr_token (member n x f) = n
expr_token (prefix n o x) = n
expr_token (postfix n o x) = n
expr_token (binary n o x y) = n
expr_token (assign n o x y) = n

-- Statements and items keep their tokens in the typed tree.
abbrev pub stmt_token : TypedStmt → ℕ
stmt_token (block n xs) = n
stmt_token (empty n) = n
stmt_token (expression n e) = n
stmt_token (if_only n e a) = n
stmt_token (if_else n e a b) = n
stmt_token (while_loop n e a) = n
stmt_token (do_loop n a e) = n
stmt_token (for_loop n x y z a) = n
stmt_token (switch n e xs) = n
stmt_token (break_off n) = n
stmt_token (continue_on n) = n
stmt_token (return_from n e) = n
stmt_token (declaration n t ds) = n
stmt_token (case_label n k) = n
stmt_token (default_label n) = n

abbrev pub item_token : TypedItem → ℕ
item_token (structure n x ls) = n
item_token (constant n t x k) = n
item_token (global n t ds) = n
item_token (function n t x ps body) = n

-- The typed expression is the typing of one that has this token.
pub record IsTyping (token : ℕ) (e : TypedExpr) : Type 0 where
  pub heads : List Head
  pub sight : Sight
  pub as_action : Bool
  pub source : PlainExpr
  pub is : expr_token source ≡ token
  pub types : Types heads sight as_action source e

abbrev pub IsOf : ℕ → Node → Type 0
IsOf token (AnExpression e) = IsTyping token e
IsOf token (AStatement x) = stmt_token x ≡ token
IsOf token (AName d) = d.token ≡ token
IsOf token (AnItem i) = item_token i ≡ token
IsOf token Bare = Unit {0}

-- as many nodes as tokens, each node of the token of its number
abbrev pub AreOf : List ℕ → List Node → Type 0
AreOf [] [] = Unit {0}
AreOf [] (n ∷ ns) = ⊥
AreOf (t ∷ ts) [] = ⊥
AreOf (t ∷ ts) (n ∷ ns) = IsOf t n × AreOf ts ns

-- In a typed unit the token of a node's number is the node's.
abbrev pub TokensAgree : Type 0
TokensAgree = (table : EngineTable) (u : SourceTree) (t : TypedUnit) → TypesUnit table u t
    → AreOf (places u) (unit_nodes t)

-- The lines are the whole code of a node that has this token.
pub record IsCodeAt (l : Layout) (token : ℕ) (code : List Line) : Type 0 where
  pub node : Node
  pub has : IsOf token node
  pub is : IsCodeOf l node code

-- So where a token is told for a place, the byte there lies in an instruction that stands in the code
-- of a node of that token.
abbrev pub TokensHold : Type 0
TokensHold = (table : EngineTable) (tree : SourceTree) (u : TypedUnit) → TypesUnit table tree u
    → (place token : ℕ) → token_at tree u place ≡ Some token
    → (i : ℕ) × (LiesIn (unit_code u).lines place i
    × StandsIn (IsCodeAt (layout_of u)) (unit_code u).lines i token)
