-- What the grammar says of trees: the bodies of `if` and of loops are no declarations, and a struct
-- has a field.
use Rattle.std.proofs.Common.{Bool, List, [], ◌∷◌, Option, None, Some}
use Rattle.nss_tree.specs.Source.{SourceStmt, SourceStmts, SourceLine, SourceItem}
use Rattle.nss_tree.specs.declared.units.Identifier.{Identifier}
use Rattle.nss_tree.specs.Statements as stmt
use Rattle.nss_tree.specs.Units as unit
use Rattle.nss_symbols.specs.Symbols.{Numbered}
use Rattle.nss_parser.specs.Grammar as grammar
use Rattle.nss_parser.specs.Grammar.{Statement, Entry, Entries}
use Rattle.nss_parser.specs.Unit as units
use Rattle.nss_parser.specs.Unit.{FieldNames, Field, Fields, Body, Item, Items}

abbrev pub IsNoDeclaration : SourceStmt → Type 0
IsNoDeclaration (stmt.declaration n t ds) = ⊥
IsNoDeclaration _ = Unit {0}

abbrev mutual
  pub IsMade : SourceStmt → Type 0
  IsMade (stmt.block n xs) = AreMade xs
  IsMade (stmt.if_only n e a) = IsNoDeclaration a × IsMade a
  IsMade (stmt.if_else n e a b) = IsNoDeclaration a × IsMade a × IsNoDeclaration b × IsMade b
  IsMade (stmt.while_loop n e a) = IsNoDeclaration a × IsMade a
  IsMade (stmt.do_loop n a e) = IsNoDeclaration a × IsMade a
  IsMade (stmt.for_loop n x y z a) = IsNoDeclaration a × IsMade a
  IsMade (stmt.switch n e xs) = AreMade xs
  IsMade (stmt.empty n) = Unit {0}
  IsMade (stmt.expression n e) = Unit {0}
  IsMade (stmt.break_off n) = Unit {0}
  IsMade (stmt.continue_on n) = Unit {0}
  IsMade (stmt.return_from n e) = Unit {0}
  IsMade (stmt.declaration n t ds) = Unit {0}
  IsMade (stmt.case_label n k) = Unit {0}
  IsMade (stmt.default_label n) = Unit {0}

  pub AreMade : SourceStmts → Type 0
  AreMade stmt.no_stmt = Unit {0}
  AreMade (stmt.more_stmts x xs) = IsMade x × AreMade xs

abbrev pub HasName : List Identifier → Type 0
HasName [] = ⊥
HasName (x ∷ xs) = Unit {0}

abbrev pub HasField : List SourceLine → Type 0
HasField [] = ⊥
HasField (l ∷ ls) = HasName l.names

abbrev pub IsMadeBody : Option SourceStmts → Type 0
IsMadeBody None = Unit {0}
IsMadeBody (Some xs) = AreMade xs

abbrev pub IsMadeItem : SourceItem → Type 0
IsMadeItem (unit.structure n x ls) = HasField ls
IsMadeItem (unit.constant n t x k) = Unit {0}
IsMadeItem (unit.global n t ds) = Unit {0}
IsMadeItem (unit.function n t x ps body) = IsMadeBody body

abbrev pub AreMadeItems : List SourceItem → Type 0
AreMadeItems [] = Unit {0}
AreMadeItems (i ∷ is) = IsMadeItem i × AreMadeItems is

no_declaration : {s : SourceStmt} {xs : List Numbered} → Statement s xs → IsNoDeclaration s
no_declaration (grammar.Statement.block n k h) = tt
no_declaration (grammar.Statement.empty n) = tt
no_declaration (grammar.Statement.expression n k s h) = tt
no_declaration (grammar.Statement.if_only n a b h k) = tt
no_declaration (grammar.Statement.if_else n a b c h k e l) = tt
no_declaration (grammar.Statement.while_loop n a b h k) = tt
no_declaration (grammar.Statement.do_loop n a b c d k h) = tt
no_declaration (grammar.Statement.for_loop n a b c d x y z k) = tt
no_declaration (grammar.Statement.switch n a b c d h k) = tt
no_declaration (grammar.Statement.break_off n k) = tt
no_declaration (grammar.Statement.continue_on n k) = tt
no_declaration (grammar.Statement.return_from n k h) = tt

mutual
  made : {s : SourceStmt} {xs : List Numbered} → Statement s xs → IsMade s
  made (grammar.Statement.block n k h) = all_made h
  made (grammar.Statement.empty n) = tt
  made (grammar.Statement.expression n k s h) = tt
  made (grammar.Statement.if_only n a b h k) = (no_declaration k, made k)
  made (grammar.Statement.if_else n a b c h k e l) = (no_declaration k, made k, no_declaration l, made l)
  made (grammar.Statement.while_loop n a b h k) = (no_declaration k, made k)
  made (grammar.Statement.do_loop n a b c d k h) = (no_declaration k, made k)
  made (grammar.Statement.for_loop n a b c d x y z k) = (no_declaration k, made k)
  made (grammar.Statement.switch n a b c d h k) = all_made k
  made (grammar.Statement.break_off n k) = tt
  made (grammar.Statement.continue_on n k) = tt
  made (grammar.Statement.return_from n k h) = tt

  entry_made : {b : Bool} {s : SourceStmt} {xs : List Numbered} → Entry b s xs → IsMade s
  entry_made (grammar.Entry.statement h) = made h
  entry_made (grammar.Entry.declaration n k t h) = tt
  entry_made (grammar.Entry.case_label n k h) = tt
  entry_made (grammar.Entry.default_label n k) = tt

  all_made : {b : Bool} {ss : SourceStmts} {xs : List Numbered} → Entries b ss xs → AreMade ss
  all_made grammar.Entries.none = tt
  all_made (grammar.Entries.more h k) = (entry_made h, all_made k)

has_name : {names : List Identifier} {xs : List Numbered} → FieldNames names xs → HasName names
has_name (units.FieldNames.one n f) = tt
has_name (units.FieldNames.more n k f h) = tt

line_named : {l : SourceLine} {xs : List Numbered} → Field l xs → HasName l.names
line_named (units.Field.line n k t h) = has_name h

has_field : {ls : List SourceLine} {xs : List Numbered} → Fields ls xs → HasField ls
has_field (units.Fields.one h) = line_named h
has_field (units.Fields.more h k) = line_named h

body_made : {body : Option SourceStmts} {xs : List Numbered} → Body body xs → IsMadeBody body
body_made (units.Body.prototype k) = tt
body_made (units.Body.block n k h) = all_made h

item_made : {i : SourceItem} {xs : List Numbered} → Item i xs → IsMadeItem i
item_made (units.Item.structure a n b c d f h) = has_field h
item_made (units.Item.constant a n k b d f t h) = tt
item_made (units.Item.global n k t h) = tt
item_made (units.Item.function n k a b f t ps h) = body_made h

pub items_made : {is : List SourceItem} {xs : List Numbered} → Items is xs → AreMadeItems is
items_made units.Items.none = tt
items_made (units.Items.more h k) = (item_made h, items_made k)
