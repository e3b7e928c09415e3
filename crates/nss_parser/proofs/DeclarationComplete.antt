-- What types, constants and declared names spell is read as them.
use Rattle.std.proofs.Common.{◌≡◌, ◌∙◌, ℕ, zero, suc, ◌+◌, ◌<◌, ◌≤◌, Bool, true, false, List, [], ◌∷◌, ◌++◌, length, length-append, append_assoc, Option, None, Some, refl, sym, ap, arith}
use Rattle.nss_tree.specs.Source.{SourceDeclared}
use Rattle.nss_tree.specs.declared.constants.TypeName.{TypeName}
use Rattle.nss_tree.specs.declared.constants.Constant.{Constant}
use Rattle.nss_tree.specs.declared.units.Identifier.{Identifier}
use Rattle.nss_tree.specs.Expressions.{PlainExpr}
use Rattle.nss_symbols.specs.declared.terminal.Terminal.{Terminal}
use Rattle.nss_symbols.specs.declared.terminal.Terminal.TheVariants as terminal
use Rattle.nss_symbols.specs.Symbols as symbol
use Rattle.nss_symbols.specs.Symbols.{Symbol, Numbered, at, fixed}
use Rattle.nss_parser.specs.Operators.{type_word}
use Rattle.nss_symbols.specs.Outcome.{Outcome, Got, and_then, same_terminal, is_terminal, sees, first, here, take}
use Rattle.nss_parser.specs.Grammar.{TypeTokens, ConstantTokens, Declared, DeclaredNames}
use Rattle.nss_parser.specs.Grammar as grammar
use Rattle.nss_parser.specs.ReadExpression.{level}
use Rattle.nss_parser.specs.ReadDeclaration.{type_by, type_name, typed, constant_value, identifier, declared_after, declared, more_declared}
use Rattle.nss_parser.proofs.Right.{terminal_same}
use Rattle.nss_parser.proofs.ExpressionFacts.{Ends, ends_at, comma_ends, semicolon_ends, Starts}
use Rattle.nss_parser.proofs.ExpressionComplete.{complete_expression}

abbrev pub is_type : Option TypeName → Bool
is_type (Some t) = true
is_type None = false

-- what a type may begin with
abbrev pub begins_type : Symbol → Bool
begins_type (symbol.Fixed terminal.Struct) = true
begins_type (symbol.Fixed m) = is_type (type_word m)
begins_type _ = false

word_begins : (m : Terminal) (t : TypeName) → type_word m ≡ Some t → begins_type (symbol.Fixed m) ≡ true
word_begins terminal.Struct t e = refl
word_begins m t e = ap is_type e

pub starts_type : {n : ℕ} {t : TypeName} {ts : List Numbered} → TypeTokens n t ts → Starts begins_type ts
starts_type (grammar.word n m t is) = word_begins m t is
starts_type (grammar.structure n k f) = refl

differ : (test : Symbol → Bool) (m k : Terminal) → test (symbol.Fixed m) ≡ false → test (symbol.Fixed k) ≡ true → (b : Bool) → same_terminal m k ≡ b → same_terminal m k ≡ false
differ test m k never h false e = e
differ test m k never h true e = let same = terminal_same m k e in let bad : true ≡ false = sym h ∙ ap (λ (z : Terminal). test (symbol.Fixed z)) (sym same) ∙ never in cc

no_fixed_at : (test : Symbol → Bool) (m : Terminal) (s : Symbol) → test (symbol.Fixed m) ≡ false → test s ≡ true → is_terminal m (Some s) ≡ false
no_fixed_at test m (symbol.Fixed k) never h = differ test m k never h (same_terminal m k) refl
no_fixed_at test m (symbol.Name f) never h = refl
no_fixed_at test m (symbol.Int v) never h = refl
no_fixed_at test m symbol.Float never h = refl
no_fixed_at test m (symbol.Text v) never h = refl
no_fixed_at test m symbol.Unknown never h = refl

-- a first token that passes a test is no terminal that fails it
pub no_fixed : (test : Symbol → Bool) (m : Terminal) → test (symbol.Fixed m) ≡ false → (xs : List Numbered) → Starts test xs → sees m xs ≡ false
unfolding first
no_fixed test m never [] h = absurd h
no_fixed test m never (s ∷ r) h = no_fixed_at test m s.symbol never h

pub complete_type : {n : ℕ} {t : TypeName} {ts : List Numbered} → TypeTokens n t ts → (rest : List Numbered) → type_name (ts ++ rest) ≡ Got t rest
unfolding type_name first take same_terminal
complete_type (grammar.word n m t is) rest = ap (λ (z : Option TypeName). type_by z (fixed n m ∷ rest)) is
complete_type (grammar.structure n k f) rest = refl

here_type : {n : ℕ} {t : TypeName} {ts : List Numbered} → TypeTokens n t ts → (rest : List Numbered) → here (ts ++ rest) ≡ Got n (ts ++ rest)
unfolding here
here_type (grammar.word n m t is) rest = refl
here_type (grammar.structure n k f) rest = refl

pub complete_typed : {n : ℕ} {t : TypeName} {ts : List Numbered} → TypeTokens n t ts → (rest : List Numbered) → typed (ts ++ rest) ≡ Got (n, t) rest
unfolding typed
complete_typed {n = n} {t = t} {ts = ts} h rest = rw (here_type h rest, complete_type h rest) refl

pub complete_constant : {c : Constant} {cs : List Numbered} → ConstantTokens c cs → (rest : List Numbered) → constant_value (cs ++ rest) ≡ Got c rest
unfolding constant_value first take
complete_constant (grammar.int n v) rest = refl
complete_constant (grammar.minus_int k n v) rest = refl
complete_constant (grammar.float n) rest = refl
complete_constant (grammar.minus_float k n) rest = refl
complete_constant (grammar.text n bytes) rest = refl
complete_constant (grammar.name n f) rest = refl
complete_constant (grammar.object_self n) rest = refl
complete_constant (grammar.object_invalid n) rest = refl

pub identifier_step : (n : ℕ) (f : List ℕ) (rest : List Numbered) → identifier (at n (symbol.Name f) ∷ rest) ≡ Got (record { token = n; name = f }) rest
unfolding identifier here first take
identifier_step n f rest = refl

-- what may follow a declared name with its value
pub record Stops (rest : List Numbered) : Type 0 where
  pub ends : Ends 0 rest
  pub assign : sees terminal.Assign rest ≡ false

pub stops_comma : (n : ℕ) (r : List Numbered) → Stops (fixed n terminal.Comma ∷ r)
unfolding first same_terminal
stops_comma n r = record { ends = ends_at 0 n terminal.Comma r comma_ends; assign = refl }

pub stops_semicolon : (n : ℕ) (r : List Numbered) → Stops (fixed n terminal.Semicolon ∷ r)
unfolding first same_terminal
stops_semicolon n r = record { ends = ends_at 0 n terminal.Semicolon r semicolon_ends; assign = refl }

bare_step : (d : ℕ) (x : Identifier) (rest : List Numbered) → sees terminal.Assign rest ≡ false → declared_after d x rest ≡ Got (record { token = x.token; name = x.name; value = None }) rest
unfolding declared_after
bare_step d x rest e = rw e refl

valued_step : (d k : ℕ) (x : Identifier) (y : PlainExpr) (i rest : List Numbered) → level d 0 i ≡ Got y rest
    → declared_after d x (fixed k terminal.Assign ∷ i) ≡ Got (record { token = x.token; name = x.name; value = Some y }) rest
unfolding declared_after first take same_terminal
valued_step d k x y i rest e = rw e refl

pub declared_step : (d n : ℕ) (f : List ℕ) (i : List Numbered) → declared d (at n (symbol.Name f) ∷ i) ≡ declared_after d (record { token = n; name = f }) i
unfolding declared
declared_step d n f i = ap (λ (z : Outcome Identifier). and_then z (declared_after d)) (identifier_step n f i)

pub complete_declared : {x : SourceDeclared} {xs : List Numbered} → Declared x xs → (d : ℕ) (rest : List Numbered) → Stops rest → length (xs ++ rest) < d → declared d (xs ++ rest) ≡ Got x rest
complete_declared (grammar.bare n f) d rest stops lt = declared_step d n f rest ∙ bare_step d (record { token = n; name = f }) rest stops.assign
complete_declared (grammar.valued {x = x} {xs = xs} n k f e) d rest stops lt =
    declared_step d n f (fixed k terminal.Assign ∷ (xs ++ rest)) ∙ valued_step d k (record { token = n; name = f }) x (xs ++ rest) rest (complete_expression e d rest stops.ends (omega arith))

-- the names end, or go on after a comma
names_end : (d t k : ℕ) (all : List SourceDeclared) (rest : List Numbered) → 0 < t → more_declared d t all (fixed k terminal.Semicolon ∷ rest) ≡ Got all (fixed k terminal.Semicolon ∷ rest)
unfolding first same_terminal
names_end d zero k all rest lt = absurd (omega arith)
names_end d (suc t) k all rest lt = refl

names_more : (d t k : ℕ) (all : List SourceDeclared) (i : List Numbered) → more_declared d (suc t) all (fixed k terminal.Comma ∷ i) ≡ and_then (declared d i) (λ x. more_declared d t (all ++ x ∷ []))
unfolding first take same_terminal
names_more d t k all i = refl

pub some_declared : {x : SourceDeclared} {xs : List Numbered} → Declared x xs → 0 < length xs
some_declared (grammar.bare n f) = omega arith
some_declared (grammar.valued n k f e) = omega arith

-- the lists of a production, regrouped, and how long its parts are
pub tail_length : (xs j : List Numbered) (s : Numbered) → length (xs ++ s ∷ j) ≡ length xs + (length j + 1)
tail_length xs j s = let e = length-append xs (s ∷ j) in omega (arith, e)

-- a turn of the loop is opened
name_turn : (d t k : ℕ) (all : List SourceDeclared) (i : List Numbered) (o : Outcome (List SourceDeclared)) → length i < t
    → ((t' : ℕ) → length i ≤ t' → and_then (declared d i) (λ x. more_declared d t' (all ++ x ∷ [])) ≡ o) → more_declared d t all (fixed k terminal.Comma ∷ i) ≡ o
name_turn d zero k all i o lt h = absurd (omega arith)
name_turn d (suc t) k all i o lt h = names_more d t k all i ∙ h t (omega arith)

pub complete_names : {all : List SourceDeclared} {xs : List Numbered} → DeclaredNames all xs → (d t : ℕ) (before : List SourceDeclared) (k : ℕ) (rest : List Numbered)
    → length (xs ++ fixed k terminal.Semicolon ∷ rest) < d → length (xs ++ fixed k terminal.Semicolon ∷ rest) ≤ t
    → and_then (declared d (xs ++ fixed k terminal.Semicolon ∷ rest)) (λ x. more_declared d t (before ++ x ∷ [])) ≡ Got (before ++ all) (fixed k terminal.Semicolon ∷ rest)
complete_names (grammar.one {d = x} {xs = xs} h) d t before k rest ld lt =
    let long = tail_length xs rest (fixed k terminal.Semicolon) in
    ap (λ (z : Outcome SourceDeclared). and_then z (λ x. more_declared d t (before ++ x ∷ []))) (complete_declared h d (fixed k terminal.Semicolon ∷ rest) (stops_semicolon k rest) ld)
    ∙ names_end d t k (before ++ x ∷ []) rest (omega arith)
complete_names (grammar.more {d = x} {all = all} {xs = xs} {ys = ys} n h hs) d t before k rest ld lt =
    let j = ys ++ fixed k terminal.Semicolon ∷ rest in
    let regroup = append_assoc xs (fixed n terminal.Comma ∷ ys) (fixed k terminal.Semicolon ∷ rest) in
    let again : length ((xs ++ fixed n terminal.Comma ∷ ys) ++ fixed k terminal.Semicolon ∷ rest)
    ≡ length xs + (length (ys ++ fixed k terminal.Semicolon ∷ rest) + 1) = ap length regroup
    ∙ tail_length xs (ys ++ fixed k terminal.Semicolon ∷ rest) (fixed n terminal.Comma) in
    let whole : length (xs ++ fixed n terminal.Comma ∷ (ys ++ fixed k terminal.Semicolon ∷ rest))
    ≡ length xs + (length (ys ++ fixed k terminal.Semicolon ∷ rest) + 1) = tail_length xs
    (ys ++ fixed k terminal.Semicolon ∷ rest) (fixed n terminal.Comma) in
    let some = some_declared h in
    ap (λ (z : List Numbered). and_then (declared d z) (λ x. more_declared d t (before ++ x ∷ []))) regroup
    ∙ ap (λ (z : Outcome SourceDeclared). and_then z (λ x. more_declared d t (before ++ x ∷ [])))
    (complete_declared h d (fixed n terminal.Comma ∷ (ys ++ fixed k terminal.Semicolon ∷ rest))
    (stops_comma n (ys ++ fixed k terminal.Semicolon ∷ rest)) (omega arith))
    ∙ name_turn d t n (before ++ x ∷ []) (ys ++ fixed k terminal.Semicolon ∷ rest) (Got (before ++ x ∷ all) (fixed k terminal.Semicolon ∷ rest)) (omega arith) (λ t' le.
    complete_names hs d t' (before ++ x ∷ []) k rest (omega arith) le
    ∙ ap (λ (z : List SourceDeclared). Got z (fixed k terminal.Semicolon ∷ rest)) (append_assoc before (x ∷ []) all))
