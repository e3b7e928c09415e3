-- No function of a header that is read has a newline in its name: names are made of letters, digits
-- and `_`.
use Rattle.std.proofs.Common.{◌≢◌, ℕ, Bool, true, false, List, [], ◌∷◌, ◌++◌, Option, None, Some, sym, subst, arith, cond}
use Rattle.std.specs.Prelude.{IsTrue, nat_lt, ◌==◌}
use Rattle.std.specs.List.{AllByRecursion}
use Rattle.std.proofs.lemmas.Bool.Decides.{nat_tests}
use Rattle.nwq_value.specs.declared.engine.Const.{Const}
use Rattle.nwq_value.specs.declared.engine.Routine.{Routine}
use Rattle.nwq_value.specs.Engine.{EngineTable, constant_named}
use Rattle.nwq_text.specs.Cuts.{IsFree}
use Rattle.nss_lexer.specs.declared.token.TokenKind.{TokenKind}
use Rattle.nss_lexer.specs.declared.token.TokenKind.TheVariants as kind
use Rattle.nss_lexer.specs.Bytes.{is_letter, is_name_byte}
use Rattle.nss_lexer.specs.Lexemes.{IsIdentifier, IsLexeme}
use Rattle.nss_lexer.specs.Splitting.{Lexeme, Splits, whole, broken, token}
use Rattle.engine_table.specs.declared.symbol.Symbol.{Symbol}
use Rattle.engine_table.specs.declared.symbol.Symbol.TheVariants as symbol
use Rattle.engine_table.specs.declared.symbol.Word.TheVariants as word
use Rattle.engine_table.specs.declared.symbol.Sign.TheVariants as sign
use Rattle.engine_table.specs.declared.declaration.Declared.{Declared}
use Rattle.engine_table.specs.declared.declaration.Declaration.{Declaration}
use Rattle.engine_table.specs.declared.declaration.Declaration.TheVariants as declaration
use Rattle.engine_table.specs.Known.{Known}
use Rattle.engine_table.specs.Symbols.{Placed, symbol_by, placed_all}
use Rattle.engine_table.specs.Grammar.{sign_at, structure_of, defined, Heading, Line}
use Rattle.engine_table.specs.Grammar as grammar
use Rattle.engine_table.specs.Headers.{routine_of, with_constant, after, after_all, nothing, Lines}
use Rattle.engine_table.specs.Headers as headers
use Rattle.trace_lines.specs.Laws.{HeaderNamesArePlain}

-- ---- the names of a text

letter_free : (b : ℕ) → IsTrue (is_letter b) → b ≢ 10
letter_free b h = grind (arith, nat_tests, h)

name_byte_free : (b : ℕ) → IsTrue (is_name_byte b) → b ≢ 10
name_byte_free b h = grind (arith, nat_tests, h)

name_free : (bytes : List ℕ) → AllByRecursion (λ b. IsTrue (is_name_byte b)) bytes → IsFree 10 bytes
name_free [] h = tt
name_free (b ∷ bytes) h = (name_byte_free b h.0, name_free bytes h.1)

identifier_free : (bytes : List ℕ) → IsIdentifier bytes → IsFree 10 bytes
identifier_free [] h = absurd h
identifier_free (b ∷ bytes) h = (letter_free b h.0, name_free bytes h.1)

abbrev IsPlain : Symbol → Type 0
IsPlain (symbol.Name n) = IsFree 10 n
IsPlain (symbol.Word w) = Unit {0}
IsPlain (symbol.Int n) = Unit {0}
IsPlain symbol.Float = Unit {0}
IsPlain (symbol.Text bytes) = Unit {0}
IsPlain (symbol.Sign s) = Unit {0}

abbrev ArePlain : List Placed → Type 0
ArePlain xs = AllByRecursion (λ (x : Placed). IsPlain x.symbol) xs

lexeme_plain : (k : TokenKind) (text : List ℕ) → IsLexeme k text → IsPlain (symbol_by k text)
lexeme_plain kind.Name text h = identifier_free text h.0.0
lexeme_plain kind.Word text h = tt
lexeme_plain (kind.Int n) text h = tt
lexeme_plain kind.Float text h = tt
lexeme_plain kind.Text text h = tt
lexeme_plain kind.Sign text h = tt

tokens_plain : (bytes : List ℕ) (file at : ℕ) (tokens : List Lexeme) (ending : Option ℕ) → Splits bytes file at tokens ending → ArePlain (placed_all tokens)
tokens_plain bytes file at tokens ending (whole _ end) = tt
tokens_plain bytes file at tokens ending (broken _ place bad) = tt
tokens_plain bytes file at tokens ending (token _ t ts _ found rest) = (lexeme_plain t.kind t.text found.begins.lexeme, tokens_plain bytes file t.end ts ending rest)

-- ---- what its lines declare

front : (xs ys : List Placed) → ArePlain (xs ++ ys) → ArePlain xs
front [] ys h = tt
front (x ∷ xs) ys h = (h.0, front xs ys h.1)

back : (xs ys : List Placed) → ArePlain (xs ++ ys) → ArePlain ys
back [] ys h = h
back (x ∷ xs) ys h = back xs ys h.1

heading_plain : (k : Known) (b : Bool) (d : Declared) (hs : List Placed) → Heading k b d hs → ArePlain hs → IsFree 10 d.name
heading_plain k b d hs (grammar.plain t p q s n is) h = h.1.0
heading_plain k b d hs (grammar.fixed t o p q s n is) h = h.1.1.0

abbrev DeclaresPlain : Declaration → Type 0
DeclaresPlain declaration.Passed = Unit {0}
DeclaresPlain (declaration.TypeWord n) = Unit {0}
DeclaresPlain (declaration.Constant d c) = Unit {0}
DeclaresPlain (declaration.Function f) = IsFree 10 f.head.name

-- a define declares no function
abbrev MakesNone : Option Declaration → Type 0
MakesNone None = Unit {0}
MakesNone (Some d) = DeclaresPlain d

makes_if : (b : Bool) (d : Declaration) → DeclaresPlain d → MakesNone (cond b (Some d) None)
makes_if true d h = h
makes_if false d h = tt

makes_none : (d : Option ℕ) (s : Symbol) → MakesNone (defined d s)
makes_none None (symbol.Name n) = tt
makes_none (Some d) (symbol.Name n) = makes_if (nat_lt 1 d) (declaration.TypeWord n) tt
makes_none None (symbol.Word w) = tt
makes_none (Some d) (symbol.Word word.Effect) = makes_if (d == 0) declaration.Passed tt
makes_none (Some d) (symbol.Word word.Event) = makes_if (d == 1) declaration.Passed tt
makes_none (Some d) (symbol.Word w) = tt
makes_none None (symbol.Int n) = tt
makes_none (Some d) (symbol.Int n) = tt
makes_none None symbol.Float = tt
makes_none (Some d) symbol.Float = tt
makes_none None (symbol.Text bytes) = tt
makes_none (Some d) (symbol.Text bytes) = tt
makes_none None (symbol.Sign s) = tt
makes_none (Some d) (symbol.Sign s) = tt

line_plain : (k : Known) (d : Declaration) (xs : List Placed) → Line k d xs → ArePlain xs → DeclaresPlain d
line_plain k d xs (grammar.define o p q r n s _ is) h = subst MakesNone is (makes_none (structure_of n) s)
line_plain k d xs (grammar.constant b e c hs vs o s heading value) h = tt
line_plain k d xs (grammar.function e ps hs ys o c s heading params) h =
    heading_plain k false e hs heading (front hs (sign_at o sign.Open ∷ (ys ++ sign_at c sign.Close ∷ sign_at s sign.Semicolon ∷ [])) h)

-- ---- the table that they make

abbrev AreNamed : List Routine → Type 0
AreNamed routines = AllByRecursion (λ (r : Routine). IsFree 10 r.name) routines

one_more : (routines : List Routine) (r : Routine) → AreNamed routines → IsFree 10 r.name → AreNamed (routines ++ r ∷ [])
one_more [] r all one = (one, tt)
one_more (q ∷ routines) r all one = (all.0, one_more routines r all.1 one)

constant_plain : (t : EngineTable) (n : List ℕ) (c old : Option Const) → AreNamed t.routines → AreNamed (with_constant t n c old).routines
constant_plain t n (Some c) None h = h
constant_plain t n (Some c) (Some old) h = h
constant_plain t n None None h = h
constant_plain t n None (Some old) h = h

after_plain : (k : Known) (d : Declaration) → DeclaresPlain d → AreNamed k.table.routines → AreNamed (after k d).table.routines
after_plain k declaration.Passed plain h = h
after_plain k (declaration.TypeWord n) plain h = h
after_plain k (declaration.Constant d c) plain h = constant_plain k.table d.name c (constant_named d.name k.table.constants) h
after_plain k (declaration.Function f) plain h = one_more k.table.routines (routine_of f) h plain

lines_plain : (k : Known) (ds : List Declaration) (xs : List Placed) → Lines k ds xs → ArePlain xs → AreNamed k.table.routines → AreNamed (after_all k ds).table.routines
lines_plain k ds xs (headers.none _) h all = all
lines_plain k ds xs (headers.more _ d rest ys zs line clear later) h all =
    lines_plain (after k d) rest zs later (back ys zs h) (after_plain k d (line_plain k d ys line (front ys zs h)) all)

pub header_names_are_plain : HeaderNamesArePlain
header_names_are_plain bytes table (tokens, split, (ds, lines, is)) =
    subst (λ (t : EngineTable). AreNamed t.routines) (sym is) (lines_plain nothing ds (placed_all tokens) lines (tokens_plain bytes 0 0 tokens None split) tt)
