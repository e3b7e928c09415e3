-- The table of a header, and the first place where a text is none.
use Rattle.std.specs.Prelude.{◌≡◌, ◌≢◌, ◌<◌, ◌≤◌, ℕ, zero, Bool, true, false, nat_lt, List, [], ◌∷◌, ◌++◌, length, bytes_eq, Option, None, Some, is_some, if◌then◌else◌, Result, Ok, Err}
use Rattle.std.specs.Ordering.{int_eq}
use Rattle.nwq_value.specs.declared.engine.Const.{Const}
use Rattle.nwq_value.specs.declared.engine.Const.TheVariants as const
use Rattle.nwq_value.specs.declared.engine.Routine.{Routine}
use Rattle.nwq_value.specs.Engine.{EngineTable, routine_named, constant_named}
use Rattle.nwq_value.specs.Limits.{routine_limit}
use Rattle.nwq_value.specs.Roles.{engine_role, types_of}
use Rattle.nss_lexer.specs.declared.token.TokenKind.{TokenKind}
use Rattle.nss_lexer.specs.Lexemes.{IsLexeme}
use Rattle.nss_lexer.specs.Splitting.{Lexeme, AreTokens, AreTokensUpTo}
use Rattle.engine_table.specs.declared.symbol.Symbol.{Symbol}
use Rattle.engine_table.specs.declared.symbol.Sign.TheVariants as sign
use Rattle.engine_table.specs.declared.fault.HeaderFault.{HeaderFault}
use Rattle.engine_table.specs.declared.fault.HeaderFault.TheVariants.{Bad, Header, Twice, Many, NoMemory}
use Rattle.engine_table.specs.declared.declaration.Declared.{Declared}
use Rattle.engine_table.specs.declared.declaration.Function.{Function}
use Rattle.engine_table.specs.declared.declaration.Declaration.{Declaration}
use Rattle.engine_table.specs.declared.declaration.Declaration.TheVariants.{Passed, TypeWord, Constant as IsConstant, Function as IsFunction}
use Rattle.engine_table.specs.Symbols.{Placed, at, symbol_by, placed_all}
use Rattle.engine_table.specs.Known.{Known}
use Rattle.engine_table.specs.Names.{with_word}
use Rattle.engine_table.specs.Grammar.{sign_at, has_constants, brackets, Loose, Value, Heading, Line}

-- ---- what a line adds

abbrev pub routine_of : Function → Routine
routine_of f = record {
  name = f.head.name;
  result = f.head.ty;
  params = f.params;
  role = engine_role f.head.name f.head.ty (types_of f.params);
}

-- a constant with a value is kept, unless one of its name is there
abbrev pub with_constant : EngineTable → List ℕ → Option Const → Option Const → EngineTable
with_constant t n (Some c) None = record t {
  constants = t.constants
      ++ record { name = n; value = c } ∷ [];
}
with_constant t n _ _ = t

abbrev pub after : Known → Declaration → Known
after k Passed = k
after k (TypeWord n) = record k { words = with_word n k.words }
after k (IsConstant d c) = record k {
  table = with_constant k.table d.name c
      (constant_named d.name k.table.constants);
}
after k (IsFunction f) = record k {
  table = record k.table {
    routines = k.table.routines
        ++ routine_of f ∷ [];
  };
}

abbrev pub after_all : Known → List Declaration → Known
after_all k [] = k
after_all k (d ∷ ds) = after_all (after k d) ds

-- nothing is known before the first line
abbrev pub nothing : Known
nothing = record { words = []; table = record { routines = []; constants = [] } }

-- ---- names that were declared before

unfoldable pub same_const : Const → Const → Bool
same_const (const.Int a) (const.Int b) = int_eq a b
same_const (const.Text a) (const.Text b) = bytes_eq a b
same_const const.SelfObject const.SelfObject = true
same_const const.InvalidObject const.InvalidObject = true
same_const _ _ = false

-- what is wrong with a function of this name as soon as its `(` stands there
unfoldable pub function_fault : Known → Declared → Option HeaderFault
function_fault k d =
    if is_some (routine_named d.name k.table.routines) then Some (Twice d.place)
    else (if is_some (constant_named d.name k.table.constants) then Some (Twice d.place)
    else (if nat_lt (length k.table.routines) routine_limit then None else Some (Many d.place)))

-- with a constant as soon as its `=` stands there
unfoldable pub constant_fault : Known → Declared → Option HeaderFault
constant_fault k d = if is_some (routine_named d.name k.table.routines) then Some
    (Twice d.place) else None

abbrev pub fault_unless : Bool → ℕ → Option HeaderFault
fault_unless true p = None
fault_unless false p = Some (Twice p)

abbrev pub differs : Option Const → Option Const → ℕ → Option HeaderFault
differs None c p = None
differs (Some old) (Some new) p = fault_unless (same_const old new) p
differs (Some old) None p = Some (Twice p)

-- and with a constant once its value was read: an equal constant may stand again
unfoldable pub value_fault : Known → Declared → Option Const → Option HeaderFault
value_fault k d c = differs (constant_named d.name k.table.constants) c d.place

-- nothing of this is wrong with a declaration
abbrev pub IsClear : Known → Declaration → Type 0
IsClear k Passed = Unit {0}
IsClear k (TypeWord n) = Unit {0}
IsClear k (IsConstant d c) = (constant_fault k d ≡ None) × (value_fault k d c ≡ None)
IsClear k (IsFunction f) = function_fault k f.head ≡ None

-- A line that begins with these tokens is at fault, whatever follows. A value of a type without
-- constants was read where the token stands that ends it.
pub data Clashes (k : Known) : HeaderFault → List Placed → Type 0 where
  function : (d : Declared) (f : HeaderFault) (hs : List Placed) (o : ℕ) → Heading k false d hs
      → function_fault k d ≡ Some f
      → Clashes k f (hs ++ sign_at o sign.Open ∷ [])
  constant : (b : Bool) (d : Declared) (f : HeaderFault) (hs : List Placed) (e : ℕ)
      → Heading k b d hs → constant_fault k d ≡ Some f
      → Clashes k f (hs ++ sign_at e sign.Equals ∷ [])
  value : (b : Bool) (d : Declared) (c : Option Const) (f : HeaderFault) (hs vs : List Placed)
      (e : ℕ) → Heading k b d hs
      → constant_fault k d ≡ None → has_constants d.ty ≡ true → Value k.table.constants d.ty c vs
      → value_fault k d c ≡ Some f
      → Clashes k f (hs ++ sign_at e sign.Equals ∷ vs)
  loose : (b : Bool) (d : Declared) (f : HeaderFault) (hs vs : List Placed) (e p : ℕ) (s : Symbol)
      → Heading k b d hs
      → constant_fault k d ≡ None → has_constants d.ty ≡ false → Loose zero vs
      → brackets zero s ≡ None → value_fault k d None ≡ Some f
      → Clashes k f (hs ++ sign_at e sign.Equals ∷ (vs ++ at p s ∷ []))

-- ---- the first place

-- a token can spell the symbol
pub record IsSpelled (s : Symbol) : Type 0 where
  pub kind : TokenKind
  pub text : List ℕ
  pub lexeme : IsLexeme kind text
  pub same : symbol_by kind text ≡ s

abbrev pub AreSpelled : List Placed → Type 0
AreSpelled [] = Unit {0}
AreSpelled (x ∷ xs) = IsSpelled x.symbol × AreSpelled xs

-- some tokens after these make a line
abbrev pub IsSpelledPrefix : Known → List Placed → Type 0
IsSpelledPrefix k xs = (more : List Placed) × AreSpelled more × (d : Declaration)
    × Line k d (xs ++ more)

-- some symbols after these make a line, whether tokens can spell them or not
abbrev pub IsPrefix : Known → List Placed → Type 0
IsPrefix k xs = (more : List Placed) × (d : Declaration) × Line k d (xs ++ more)

-- some tokens make a line of these, but they are none, and no clash is among them
pub record IsInside (k : Known) (xs : List Placed) : Type 0 where
  pub prefix : IsSpelledPrefix k xs
  pub no_line : (d : Declaration) → Line k d xs → ⊥
  pub no_clash : (f : HeaderFault) (ys zs : List Placed) → xs ≡ ys ++ zs → Clashes k f ys → ⊥

-- the tokens before this one are inside a line, and with it nothing makes a line of them, and they
-- clash with nothing
pub record IsMisfit (k : Known) (xs : List Placed) (s : Placed) : Type 0 where
  pub inside : IsInside k xs
  pub through : IsPrefix k (xs ++ s ∷ []) → ⊥
  pub no_clash : (f : HeaderFault) → Clashes k f (xs ++ s ∷ []) → ⊥

-- ---- whole texts

-- the tokens are lines with these declarations, each clear where it stands
pub data Lines : Known → List Declaration → List Placed → Type 0 where
  none : (k : Known) → Lines k [] []
  more : (k : Known) (d : Declaration) (ds : List Declaration) (xs ys : List Placed) → Line k d xs
      → IsClear k d → Lines (after k d) ds ys
      → Lines k (d ∷ ds) (xs ++ ys)

-- the tokens of a text of so many bytes are clear lines up to one that is at fault
pub data HeaderFails (end : ℕ) : Known → HeaderFault → List Placed → Type 0 where
  later : (k : Known) (d : Declaration) (f : HeaderFault) (xs ys : List Placed) → Line k d xs
      → IsClear k d → HeaderFails end (after k d) f ys
      → HeaderFails end k f (xs ++ ys)
  clash : (k : Known) (f : HeaderFault) (xs ys : List Placed) → Clashes k f xs
      → HeaderFails end k f (xs ++ ys)
  misfit : (k : Known) (xs : List Placed) (s : Placed) (ys : List Placed) → IsMisfit k xs s
      → HeaderFails end k (Header s.place) (xs ++ s ∷ ys)
  short : (k : Known) (xs : List Placed) → xs ≢ [] → IsInside k xs
      → HeaderFails end k (Header end) xs

-- the table that tokens stand for, or their first fault
abbrev pub Comes : ℕ → Known → List Placed → Result EngineTable HeaderFault → Type 0
Comes end k tokens (Ok table) = (ds : List Declaration) × Lines k ds tokens
    × (table ≡ (after_all k ds).table)
Comes end k tokens (Err f) = HeaderFails end k f tokens

-- the text is a header with this table
abbrev pub HasTable : List ℕ → EngineTable → Type 0
HasTable bytes table = (tokens : List Lexeme) × AreTokens bytes 0 tokens
    × Comes (length bytes) nothing (placed_all tokens) (Ok table)

-- the text's tokens are no header, and this is their first fault
abbrev pub IsFaulty : List ℕ → HeaderFault → Type 0
IsFaulty bytes f = (tokens : List Lexeme) × AreTokens bytes 0 tokens
    × Comes (length bytes) nothing (placed_all tokens) (Err f)

-- A bad byte stands before all else.
abbrev pub IsRefused : List ℕ → HeaderFault → Type 0
IsRefused bytes (Bad place) = (tokens : List Lexeme) × AreTokensUpTo bytes 0 tokens place
IsRefused bytes (Header place) = IsFaulty bytes (Header place)
IsRefused bytes (Twice place) = IsFaulty bytes (Twice place)
IsRefused bytes (Many place) = IsFaulty bytes (Many place)
IsRefused bytes NoMemory = Unit {0}

-- the fault's place is in a text of so many bytes; a text that ends inside a line is at fault at
-- its end
abbrev pub IsWithin : ℕ → HeaderFault → Type 0
IsWithin size (Bad place) = place < size
IsWithin size (Header place) = place ≤ size
IsWithin size (Twice place) = place < size
IsWithin size (Many place) = place < size
IsWithin size NoMemory = Unit {0}

-- a table of the text, or a first fault of it
abbrev pub IsAnswer : List ℕ → Result EngineTable HeaderFault → Type 0
IsAnswer bytes (Ok table) = HasTable bytes table
IsAnswer bytes (Err f) = (f ≢ NoMemory) × IsRefused bytes f

-- each text has a table or a first fault, and only one
pub record OneHeader : Type 0 where
  pub one_table : (bytes : List ℕ) (a b : EngineTable) → HasTable bytes a → HasTable bytes b → a ≡ b
  pub one_fault : (bytes : List ℕ) (f g : HeaderFault) → f ≢ NoMemory → g ≢ NoMemory
      → IsRefused bytes f → IsRefused bytes g → f ≡ g
  pub some_answer : (bytes : List ℕ)
      → (answer : Result EngineTable HeaderFault) × IsAnswer bytes answer
  pub not_both : (bytes : List ℕ) (a : EngineTable) (f : HeaderFault) → f ≢ NoMemory
      → HasTable bytes a → IsRefused bytes f → ⊥
