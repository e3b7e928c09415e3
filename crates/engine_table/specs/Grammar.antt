-- The grammar of a header, line by line. What a line may be depends on what the lines before it
-- made known: the names that defines made type words, and the constants in sight.
use Rattle.std.specs.Prelude.{◌≡◌, ℕ, zero, suc, ◌+◌, ◌-◌, ◌<◌, Bool, true, false, ◌==◌, nat_lt, List, [], ◌∷◌, ◌++◌, length, take, drop, codes, bytes_eq, Option, None, Some, if◌then◌else◌}
use Rattle.std.specs.Int.{cast_signed, w32, int_wrapping_neg}
use Rattle.nss_lexer.specs.Bytes.{is_decimal}
use Rattle.nwq_value.specs.declared.value.Ty.{Ty}
use Rattle.nwq_value.specs.declared.value.Ty.TheVariants as ty
use Rattle.nwq_value.specs.declared.engine.Const.{Const}
use Rattle.nwq_value.specs.declared.engine.Const.TheVariants as const
use Rattle.nwq_value.specs.declared.engine.Param.{Param}
use Rattle.nwq_value.specs.Engine.{Constant, constant_named}
use Rattle.nwq_value.specs.Limits.{parameter_limit}
use Rattle.engine_table.specs.declared.symbol.Word.{Word}
use Rattle.engine_table.specs.declared.symbol.Word.TheVariants as word
use Rattle.engine_table.specs.declared.symbol.Sign.{Sign}
use Rattle.engine_table.specs.declared.symbol.Sign.TheVariants as sign
use Rattle.engine_table.specs.declared.symbol.Symbol.{Symbol}
use Rattle.engine_table.specs.declared.symbol.Symbol.TheVariants as symbol
use Rattle.engine_table.specs.declared.declaration.Declared.{Declared}
use Rattle.engine_table.specs.declared.declaration.Declaration.{Declaration}
use Rattle.engine_table.specs.declared.declaration.Declaration.TheVariants.{Passed, TypeWord, Constant as IsConstant, Function as IsFunction}
use Rattle.engine_table.specs.Known.{Known}
use Rattle.engine_table.specs.Symbols.{Placed, at}
use Rattle.engine_table.specs.Names.{is_among}

abbrev pub sign_at : ℕ → Sign → Placed
sign_at p s = at p (symbol.Sign s)

-- ---- types

abbrev pub word_type : Word → Option Ty
word_type word.Void = Some ty.Void
word_type word.Int = Some ty.Int
word_type word.String = Some ty.Text
word_type word.Object = Some ty.Object
word_type word.Effect = Some ty.Effect
word_type word.Action = Some ty.Action
word_type word.Event = Some ty.Event
word_type word.OtherType = Some ty.Refused
word_type _ = None

-- the type that a token is: a word of the language, or a name that is a type word of the header
abbrev pub type_in : List (List ℕ) → Symbol → Option Ty
type_in words (symbol.Word w) = word_type w
type_in words (symbol.Name n) = if is_among n words then Some ty.Refused else None
type_in words _ = None

-- ---- defines

-- one decimal digit
abbrev pub digit_of : List ℕ → Option ℕ
digit_of (d ∷ []) = if is_decimal d then Some (d - 48) else None
digit_of _ = None

-- the number d of the engine's structure that the name `ENGINE_STRUCTURE_d` speaks of
unfoldable pub structure_of : List ℕ → Option ℕ
structure_of name =
    if nat_lt (length name) 17 then None
    else (if bytes_eq (take 17 name) (codes "ENGINE_STRUCTURE_") then digit_of
    (drop 17 name) else None)

-- What a define declares whose value is this, of an engine's structure or of something else.
-- Structure 0 is `effect`, structure 1 is `event`, and any other has a name of its own, which
-- becomes a type word.
abbrev pub defined : Option ℕ → Symbol → Option Declaration
defined None (symbol.Name n) = Some Passed
defined (Some d) (symbol.Name n) = if nat_lt 1 d then Some (TypeWord n) else None
defined (Some d) (symbol.Word word.Effect) = if d == 0 then Some Passed else None
defined (Some d) (symbol.Word word.Event) = if d == 1 then Some Passed else None
defined d (symbol.Word w) = Some Passed
defined d (symbol.Int n) = Some Passed
defined d _ = None

-- ---- values

-- int, string and object have constants
abbrev pub has_constants : Ty → Bool
has_constants ty.Int = true
has_constants ty.Text = true
has_constants ty.Object = true
has_constants _ = false

abbrev pub has_type : Const → Ty → Bool
has_type (const.Int n) ty.Int = true
has_type (const.Text bytes) ty.Text = true
has_type const.SelfObject ty.Object = true
has_type const.InvalidObject ty.Object = true
has_type c t = false

abbrev pub of_type : Ty → Option Const → Option Const
of_type t None = None
of_type t (Some c) = if has_type c t then Some c else None

-- the constant of a type that a token is by itself: a literal, or the name of an earlier constant
-- of that type
abbrev pub constant_in : List Constant → Ty → Symbol → Option Const
constant_in constants ty.Int (symbol.Int n) = Some (const.Int (cast_signed w32 n))
constant_in constants ty.Text (symbol.Text bytes) = Some (const.Text bytes)
constant_in constants ty.Object (symbol.Word word.ObjectSelf) = Some const.SelfObject
constant_in constants ty.Object (symbol.Word word.ObjectInvalid) = Some const.InvalidObject
constant_in constants t (symbol.Name n) = of_type t (constant_named n constants)
constant_in constants t _ = None

abbrev pub negative : ℕ → Const
negative n = const.Int (int_wrapping_neg w32 (cast_signed w32 n))

-- How many brackets are open behind a token of a value of another type, inside so many; None where
-- the token ends the value, as `,`, `)` and `;` do outside brackets.
abbrev pub brackets : ℕ → Symbol → Option ℕ
brackets zero (symbol.Sign sign.Comma) = None
brackets zero (symbol.Sign sign.Close) = None
brackets zero (symbol.Sign sign.Semicolon) = None
brackets (suc d) (symbol.Sign sign.Close) = Some d
brackets (suc d) (symbol.Sign sign.Closing) = Some d
brackets d (symbol.Sign sign.Open) = Some (d + 1)
brackets d (symbol.Sign sign.Opening) = Some (d + 1)
brackets d _ = Some d

-- any tokens, up to a `,`, `)` or `;` outside brackets; so many brackets are still open behind them
pub data Loose : ℕ → List Placed → Type 0 where
  none : Loose zero []
  more : (d e : ℕ) (xs : List Placed) (p : ℕ) (s : Symbol) → Loose d xs → brackets d s ≡ Some e
      → Loose e (xs ++ at p s ∷ [])

-- A value of a type, and the constant that it stands for; a value of a type without constants is
-- any tokens, and forgotten.
pub data Value (constants : List Constant) : Ty → Option Const → List Placed → Type 0 where
  constant : (t : Ty) (c : Const) (p : ℕ) (s : Symbol) → has_constants t ≡ true
      → constant_in constants t s ≡ Some c
      → Value constants t (Some c) (at p s ∷ [])
  minus : (p q n : ℕ) → Value constants ty.Int (Some (negative n))
      (sign_at p sign.Minus ∷ at q (symbol.Int n) ∷ [])
  other : (t : Ty) (xs : List Placed) → has_constants t ≡ false → Loose zero xs
      → Value constants t None xs

-- ---- lines

-- [ "const" ] type name
pub data Heading (k : Known) : Bool → Declared → List Placed → Type 0 where
  plain : (t : Ty) (p q : ℕ) (s : Symbol) (n : List ℕ) → type_in k.words s ≡ Some t
      → Heading k false (record { ty = t; place = q; name = n })
      (at p s ∷ at q (symbol.Name n) ∷ [])
  fixed : (t : Ty) (o p q : ℕ) (s : Symbol) (n : List ℕ) → type_in k.words s ≡ Some t
      → Heading k true (record { ty = t; place = q; name = n })
      (at o (symbol.Word word.Const) ∷ at p s ∷ at q (symbol.Name n) ∷ [])

-- type [ name ]
pub data ParameterType (k : Known) : Ty → List Placed → Type 0 where
  bare : (t : Ty) (p : ℕ) (s : Symbol) → type_in k.words s ≡ Some t
      → ParameterType k t (at p s ∷ [])
  named : (t : Ty) (p q : ℕ) (s : Symbol) (n : List ℕ) → type_in k.words s ≡ Some t
      → ParameterType k t (at p s ∷ at q (symbol.Name n) ∷ [])

-- type [ name ] [ "=" value ]
pub data Parameter (k : Known) : Param → List Placed → Type 0 where
  required : (t : Ty) (xs : List Placed) → ParameterType k t xs
      → Parameter k (record { ty = t; default = None }) xs
  optional : (t : Ty) (c : Option Const) (xs vs : List Placed) (e : ℕ) → ParameterType k t xs
      → Value k.table.constants t c vs
      → Parameter k (record { ty = t; default = c }) (xs ++ sign_at e sign.Equals ∷ vs)

-- one parameter or more with commas between, 255 at most
pub data Parameters (k : Known) : List Param → List Placed → Type 0 where
  one : (p : Param) (xs : List Placed) → Parameter k p xs → Parameters k (p ∷ []) xs
  more : (ps : List Param) (p : Param) (xs ys : List Placed) (c : ℕ) → Parameters k ps xs
      → length ps < parameter_limit → Parameter k p ys
      → Parameters k (ps ++ p ∷ []) (xs ++ sign_at c sign.Comma ∷ ys)

pub data ParameterList (k : Known) : List Param → List Placed → Type 0 where
  absent : ParameterList k [] []
  present : (ps : List Param) (xs : List Placed) → Parameters k ps xs → ParameterList k ps xs

-- "#" "define" name ( name | word | int ), [ "const" ] type name "=" value ";" and type name "(" [
-- parameters ] ")" ";"
pub data Line (k : Known) : Declaration → List Placed → Type 0 where
  define : (h d p q : ℕ) (n : List ℕ) (s : Symbol) (makes : Declaration)
      → defined (structure_of n) s ≡ Some makes
      → Line k makes (sign_at h sign.Hash ∷ at d (symbol.Name (codes "define")) ∷ at p
      (symbol.Name n) ∷ at q s ∷ [])
  constant : (b : Bool) (d : Declared) (c : Option Const) (hs vs : List Placed) (e s : ℕ)
      → Heading k b d hs → Value k.table.constants d.ty c vs
      → Line k (IsConstant d c)
      (hs ++ sign_at e sign.Equals ∷ (vs ++ sign_at s sign.Semicolon ∷ []))
  function : (d : Declared) (ps : List Param) (hs xs : List Placed) (o c s : ℕ)
      → Heading k false d hs → ParameterList k ps xs
      → Line k (IsFunction (record { head = d; params = ps }))
      (hs ++ sign_at o sign.Open ∷ (xs ++ sign_at c sign.Close ∷ sign_at s sign.Semicolon ∷ []))
