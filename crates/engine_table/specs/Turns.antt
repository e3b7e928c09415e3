-- What a token does to a line that has come so far, as the code does it. No public clause names
-- this: it is proved to find exactly what the grammar has.
use Rattle.std.specs.Prelude.{◌≡◌, ℕ, zero, ◌+◌, ◌≤◌, ◌<◌, Bool, true, false, nat_lt, List, [], ◌∷◌, ◌++◌, length, codes, bytes_eq, Option, None, Some, is_none, IfSome, if◌then◌else◌, Result, Ok, Err}
use Rattle.nwq_value.specs.declared.value.Ty.{Ty}
use Rattle.nwq_value.specs.declared.value.Ty.TheVariants as ty
use Rattle.nwq_value.specs.declared.engine.Const.{Const}
use Rattle.nwq_value.specs.declared.engine.Param.{Param}
use Rattle.nwq_value.specs.Engine.{EngineTable, constant_named, IsConstant, IsNoStruct, FitsType, AreParams}
use Rattle.nwq_value.specs.Limits.{parameter_limit}
use Rattle.engine_table.specs.declared.symbol.Word.TheVariants as word
use Rattle.engine_table.specs.declared.symbol.Sign.TheVariants as sign
use Rattle.engine_table.specs.declared.symbol.Symbol.{Symbol}
use Rattle.engine_table.specs.declared.symbol.Symbol.TheVariants as symbol
use Rattle.engine_table.specs.declared.fault.HeaderFault.{HeaderFault}
use Rattle.engine_table.specs.declared.fault.HeaderFault.TheVariants.{Bad, Header, Twice, Many, NoMemory}
use Rattle.engine_table.specs.declared.declaration.Declared.{Declared}
use Rattle.engine_table.specs.declared.declaration.Function.{Function}
use Rattle.engine_table.specs.declared.declaration.Declaration.{Declaration}
use Rattle.engine_table.specs.declared.declaration.Declaration.TheVariants as declaration
use Rattle.engine_table.specs.declared.stage.Owner.{Owner}
use Rattle.engine_table.specs.declared.stage.Owner.TheVariants as owner
use Rattle.engine_table.specs.declared.stage.Stage.{Stage}
use Rattle.engine_table.specs.declared.stage.Stage.TheVariants as stage
use Rattle.engine_table.specs.declared.stage.Turn.{Turn}
use Rattle.engine_table.specs.declared.stage.Turn.TheVariants.{Goes, Gives}
use Rattle.nss_lexer.specs.Splitting.{Lexeme, Splits}
use Rattle.engine_table.specs.Symbols.{Placed}
use Rattle.engine_table.specs.declared.known.Known.{Known as KnownInCode}
use Rattle.engine_table.specs.Known.{Known}
use Rattle.engine_table.specs.Grammar.{type_in, structure_of, defined, has_constants, constant_in, negative, brackets}
use Rattle.engine_table.specs.Headers.{after, function_fault, constant_fault, value_fault}

-- what the code keeps, as the grammar sees it
abbrev pub known_of : KnownInCode → Known
known_of k = record { words = k.words; table = k.table }

abbrev pub TurnResult : Type 0
TurnResult = Result Turn HeaderFault

abbrev pub goes : Stage → TurnResult
goes s = Ok (Goes s)

-- a token at this place that fits no production
abbrev pub misfit : ℕ → TurnResult
misfit p = Err (Header p)

abbrev pub unless_fault : Option HeaderFault → TurnResult → TurnResult
unless_fault None next = next
unless_fault (Some f) next = Err f

-- ---- starts of lines, and defines

abbrev pub typed : (Ty → Stage) → Option Ty → ℕ → TurnResult
typed to (Some t) p = goes (to t)
typed to None p = misfit p

abbrev pub start_turn : List (List ℕ) → ℕ → Symbol → TurnResult
start_turn words p (symbol.Sign sign.Hash) = goes stage.Hash
start_turn words p (symbol.Word word.Const) = goes stage.Const
start_turn words p s = typed (stage.Typed false) (type_in words s) p

abbrev pub hash_turn : ℕ → Symbol → TurnResult
hash_turn p (symbol.Name n) = if bytes_eq n (codes "define") then goes stage.Define else misfit p
hash_turn p _ = misfit p

abbrev pub define_turn : ℕ → Symbol → TurnResult
define_turn p (symbol.Name n) = goes (stage.Defined n)
define_turn p _ = misfit p

abbrev pub given : Option Declaration → ℕ → TurnResult
given (Some d) p = Ok (Gives d false)
given None p = misfit p

abbrev pub defined_turn : List ℕ → ℕ → Symbol → TurnResult
defined_turn n p s = given (defined (structure_of n) s) p

-- ---- names

abbrev pub typed_turn : Bool → Ty → ℕ → Symbol → TurnResult
typed_turn b t p (symbol.Name n) = goes (stage.Named b (record { ty = t; place = p; name = n }))
typed_turn b t p _ = misfit p

abbrev pub named_turn : Known → Bool → Declared → ℕ → Symbol → TurnResult
named_turn k b d p (symbol.Sign sign.Equals) = unless_fault (constant_fault k d)
    (goes (stage.Value (owner.Constant d)))
named_turn k false d p (symbol.Sign sign.Open) = unless_fault (function_fault k d)
    (goes (stage.Params (record { head = d; params = [] })))
named_turn k b d p _ = misfit p

-- ---- values

abbrev pub type_of : Owner → Ty
type_of (owner.Constant d) = d.ty
type_of (owner.Parameter f t) = t

-- a parameter is whole where `,` or `)` follows
abbrev pub param_turn : Function → Param → ℕ → Symbol → TurnResult
param_turn f x p (symbol.Sign sign.Comma) =
    if nat_lt (length f.params + 1) parameter_limit then goes
    (stage.Param (record f { params = f.params ++ x ∷ [] })) else misfit p
param_turn f x p (symbol.Sign sign.Close) = goes
    (stage.Closed (record f { params = f.params ++ x ∷ [] }))
param_turn f x p _ = misfit p

abbrev pub constant_end : Declared → Option Const → Bool → ℕ → Symbol → TurnResult
constant_end d c new p (symbol.Sign sign.Semicolon) = Ok (Gives (declaration.Constant d c) new)
constant_end d c new p _ = misfit p

-- the token behind a value
abbrev pub valued_turn : Owner → Option Const → Bool → ℕ → Symbol → TurnResult
valued_turn (owner.Constant d) c new p s = constant_end d c new p s
valued_turn (owner.Parameter f t) c new p s = param_turn f (record { ty = t; default = c }) p s

-- a value was read
abbrev pub owner_fault : Known → Owner → Option Const → Option HeaderFault
owner_fault k (owner.Constant d) c = value_fault k d c
owner_fault k (owner.Parameter f t) c = None

abbrev pub checked : Known → Owner → Option Const → TurnResult → TurnResult
checked k o c next = unless_fault (owner_fault k o c) next

-- whether this is the value of a constant whose name no constant before it has
abbrev pub is_new : Known → Option Const → Owner → Bool
is_new k None o = false
is_new k (Some c) (owner.Constant d) = is_none (constant_named d.name k.table.constants)
is_new k (Some c) (owner.Parameter f t) = false

abbrev pub got : Known → Owner → Option Const → ℕ → TurnResult
got k o (Some c) p = checked k o (Some c) (goes (stage.Valued o (Some c) (is_new k (Some c) o)))
got k o None p = misfit p

abbrev pub minus_turn : Known → Owner → ℕ → Symbol → TurnResult
minus_turn k o p (symbol.Int n) = got k o (Some (negative n)) p
minus_turn k o p _ = misfit p

abbrev pub is_minus_of_int : Ty → Symbol → Bool
is_minus_of_int ty.Int (symbol.Sign sign.Minus) = true
is_minus_of_int t s = false

abbrev pub constant_turn : Known → Owner → Ty → ℕ → Symbol → TurnResult
constant_turn k o t p s = if is_minus_of_int t s then goes (stage.Minus o) else got k o
    (constant_in k.table.constants t s) p

abbrev pub loose_by : Known → Owner → Option ℕ → ℕ → Symbol → TurnResult
loose_by k o (Some e) p s = goes (stage.Loose o e)
loose_by k o None p s = checked k o None (valued_turn o None false p s)

abbrev pub loose_turn : Known → Owner → ℕ → ℕ → Symbol → TurnResult
loose_turn k o d p s = loose_by k o (brackets d s) p s

abbrev pub value_by : Bool → Known → Owner → ℕ → Symbol → TurnResult
value_by true k o p s = constant_turn k o (type_of o) p s
value_by false k o p s = loose_turn k o zero p s

abbrev pub value_turn : Known → Owner → ℕ → Symbol → TurnResult
value_turn k o p s = value_by (has_constants (type_of o)) k o p s

-- ---- parameters

abbrev pub params_turn : List (List ℕ) → Function → ℕ → Symbol → TurnResult
params_turn words f p (symbol.Sign sign.Close) = goes (stage.Closed f)
params_turn words f p s = typed (stage.ParamType f) (type_in words s) p

-- behind a parameter's type and name
abbrev pub behind_turn : Function → Ty → ℕ → Symbol → TurnResult
behind_turn f t p (symbol.Sign sign.Equals) = goes (stage.Value (owner.Parameter f t))
behind_turn f t p s = param_turn f (record { ty = t; default = None }) p s

abbrev pub param_type_turn : Function → Ty → ℕ → Symbol → TurnResult
param_type_turn f t p (symbol.Name n) = goes (stage.ParamName f t)
param_type_turn f t p s = behind_turn f t p s

abbrev pub closed_turn : Function → ℕ → Symbol → TurnResult
closed_turn f p (symbol.Sign sign.Semicolon) = Ok (Gives (declaration.Function f) false)
closed_turn f p _ = misfit p

-- what a token at this place does
unfoldable pub turn : Known → Stage → ℕ → Symbol → TurnResult
turn k stage.Start p s = start_turn k.words p s
turn k stage.Hash p s = hash_turn p s
turn k stage.Define p s = define_turn p s
turn k (stage.Defined n) p s = defined_turn n p s
turn k stage.Const p s = typed (stage.Typed true) (type_in k.words s) p
turn k (stage.Typed b t) p s = typed_turn b t p s
turn k (stage.Named b d) p s = named_turn k b d p s
turn k (stage.Value o) p s = value_turn k o p s
turn k (stage.Minus o) p s = minus_turn k o p s
turn k (stage.Loose o d) p s = loose_turn k o d p s
turn k (stage.Valued o c new) p s = valued_turn o c new p s
turn k (stage.Params f) p s = params_turn k.words f p s
turn k (stage.Param f) p s = typed (stage.ParamType f) (type_in k.words s) p
turn k (stage.ParamType f t) p s = param_type_turn f t p s
turn k (stage.ParamName f t) p s = behind_turn f t p s
turn k (stage.Closed f) p s = closed_turn f p s

abbrev pub turn_at : Known → Stage → Placed → TurnResult
turn_at k s x = turn k s x.place x.symbol

-- inside how many brackets of a value a line is
abbrev pub depth_of : Stage → ℕ
depth_of (stage.Loose o d) = d
depth_of _ = 0

-- ---- what a stage keeps

-- a function that may be declared, whatever parameters it has already
pub record IsOpen (k : Known) (f : Function) : Type 0 where
  pub free : function_fault k f.head ≡ None
  pub result : IsNoStruct f.head.ty
  pub params : AreParams f.params

abbrev pub KeepsOwner : Known → Owner → Type 0
KeepsOwner k (owner.Constant d) = constant_fault k d ≡ None
KeepsOwner k (owner.Parameter f t) = IsOpen k f × (length f.params < parameter_limit) × IsNoStruct t

-- a constant's name is free of functions, and its value is within bounds and clashes with nothing
abbrev pub KeepsValue : Known → Owner → Option Const → Type 0
KeepsValue k (owner.Constant d) c = (constant_fault k d ≡ None) × (value_fault k d c ≡ None)
    × IfSome c IsConstant
KeepsValue k (owner.Parameter f t) c = IsOpen k f × (length f.params < parameter_limit)
    × IsNoStruct t × FitsType c t

abbrev pub KeepsStage : Known → Stage → Type 0
KeepsStage k (stage.Typed b t) = IsNoStruct t
KeepsStage k (stage.Named b d) = IsNoStruct d.ty
KeepsStage k (stage.Value o) = KeepsOwner k o
KeepsStage k (stage.Minus o) = KeepsOwner k o × (type_of o ≡ ty.Int)
KeepsStage k (stage.Loose o d) = KeepsOwner k o
KeepsStage k (stage.Valued o c new) = KeepsValue k o c × (new ≡ is_new k c o)
KeepsStage k (stage.Params f) = IsOpen k f × (f.params ≡ [])
KeepsStage k (stage.Param f) = IsOpen k f × (length f.params < parameter_limit)
KeepsStage k (stage.ParamType f t) = IsOpen k f × (length f.params < parameter_limit) × IsNoStruct t
KeepsStage k (stage.ParamName f t) = IsOpen k f × (length f.params < parameter_limit) × IsNoStruct t
KeepsStage k (stage.Closed f) = IsOpen k f × (length f.params ≤ parameter_limit)
KeepsStage k _ = Unit {0}

abbrev pub KeepsDeclaration : Known → Declaration → Type 0
KeepsDeclaration k (declaration.Constant d c) = (constant_fault k d ≡ None)
    × (value_fault k d c ≡ None) × IfSome c IsConstant
KeepsDeclaration k (declaration.Function f) = IsOpen k f × (length f.params ≤ parameter_limit)
KeepsDeclaration k _ = Unit {0}

-- of a constant it is told whether its name is new
abbrev pub TellsNew : Known → Declaration → Bool → Type 0
TellsNew k (declaration.Constant d c) new = new ≡ is_new k c (owner.Constant d)
TellsNew k d new = Unit {0}

-- something of a line stands there
abbrev pub HasBegun : Stage → Type 0
HasBegun stage.Start = ⊥
HasBegun _ = Unit {0}

abbrev pub KeepsTurn : Known → Turn → Type 0
KeepsTurn k (Goes s) = KeepsStage k s × HasBegun s
KeepsTurn k (Gives d new) = KeepsDeclaration k d × TellsNew k d new

-- ---- many tokens

-- What lines come to from a stage on, in a text of so many bytes.
abbrev pub ended : ℕ → Known → Stage → Result EngineTable HeaderFault
ended end k stage.Start = Ok k.table
ended end k _ = Err (Header end)

abbrev pub run_by : TurnResult → (Stage → Result EngineTable HeaderFault)
    → (Declaration → Result EngineTable HeaderFault) → Result EngineTable HeaderFault
run_by (Ok (Goes s)) on line = on s
run_by (Ok (Gives d new)) on line = line d
run_by (Err f) on line = Err f

unfoldable pub declarations_read : ℕ → Known → Stage → List Placed → Result EngineTable HeaderFault
declarations_read end k s [] = ended end k s
declarations_read end k s (x ∷ xs) = run_by (turn k s x.place x.symbol)
    (λ next. declarations_read end k next xs)
    (λ d. declarations_read end (after k d) stage.Start xs)

-- ---- what code answers

-- want of memory says nothing; any other answer is this one
abbrev pub Answers : {A : Type 0} → Result A HeaderFault → Result A HeaderFault → Type 0
Answers r (Ok x) = r ≡ Ok x
Answers r (Err (Bad p)) = r ≡ Err (Bad p)
Answers r (Err (Header p)) = r ≡ Err (Header p)
Answers r (Err (Twice p)) = r ≡ Err (Twice p)
Answers r (Err (Many p)) = r ≡ Err (Many p)
Answers r (Err NoMemory) = Unit {0}

-- a turn leads from what is known to what is known then, and to a stage
abbrev pub Leads : Known → Turn → Known → Stage → Type 0
Leads k (Goes s) k' s' = (k' ≡ k) × (s' ≡ s)
Leads k (Gives d new) k' s' = (k' ≡ after k d) × (s' ≡ stage.Start)

-- a token leads from a stage to another
pub record Follows (k : Known) (s : Stage) (x : Placed) (k' : Known) (s' : Stage) : Type 0 where
  pub what : Turn
  pub is : turn_at k s x ≡ Ok what
  pub leads : Leads k what k' s'

-- the text has tokens from a place on, to its end or up to a bad byte
pub record HasTokens (bytes : List ℕ) (from : ℕ) : Type 0 where
  pub tokens : List Lexeme
  pub are : Splits bytes 0 from tokens None

pub record HasTokensUpTo (bytes : List ℕ) (from place : ℕ) : Type 0 where
  pub tokens : List Lexeme
  pub are : Splits bytes 0 from tokens (Some place)
