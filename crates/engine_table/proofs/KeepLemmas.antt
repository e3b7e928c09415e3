-- What no fault says, and what each turn keeps.
use Rattle.std.proofs.Common.{◌≡◌, ℕ, ◌+◌, ◌^◌, ◌<◌, ◌≤◌, Bool, true, false, if◌then◌else◌, nat_lt, List, [], ◌∷◌, ◌++◌, length, codes, bytes_eq, Option, Some, None, is_some, IfSome, Ok, Err, refl}
use Rattle.std.proofs.Common.{sym, ap, subst, ◌∙◌, arith, length-append}
use Rattle.std.proofs.lemmas.Bool.Decides.{nat_tests}
use Rattle.std.proofs.lemmas.Option.{same_Some, none-some}
use Rattle.std.proofs.lemmas.Int.{wrapping_neg_is, SFits-int_wrap}
use Rattle.std.proofs.Math.Facts.{sfits_to_z, Fits-of_lt}
use Rattle.std.specs.Int.{cast_signed, w32}
use Rattle.std.specs.Prelude.{FitsSigned, neg_ℤ}
use Rattle.nwq_value.specs.declared.value.Ty.{Ty}
use Rattle.nwq_value.specs.declared.value.Ty.TheVariants as ty
use Rattle.nwq_value.specs.declared.engine.Const.{Const}
use Rattle.nwq_value.specs.declared.engine.Const.TheVariants as const
use Rattle.nwq_value.specs.declared.engine.Param.{Param}
use Rattle.nwq_value.specs.Engine.{Constant, routine_named, constant_named, const_type, AreConstants, IsConstant, IsNoStruct, FitsType, AreParams}
use Rattle.engine_table.specs.Known.{Known}
use Rattle.engine_table.specs.declared.declaration.Declared.{Declared}
use Rattle.engine_table.specs.declared.declaration.Function.{Function}
use Rattle.engine_table.specs.declared.declaration.Declaration.{Declaration}
use Rattle.engine_table.specs.declared.declaration.Declaration.TheVariants as declaration
use Rattle.engine_table.specs.declared.fault.HeaderFault.{HeaderFault}
use Rattle.engine_table.specs.declared.symbol.Word.{Word}
use Rattle.engine_table.specs.declared.symbol.Word.TheVariants as word
use Rattle.engine_table.specs.declared.symbol.Sign.TheVariants as sign
use Rattle.engine_table.specs.declared.symbol.Symbol.{Symbol}
use Rattle.engine_table.specs.declared.symbol.Symbol.TheVariants as symbol
use Rattle.engine_table.specs.declared.stage.Owner.{Owner}
use Rattle.engine_table.specs.declared.stage.Owner.TheVariants as owner
use Rattle.engine_table.specs.declared.stage.Stage.{Stage}
use Rattle.engine_table.specs.declared.stage.Stage.TheVariants as stage
use Rattle.engine_table.specs.declared.stage.Turn.{Turn}
use Rattle.engine_table.specs.declared.stage.Turn.TheVariants.{Goes, Gives}
use Rattle.engine_table.specs.Names.{is_among}
use Rattle.engine_table.specs.Symbols.{IsSymbol}
use Rattle.engine_table.specs.Grammar.{word_type, type_in, structure_of, defined, has_constants, has_type, of_type, constant_in, negative, brackets}
use Rattle.engine_table.specs.Headers.{function_fault, constant_fault, value_fault}
use Rattle.engine_table.specs.Turns.{TurnResult, goes, misfit, unless_fault, typed, start_turn, hash_turn, define_turn, given, typed_turn, named_turn, type_of, param_turn, constant_end, valued_turn}
use Rattle.engine_table.specs.Turns.{owner_fault, checked, got, minus_turn, is_minus_of_int, is_new, constant_turn, loose_by, value_by, params_turn, behind_turn, param_type_turn, closed_turn, turn}
use Rattle.engine_table.specs.Turns.{IsOpen, KeepsOwner, KeepsValue, KeepsStage, KeepsDeclaration, TellsNew, KeepsTurn}

-- ---- no fault

-- the name is free, and there is room
pub record IsFree (k : Known) (d : Declared) : Type 0 where
  pub routine : routine_named d.name k.table.routines ≡ None
  pub constant : constant_named d.name k.table.constants ≡ None
  pub room : length k.table.routines < 65535

none_of : {A : Type 0} (o : Option A) (f : Option HeaderFault) (x : HeaderFault) → (if is_some o then Some x else f) ≡ None → (o ≡ None) × (f ≡ None)
none_of None f x e = (refl, e)
none_of (Some y) f x e = cc

room_of : (n : ℕ) (b : Bool) (x : HeaderFault) → nat_lt n 65535 ≡ b → (if b then None else Some x) ≡ None → n < 65535
room_of n true x t e = grind (arith, nat_tests)
room_of n false x t e = cc

pub free_function : (k : Known) (d : Declared) → function_fault k d ≡ None → IsFree k d
unfolding function_fault
free_function k d e =
    let a = none_of (routine_named d.name k.table.routines) _ _ e in
    let b = none_of (constant_named d.name k.table.constants) _ _ a.1 in
    record { routine = a.0; constant = b.0; room = room_of (length k.table.routines) (nat_lt (length k.table.routines) 65535) _ refl b.1 }

pub free_constant : (k : Known) (d : Declared) → constant_fault k d ≡ None → routine_named d.name k.table.routines ≡ None
unfolding constant_fault
free_constant k d e = (none_of (routine_named d.name k.table.routines) None _ e).0

-- ---- what a turn keeps

pub same_turn : (a b : Turn) → ◌≡◌ {A = TurnResult} (Ok a) (Ok b) → a ≡ b
same_turn a b e = cc

pub no_turn : (f : HeaderFault) (t : Turn) → ◌≡◌ {A = TurnResult} (Err f) (Ok t) → ⊥
no_turn f t e = cc

is_turn : (k : Known) (a t : Turn) → ◌≡◌ {A = TurnResult} (Ok a) (Ok t) → KeepsTurn k a → KeepsTurn k t
is_turn k a t e h = subst (KeepsTurn k) (same_turn a t e) h

pub unless : (P : Type 0) (o : Option HeaderFault) (next : TurnResult) (t : Turn) → (o ≡ None → next ≡ Ok t → P) → unless_fault o next ≡ Ok t → P
unless P None next t h e = h refl e
unless P (Some f) next t h e = absurd (no_turn f t e)

pub choose : (P : Type 0) (b : Bool) (one other : TurnResult) (t : Turn) → (b ≡ true → one ≡ Ok t → P) → (b ≡ false → other ≡ Ok t → P)
    → (if b then one else other) ≡ Ok t → P
choose P true one other t h g e = h refl e
choose P false one other t h g e = g refl e

word_no_struct : (w : Word) (u : Ty) → word_type w ≡ Some u → IsNoStruct u
word_no_struct word.Void u e = subst IsNoStruct (same_Some _ _ e) tt
word_no_struct word.Int u e = subst IsNoStruct (same_Some _ _ e) tt
word_no_struct word.String u e = subst IsNoStruct (same_Some _ _ e) tt
word_no_struct word.Object u e = subst IsNoStruct (same_Some _ _ e) tt
word_no_struct word.Effect u e = subst IsNoStruct (same_Some _ _ e) tt
word_no_struct word.Action u e = subst IsNoStruct (same_Some _ _ e) tt
word_no_struct word.Event u e = subst IsNoStruct (same_Some _ _ e) tt
word_no_struct word.OtherType u e = subst IsNoStruct (same_Some _ _ e) tt
word_no_struct w u e = absurd (none-some u e)

name_no_struct : (b : Bool) (u : Ty) → (if b then Some ty.Refused else None) ≡ Some u → IsNoStruct u
name_no_struct true u e = subst IsNoStruct (same_Some _ _ e) tt
name_no_struct false u e = absurd (none-some u e)

pub no_struct : (words : List (List ℕ)) (x : Symbol) (u : Ty) → type_in words x ≡ Some u → IsNoStruct u
no_struct words (symbol.Word w) u e = word_no_struct w u e
no_struct words (symbol.Name n) u e = name_no_struct (is_among n words) u e
no_struct words x u e = absurd (none-some u e)

typed_keeps : (k : Known) (to : Ty → Stage) (o : Option Ty) (p : ℕ) (t : Turn) → ((u : Ty) → o ≡ Some u → KeepsTurn k (Goes (to u)))
    → typed to o p ≡ Ok t → KeepsTurn k t
typed_keeps k to (Some u) p t h e = is_turn k (Goes (to u)) t e (h u refl)
typed_keeps k to None p t h e = absurd (no_turn _ t e)

start_keeps : (k : Known) (p : ℕ) (x : Symbol) (t : Turn) → start_turn k.words p x ≡ Ok t → KeepsTurn k t
start_keeps k p (symbol.Sign sign.Hash) t e = is_turn k (Goes stage.Hash) t e (tt, tt)
start_keeps k p (symbol.Word word.Const) t e = is_turn k (Goes stage.Const) t e (tt, tt)
start_keeps k p x t e = typed_keeps k (stage.Typed false) (type_in k.words x) p t (λ u is. (no_struct k.words x u is, tt)) e

hash_keeps : (k : Known) (p : ℕ) (x : Symbol) (t : Turn) → hash_turn p x ≡ Ok t → KeepsTurn k t
hash_keeps k p (symbol.Name n) t e =
    choose (KeepsTurn k t) (bytes_eq n (codes "define")) (goes stage.Define) (misfit p) t (λ b is. is_turn k (Goes stage.Define) t is (tt, tt)) (λ b is. absurd (no_turn _ t is)) e
hash_keeps k p x t e = absurd (no_turn _ t e)

define_keeps : (k : Known) (p : ℕ) (x : Symbol) (t : Turn) → define_turn p x ≡ Ok t → KeepsTurn k t
define_keeps k p (symbol.Name n) t e = is_turn k (Goes (stage.Defined n)) t e (tt, tt)
define_keeps k p x t e = absurd (no_turn _ t e)

some_keeps : (k : Known) (a d : Declaration) → Some a ≡ Some d → KeepsDeclaration k a → KeepsDeclaration k d
some_keeps k a d e h = subst (KeepsDeclaration k) (same_Some a d e) h

if_keeps : (k : Known) (b : Bool) (a d : Declaration) → (if b then Some a else None) ≡ Some d → KeepsDeclaration k a → KeepsDeclaration k d
if_keeps k true a d e h = some_keeps k a d e h
if_keeps k false a d e h = absurd (none-some d e)

pub made_keeps : (k : Known) (o : Option ℕ) (x : Symbol) (d : Declaration) → defined o x ≡ Some d → KeepsDeclaration k d
made_keeps k None (symbol.Name n) d e = some_keeps k declaration.Passed d e tt
made_keeps k (Some c) (symbol.Name n) d e = if_keeps k (nat_lt 1 c) (declaration.TypeWord n) d e tt
made_keeps k (Some c) (symbol.Word word.Effect) d e = if_keeps k _ declaration.Passed d e tt
made_keeps k (Some c) (symbol.Word word.Event) d e = if_keeps k _ declaration.Passed d e tt
made_keeps k o (symbol.Word w) d e = some_keeps k declaration.Passed d e tt
made_keeps k o (symbol.Int n) d e = some_keeps k declaration.Passed d e tt
made_keeps k o x d e = absurd (none-some d e)

some_told : (k : Known) (a d : Declaration) → Some a ≡ Some d → TellsNew k a false → TellsNew k d false
some_told k a d e h = subst (λ (z : Declaration). TellsNew k z false) (same_Some a d e) h

if_told : (k : Known) (b : Bool) (a d : Declaration) → (if b then Some a else None) ≡ Some d → TellsNew k a false → TellsNew k d false
if_told k true a d e h = some_told k a d e h
if_told k false a d e h = absurd (none-some d e)

made_told : (k : Known) (o : Option ℕ) (x : Symbol) (d : Declaration) → defined o x ≡ Some d → TellsNew k d false
made_told k None (symbol.Name n) d e = some_told k declaration.Passed d e tt
made_told k (Some c) (symbol.Name n) d e = if_told k (nat_lt 1 c) (declaration.TypeWord n) d e tt
made_told k (Some c) (symbol.Word word.Effect) d e = if_told k _ declaration.Passed d e tt
made_told k (Some c) (symbol.Word word.Event) d e = if_told k _ declaration.Passed d e tt
made_told k o (symbol.Word w) d e = some_told k declaration.Passed d e tt
made_told k o (symbol.Int n) d e = some_told k declaration.Passed d e tt
made_told k o x d e = absurd (none-some d e)

given_keeps : (k : Known) (o : Option Declaration) (p : ℕ) (t : Turn) → ((d : Declaration) → o ≡ Some d → KeepsDeclaration k d × TellsNew k d false) → given o p ≡ Ok t → KeepsTurn k t
given_keeps k (Some d) p t h e = is_turn k (Gives d false) t e (h d refl)
given_keeps k None p t h e = absurd (no_turn _ t e)

named_typed_keeps : (k : Known) (b : Bool) (u : Ty) (p : ℕ) (x : Symbol) (t : Turn) → IsNoStruct u → typed_turn b u p x ≡ Ok t → KeepsTurn k t
named_typed_keeps k b u p (symbol.Name n) t h e = is_turn k (Goes (stage.Named b (record { ty = u; place = p; name = n }))) t e (h, tt)
named_typed_keeps k b u p x t h e = absurd (no_turn _ t e)

open_keeps : (k : Known) (d : Declared) (t : Turn) → IsNoStruct d.ty
    → unless_fault (function_fault k d) (goes (stage.Params (record { head = d; params = [] }))) ≡ Ok t → KeepsTurn k t
open_keeps k d t h e =
    unless (KeepsTurn k t) (function_fault k d) (goes (stage.Params (record { head = d; params = [] }))) t
    (λ free is. is_turn k (Goes (stage.Params (record { head = d; params = [] }))) t is ((record { free = free; result = h; params = tt }, refl), tt)) e

equals_keeps : (k : Known) (d : Declared) (t : Turn) → unless_fault (constant_fault k d) (goes (stage.Value (owner.Constant d))) ≡ Ok t → KeepsTurn k t
equals_keeps k d t e =
    unless (KeepsTurn k t) (constant_fault k d) (goes (stage.Value (owner.Constant d))) t (λ free is. is_turn k (Goes (stage.Value (owner.Constant d))) t is (free, tt)) e

named_keeps : (k : Known) (b : Bool) (d : Declared) (p : ℕ) (x : Symbol) (t : Turn) → IsNoStruct d.ty → named_turn k b d p x ≡ Ok t → KeepsTurn k t
named_keeps k b d p (symbol.Sign sign.Equals) t h e = equals_keeps k d t e
named_keeps k false d p (symbol.Sign sign.Open) t h e = open_keeps k d t h e
named_keeps k b d p x t h e = absurd (no_turn _ t e)

-- ---- values

pub params_more : (ps : List Param) (u : Ty) (c : Option Const) → AreParams ps → IsNoStruct u → FitsType c u → AreParams (ps ++ record { ty = u; default = c } ∷ [])
params_more [] u c h plain fits = (plain, fits, tt)
params_more (p ∷ ps) u c h plain fits = (h.0, h.1, params_more ps u c h.2 plain fits)

abbrev with_one : Function → Ty → Option Const → Function
with_one f u c = record f { params = f.params ++ record { ty = u; default = c } ∷ [] }

open_more : (k : Known) (f : Function) (u : Ty) (c : Option Const) → IsOpen k f → IsNoStruct u → FitsType c u → IsOpen k (with_one f u c)
open_more k f u c h plain fits = record { free = h.free; result = h.result; params = params_more f.params u c h.params plain fits }

one_longer : (ps : List Param) (p : Param) → length (ps ++ p ∷ []) ≡ length ps + 1
one_longer ps p = length-append ps (p ∷ [])

param_keeps : (k : Known) (f : Function) (u : Ty) (c : Option Const) (p : ℕ) (x : Symbol) (t : Turn) → IsOpen k f → length f.params < 255 → IsNoStruct u → FitsType c u
    → param_turn f (record { ty = u; default = c }) p x ≡ Ok t → KeepsTurn k t
param_keeps k f u c p (symbol.Sign sign.Comma) t h few plain fits e =
    choose (KeepsTurn k t) (nat_lt (length f.params + 1) 255) (goes (stage.Param (with_one f u c))) (misfit p) t
    (λ room is. is_turn k (Goes (stage.Param (with_one f u c))) t is ((open_more k f u c h plain fits, fewer f.params (record { ty = u; default = c }) room), tt))
    (λ room is. absurd (no_turn _ t is)) e where
      fewer : (ps : List Param) (p : Param) → nat_lt (length ps + 1) 255 ≡ true → length (ps ++ p ∷ []) < 255
      fewer ps p room = let n = one_longer ps p in let m : length ps + 1 < 255 = grind (arith, nat_tests) in omega (arith, n, m)
param_keeps k f u c p (symbol.Sign sign.Close) t h few plain fits e =
    is_turn k (Goes (stage.Closed (with_one f u c))) t e ((open_more k f u c h plain fits, (let n = one_longer f.params (record { ty = u; default = c }) in omega (arith, n, few))), tt)
param_keeps k f u c p x t h few plain fits e = absurd (no_turn _ t e)

end_keeps : (k : Known) (d : Declared) (c : Option Const) (new : Bool) (p : ℕ) (x : Symbol) (t : Turn) → constant_fault k d ≡ None → value_fault k d c ≡ None
    → IfSome c IsConstant → new ≡ is_new k c (owner.Constant d) → constant_end d c new p x ≡ Ok t → KeepsTurn k t
end_keeps k d c new p (symbol.Sign sign.Semicolon) t a b bounds told e = is_turn k (Gives (declaration.Constant d c) new) t e ((a, b, bounds), told)
end_keeps k d c new p x t a b bounds told e = absurd (no_turn _ t e)

valued_keeps : (k : Known) (o : Owner) (c : Option Const) (new : Bool) (p : ℕ) (x : Symbol) (t : Turn) → KeepsValue k o c → new ≡ is_new k c o
    → valued_turn o c new p x ≡ Ok t → KeepsTurn k t
valued_keeps k (owner.Constant d) c new p x t h told e = end_keeps k d c new p x t h.0 h.1 h.2 told e
valued_keeps k (owner.Parameter f u) c new p x t h told e = param_keeps k f u c p x t h.0 h.1 h.2 h.3 e

pub bounds_of : (c : Option Const) (u : Ty) → FitsType c u → IfSome c IsConstant
bounds_of None u fits = tt
bounds_of (Some c) u fits = fits.1

-- what becomes of an owner once its value was read
valued_of : (k : Known) (o : Owner) (c : Option Const) → KeepsOwner k o → FitsType c (type_of o) → owner_fault k o c ≡ None → KeepsValue k o c
valued_of k (owner.Constant d) c h fits none = (h, none, bounds_of c d.ty fits)
valued_of k (owner.Parameter f u) c h fits none = (h.0, h.1, h.2, fits)

got_keeps : (k : Known) (o : Owner) (c : Const) (t : Turn) → KeepsOwner k o → FitsType (Some c) (type_of o)
    → checked k o (Some c) (goes (stage.Valued o (Some c) (is_new k (Some c) o))) ≡ Ok t → KeepsTurn k t
got_keeps k o c t h fits e =
    unless (KeepsTurn k t) (owner_fault k o (Some c)) (goes (stage.Valued o (Some c) (is_new k (Some c) o))) t
    (λ none is. is_turn k (Goes (stage.Valued o (Some c) (is_new k (Some c) o))) t is ((valued_of k o (Some c) h fits none, refl), tt)) e

its_type : (c : Const) (u : Ty) → has_type c u ≡ true → const_type c ≡ u
its_type (const.Int n) ty.Int e = refl
its_type (const.Text bytes) ty.Text e = refl
its_type const.SelfObject ty.Object e = refl
its_type const.InvalidObject ty.Object e = refl
its_type c u e = cc

of_type_type : (u : Ty) (o : Option Const) (c : Const) → of_type u o ≡ Some c → const_type c ≡ u
of_type_type u None c e = absurd (none-some c e)
of_type_type u (Some d) c e = by_test (has_type d u) refl e where
  by_test : (b : Bool) → has_type d u ≡ b → (if b then Some d else None) ≡ Some c → const_type c ≡ u
  by_test true is e' = ap const_type (sym (same_Some d c e')) ∙ its_type d u is
  by_test false is e' = absurd (none-some c e')

pub constant_type : (constants : List Constant) (u : Ty) (x : Symbol) (c : Const) → constant_in constants u x ≡ Some c → const_type c ≡ u
constant_type constants ty.Int (symbol.Int n) c e = ap const_type (sym (same_Some _ c e))
constant_type constants ty.Text (symbol.Text bytes) c e = ap const_type (sym (same_Some _ c e))
constant_type constants ty.Object (symbol.Word word.ObjectSelf) c e = ap const_type (sym (same_Some _ c e))
constant_type constants ty.Object (symbol.Word word.ObjectInvalid) c e = ap const_type (sym (same_Some _ c e))
constant_type constants u (symbol.Name n) c e = of_type_type u (constant_named n constants) c e
constant_type constants u x c e = absurd (none-some c e)

-- a constant in sight is within bounds
named_bounds : (constants : List Constant) (n : List ℕ) (c : Const) → AreConstants constants → constant_named n constants ≡ Some c → IsConstant c
unfolding constant_named
named_bounds [] n c all e = absurd (none-some c e)
named_bounds (d ∷ ds) n c all e = by_name (bytes_eq n d.name) (λ found. named_bounds ds n c all.1 found) e where
  by_name : (b : Bool) → (constant_named n ds ≡ Some c → IsConstant c) → (if b then Some d.value else constant_named n ds) ≡ Some c → IsConstant c
  by_name true later is = subst IsConstant (same_Some d.value c is) all.0
  by_name false later is = later is

of_type_is : (u : Ty) (o : Option Const) (c : Const) → of_type u o ≡ Some c → o ≡ Some c
of_type_is u None c e = absurd (none-some c e)
of_type_is u (Some d) c e = by_test (has_type d u) e where
  by_test : (b : Bool) → (if b then Some d else None) ≡ Some c → Some d ≡ Some c
  by_test true is = is
  by_test false is = absurd (none-some c is)

-- so is one that a token is by itself
pub constant_bounds : (constants : List Constant) (u : Ty) (x : Symbol) (c : Const) → AreConstants constants → IsSymbol x → constant_in constants u x ≡ Some c
    → IsConstant c
constant_bounds constants ty.Int (symbol.Int n) c all bounds e = subst IsConstant (same_Some _ c e) (sfits_to_z (Fits-of_lt bounds))
constant_bounds constants ty.Text (symbol.Text bytes) c all bounds e = subst IsConstant (same_Some _ c e) bounds
constant_bounds constants ty.Object (symbol.Word word.ObjectSelf) c all bounds e = subst IsConstant (same_Some _ c e) tt
constant_bounds constants ty.Object (symbol.Word word.ObjectInvalid) c all bounds e = subst IsConstant (same_Some _ c e) tt
constant_bounds constants u (symbol.Name n) c all bounds e = named_bounds constants n c all (of_type_is u (constant_named n constants) c e)
constant_bounds constants u x c all bounds e = absurd (none-some c e)

pub negative_bounds : (n : ℕ) → n < 2 ^ 32 → IsConstant (negative n)
negative_bounds n bounds =
    subst (FitsSigned w32) (sym (wrapping_neg_is w32 (cast_signed w32 n) (sfits_to_z (Fits-of_lt bounds)))) (SFits-int_wrap w32 (neg_ℤ (cast_signed w32 n)))

got_some : (k : Known) (o : Owner) (v : Option Const) (p : ℕ) (t : Turn) → KeepsOwner k o → ((c : Const) → v ≡ Some c → FitsType (Some c) (type_of o))
    → got k o v p ≡ Ok t → KeepsTurn k t
got_some k o (Some c) p t h fits e = got_keeps k o c t h (fits c refl) e
got_some k o None p t h fits e = absurd (no_turn _ t e)

minus_type : (u : Ty) (x : Symbol) → is_minus_of_int u x ≡ true → u ≡ ty.Int
minus_type ty.Int x e = refl
minus_type u x e = cc

constant_keeps : (k : Known) (o : Owner) (p : ℕ) (x : Symbol) (t : Turn) → AreConstants k.table.constants → IsSymbol x → KeepsOwner k o → constant_turn k o (type_of o) p x ≡ Ok t → KeepsTurn k t
constant_keeps k o p x t all bounds h e =
    choose (KeepsTurn k t) (is_minus_of_int (type_of o) x) (goes (stage.Minus o)) (got k o (constant_in k.table.constants (type_of o) x) p) t
    (λ is e'. is_turn k (Goes (stage.Minus o)) t e' ((h, minus_type (type_of o) x is), tt))
    (λ is e'. got_some k o (constant_in k.table.constants (type_of o) x) p t h
    (λ c e''. (
      constant_type k.table.constants (type_of o) x c e'',
      constant_bounds k.table.constants
          (type_of o) x c all bounds e'',
    )) e') e

minus_keeps : (k : Known) (o : Owner) (p : ℕ) (x : Symbol) (t : Turn) → IsSymbol x → KeepsOwner k o → type_of o ≡ ty.Int → minus_turn k o p x ≡ Ok t → KeepsTurn k t
minus_keeps k o p (symbol.Int n) t bounds h int e = got_keeps k o _ t h (sym int, negative_bounds n bounds) e
minus_keeps k o p x t bounds h int e = absurd (no_turn _ t e)

loose_by_keeps : (k : Known) (o : Owner) (d : Option ℕ) (p : ℕ) (x : Symbol) (t : Turn) → KeepsOwner k o → loose_by k o d p x ≡ Ok t → KeepsTurn k t
loose_by_keeps k o (Some e) p x t h is = is_turn k (Goes (stage.Loose o e)) t is (h, tt)
loose_by_keeps k o None p x t h is =
    unless (KeepsTurn k t) (owner_fault k o None) (valued_turn o None false p x) t
    (λ none e. valued_keeps k o None false p x t (valued_of k o None h tt none) refl e) is

value_by_keeps : (b : Bool) (k : Known) (o : Owner) (p : ℕ) (x : Symbol) (t : Turn) → AreConstants k.table.constants → IsSymbol x → KeepsOwner k o → value_by b k o p x ≡ Ok t → KeepsTurn k t
value_by_keeps true k o p x t all bounds h e = constant_keeps k o p x t all bounds h e
value_by_keeps false k o p x t all bounds h e = loose_by_keeps k o (brackets 0 x) p x t h e

-- ---- parameters

params_keeps : (k : Known) (f : Function) (p : ℕ) (x : Symbol) (t : Turn) → IsOpen k f → f.params ≡ [] → params_turn k.words f p x ≡ Ok t → KeepsTurn k t
params_keeps k f p (symbol.Sign sign.Close) t h none e = is_turn k (Goes (stage.Closed f)) t e ((h, (let n = ap length none in omega (arith, n))), tt)
params_keeps k f p x t h none e =
    typed_keeps k (stage.ParamType f) (type_in k.words x) p t (λ u is. ((h, (let n = ap length none in omega (arith, n)), no_struct k.words x u is), tt)) e

behind_keeps : (k : Known) (f : Function) (u : Ty) (p : ℕ) (x : Symbol) (t : Turn) → IsOpen k f → length f.params < 255 → IsNoStruct u → behind_turn f u p x ≡ Ok t → KeepsTurn k t
behind_keeps k f u p (symbol.Sign sign.Equals) t h few plain e = is_turn k (Goes (stage.Value (owner.Parameter f u))) t e ((h, few, plain), tt)
behind_keeps k f u p x t h few plain e = param_keeps k f u None p x t h few plain tt e

param_type_keeps : (k : Known) (f : Function) (u : Ty) (p : ℕ) (x : Symbol) (t : Turn) → IsOpen k f → length f.params < 255 → IsNoStruct u → param_type_turn f u p x ≡ Ok t
    → KeepsTurn k t
param_type_keeps k f u p (symbol.Name n) t h few plain e = is_turn k (Goes (stage.ParamName f u)) t e ((h, few, plain), tt)
param_type_keeps k f u p x t h few plain e = behind_keeps k f u p x t h few plain e

closed_keeps : (k : Known) (f : Function) (p : ℕ) (x : Symbol) (t : Turn) → IsOpen k f → length f.params ≤ 255 → closed_turn f p x ≡ Ok t → KeepsTurn k t
closed_keeps k f p (symbol.Sign sign.Semicolon) t h few e = is_turn k (Gives (declaration.Function f) false) t e ((h, few), tt)
closed_keeps k f p x t h few e = absurd (no_turn _ t e)

pub turn_keeps : (k : Known) (s : Stage) (p : ℕ) (x : Symbol) (t : Turn) → AreConstants k.table.constants → IsSymbol x → KeepsStage k s → turn k s p x ≡ Ok t → KeepsTurn k t
unfolding turn
turn_keeps k stage.Start p x t all bounds h e = start_keeps k p x t e
turn_keeps k stage.Hash p x t all bounds h e = hash_keeps k p x t e
turn_keeps k stage.Define p x t all bounds h e = define_keeps k p x t e
turn_keeps k (stage.Defined n) p x t all bounds h e = given_keeps k (defined (structure_of n) x) p t (λ d is. (made_keeps k (structure_of n) x d is, made_told k (structure_of n) x d is)) e
turn_keeps k stage.Const p x t all bounds h e = typed_keeps k (stage.Typed true) (type_in k.words x) p t (λ u is. (no_struct k.words x u is, tt)) e
turn_keeps k (stage.Typed b u) p x t all bounds h e = named_typed_keeps k b u p x t h e
turn_keeps k (stage.Named b d) p x t all bounds h e = named_keeps k b d p x t h e
turn_keeps k (stage.Value o) p x t all bounds h e = value_by_keeps (has_constants (type_of o)) k o p x t all bounds h e
turn_keeps k (stage.Minus o) p x t all bounds h e = minus_keeps k o p x t bounds h.0 h.1 e
turn_keeps k (stage.Loose o d) p x t all bounds h e = loose_by_keeps k o (brackets d x) p x t h e
turn_keeps k (stage.Valued o c new) p x t all bounds h e = valued_keeps k o c new p x t h.0 h.1 e
turn_keeps k (stage.Params f) p x t all bounds h e = params_keeps k f p x t h.0 h.1 e
turn_keeps k (stage.Param f) p x t all bounds h e = typed_keeps k (stage.ParamType f) (type_in k.words x) p t (λ u is. ((h.0, h.1, no_struct k.words x u is), tt)) e
turn_keeps k (stage.ParamType f u) p x t all bounds h e = param_type_keeps k f u p x t h.0 h.1 h.2 e
turn_keeps k (stage.ParamName f u) p x t all bounds h e = behind_keeps k f u p x t h.0 h.1 h.2 e
turn_keeps k (stage.Closed f) p x t all bounds h e = closed_keeps k f p x t h.0 h.1 e
