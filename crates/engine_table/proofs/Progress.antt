-- How far a line has come by the grammar, and what a token makes of it.
use Rattle.std.proofs.Common.{◌≡◌, ◌⊎◌, inl, inr, ℕ, zero, suc, ◌+◌, ◌<◌, Bool, true, false, if◌then◌else◌, nat_lt, List, [], ◌∷◌, ◌++◌, length, codes, bytes_eq, Option, Some, None, Ok, Err, refl}
use Rattle.std.proofs.Common.{sym, ap, subst, ◌∙◌, arith, length-append, append_assoc, append-nil}
use Rattle.std.proofs.lemmas.Bool.Decides.{nat_tests}
use Rattle.std.proofs.lemmas.Option.{same_Some, none-some}
use Rattle.std.specs.Cmp.Lexicographic.{bytes_decides}
use Rattle.nwq_value.specs.declared.value.Ty.{Ty}
use Rattle.nwq_value.specs.declared.value.Ty.TheVariants as ty
use Rattle.nwq_value.specs.declared.engine.Const.{Const}
use Rattle.nwq_value.specs.declared.engine.Param.{Param}
use Rattle.engine_table.specs.Known.{Known}
use Rattle.engine_table.specs.declared.declaration.Declared.{Declared}
use Rattle.engine_table.specs.declared.declaration.Function.{Function}
use Rattle.engine_table.specs.declared.declaration.Declaration.{Declaration}
use Rattle.engine_table.specs.declared.declaration.Declaration.TheVariants.{Passed, TypeWord, Constant as IsConstant, Function as IsFunction}
use Rattle.engine_table.specs.declared.fault.HeaderFault.{HeaderFault}
use Rattle.engine_table.specs.declared.fault.HeaderFault.TheVariants.{Header}
use Rattle.engine_table.specs.declared.symbol.Word.TheVariants as word
use Rattle.engine_table.specs.declared.symbol.Sign.TheVariants as sign
use Rattle.engine_table.specs.declared.symbol.Symbol.{Symbol}
use Rattle.engine_table.specs.declared.symbol.Symbol.TheVariants as symbol
use Rattle.engine_table.specs.declared.stage.Owner.{Owner}
use Rattle.engine_table.specs.declared.stage.Owner.TheVariants as owner
use Rattle.engine_table.specs.declared.stage.Stage.{Stage}
use Rattle.engine_table.specs.declared.stage.Stage.TheVariants as stage
use Rattle.engine_table.specs.declared.stage.Turn.TheVariants.{Goes, Gives}
use Rattle.engine_table.specs.Symbols.{Placed, at}
use Rattle.engine_table.specs.Grammar as grammar
use Rattle.engine_table.specs.Grammar.{sign_at, type_in, structure_of, defined, has_constants, constant_in, negative, brackets, Loose, Value, Heading, ParameterType, Parameter, Parameters}
use Rattle.engine_table.specs.Grammar.{ParameterList, Line}
use Rattle.engine_table.specs.Headers as header
use Rattle.engine_table.specs.Headers.{function_fault, constant_fault, value_fault, IsClear, Clashes}
use Rattle.engine_table.specs.Turns.{TurnResult, goes, misfit, unless_fault, typed, start_turn, hash_turn, define_turn, given, typed_turn, named_turn, type_of, param_turn, constant_end, valued_turn}
use Rattle.engine_table.specs.Turns.{owner_fault, checked, got, minus_turn, is_minus_of_int, is_new, loose_by, value_by, params_turn, behind_turn, param_type_turn, closed_turn, turn}

-- ---- regrouping

pub two : (hs : List Placed) (a : Placed) (ys : List Placed) → (hs ++ a ∷ []) ++ ys ≡ hs ++ a ∷ ys
two hs a ys = append_assoc hs (a ∷ []) ys

pub four : (hs : List Placed) (a : Placed) (xs : List Placed) (b : Placed) (ys : List Placed) → (hs ++ a ∷ (xs ++ b ∷ [])) ++ ys ≡ hs ++ a ∷ (xs ++ b ∷ ys)
four hs a xs b ys = append_assoc hs (a ∷ (xs ++ b ∷ [])) ys ∙ ap (λ (z : List Placed). hs ++ a ∷ z) (append_assoc xs (b ∷ []) ys)

pub three : (hs : List Placed) (a : Placed) (xs ys : List Placed) → (hs ++ a ∷ xs) ++ ys ≡ hs ++ a ∷ (xs ++ ys)
three hs a xs ys = append_assoc hs (a ∷ xs) ys

pub moved : (P : List Placed → Type 0) (a b : List Placed) → a ≡ b → P b → P a
moved P a b e h = subst P (sym e) h

-- ---- how far a line has come

-- behind these tokens a parameter of the function may begin
pub data Before (k : Known) : Function → List Placed → Type 0 where
  first : (d : Declared) (hs : List Placed) (o : ℕ) → Heading k false d hs → function_fault k d ≡ None
      → Before k (record { head = d; params = [] }) (hs ++ sign_at o sign.Open ∷ [])
  following : (d : Declared) (ps : List Param) (hs xs : List Placed) (o c : ℕ) → Heading k false d hs → function_fault k d ≡ None → Parameters k ps xs
      → length ps < 255 → Before k (record { head = d; params = ps }) (hs ++ sign_at o sign.Open ∷ (xs ++ sign_at c sign.Comma ∷ []))

-- a function with its parameters, the last of them whole
pub data Listed (k : Known) : Function → List Placed → Type 0 where
  listed : (d : Declared) (ps : List Param) (hs xs : List Placed) (o : ℕ) → Heading k false d hs → function_fault k d ≡ None → Parameters k ps xs
      → Listed k (record { head = d; params = ps }) (hs ++ sign_at o sign.Open ∷ xs)

-- the tokens up to the `=` before a value
pub data Owned (k : Known) : Owner → List Placed → Type 0 where
  constant : (b : Bool) (d : Declared) (hs : List Placed) (e : ℕ) → Heading k b d hs → constant_fault k d ≡ None
      → Owned k (owner.Constant d) (hs ++ sign_at e sign.Equals ∷ [])
  parameter : (f : Function) (t : Ty) (xs ys : List Placed) (e : ℕ) → Before k f xs → ParameterType k t ys
      → Owned k (owner.Parameter f t) (xs ++ (ys ++ sign_at e sign.Equals ∷ []))

pub data Begun (k : Known) : Stage → List Placed → Type 0 where
  start : Begun k stage.Start []
  hash : (h : ℕ) → Begun k stage.Hash (sign_at h sign.Hash ∷ [])
  define : (h d : ℕ) → Begun k stage.Define (sign_at h sign.Hash ∷ at d (symbol.Name (codes "define")) ∷ [])
  definition : (h d p : ℕ) (n : List ℕ) → Begun k (stage.Defined n) (sign_at h sign.Hash ∷ at d (symbol.Name (codes "define")) ∷ at p (symbol.Name n) ∷ [])
  fixed : (o : ℕ) → Begun k stage.Const (at o (symbol.Word word.Const) ∷ [])
  plain_type : (t : Ty) (p : ℕ) (s : Symbol) → type_in k.words s ≡ Some t → Begun k (stage.Typed false t) (at p s ∷ [])
  fixed_type : (t : Ty) (o p : ℕ) (s : Symbol) → type_in k.words s ≡ Some t → Begun k (stage.Typed true t) (at o (symbol.Word word.Const) ∷ at p s ∷ [])
  named : (b : Bool) (d : Declared) (hs : List Placed) → Heading k b d hs → Begun k (stage.Named b d) hs
  value : (o : Owner) (xs : List Placed) → Owned k o xs → Begun k (stage.Value o) xs
  minus : (o : Owner) (xs : List Placed) (p : ℕ) → Owned k o xs → type_of o ≡ ty.Int → Begun k (stage.Minus o) (xs ++ sign_at p sign.Minus ∷ [])
  loose : (o : Owner) (d : ℕ) (xs vs : List Placed) → Owned k o xs → has_constants (type_of o) ≡ false → Loose d vs → Begun k (stage.Loose o d) (xs ++ vs)
  valued : (o : Owner) (c : Option Const) (new : Bool) (xs vs : List Placed) → Owned k o xs → Value k.table.constants (type_of o) c vs → owner_fault k o c ≡ None
      → Begun k (stage.Valued o c new) (xs ++ vs)
  opened : (d : Declared) (hs : List Placed) (o : ℕ) → Heading k false d hs → function_fault k d ≡ None
      → Begun k (stage.Params (record { head = d; params = [] })) (hs ++ sign_at o sign.Open ∷ [])
  param : (f : Function) (xs : List Placed) → Before k f xs → Begun k (stage.Param f) xs
  param_type : (f : Function) (t : Ty) (xs : List Placed) (p : ℕ) (s : Symbol) → Before k f xs → type_in k.words s ≡ Some t
      → Begun k (stage.ParamType f t) (xs ++ at p s ∷ [])
  param_name : (f : Function) (t : Ty) (xs ys : List Placed) → Before k f xs → ParameterType k t ys → Begun k (stage.ParamName f t) (xs ++ ys)
  closed : (d : Declared) (ps : List Param) (hs xs : List Placed) (o c : ℕ) → Heading k false d hs → function_fault k d ≡ None → ParameterList k ps xs
      → Begun k (stage.Closed (record { head = d; params = ps })) (hs ++ sign_at o sign.Open ∷ (xs ++ sign_at c sign.Close ∷ []))

-- what a token makes of the tokens before it
abbrev pub After : Known → List Placed → Placed → TurnResult → Type 0
After k xs x (Ok (Goes s)) = Begun k s (xs ++ x ∷ [])
After k xs x (Ok (Gives d new)) = Line k d (xs ++ x ∷ []) × IsClear k d
After k xs x (Err f) = (f ≡ Header x.place) ⊎ Clashes k f (xs ++ x ∷ [])

-- ---- parts put together

abbrev pub with_param : Function → Param → Function
with_param f p = record f { params = f.params ++ p ∷ [] }

pub join : (k : Known) (f : Function) (p : Param) (xs ys : List Placed) → Before k f xs → Parameter k p ys → Listed k (with_param f p) (xs ++ ys)
join k f p xs ys (first d hs o h free) is = moved (Listed k (record { head = d; params = p ∷ [] })) _ _ (two hs (sign_at o sign.Open) ys) (listed d (p ∷ []) hs ys o h free (grammar.one p ys is))
join k f p xs ys (following d ps hs zs o c h free are few) is =
    moved (Listed k (record { head = d; params = ps ++ p ∷ [] })) _ _ (four hs (sign_at o sign.Open) zs (sign_at c sign.Comma) ys)
    (listed d (ps ++ p ∷ []) hs (zs ++ sign_at c sign.Comma ∷ ys) o h free (grammar.more ps p zs ys c are few is))

next_of : (k : Known) (g : Function) (ws : List Placed) (c : ℕ) → Listed k g ws → length g.params < 255 → Before k g (ws ++ sign_at c sign.Comma ∷ [])
next_of k g ws c (listed d ps hs xs o h free are) few =
    moved (Before k (record { head = d; params = ps })) _ _ (three hs (sign_at o sign.Open) xs (sign_at c sign.Comma ∷ [])) (following d ps hs xs o c h free are few)

closed_of : (k : Known) (g : Function) (ws : List Placed) (c : ℕ) → Listed k g ws → Begun k (stage.Closed g) (ws ++ sign_at c sign.Close ∷ [])
closed_of k g ws c (listed d ps hs xs o h free are) =
    moved (Begun k (stage.Closed (record { head = d; params = ps }))) _ _ (three hs (sign_at o sign.Open) xs (sign_at c sign.Close ∷ []))
    (closed d ps hs xs o c h free (grammar.present ps xs are))

-- ---- choices

either : (P : TurnResult → Type 0) (b : Bool) (x y : TurnResult) → (b ≡ true → P x) → (b ≡ false → P y) → P (if b then x else y)
either P true x y h g = h refl
either P false x y h g = g refl

unless : (P : TurnResult → Type 0) (o : Option HeaderFault) (next : TurnResult) → (o ≡ None → P next) → ((f : HeaderFault) → o ≡ Some f → P (Err f)) → P (unless_fault o next)
unless P None next h g = h refl
unless P (Some f) next h g = g f refl

typed_step : (k : Known) (xs : List Placed) (p : ℕ) (s : Symbol) (to : Ty → Stage) (o : Option Ty) → ((t : Ty) → o ≡ Some t → Begun k (to t) (xs ++ at p s ∷ []))
    → After k xs (at p s) (typed to o p)
typed_step k xs p s to (Some t) h = h t refl
typed_step k xs p s to None h = inl refl

-- ---- each stage

start_step : (k : Known) (p : ℕ) (s : Symbol) → After k [] (at p s) (start_turn k.words p s)
start_step k p (symbol.Sign sign.Hash) = hash p
start_step k p (symbol.Word word.Const) = fixed p
start_step k p s = typed_step k [] p s (stage.Typed false) (type_in k.words s) (λ t is. plain_type t p s is)

hash_step : (k : Known) (h p : ℕ) (s : Symbol) → After k (sign_at h sign.Hash ∷ []) (at p s) (hash_turn p s)
hash_step k h p (symbol.Name n) =
    either (After k (sign_at h sign.Hash ∷ []) (at p (symbol.Name n))) (bytes_eq n (codes "define")) (goes stage.Define) (misfit p)
    (λ is. subst (λ (m : List ℕ). Begun k stage.Define (sign_at h sign.Hash ∷ at p (symbol.Name m) ∷ [])) (sym ((bytes_decides n (codes "define")).0 is)) (define h p))
    (λ is. inl refl)
hash_step k h p s = inl refl

define_step : (k : Known) (h d p : ℕ) (s : Symbol) → After k (sign_at h sign.Hash ∷ at d (symbol.Name (codes "define")) ∷ []) (at p s) (define_turn p s)
define_step k h d p (symbol.Name n) = definition h d p n
define_step k h d p s = inl refl

pub clear_made : (k : Known) (o : Option ℕ) (s : Symbol) (makes : Declaration) → defined o s ≡ Some makes → IsClear k makes
clear_made k None (symbol.Name n) m e = subst (IsClear k) (same_Some Passed m e) tt
clear_made k (Some c) (symbol.Name n) m e = if_made (nat_lt 1 c) (TypeWord n) m e tt where
  if_made : (b : Bool) (a m : Declaration) → (if b then Some a else None) ≡ Some m → IsClear k a → IsClear k m
  if_made true a m e h = subst (IsClear k) (same_Some a m e) h
  if_made false a m e h = absurd (none-some m e)
clear_made k (Some c) (symbol.Word word.Effect) m e = if_made _ Passed m e tt where
  if_made : (b : Bool) (a m : Declaration) → (if b then Some a else None) ≡ Some m → IsClear k a → IsClear k m
  if_made true a m e h = subst (IsClear k) (same_Some a m e) h
  if_made false a m e h = absurd (none-some m e)
clear_made k (Some c) (symbol.Word word.Event) m e = if_made _ Passed m e tt where
  if_made : (b : Bool) (a m : Declaration) → (if b then Some a else None) ≡ Some m → IsClear k a → IsClear k m
  if_made true a m e h = subst (IsClear k) (same_Some a m e) h
  if_made false a m e h = absurd (none-some m e)
clear_made k o (symbol.Word w) m e = subst (IsClear k) (same_Some Passed m e) tt
clear_made k o (symbol.Int n) m e = subst (IsClear k) (same_Some Passed m e) tt
clear_made k o s m e = absurd (none-some m e)

given_step : (k : Known) (h d p q : ℕ) (n : List ℕ) (s : Symbol) (o : Option Declaration) → defined (structure_of n) s ≡ o
    → After k (sign_at h sign.Hash ∷ at d (symbol.Name (codes "define")) ∷ at p (symbol.Name n) ∷ []) (at q s) (given o q)
given_step k h d p q n s (Some m) e = (grammar.define h d p q n s m e, clear_made k (structure_of n) s m e)
given_step k h d p q n s None e = inl refl

plain_name_step : (k : Known) (t : Ty) (p q : ℕ) (s x : Symbol) → type_in k.words s ≡ Some t → After k (at p s ∷ []) (at q x) (typed_turn false t q x)
plain_name_step k t p q s (symbol.Name n) is = named false _ _ (grammar.plain t p q s n is)
plain_name_step k t p q s x is = inl refl

fixed_name_step : (k : Known) (t : Ty) (o p q : ℕ) (s x : Symbol) → type_in k.words s ≡ Some t
    → After k (at o (symbol.Word word.Const) ∷ at p s ∷ []) (at q x) (typed_turn true t q x)
fixed_name_step k t o p q s (symbol.Name n) is = named true _ _ (grammar.fixed t o p q s n is)
fixed_name_step k t o p q s x is = inl refl

equals_step : (k : Known) (b : Bool) (d : Declared) (hs : List Placed) (p : ℕ) → Heading k b d hs
    → After k hs (sign_at p sign.Equals) (unless_fault (constant_fault k d) (goes (stage.Value (owner.Constant d))))
equals_step k b d hs p h =
    unless (After k hs (sign_at p sign.Equals)) (constant_fault k d) (goes (stage.Value (owner.Constant d)))
    (λ free. value (owner.Constant d) _ (constant b d hs p h free)) (λ f is. inr (header.constant b d f hs p h is))

open_step : (k : Known) (d : Declared) (hs : List Placed) (p : ℕ) → Heading k false d hs
    → After k hs (sign_at p sign.Open) (unless_fault (function_fault k d) (goes (stage.Params (record { head = d; params = [] }))))
open_step k d hs p h =
    unless (After k hs (sign_at p sign.Open)) (function_fault k d) (goes (stage.Params (record { head = d; params = [] })))
    (λ free. opened d hs p h free) (λ f is. inr (header.function d f hs p h is))

named_step : (k : Known) (b : Bool) (d : Declared) (hs : List Placed) (p : ℕ) (s : Symbol) → Heading k b d hs → After k hs (at p s) (named_turn k b d p s)
named_step k b d hs p (symbol.Sign sign.Equals) h = equals_step k b d hs p h
named_step k false d hs p (symbol.Sign sign.Open) h = open_step k d hs p h
named_step k b d hs p s h = inl refl

-- ---- values

value_clash : (k : Known) (o : Owner) (c : Const) (f : HeaderFault) (xs vs : List Placed) → Owned k o xs → has_constants (type_of o) ≡ true
    → Value k.table.constants (type_of o) (Some c) vs → owner_fault k o (Some c) ≡ Some f → Clashes k f (xs ++ vs)
value_clash k o c f xs vs (constant b d hs e h free) has is fault =
    moved (Clashes k f) _ _ (two hs (sign_at e sign.Equals) vs) (header.value b d (Some c) f hs vs e h free has is fault)
value_clash k o c f xs vs (parameter g t us ws e before type) has is fault = absurd (none-some f fault)

-- a value of a type with constants was read with this token
checked_step : (k : Known) (o : Owner) (c : Const) (xs vs zs : List Placed) (x : Placed) → Owned k o xs → has_constants (type_of o) ≡ true
    → Value k.table.constants (type_of o) (Some c) vs → zs ++ x ∷ [] ≡ xs ++ vs → After k zs x (checked k o (Some c) (goes (stage.Valued o (Some c) (is_new k (Some c) o))))
checked_step k o c xs vs zs x own has is same =
    unless (After k zs x) (owner_fault k o (Some c)) (goes (stage.Valued o (Some c) (is_new k (Some c) o)))
    (λ none. moved (Begun k (stage.Valued o (Some c) (is_new k (Some c) o))) _ _ same (valued o (Some c) (is_new k (Some c) o) xs vs own is none))
    (λ f fault. inr (moved (Clashes k f) _ _ same (value_clash k o c f xs vs own has is fault)))

-- behind a parameter
list_step : (k : Known) (f : Function) (x : Param) (ws : List Placed) (p : ℕ) (s : Symbol) → Listed k (with_param f x) ws → After k ws (at p s) (param_turn f x p s)
list_step k f x ws p (symbol.Sign sign.Comma) all =
    either (After k ws (sign_at p sign.Comma)) (nat_lt (length f.params + 1) 255) (goes (stage.Param (with_param f x))) (misfit p)
    (λ room. param (with_param f x) _ (next_of k (with_param f x) ws p all (few f.params x room))) (λ full. inl refl) where
      few : (ps : List Param) (p : Param) → nat_lt (length ps + 1) 255 ≡ true → length (ps ++ p ∷ []) < 255
      few ps p room = let n = length-append ps (p ∷ []) in let m : length ps + 1 < 255 = grind (arith, nat_tests) in omega (arith, n, m)
list_step k f x ws p (symbol.Sign sign.Close) all = closed_of k (with_param f x) ws p all
list_step k f x ws p s all = inl refl

constant_end_step : (k : Known) (b : Bool) (d : Declared) (c : Option Const) (new : Bool) (hs vs : List Placed) (e p : ℕ) (s : Symbol) → Heading k b d hs
    → Value k.table.constants d.ty c vs → constant_fault k d ≡ None → value_fault k d c ≡ None
    → After k (hs ++ sign_at e sign.Equals ∷ vs) (at p s) (constant_end d c new p s)
constant_end_step k b d c new hs vs e p (symbol.Sign sign.Semicolon) h is free none =
    (moved (Line k (IsConstant d c)) _ _ (three hs (sign_at e sign.Equals) vs (sign_at p sign.Semicolon ∷ [])) (grammar.constant b d c hs vs e p h is), (free, none))
constant_end_step k b d c new hs vs e p s h is free none = inl refl

end_step : (k : Known) (o : Owner) (c : Option Const) (new : Bool) (xs vs : List Placed) (p : ℕ) (s : Symbol) → Owned k o xs → Value k.table.constants (type_of o) c vs
    → owner_fault k o c ≡ None → After k (xs ++ vs) (at p s) (valued_turn o c new p s)
end_step k o c new xs vs p s (constant b d hs e h free) is none =
    moved (λ (z : List Placed). After k z (at p s) (constant_end d c new p s)) _ _ (two hs (sign_at e sign.Equals) vs) (constant_end_step k b d c new hs vs e p s h is free none)
end_step k o c new xs vs p s (parameter f t us ws e before type) is none =
    let ends : (us ++ (ws ++ sign_at e sign.Equals ∷ [])) ++ vs ≡ us ++ (ws ++ sign_at e sign.Equals ∷ vs)
    = append_assoc us (ws ++ sign_at e sign.Equals ∷ []) vs ∙ ap (λ (z : List Placed). us ++ z) (two ws (sign_at e sign.Equals) vs) in
    moved (λ (z : List Placed). After k z (at p s) (param_turn f (record { ty = t; default = c }) p s)) _ _ ends
    (list_step k f (record { ty = t; default = c }) (us ++ (ws ++ sign_at e sign.Equals ∷ vs)) p s
    (join k f (record { ty = t; default = c }) us (ws ++ sign_at e sign.Equals ∷ vs) before (grammar.optional t c ws vs e type is)))

loose_clash : (k : Known) (o : Owner) (f : HeaderFault) (xs vs : List Placed) (p : ℕ) (s : Symbol) → Owned k o xs → has_constants (type_of o) ≡ false
    → Loose zero vs → brackets zero s ≡ None → owner_fault k o None ≡ Some f → Clashes k f ((xs ++ vs) ++ at p s ∷ [])
loose_clash k o f xs vs p s (constant b d hs e h free) has is ends fault =
    moved (Clashes k f) _ _ (ap (λ (z : List Placed). z ++ at p s ∷ []) (two hs (sign_at e sign.Equals) vs) ∙ three hs (sign_at e sign.Equals) vs (at p s ∷ []))
    (header.loose b d f hs vs e p s h free has is ends fault)
loose_clash k o f xs vs p s (parameter g t us ws e before type) has is ends fault = absurd (none-some f fault)

-- the token that ends a value of a type without constants
loose_end_step : (k : Known) (o : Owner) (xs vs : List Placed) (p : ℕ) (s : Symbol) → Owned k o xs → has_constants (type_of o) ≡ false → Loose zero vs
    → brackets zero s ≡ None → After k (xs ++ vs) (at p s) (checked k o None (valued_turn o None false p s))
loose_end_step k o xs vs p s own has is ends =
    unless (After k (xs ++ vs) (at p s)) (owner_fault k o None) (valued_turn o None false p s)
    (λ none. end_step k o None false xs vs p s own (grammar.other (type_of o) vs has is) none)
    (λ f fault. inr (loose_clash k o f xs vs p s own has is ends fault))

ended_depth : (d : ℕ) (s : Symbol) → brackets d s ≡ None → d ≡ zero
ended_depth zero s e = refl
ended_depth (suc d) (symbol.Sign sign.Close) e = cc
ended_depth (suc d) (symbol.Sign sign.Closing) e = cc
ended_depth (suc d) (symbol.Sign sign.Open) e = cc
ended_depth (suc d) (symbol.Sign sign.Opening) e = cc
ended_depth (suc d) s e = cc

loose_step : (k : Known) (o : Owner) (d : ℕ) (xs vs : List Placed) (p : ℕ) (s : Symbol) (next : Option ℕ) → Owned k o xs → has_constants (type_of o) ≡ false → Loose d vs
    → brackets d s ≡ next → After k (xs ++ vs) (at p s) (loose_by k o next p s)
loose_step k o d xs vs p s (Some e) own has is on =
    moved (Begun k (stage.Loose o e)) _ _ (append_assoc xs vs (at p s ∷ [])) (loose o e xs (vs ++ at p s ∷ []) own has (grammar.more d e vs p s is on))
loose_step k o d xs vs p s None own has is ends =
    let zero_is = ended_depth d s ends in
    loose_end_step k o xs vs p s own has (subst (λ (n : ℕ). Loose n vs) zero_is is) (subst (λ (n : ℕ). brackets n s ≡ None) zero_is ends)

minus_parts : (t : Ty) (s : Symbol) → is_minus_of_int t s ≡ true → (t ≡ ty.Int) × (s ≡ symbol.Sign sign.Minus)
minus_parts ty.Int (symbol.Sign sign.Minus) e = (refl, refl)
minus_parts t s e = cc

got_step : (k : Known) (o : Owner) (v : Option Const) (xs : List Placed) (p : ℕ) (s : Symbol) → Owned k o xs → has_constants (type_of o) ≡ true
    → constant_in k.table.constants (type_of o) s ≡ v → After k xs (at p s) (got k o v p)
got_step k o (Some c) xs p s own has is = checked_step k o c xs (at p s ∷ []) xs (at p s) own has (grammar.constant (type_of o) c p s has is) refl
got_step k o None xs p s own has is = inl refl

value_step : (b : Bool) (k : Known) (o : Owner) (xs : List Placed) (p : ℕ) (s : Symbol) → Owned k o xs → has_constants (type_of o) ≡ b → After k xs (at p s) (value_by b k o p s)
value_step true k o xs p s own has =
    either (After k xs (at p s)) (is_minus_of_int (type_of o) s) (goes (stage.Minus o)) (got k o (constant_in k.table.constants (type_of o) s) p)
    (λ is. let parts = minus_parts (type_of o) s is in subst (λ (z : Symbol). Begun k (stage.Minus o) (xs ++ at p z ∷ [])) (sym parts.1) (minus o xs p own parts.0))
    (λ is. got_step k o (constant_in k.table.constants (type_of o) s) xs p s own has refl)
value_step false k o xs p s own has =
    subst (λ (z : List Placed). After k z (at p s) (loose_by k o (brackets zero s) p s)) (append-nil xs) (loose_step k o zero xs [] p s (brackets zero s) own has grammar.none refl)

minus_step : (k : Known) (o : Owner) (xs : List Placed) (p q : ℕ) (s : Symbol) → Owned k o xs → type_of o ≡ ty.Int
    → After k (xs ++ sign_at p sign.Minus ∷ []) (at q s) (minus_turn k o q s)
minus_step k o xs p q (symbol.Int n) own int =
    checked_step k o (negative n) xs (sign_at p sign.Minus ∷ at q (symbol.Int n) ∷ []) (xs ++ sign_at p sign.Minus ∷ []) (at q (symbol.Int n)) own
    (ap has_constants int) (subst (λ (t : Ty). Value k.table.constants t (Some (negative n)) (sign_at p sign.Minus ∷ at q (symbol.Int n) ∷ [])) (sym int) (grammar.minus p q n))
    (two xs (sign_at p sign.Minus) (at q (symbol.Int n) ∷ []))
minus_step k o xs p q s own int = inl refl

-- ---- parameters

param_type_of : (k : Known) (f : Function) (xs : List Placed) (p : ℕ) (s : Symbol) → Before k f xs
    → After k xs (at p s) (typed (stage.ParamType f) (type_in k.words s) p)
param_type_of k f xs p s before = typed_step k xs p s (stage.ParamType f) (type_in k.words s) (λ t is. param_type f t xs p s before is)

opened_step : (k : Known) (d : Declared) (hs : List Placed) (o p : ℕ) (s : Symbol) → Heading k false d hs → function_fault k d ≡ None
    → After k (hs ++ sign_at o sign.Open ∷ []) (at p s) (params_turn k.words (record { head = d; params = [] }) p s)
opened_step k d hs o p (symbol.Sign sign.Close) h free =
    moved (Begun k (stage.Closed (record { head = d; params = [] }))) _ _ (two hs (sign_at o sign.Open) (sign_at p sign.Close ∷ []))
    (closed d [] hs [] o p h free grammar.absent)
opened_step k d hs o p s h free = param_type_of k (record { head = d; params = [] }) (hs ++ sign_at o sign.Open ∷ []) p s (first d hs o h free)

behind_step : (k : Known) (f : Function) (t : Ty) (xs ys : List Placed) (p : ℕ) (s : Symbol) → Before k f xs → ParameterType k t ys
    → After k (xs ++ ys) (at p s) (behind_turn f t p s)
behind_step k f t xs ys p (symbol.Sign sign.Equals) before type =
    moved (Begun k (stage.Value (owner.Parameter f t))) _ _ (append_assoc xs ys (sign_at p sign.Equals ∷ [])) (value (owner.Parameter f t) _ (parameter f t xs ys p before type))
behind_step k f t xs ys p s before type =
    list_step k f (record { ty = t; default = None }) (xs ++ ys) p s (join k f (record { ty = t; default = None }) xs ys before (grammar.required t ys type))

param_name_step : (k : Known) (f : Function) (t : Ty) (xs : List Placed) (p q : ℕ) (s x : Symbol) → Before k f xs → type_in k.words s ≡ Some t
    → After k (xs ++ at p s ∷ []) (at q x) (param_type_turn f t q x)
param_name_step k f t xs p q s (symbol.Name n) before is =
    moved (Begun k (stage.ParamName f t)) _ _ (two xs (at p s) (at q (symbol.Name n) ∷ [])) (param_name f t xs (at p s ∷ at q (symbol.Name n) ∷ []) before (grammar.named t p q s n is))
param_name_step k f t xs p q s x before is = behind_step k f t xs (at p s ∷ []) q x before (grammar.bare t p s is)

closed_step : (k : Known) (d : Declared) (ps : List Param) (hs xs : List Placed) (o c p : ℕ) (s : Symbol) → Heading k false d hs → function_fault k d ≡ None
    → ParameterList k ps xs → After k (hs ++ sign_at o sign.Open ∷ (xs ++ sign_at c sign.Close ∷ [])) (at p s) (closed_turn (record { head = d; params = ps }) p s)
closed_step k d ps hs xs o c p (symbol.Sign sign.Semicolon) h free are = (
  moved (Line k (IsFunction (record { head = d; params = ps }))) _ _ (four hs (sign_at o sign.Open) xs (sign_at c sign.Close) (sign_at p sign.Semicolon ∷ []))
      (grammar.function d ps hs xs o c p h are),
  free,
)
closed_step k d ps hs xs o c p s h free are = inl refl

pub step : (k : Known) (st : Stage) (xs : List Placed) (p : ℕ) (s : Symbol) → Begun k st xs → After k xs (at p s) (turn k st p s)
unfolding turn
step k st xs p s start = start_step k p s
step k st xs p s (hash h) = hash_step k h p s
step k st xs p s (define h d) = define_step k h d p s
step k st xs p s (definition h d q n) = given_step k h d q p n s (defined (structure_of n) s) refl
step k st xs p s (fixed o) = typed_step k (at o (symbol.Word word.Const) ∷ []) p s (stage.Typed true) (type_in k.words s) (λ t is. fixed_type t o p s is)
step k st xs p s (plain_type t q x is) = plain_name_step k t q p x s is
step k st xs p s (fixed_type t o q x is) = fixed_name_step k t o q p x s is
step k st xs p s (named b d hs h) = named_step k b d hs p s h
step k st xs p s (value o ys own) = value_step (has_constants (type_of o)) k o ys p s own refl
step k st xs p s (minus o ys q own int) = minus_step k o ys q p s own int
step k st xs p s (loose o d ys vs own has is) = loose_step k o d ys vs p s (brackets d s) own has is refl
step k st xs p s (valued o c new ys vs own is none) = end_step k o c new ys vs p s own is none
step k st xs p s (opened d hs o h free) = opened_step k d hs o p s h free
step k st xs p s (param f ys before) = param_type_of k f ys p s before
step k st xs p s (param_type f t ys q x before is) = param_name_step k f t ys q p x s before is
step k st xs p s (param_name f t ys zs before type) = behind_step k f t ys zs p s before type
step k st xs p s (closed d ps hs ys o c h free are) = closed_step k d ps hs ys o c p s h free are
