-- A token opens at most one bracket.
use Rattle.std.proofs.Common.{◌≡◌, ℕ, zero, suc, ◌+◌, ◌≤◌, Bool, true, false, nat_lt, [], ◌∷◌, ◌++◌, length, codes, bytes_eq, Option, Some, None, Ok, refl, ap, subst, arith}
use Rattle.std.proofs.lemmas.Option.{same_Some, none-some}
use Rattle.nwq_value.specs.declared.value.Ty.{Ty}
use Rattle.nwq_value.specs.declared.engine.Const.{Const}
use Rattle.nwq_value.specs.declared.engine.Param.{Param}
use Rattle.engine_table.specs.Known.{Known}
use Rattle.engine_table.specs.declared.declaration.Declared.{Declared}
use Rattle.engine_table.specs.declared.declaration.Function.{Function}
use Rattle.engine_table.specs.declared.declaration.Declaration.{Declaration}
use Rattle.engine_table.specs.declared.declaration.Declaration.TheVariants as declaration
use Rattle.engine_table.specs.declared.symbol.Word.TheVariants as word
use Rattle.engine_table.specs.declared.symbol.Sign.TheVariants as sign
use Rattle.engine_table.specs.declared.symbol.Symbol.{Symbol}
use Rattle.engine_table.specs.declared.symbol.Symbol.TheVariants as symbol
use Rattle.engine_table.specs.declared.stage.Owner.{Owner}
use Rattle.engine_table.specs.declared.stage.Owner.TheVariants as owner
use Rattle.engine_table.specs.declared.stage.Stage.{Stage}
use Rattle.engine_table.specs.declared.stage.Stage.TheVariants as stage
use Rattle.engine_table.specs.declared.stage.Turn.{Turn}
use Rattle.engine_table.specs.declared.stage.Turn.TheVariants.{Goes, Gives}
use Rattle.engine_table.specs.Symbols.{Placed}
use Rattle.engine_table.specs.Grammar.{type_in, structure_of, defined, has_constants, constant_in, negative, brackets}
use Rattle.engine_table.specs.Headers.{function_fault, constant_fault}
use Rattle.engine_table.specs.Turns.{TurnResult, goes, misfit, unless_fault, typed, start_turn, hash_turn, define_turn, given, typed_turn, named_turn, type_of, param_turn, constant_end, valued_turn}
use Rattle.engine_table.specs.Turns.{owner_fault, got, minus_turn, is_minus_of_int, is_new, constant_turn, loose_by, value_by, params_turn, behind_turn, param_type_turn, closed_turn, turn, depth_of}
use Rattle.engine_table.specs.Turns.{Leads, Follows}
use Rattle.engine_table.proofs.KeepLemmas.{same_turn, no_turn, unless, choose}

-- a turn goes on inside so many brackets at most
abbrev IsInside : ℕ → Turn → Type 0
IsInside n (Goes s) = depth_of s ≤ n
IsInside n (Gives d new) = Unit {0}

is_turn : (n : ℕ) (a t : Turn) → ◌≡◌ {A = TurnResult} (Ok a) (Ok t) → IsInside n a → IsInside n t
is_turn n a t e h = subst (IsInside n) (same_turn a t e) h

flat : (n : ℕ) (s : Stage) (t : Turn) → depth_of s ≡ 0 → ◌≡◌ {A = TurnResult} (Ok (Goes s)) (Ok t) → IsInside n t
flat n s t none e = is_turn n (Goes s) t e (omega (arith, none))

typed_flat : (n : ℕ) (to : Ty → Stage) (o : Option Ty) (p : ℕ) (t : Turn) → ((u : Ty) → depth_of (to u) ≡ 0) → typed to o p ≡ Ok t → IsInside n t
typed_flat n to (Some u) p t h e = flat n (to u) t (h u) e
typed_flat n to None p t h e = absurd (no_turn _ t e)

start_flat : (n : ℕ) (k : Known) (p : ℕ) (x : Symbol) (t : Turn) → start_turn k.words p x ≡ Ok t → IsInside n t
start_flat n k p (symbol.Sign sign.Hash) t e = flat n stage.Hash t refl e
start_flat n k p (symbol.Word word.Const) t e = flat n stage.Const t refl e
start_flat n k p x t e = typed_flat n (stage.Typed false) (type_in k.words x) p t (λ u. refl) e

hash_flat : (n : ℕ) (p : ℕ) (x : Symbol) (t : Turn) → hash_turn p x ≡ Ok t → IsInside n t
hash_flat n p (symbol.Name m) t e =
    choose (IsInside n t) (bytes_eq m (codes "define")) (goes stage.Define) (misfit p) t (λ b is. flat n stage.Define t refl is) (λ b is. absurd (no_turn _ t is)) e
hash_flat n p x t e = absurd (no_turn _ t e)

define_flat : (n : ℕ) (p : ℕ) (x : Symbol) (t : Turn) → define_turn p x ≡ Ok t → IsInside n t
define_flat n p (symbol.Name m) t e = flat n (stage.Defined m) t refl e
define_flat n p x t e = absurd (no_turn _ t e)

given_flat : (n : ℕ) (o : Option Declaration) (p : ℕ) (t : Turn) → given o p ≡ Ok t → IsInside n t
given_flat n (Some d) p t e = is_turn n (Gives d false) t e tt
given_flat n None p t e = absurd (no_turn _ t e)

typed_turn_flat : (n : ℕ) (b : Bool) (u : Ty) (p : ℕ) (x : Symbol) (t : Turn) → typed_turn b u p x ≡ Ok t → IsInside n t
typed_turn_flat n b u p (symbol.Name m) t e = flat n (stage.Named b (record { ty = u; place = p; name = m })) t refl e
typed_turn_flat n b u p x t e = absurd (no_turn _ t e)

open_flat : (n : ℕ) (k : Known) (d : Declared) (t : Turn)
    → unless_fault (function_fault k d) (goes (stage.Params (record { head = d; params = [] }))) ≡ Ok t → IsInside n t
open_flat n k d t e =
    unless (IsInside n t) (function_fault k d) (goes (stage.Params (record { head = d; params = [] }))) t
    (λ free is. flat n (stage.Params (record { head = d; params = [] })) t refl is) e

equals_flat : (n : ℕ) (k : Known) (d : Declared) (t : Turn) → unless_fault (constant_fault k d) (goes (stage.Value (owner.Constant d))) ≡ Ok t → IsInside n t
equals_flat n k d t e =
    unless (IsInside n t) (constant_fault k d) (goes (stage.Value (owner.Constant d))) t (λ free is. flat n (stage.Value (owner.Constant d)) t refl is) e

named_flat : (n : ℕ) (k : Known) (b : Bool) (d : Declared) (p : ℕ) (x : Symbol) (t : Turn) → named_turn k b d p x ≡ Ok t → IsInside n t
named_flat n k b d p (symbol.Sign sign.Equals) t e = equals_flat n k d t e
named_flat n k false d p (symbol.Sign sign.Open) t e = open_flat n k d t e
named_flat n k b d p x t e = absurd (no_turn _ t e)

-- ---- values

param_flat : (n : ℕ) (f : Function) (q : Param) (p : ℕ) (x : Symbol) (t : Turn) → param_turn f q p x ≡ Ok t → IsInside n t
param_flat n f q p (symbol.Sign sign.Comma) t e =
    choose (IsInside n t) (nat_lt (length f.params + 1) 255) (goes (stage.Param (record f { params = f.params ++ q ∷ [] }))) (misfit p) t
    (λ room is. flat n (stage.Param (record f { params = f.params ++ q ∷ [] })) t refl is) (λ room is. absurd (no_turn _ t is)) e
param_flat n f q p (symbol.Sign sign.Close) t e = flat n (stage.Closed (record f { params = f.params ++ q ∷ [] })) t refl e
param_flat n f q p x t e = absurd (no_turn _ t e)

end_flat : (n : ℕ) (d : Declared) (c : Option Const) (new : Bool) (p : ℕ) (x : Symbol) (t : Turn) → constant_end d c new p x ≡ Ok t → IsInside n t
end_flat n d c new p (symbol.Sign sign.Semicolon) t e = is_turn n (Gives (declaration.Constant d c) new) t e tt
end_flat n d c new p x t e = absurd (no_turn _ t e)

valued_flat : (n : ℕ) (o : Owner) (c : Option Const) (new : Bool) (p : ℕ) (x : Symbol) (t : Turn) → valued_turn o c new p x ≡ Ok t → IsInside n t
valued_flat n (owner.Constant d) c new p x t e = end_flat n d c new p x t e
valued_flat n (owner.Parameter f u) c new p x t e = param_flat n f (record { ty = u; default = c }) p x t e

got_flat : (n : ℕ) (k : Known) (o : Owner) (c : Option Const) (p : ℕ) (t : Turn) → got k o c p ≡ Ok t → IsInside n t
got_flat n k o (Some c) p t e =
    unless (IsInside n t) (owner_fault k o (Some c)) (goes (stage.Valued o (Some c) (is_new k (Some c) o))) t
    (λ none is. flat n (stage.Valued o (Some c) (is_new k (Some c) o)) t refl is) e
got_flat n k o None p t e = absurd (no_turn _ t e)

minus_flat : (n : ℕ) (k : Known) (o : Owner) (p : ℕ) (x : Symbol) (t : Turn) → minus_turn k o p x ≡ Ok t → IsInside n t
minus_flat n k o p (symbol.Int m) t e = got_flat n k o (Some (negative m)) p t e
minus_flat n k o p x t e = absurd (no_turn _ t e)

constant_flat : (n : ℕ) (k : Known) (o : Owner) (u : Ty) (p : ℕ) (x : Symbol) (t : Turn) → constant_turn k o u p x ≡ Ok t → IsInside n t
constant_flat n k o u p x t e =
    choose (IsInside n t) (is_minus_of_int u x) (goes (stage.Minus o)) (got k o (constant_in k.table.constants u x) p) t
    (λ is e'. flat n (stage.Minus o) t refl e') (λ is e'. got_flat n k o (constant_in k.table.constants u x) p t e') e

one_more : (d e : ℕ) (x : Symbol) → brackets d x ≡ Some e → e ≤ d + 1
one_more zero e (symbol.Sign sign.Comma) is = absurd (none-some e is)
one_more zero e (symbol.Sign sign.Close) is = absurd (none-some e is)
one_more zero e (symbol.Sign sign.Semicolon) is = absurd (none-some e is)
one_more (suc d) e (symbol.Sign sign.Close) is = let same = same_Some d e is in omega (arith, same)
one_more (suc d) e (symbol.Sign sign.Closing) is = let same = same_Some d e is in omega (arith, same)
one_more zero e (symbol.Sign sign.Open) is = let same = same_Some 1 e is in omega (arith, same)
one_more (suc d) e (symbol.Sign sign.Open) is = let same = same_Some (suc d + 1) e is in omega (arith, same)
one_more zero e (symbol.Sign sign.Opening) is = let same = same_Some 1 e is in omega (arith, same)
one_more (suc d) e (symbol.Sign sign.Opening) is = let same = same_Some (suc d + 1) e is in omega (arith, same)
one_more zero e x is = let same = same_Some zero e is in omega (arith, same)
one_more (suc d) e x is = let same = same_Some (suc d) e is in omega (arith, same)

loose_by_more : (n : ℕ) (k : Known) (o : Owner) (d : Option ℕ) (p : ℕ) (x : Symbol) (t : Turn) → ((e : ℕ) → d ≡ Some e → e ≤ n) → loose_by k o d p x ≡ Ok t → IsInside n t
loose_by_more n k o (Some e) p x t h is = is_turn n (Goes (stage.Loose o e)) t is (h e refl)
loose_by_more n k o None p x t h is =
    unless (IsInside n t) (owner_fault k o None) (valued_turn o None false p x) t (λ none e. valued_flat n o None false p x t e) is

value_by_more : (b : Bool) (k : Known) (o : Owner) (p : ℕ) (x : Symbol) (t : Turn) → value_by b k o p x ≡ Ok t → IsInside 1 t
value_by_more true k o p x t e = constant_flat 1 k o (type_of o) p x t e
value_by_more false k o p x t e = loose_by_more 1 k o (brackets zero x) p x t (λ e'. one_more zero e' x) e

-- ---- parameters

params_flat : (n : ℕ) (k : Known) (f : Function) (p : ℕ) (x : Symbol) (t : Turn) → params_turn k.words f p x ≡ Ok t → IsInside n t
params_flat n k f p (symbol.Sign sign.Close) t e = flat n (stage.Closed f) t refl e
params_flat n k f p x t e = typed_flat n (stage.ParamType f) (type_in k.words x) p t (λ u. refl) e

behind_flat : (n : ℕ) (f : Function) (u : Ty) (p : ℕ) (x : Symbol) (t : Turn) → behind_turn f u p x ≡ Ok t → IsInside n t
behind_flat n f u p (symbol.Sign sign.Equals) t e = flat n (stage.Value (owner.Parameter f u)) t refl e
behind_flat n f u p x t e = param_flat n f (record { ty = u; default = None }) p x t e

param_type_flat : (n : ℕ) (f : Function) (u : Ty) (p : ℕ) (x : Symbol) (t : Turn) → param_type_turn f u p x ≡ Ok t → IsInside n t
param_type_flat n f u p (symbol.Name m) t e = flat n (stage.ParamName f u) t refl e
param_type_flat n f u p x t e = behind_flat n f u p x t e

closed_flat : (n : ℕ) (f : Function) (p : ℕ) (x : Symbol) (t : Turn) → closed_turn f p x ≡ Ok t → IsInside n t
closed_flat n f p (symbol.Sign sign.Semicolon) t e = is_turn n (Gives (declaration.Function f) false) t e tt
closed_flat n f p x t e = absurd (no_turn _ t e)

turn_depth : (k : Known) (s : Stage) (p : ℕ) (x : Symbol) (t : Turn) → turn k s p x ≡ Ok t → IsInside (depth_of s + 1) t
unfolding turn
turn_depth k stage.Start p x t e = start_flat 1 k p x t e
turn_depth k stage.Hash p x t e = hash_flat 1 p x t e
turn_depth k stage.Define p x t e = define_flat 1 p x t e
turn_depth k (stage.Defined m) p x t e = given_flat 1 (defined (structure_of m) x) p t e
turn_depth k stage.Const p x t e = typed_flat 1 (stage.Typed true) (type_in k.words x) p t (λ u. refl) e
turn_depth k (stage.Typed b u) p x t e = typed_turn_flat 1 b u p x t e
turn_depth k (stage.Named b d) p x t e = named_flat 1 k b d p x t e
turn_depth k (stage.Value o) p x t e = value_by_more (has_constants (type_of o)) k o p x t e
turn_depth k (stage.Minus o) p x t e = minus_flat 1 k o p x t e
turn_depth k (stage.Loose o d) p x t e = loose_by_more (d + 1) k o (brackets d x) p x t (λ e'. one_more d e' x) e
turn_depth k (stage.Valued o c new) p x t e = valued_flat 1 o c new p x t e
turn_depth k (stage.Params f) p x t e = params_flat 1 k f p x t e
turn_depth k (stage.Param f) p x t e = typed_flat 1 (stage.ParamType f) (type_in k.words x) p t (λ u. refl) e
turn_depth k (stage.ParamType f u) p x t e = param_type_flat 1 f u p x t e
turn_depth k (stage.ParamName f u) p x t e = behind_flat 1 f u p x t e
turn_depth k (stage.Closed f) p x t e = closed_flat 1 f p x t e

led_depth : (n : ℕ) (k k' : Known) (s : Stage) (what : Turn) → IsInside n what → Leads k what k' s → depth_of s ≤ n
led_depth n k k' s (Goes on) inside leads = let same = ap depth_of leads.1 in omega (arith, inside, same)
led_depth n k k' s (Gives d new) inside leads = let same = ap depth_of leads.1 in omega (arith, same)

-- a token leads one bracket deeper at most
pub follows_depth : (k : Known) (s : Stage) (x : Placed) (k' : Known) (s' : Stage) → Follows k s x k' s' → depth_of s' ≤ depth_of s + 1
follows_depth k s x k' s' f = led_depth (depth_of s + 1) k k' s' f.what (turn_depth k s x.place x.symbol f.what f.is) f.leads
