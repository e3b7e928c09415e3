-- The place of a fault is in the text.
use Rattle.std.proofs.Common.{◌≡◌, ℕ, ◌<◌, Bool, true, false, if◌then◌else◌, nat_lt, List, [], ◌∷◌, ◌++◌, length, Option, Some, None, is_some, Result, Ok, Err, IfErr, refl, subst, arith}
use Rattle.std.proofs.lemmas.Option.{same_Some, none-some}
use Rattle.nwq_value.specs.declared.engine.Const.{Const}
use Rattle.nwq_value.specs.Engine.{EngineTable, routine_named, constant_named}
use Rattle.nss_lexer.specs.Splitting.{Lexeme, Splits, whole, broken, token}
use Rattle.engine_table.specs.Known.{Known}
use Rattle.engine_table.specs.declared.declaration.Declared.{Declared}
use Rattle.engine_table.specs.declared.fault.HeaderFault.{HeaderFault}
use Rattle.engine_table.specs.declared.fault.HeaderFault.TheVariants.{Bad, Header, Twice, Many, NoMemory}
use Rattle.engine_table.specs.declared.symbol.Sign.TheVariants as sign
use Rattle.engine_table.specs.Symbols.{Placed, placed_all}
use Rattle.engine_table.specs.Grammar as grammar
use Rattle.engine_table.specs.Grammar.{sign_at, Heading}
use Rattle.engine_table.specs.Headers as header
use Rattle.engine_table.specs.Headers.{function_fault, constant_fault, value_fault, differs, fault_unless, same_const, Clashes, HeaderFails, IsFaulty, IsRefused, IsWithin, nothing}

-- each of these tokens begins in a text of so many bytes
AllWithin : ℕ → List Placed → Type 0
AllWithin size [] = Unit {0}
AllWithin size (x ∷ xs) = (x.place < size) × AllWithin size xs

within_left : (size : ℕ) (xs ys : List Placed) → AllWithin size (xs ++ ys) → AllWithin size xs
unfolding AllWithin
within_left size [] ys h = tt
within_left size (x ∷ xs) ys h = (h.0, within_left size xs ys h.1)

within_right : (size : ℕ) (xs ys : List Placed) → AllWithin size (xs ++ ys) → AllWithin size ys
unfolding AllWithin
within_right size [] ys h = h
within_right size (x ∷ xs) ys h = within_right size xs ys h.1

tokens_within : (bytes : List ℕ) (at : ℕ) (ts : List Lexeme) (ending : Option ℕ) → Splits bytes 0 at ts ending → AllWithin (length bytes) (placed_all ts)
unfolding AllWithin
tokens_within bytes at ts ending (whole a h) = tt
tokens_within bytes at ts ending (broken a p h) = tt
tokens_within bytes at ts ending (token a t us e h rest) =
    (omega (arith, h.some, h.within), tokens_within bytes t.end us e rest)

bad_within : (bytes : List ℕ) (at p : ℕ) (ts : List Lexeme) (ending : Option ℕ) → ending ≡ Some p → Splits bytes 0 at ts ending → p < length bytes
bad_within bytes at p ts ending is (whole a h) = absurd (none-some p is)
bad_within bytes at p ts ending is (broken a q h) = subst (λ (z : ℕ). z < length bytes) (same_Some q p is) h.within
bad_within bytes at p ts ending is (token a t us e h rest) = bad_within bytes t.end p us e is rest

-- the name of a heading is one of its tokens
name_within : (size : ℕ) (k : Known) (b : Bool) (d : Declared) (hs : List Placed) → Heading k b d hs → AllWithin size hs → d.place < size
unfolding AllWithin
name_within size k b d hs (grammar.plain t p q s n is) h = h.1.0
name_within size k b d hs (grammar.fixed t o p q s n is) h = h.1.1.0

-- ---- a clash is at such a name

chosen : (size : ℕ) (b : Bool) (a f : HeaderFault) (o : Option HeaderFault) → IsWithin size a → (o ≡ Some f → IsWithin size f)
    → (if b then Some a else o) ≡ Some f → IsWithin size f
chosen size true a f o h g e = subst (IsWithin size) (same_Some a f e) h
chosen size false a f o h g e = g e

unless_room : (size : ℕ) (b : Bool) (a f : HeaderFault) → IsWithin size a → (if b then None else Some a) ≡ Some f → IsWithin size f
unless_room size true a f h e = absurd (none-some f e)
unless_room size false a f h e = subst (IsWithin size) (same_Some a f e) h

function_within : (size : ℕ) (k : Known) (d : Declared) (f : HeaderFault) → d.place < size → function_fault k d ≡ Some f → IsWithin size f
unfolding function_fault
function_within size k d f h e =
    chosen size (is_some (routine_named d.name k.table.routines)) (Twice d.place) f _ h
    (λ e'. chosen size (is_some (constant_named d.name k.table.constants)) (Twice d.place) f _ h
    (λ e''. unless_room size (nat_lt (length k.table.routines) 65535) (Many d.place) f h e'') e') e

constant_within : (size : ℕ) (k : Known) (d : Declared) (f : HeaderFault) → d.place < size → constant_fault k d ≡ Some f → IsWithin size f
unfolding constant_fault
constant_within size k d f h e =
    chosen size (is_some (routine_named d.name k.table.routines)) (Twice d.place) f None h (λ e'. absurd (none-some f e')) e

differ_within : (size : ℕ) (o c : Option Const) (p : ℕ) (f : HeaderFault) → p < size → differs o c p ≡ Some f → IsWithin size f
differ_within size None c p f h e = absurd (none-some f e)
differ_within size (Some old) None p f h e = subst (IsWithin size) (same_Some (Twice p) f e) h
differ_within size (Some old) (Some new) p f h e = by (same_const old new) e where
  by : (b : Bool) → fault_unless b p ≡ Some f → IsWithin size f
  by true e = absurd (none-some f e)
  by false e = subst (IsWithin size) (same_Some (Twice p) f e) h

value_within : (size : ℕ) (k : Known) (d : Declared) (c : Option Const) (f : HeaderFault) → d.place < size → value_fault k d c ≡ Some f → IsWithin size f
unfolding value_fault
value_within size k d c f h e = differ_within size (constant_named d.name k.table.constants) c d.place f h e

clash_within : (size : ℕ) (k : Known) (f : HeaderFault) (xs : List Placed) → Clashes k f xs → AllWithin size xs → IsWithin size f
clash_within size k f xs (header.function d g hs o h fault) all =
    function_within size k d f (name_within size k false d hs h (within_left size hs (sign_at o sign.Open ∷ []) all)) fault
clash_within size k f xs (header.constant b d g hs e h fault) all =
    constant_within size k d f (name_within size k b d hs h (within_left size hs (sign_at e sign.Equals ∷ []) all)) fault
clash_within size k f xs (header.value b d c g hs vs e h free has is fault) all =
    value_within size k d c f (name_within size k b d hs h (within_left size hs (sign_at e sign.Equals ∷ vs) all)) fault
clash_within size k f xs (header.loose b d g hs vs e p s h free has is ends fault) all =
    value_within size k d None f (name_within size k b d hs h (within_left size hs _ all)) fault

-- ---- whole texts

fails_within : (size : ℕ) (k : Known) (f : HeaderFault) (xs : List Placed) → HeaderFails size k f xs → AllWithin size xs → IsWithin size f
unfolding AllWithin
fails_within size k f xs (header.later j d g ys zs is clear rest) all = fails_within size (header.after k d) f zs rest (within_right size ys zs all)
fails_within size k f xs (header.clash j g ys zs clash) all = clash_within size k f ys clash (within_left size ys zs all)
fails_within size k f xs (header.misfit j ys x zs m) all = let h = (within_right size ys (x ∷ zs) all).0 in omega (arith, h)
fails_within size k f xs (header.short j ys some inside) all = omega arith

faulty_within : (bytes : List ℕ) (f : HeaderFault) → IsFaulty bytes f → IsWithin (length bytes) f
faulty_within bytes f (tokens, are, fails) =
    fails_within (length bytes) nothing f (placed_all tokens) fails (tokens_within bytes 0 tokens None are)

pub refused_within : (bytes : List ℕ) (f : HeaderFault) → IsRefused bytes f → IsWithin (length bytes) f
refused_within bytes (Bad place) (tokens, are) = bad_within bytes 0 place tokens (Some place) refl are
refused_within bytes (Header place) h = faulty_within bytes (Header place) h
refused_within bytes (Twice place) h = faulty_within bytes (Twice place) h
refused_within bytes (Many place) h = faulty_within bytes (Many place) h
refused_within bytes NoMemory h = tt

pub answer_within : (bytes : List ℕ) (r : Result EngineTable HeaderFault) → IfErr r (IsRefused bytes) → IfErr r (IsWithin (length bytes))
answer_within bytes (Ok table) h = tt
answer_within bytes (Err f) h = refused_within bytes f h
