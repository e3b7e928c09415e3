-- The machine follows the stack effects of instructions.
use Rattle.std.proofs.Common.{arith, ◌≡◌, ◌≤◌, ◌+◌, ◌-◌, ℕ, zero, suc, List, [], ◌∷◌, ◌++◌, length, map, take, drop, Option, Some, None, Bool, true, false, sym, subst, ◌∙◌, ap, refl, zero-add}
use Rattle.std.specs.Prelude.{ℤ, not, ◌==◌, ◌&&◌, nat_le, if◌then◌else◌}
use Rattle.std.specs.Option.{option_map, option_and_then}
use Rattle.std.proofs.lemmas.Bool.Decides.{Decides-eqb, nat_tests}
use Rattle.std.proofs.lemmas.List.{drop-drop}
use Rattle.std.proofs.Math.Seq.{drop-nil}
use Rattle.nwq_value.specs.declared.value.Ty.{Ty}
use Rattle.nwq_value.specs.declared.value.Ty.TheVariants.{Void, Int as IntTy, Text as TextTy, Object as ObjectTy, Effect as EffectTy, Event as EventTy, Action, Struct, Refused}
use Rattle.nwq_value.specs.declared.value.Value.{Value}
use Rattle.nwq_value.specs.declared.value.Value.TheVariants.{Int, Text, Object, Effect, Event}
use Rattle.nwq_value.specs.Values.{type_of, start_value}
use Rattle.nwq_value.specs.Roles.{ty_eq, tys_eq}
use Rattle.nwq_value.specs.Operators.{as_int, both, either, negation, bits_and, bits_or, bits_xor, complement, shift_left, shift_right, shift_right_unsigned, sum, difference, product, quotient}
use Rattle.nwq_value.specs.Operators.{remainder, opposite, less, less_or_equal, greater, greater_or_equal, values_eq, joined_texts}
use Rattle.ncs_code.specs.Plain.{PlainOp, PlainLit}
use Rattle.ncs_code.specs.Plain as ops
use Rattle.saved_state.specs.declared.cell.Cell.{Cell}
use Rattle.saved_state.specs.declared.cell.Cell.TheVariants.{Value as Holds, Base}
use Rattle.saved_state.specs.Cells.{StackView, cells_beneath}
use Rattle.stack_shape.specs.declared.range.CellRange.{CellRange}
use Rattle.stack_shape.specs.declared.effect.StackEffect.{StackEffect}
use Rattle.stack_shape.specs.Ranges.{cell_count, depth_of, range_at}
use Rattle.stack_shape.specs.TopFirst.{types_on, types_at}
use Rattle.stack_shape.specs.StackEffects as rules
use Rattle.machine_rules.specs.Values.{literal_value, starting_value}
use Rattle.machine_rules.specs.Cells.{values_on, values_at, value_types, with_values, overwritten, from_bp, of_int, of_ints, of_texts, value_pushed, range_pushed, values_written, range_written}
use Rattle.machine_rules.specs.Cells.{int_written, int_changed, values_dropped, values_kept, range_kept, runs_eq, runs_compared, pair_eq, pair_compared}
use Rattle.machine_rules.specs.Act.{cells_after, if_ints, compared, added, int_dropped, one_more, one_less}
use Rattle.machine_rules.specs.Outlines.{Outline, Typed, outline, outlines, slots, slots_under, outlines_after}
use Rattle.machine_rules.specs.Laws.{EffectsAreFollowed}

-- ---- values of types

pub on_map : {A B : Type 0} (f : A → B) (o : Option A) (b : B) → option_map f o ≡ Some b → (a : A) × (o ≡ Some a) × (f a ≡ b)
on_map f None b h = absurd cc
on_map f (Some a) b h = (a, refl, cc)

pub on_then : {A B : Type 0} (f : A → Option B) (o : Option A) (b : B) → option_and_then f o ≡ Some b → (a : A) × (o ≡ Some a) × (f a ≡ Some b)
on_then f None b h = absurd cc
on_then f (Some a) b h = (a, refl, h)

-- the values of cells with these types on top
pub record AreValues (n : ℕ) (cells : List Cell) (types : List Ty) : Type 0 where
  pub values : List Value
  pub are : values_on n cells ≡ Some values
  pub types_are : value_types values ≡ types

one_value : (n : ℕ) (v : Value) (cells : List Cell) (types : List Ty) → AreValues n cells types → AreValues (suc n) (Holds v ∷ cells) (type_of v ∷ types)
one_value n v cells types a = record {
  values = v ∷ a.values;
  are = ap (option_map (λ vs. v ∷ vs)) a.are;
  types_are = ap (λ ts. type_of v ∷ ts) a.types_are;
}

pub none_typed : (cells : List Cell) (types : List Ty) → [] ≡ types → AreValues 0 cells types
none_typed cells types h = record { values = []; are = refl; types_are = h }

pub typed : (n : ℕ) (cells : List Cell) (types : List Ty) → types_on n (slots cells) ≡ Some types → AreValues n cells types
typed zero cells types h = none_typed cells types cc
typed (suc n) [] types h = absurd cc
typed (suc n) (Base bp ∷ cells) types h = absurd cc
typed (suc n) (Holds v ∷ cells) types h = let m = on_map (λ ts. type_of v ∷ ts) (types_on n (slots cells)) types h in
    subst (AreValues (suc n) (Holds v ∷ cells)) m.2 (one_value n v cells m.0 (typed n cells m.0 m.1))

slots_drop : (k : ℕ) (cells : List Cell) → drop k (slots cells) ≡ slots (drop k cells)
slots_drop zero cells = refl
slots_drop (suc k) [] = refl
slots_drop (suc k) (c ∷ cells) = slots_drop k cells

typed_at : (r : CellRange) (cells : List Cell) (types : List Ty) → types_at r (slots cells) ≡ Some types → AreValues r.count (drop r.above cells) types
typed_at r cells types h = typed r.count (drop r.above cells) types (sym (ap (types_on r.count) (slots_drop r.above cells)) ∙ h)

-- equal types, by the test
pub ty_is : (t u : Ty) → ty_eq t u ≡ true → t ≡ u
unfolding ty_eq
ty_is Void Void h = refl
ty_is IntTy IntTy h = refl
ty_is TextTy TextTy h = refl
ty_is ObjectTy ObjectTy h = refl
ty_is EffectTy EffectTy h = refl
ty_is EventTy EventTy h = refl
ty_is Action Action h = refl
ty_is (Struct m) (Struct n) h = ap Struct ((Decides-eqb m n).0 h)
ty_is Refused Refused h = refl
ty_is t u h = absurd cc

pub on_both : (a b : Bool) → (a && b) ≡ true → (a ≡ true) × (b ≡ true)
on_both true b h = (refl, h)
on_both false b h = absurd cc

tys_are : (ts us : List Ty) → tys_eq ts us ≡ true → ts ≡ us
unfolding tys_eq
tys_are [] [] h = refl
tys_are [] (u ∷ us) h = absurd cc
tys_are (t ∷ ts) [] h = absurd cc
tys_are (t ∷ ts) (u ∷ us) h = let b = on_both (ty_eq t u) (tys_eq ts us) h in let x = ty_is t u b.0 in let y = tys_are ts us b.1 in cc

pub if_some : {A : Type 0} (b : Bool) (x y : A) → (if b then Some x else None) ≡ Some y → (b ≡ true) × (x ≡ y)
if_some true x y h = (refl, cc)
if_some false x y h = absurd cc

-- the two lists of types that are alike, and the effect
record Alike (a b : Option (List Ty)) (e f : StackEffect) : Type 0 where
  first : List Ty
  second : List Ty
  first_is : a ≡ Some first
  second_is : b ≡ Some second
  test : tys_eq first second ≡ true
  same : first ≡ second
  effect : e ≡ f

alike : (a b : Option (List Ty)) (e f : StackEffect) → rules.where_alike a b e ≡ Some f → Alike a b e f
alike None b e f h = absurd cc
alike (Some ts) None e f h = absurd cc
alike (Some ts) (Some us) e f h = let w = if_some (tys_eq ts us) e f h in
    record { first = ts; second = us; first_is = refl; second_is = refl; test = w.0; same = tys_are ts us w.0; effect = w.1 }

-- ---- outlines

pub outlines_drop : (k : ℕ) (cells : List Cell) → outlines (drop k cells) ≡ drop k (outlines cells)
outlines_drop zero cells = refl
outlines_drop (suc k) [] = refl
outlines_drop (suc k) (c ∷ cells) = outlines_drop k cells

outlines_values : (vs : List Value) (cells : List Cell) → outlines (with_values vs cells) ≡ map Typed (value_types vs) ++ outlines cells
outlines_values [] cells = refl
outlines_values (v ∷ vs) cells = ap (λ os. Typed (type_of v) ∷ os) (outlines_values vs cells)

-- the cells after an instruction, with the effect's outlines
record Follows (o : Option (List Cell)) (cells : List Cell) (e : StackEffect) : Type 0 where
  after : List Cell
  is : o ≡ Some after
  outlines_are : outlines after ≡ outlines_after e (outlines cells)

-- the effect by an equation
at_effect : (o : Option (List Cell)) (cells : List Cell) (e f : StackEffect) → e ≡ f → Follows o cells e → Follows o cells f
at_effect o cells e f is h = subst (Follows o cells) is h

-- these values stand in place of so many cells
replaced : (vs : List Value) (n : ℕ) (cells : List Cell) → outlines (with_values vs (drop n cells)) ≡ outlines_after (record { pops = n; pushes = value_types vs }) (outlines cells)
replaced vs n cells = outlines_values vs (drop n cells) ∙ ap (λ os. map Typed (value_types vs) ++ os) (outlines_drop n cells)

goes : (vs : List Value) (n : ℕ) (cells : List Cell) (o : Option (List Cell)) → o ≡ Some (with_values vs (drop n cells))
    → Follows o cells (record { pops = n; pushes = value_types vs })
goes vs n cells o h = record { after = with_values vs (drop n cells); is = h; outlines_are = replaced vs n cells }

-- ---- one and two values

-- the value on top
pub record OnTop (n : ℕ) (cells : List Cell) (values : List Value) : Type 0 where
  pub value : Value
  pub others : List Value
  pub rest : List Cell
  pub cells_are : cells ≡ Holds value ∷ rest
  pub values_are : values ≡ value ∷ others
  pub rest_are : values_on n rest ≡ Some others

pub on_top : (n : ℕ) (cells : List Cell) (values : List Value) → values_on (suc n) cells ≡ Some values → OnTop n cells values
on_top n [] values h = absurd cc
on_top n (Base bp ∷ cells) values h = absurd cc
on_top n (Holds v ∷ cells) values h = let m = on_map (λ vs. v ∷ vs) (values_on n cells) values h in
    record { value = v; others = m.0; rest = cells; cells_are = refl; values_are = sym m.2; rest_are = m.1 }

int_is : (v : Value) → type_of v ≡ IntTy → (n : ℤ) × (v ≡ Int n)
int_is (Int n) h = (n, refl)
int_is (Text bytes) h = absurd cc
int_is (Object o) h = absurd cc
int_is (Effect e) h = absurd cc
int_is (Event n) h = absurd cc

text_is : (v : Value) → type_of v ≡ TextTy → (bytes : List ℕ) × (v ≡ Text bytes)
text_is (Text bytes) h = (bytes, refl)
text_is (Int n) h = absurd cc
text_is (Object o) h = absurd cc
text_is (Effect e) h = absurd cc
text_is (Event n) h = absurd cc

-- so many values whose types are popped
pub record Exchanged (pops pushes : List Ty) (cells : List Cell) (e : StackEffect) : Type 0 where
  pub values : AreValues (length pops) cells pops
  pub effect : record { pops = length pops; pushes = pushes } ≡ e

pub exchanged : (pops pushes : List Ty) (cells : List Cell) (e : StackEffect) → rules.exchange pops pushes (slots cells) ≡ Some e → Exchanged pops pushes cells e
unfolding rules.exchange
exchanged pops pushes cells e h = let a = alike (types_on (length pops) (slots cells)) (Some pops) (record { pops = length pops; pushes = pushes }) e h in
    record {
      values = typed (length pops) cells pops (a.first_is ∙ ap Some a.same ∙ sym a.second_is);
      effect = a.effect;
    }

pub head_is : {A : Type 0} (x y : A) (xs ys : List A) → x ∷ xs ≡ y ∷ ys → (x ≡ y) × (xs ≡ ys)
head_is x y xs ys h = (cc, cc)

-- an int on top
record IntOnTop (cells : List Cell) : Type 0 where
  int : ℤ
  rest : List Cell
  cells_are : cells ≡ Holds (Int int) ∷ rest

int_on_top : (n : ℕ) (cells : List Cell) (types : List Ty) → AreValues (suc n) cells (IntTy ∷ types) → (t : IntOnTop cells) × AreValues n t.rest types
int_on_top n cells types a =
    let t = on_top n cells a.values a.are in
    let h = head_is (type_of t.value) IntTy (value_types t.others) types (ap value_types (sym t.values_are) ∙ a.types_are) in
    let i = int_is t.value h.0 in (
      record { int = i.0; rest = t.rest; cells_are = t.cells_are ∙ ap (λ (v : Value). Holds v ∷ t.rest) i.1 },
      record { values = t.others; are = t.rest_are; types_are = h.1 },
    )

record TextOnTop (cells : List Cell) : Type 0 where
  bytes : List ℕ
  rest : List Cell
  cells_are : cells ≡ Holds (Text bytes) ∷ rest

text_on_top : (n : ℕ) (cells : List Cell) (types : List Ty) → AreValues (suc n) cells (TextTy ∷ types) → (t : TextOnTop cells) × AreValues n t.rest types
text_on_top n cells types a =
    let t = on_top n cells a.values a.are in
    let h = head_is (type_of t.value) TextTy (value_types t.others) types (ap value_types (sym t.values_are) ∙ a.types_are) in
    let i = text_is t.value h.0 in (
      record { bytes = i.0; rest = t.rest; cells_are = t.cells_are ∙ ap (λ (v : Value). Holds v ∷ t.rest) i.1 },
      record { values = t.others; are = t.rest_are; types_are = h.1 },
    )

one_int_follows : (f : ℤ → ℤ) (cells : List Cell) (e : StackEffect) → rules.one_int (slots cells) ≡ Some e → Follows (of_int f cells) cells e
one_int_follows f cells e h =
    let x = exchanged (IntTy ∷ []) (IntTy ∷ []) cells e h in
    let t = (int_on_top 0 cells [] x.values).0 in
    at_effect (of_int f cells) cells _ e x.effect (subst (λ (c : List Cell). Follows (of_int f c) c (record { pops = 1; pushes = IntTy ∷ [] })) (sym t.cells_are)
    (goes (Int (f t.int) ∷ []) 1 (Holds (Int t.int) ∷ t.rest) _ refl))

-- two ints on top
record IntsOnTop (cells : List Cell) : Type 0 where
  upper : ℤ
  lower : ℤ
  rest : List Cell
  cells_are : cells ≡ Holds (Int upper) ∷ Holds (Int lower) ∷ rest

ints_on_top : (cells : List Cell) → AreValues 2 cells (IntTy ∷ IntTy ∷ []) → IntsOnTop cells
ints_on_top cells a =
    let t = int_on_top 1 cells (IntTy ∷ []) a in
    let u = (int_on_top 0 t.0.rest [] t.1).0 in
    record { upper = t.0.int; lower = u.int; rest = u.rest; cells_are = t.0.cells_are ∙ ap (λ (c : List Cell). Holds (Int t.0.int) ∷ c) u.cells_are }

two_ints_follow : (f : ℤ → ℤ → ℤ) (cells : List Cell) (e : StackEffect) → rules.two_ints (slots cells) ≡ Some e → Follows (of_ints f cells) cells e
two_ints_follow f cells e h =
    let x = exchanged (IntTy ∷ IntTy ∷ []) (IntTy ∷ []) cells e h in
    let t = ints_on_top cells x.values in
    at_effect (of_ints f cells) cells _ e x.effect (subst (λ (c : List Cell). Follows (of_ints f c) c (record { pops = 2; pushes = IntTy ∷ [] })) (sym t.cells_are)
    (goes (Int (f t.lower t.upper) ∷ []) 2 (Holds (Int t.upper) ∷ Holds (Int t.lower) ∷ t.rest) _ refl))

two_texts_follow : (f : List ℕ → List ℕ → List ℕ) (cells : List Cell) (e : StackEffect)
    → rules.exchange (TextTy ∷ TextTy ∷ []) (TextTy ∷ []) (slots cells) ≡ Some e → Follows (of_texts f cells) cells e
two_texts_follow f cells e h =
    let x = exchanged (TextTy ∷ TextTy ∷ []) (TextTy ∷ []) cells e h in
    let t = text_on_top 1 cells (TextTy ∷ []) x.values in
    let u = (text_on_top 0 t.0.rest [] t.1).0 in
    let is : cells ≡ Holds (Text t.0.bytes) ∷ Holds (Text u.bytes) ∷ u.rest = t.0.cells_are ∙ ap (λ (c : List Cell). Holds (Text t.0.bytes) ∷ c) u.cells_are in
    at_effect (of_texts f cells) cells _ e x.effect (subst (λ (c : List Cell). Follows (of_texts f c) c (record { pops = 2; pushes = TextTy ∷ [] })) (sym is)
    (goes (Text (f u.bytes t.0.bytes) ∷ []) 2 (Holds (Text t.0.bytes) ∷ Holds (Text u.bytes) ∷ u.rest) _ refl))

-- the int that a conditional jump takes
int_drop_follows : (cells : List Cell) (e : StackEffect) → rules.exchange (IntTy ∷ []) [] (slots cells) ≡ Some e → Follows (int_dropped cells) cells e
int_drop_follows cells e h =
    let x = exchanged (IntTy ∷ []) [] cells e h in
    let t = (int_on_top 0 cells [] x.values).0 in
    at_effect (int_dropped cells) cells _ e x.effect (subst (λ (c : List Cell). Follows (int_dropped c) c (record { pops = 1; pushes = [] })) (sym t.cells_are)
    (goes [] 1 (Holds (Int t.int) ∷ t.rest) _ refl))

-- ---- pushes

-- a value of the type that is pushed
record PushedValue (value : Option Value) (t : Ty) : Type 0 where
  pushed : Value
  is : value ≡ Some pushed
  type_is : type_of pushed ≡ t

push_follows : (value : Option Value) (t : Ty) (cells : List Cell) → PushedValue value t
    → Follows (value_pushed value cells) cells (record { pops = 0; pushes = t ∷ [] })
push_follows value t cells p = subst (λ (t : Ty). Follows (value_pushed value cells) cells (record { pops = 0; pushes = t ∷ [] })) p.type_is
    (goes (p.pushed ∷ []) 0 cells (value_pushed value cells) (ap (λ (o : Option Value). value_pushed o cells) p.is))

pushed_follows : (type : Option Ty) (value : Option Value) (cells : List Cell) (e : StackEffect) → ((t : Ty) → type ≡ Some t → PushedValue value t)
    → rules.pushed type ≡ Some e → Follows (value_pushed value cells) cells e
pushed_follows None value cells e p h = absurd cc
pushed_follows (Some t) value cells e p h = at_effect (value_pushed value cells) cells (record { pops = 0; pushes = t ∷ [] }) e (cc) (push_follows value t cells (p t refl))

literal_pushed : (self : ℕ) (lit : PlainLit) (t : Ty) → rules.type_of_lit lit ≡ Some t → PushedValue (literal_value self lit) t
literal_pushed self (ops.Int n) t h = record { pushed = Int n; is = refl; type_is = cc }
literal_pushed self (ops.Float bytes) t h = absurd cc
literal_pushed self (ops.Text bytes) t h = record { pushed = _; is = refl; type_is = cc }
literal_pushed self (ops.Object n) t h = record { pushed = _; is = refl; type_is = cc }

starts : (t : Ty) (v : Value) → start_value t ≡ Some v → type_of v ≡ t → PushedValue (start_value t) t
starts t v h k = record { pushed = v; is = h; type_is = k }

some_is : {A : Type 0} (x y : A) → Some x ≡ Some y → x ≡ y
some_is x y h = cc

-- one of two types, by a test
either_starts : (b : Bool) (t u : Ty) (o : Option Ty) → PushedValue (start_value t) t → (o ≡ Some u → PushedValue (start_value u) u)
    → (if b then Some t else o) ≡ Some u → PushedValue (start_value u) u
either_starts true t u o p q h = subst (λ (u : Ty). PushedValue (start_value u) u) (some_is t u h) p
either_starts false t u o p q h = q h

-- a type byte of one value is that of a type with a starting value
one_starts : (kind : ℕ) (t : Ty) → rules.type_of_one kind ≡ Some t → PushedValue (start_value t) t
unfolding rules.type_of_one
one_starts kind t h =
    either_starts (kind == 0x03) IntTy t _ (starts IntTy _ refl refl) (λ h.
    either_starts (kind == 0x05) TextTy t _ (starts TextTy _ refl refl) (λ h.
    either_starts (kind == 0x06) ObjectTy t _ (starts ObjectTy _ refl refl) (λ h.
    either_starts (kind == 0x10) EffectTy t _ (starts EffectTy _ refl refl) (λ h.
    either_starts (kind == 0x11) EventTy t None (starts EventTy _ refl refl) (λ h. absurd cc) h) h) h) h) h

start_pushed : (kind : ℕ) (t : Ty) → rules.type_of_one kind ≡ Some t → PushedValue (starting_value kind) t
start_pushed kind t h = let p = one_starts kind t h in record { pushed = p.pushed; is = ap (option_and_then start_value) h ∙ p.is; type_is = p.type_is }

-- ---- copies

-- a range of a stack's cells, as deep from the top
range_copy_follows : (r : CellRange) (cells : List Cell) (types : List Ty) → AreValues r.count (drop r.above cells) types
    → Follows (option_map (λ vs. with_values vs cells) (values_at r cells)) cells (record { pops = 0; pushes = types })
range_copy_follows r cells types a = subst (λ (ts : List Ty). Follows (option_map (λ vs. with_values vs cells) (values_at r cells)) cells (record { pops = 0; pushes = ts })) a.types_are
    (goes a.values 0 cells _ (ap (option_map (λ vs. with_values vs cells)) a.are))

copied_follows : (range : Option CellRange) (cells : List Cell) (e : StackEffect) → rules.copied range (slots cells) ≡ Some e → Follows (range_pushed range cells) cells e
copied_follows None cells e h = absurd cc
copied_follows (Some r) cells e h = let m = on_map (λ (types : List Ty). record { pops = 0; pushes = types }) (types_at r (slots cells)) e h in
    at_effect _ cells _ e m.2 (range_copy_follows r cells m.0 (typed_at r cells m.0 m.1))

-- ---- ranges from BP

pub le_is : (m n : ℕ) → m ≤ n → nat_le m n ≡ true
le_is m n h = grind (arith, nat_tests)

-- how many cells lie over BP
abbrev over_bp : StackView → ℕ
over_bp s = length s.cells - s.bp

from_bp_is : (s : StackView) (r : CellRange) → s.bp ≤ length s.cells → from_bp s r ≡ Some (record r { above = over_bp s + r.above })
from_bp_is s r h = rw (le_is s.bp (length s.cells) h)

-- the values of a range beneath BP are those of the deeper range
typed_under : (s : StackView) (r : CellRange) (types : List Ty) → types_at r (slots_under s) ≡ Some types → AreValues r.count (drop (over_bp s + r.above) s.cells) types
typed_under s r types h = subst (λ (c : List Cell). AreValues r.count c types) (drop-drop r.above (over_bp s) s.cells) (typed_at r (cells_beneath s.bp s.cells) types h)

copied_under_follows : (range : Option CellRange) (s : StackView) (e : StackEffect) → s.bp ≤ length s.cells → rules.copied range (slots_under s) ≡ Some e
    → Follows (range_pushed (option_and_then (from_bp s) range) s.cells) s.cells e
copied_under_follows None s e inside h = absurd cc
copied_under_follows (Some r) s e inside h =
    let m = on_map (λ (types : List Ty). record { pops = 0; pushes = types }) (types_at r (slots_under s)) e h in
    subst (λ (o : Option CellRange). Follows (range_pushed o s.cells) s.cells e) (sym (from_bp_is s r inside))
    (at_effect _ s.cells _ e m.2 (range_copy_follows (record r { above = over_bp s + r.above }) s.cells m.0 (typed_under s r m.0 m.1)))

-- ---- writes

pub types_length : (vs : List Value) → length (value_types vs) ≡ length vs
types_length [] = refl
types_length (v ∷ vs) = ap suc (types_length vs)

-- cells are their values and what lies beneath
pub outlines_split : (n : ℕ) (cells : List Cell) (vs : List Value) → values_on n cells ≡ Some vs
    → outlines cells ≡ map Typed (value_types vs) ++ outlines (drop (length vs) cells)
outlines_split zero cells vs h = none vs cc
  where
    none : (vs : List Value) → [] ≡ vs → outlines cells ≡ map Typed (value_types vs) ++ outlines (drop (length vs) cells)
    none vs h = subst (λ (vs : List Value). outlines cells ≡ map Typed (value_types vs) ++ outlines (drop (length vs) cells)) h refl
outlines_split (suc n) [] vs h = absurd cc
outlines_split (suc n) (Base bp ∷ cells) vs h = absurd cc
outlines_split (suc n) (Holds v ∷ cells) vs h = let m = on_map (λ (vs : List Value). v ∷ vs) (values_on n cells) vs h in
    subst (λ (vs : List Value). outlines (Holds v ∷ cells) ≡ map Typed (value_types vs) ++ outlines (drop (length vs) (Holds v ∷ cells))) m.2
    (ap (λ (os : List Outline). Typed (type_of v) ∷ os) (outlines_split n cells m.0 m.1))

pub suc_add : (m n : ℕ) → suc m + n ≡ suc (m + n)
suc_add m n = omega arith

overwritten_cons : (k : ℕ) (vs : List Value) (c : Cell) (cells : List Cell) → overwritten (suc k) vs (c ∷ cells) ≡ c ∷ overwritten k vs cells
overwritten_cons k vs c cells = ap (λ (i : ℕ). c ∷ (take k cells ++ with_values vs (drop i (c ∷ cells)))) (suc_add k (length vs))

no_values : (n : ℕ) (vs : List Value) → values_on n [] ≡ Some vs → [] ≡ vs
no_values zero vs h = cc
no_values (suc n) vs h = absurd cc

no_types : (vs : List Value) → value_types vs ≡ [] → [] ≡ vs
no_types [] h = refl
no_types (v ∷ vs) h = absurd cc

-- values of the same types leave all outlines as they were
outlines_kept : (above n : ℕ) (new old : List Value) (cells : List Cell) → values_on n (drop above cells) ≡ Some old → value_types new ≡ value_types old
    → outlines (overwritten above new cells) ≡ outlines cells
outlines_kept zero n new old cells h same =
    outlines_values new (drop (0 + length new) cells)
    ∙ ap (λ (i : ℕ). map Typed (value_types new) ++ outlines (drop i cells)) (zero-add (length new) ∙ sym (types_length new) ∙ ap length same ∙ types_length old)
    ∙ ap (λ (ts : List Ty). map Typed ts ++ outlines (drop (length old) cells)) same
    ∙ sym (outlines_split n cells old h)
outlines_kept (suc k) n new old [] h same = nothing new (no_types new (same ∙ ap value_types (sym (no_values n old h))))
  where
    nothing : (new : List Value) → [] ≡ new → outlines (overwritten (suc k) new []) ≡ []
    nothing new e = subst (λ (new : List Value). outlines (overwritten (suc k) new []) ≡ []) e (ap outlines (drop-nil (suc k + 0)))
outlines_kept (suc k) n new old (c ∷ cells) h same =
    ap outlines (overwritten_cons k new c cells) ∙ ap (λ (os : List Outline). outline c ∷ os) (outlines_kept k n new old cells h same)

kept_outlines : (cells after : List Cell) → outlines after ≡ outlines cells → outlines after ≡ outlines_after rules.no_effect (outlines cells)
kept_outlines cells after h = h

-- the values on top are written onto values that have their types
write_follows : (r : CellRange) (cells : List Cell) (ts us : List Ty) → AreValues r.count cells ts → AreValues r.count (drop r.above cells) us → tys_eq ts us ≡ true → ts ≡ us
    → Follows (range_written (Some r) cells) cells rules.no_effect
write_follows r cells ts us new old test same = record {
  after = overwritten r.above new.values cells;
  is = ap (option_and_then (λ (n : List Value). option_and_then (λ (o : List Value). values_written r n o cells) (values_at r cells))) new.are
      ∙ ap (option_and_then (λ (o : List Value). values_written r new.values o cells)) old.are
      ∙ passes new.values old.values (ap (λ (ts : List Ty). tys_eq ts (value_types old.values)) new.types_are ∙ ap (tys_eq ts) old.types_are ∙ test);
  outlines_are = kept_outlines cells _ (outlines_kept r.above r.count new.values old.values cells old.are (new.types_are ∙ same ∙ sym old.types_are));
}
  where
    passes : (n o : List Value) → tys_eq (value_types n) (value_types o) ≡ true → values_written r n o cells ≡ Some (overwritten r.above n cells)
    passes n o h = rw h

written_follows : (range : Option CellRange) (cells : List Cell) (e : StackEffect) → rules.written range (slots cells) (slots cells) ≡ Some e
    → Follows (range_written range cells) cells e
written_follows None cells e h = absurd cc
written_follows (Some r) cells e h =
    let a = alike (types_on r.count (slots cells)) (types_at r (slots cells)) rules.no_effect e h in
    at_effect _ cells _ e a.effect (write_follows r cells a.first a.second (typed r.count cells a.first a.first_is) (typed_at r cells a.second a.second_is) a.test a.same)

written_under_follows : (range : Option CellRange) (s : StackView) (e : StackEffect) → s.bp ≤ length s.cells
    → rules.written range (slots s.cells) (slots_under s) ≡ Some e → Follows (range_written (option_and_then (from_bp s) range) s.cells) s.cells e
written_under_follows None s e inside h = absurd cc
written_under_follows (Some r) s e inside h =
    let a = alike (types_on r.count (slots s.cells)) (types_at r (slots_under s)) rules.no_effect e h in
    subst (λ (o : Option CellRange). Follows (range_written o s.cells) s.cells e) (sym (from_bp_is s r inside))
    (at_effect _ s.cells _ e a.effect (write_follows (record r { above = over_bp s + r.above }) s.cells a.first a.second
    (typed r.count s.cells a.first a.first_is) (typed_under s r a.second a.second_is) a.test a.same))

single_int : (vs : List Value) → value_types vs ≡ IntTy ∷ [] → (n : ℤ) × (vs ≡ Int n ∷ [])
single_int [] h = absurd cc
single_int (v ∷ vs) h =
    let t = head_is (type_of v) IntTy (value_types vs) [] h in
    let i = int_is v t.0 in
    let e = no_types vs t.1 in
    (i.0, ap (λ (v : Value). v ∷ vs) i.1 ∙ ap (λ (vs : List Value). Int i.0 ∷ vs) (sym e))

change_follows : (f : ℤ → ℤ) (r : CellRange) (cells : List Cell) (types : List Ty) → AreValues r.count (drop r.above cells) types → types ≡ IntTy ∷ []
    → Follows (int_changed f (Some r) cells) cells rules.no_effect
change_follows f r cells types old same =
    let i = single_int old.values (old.types_are ∙ same) in
    record {
      after = overwritten r.above (Int (f i.0) ∷ []) cells;
      is = ap (option_and_then (λ (o : List Value). int_written f r.above o cells)) (old.are ∙ ap Some i.1);
      outlines_are = kept_outlines cells _ (outlines_kept r.above r.count (Int (f i.0) ∷ []) old.values cells old.are (sym (old.types_are ∙ same)));
    }

counted_follows : (f : ℤ → ℤ) (range : Option CellRange) (cells : List Cell) (e : StackEffect) → rules.range_int_changed range (slots cells) ≡ Some e
    → Follows (int_changed f range cells) cells e
counted_follows f None cells e h = absurd cc
counted_follows f (Some r) cells e h =
    let a = alike (types_at r (slots cells)) (Some (IntTy ∷ [])) rules.no_effect e h in
    at_effect _ cells _ e a.effect (change_follows f r cells a.first (typed_at r cells a.first a.first_is) (a.same ∙ sym (some_is _ _ a.second_is)))

counted_under_follows : (f : ℤ → ℤ) (range : Option CellRange) (s : StackView) (e : StackEffect) → s.bp ≤ length s.cells → rules.range_int_changed range (slots_under s) ≡ Some e
    → Follows (int_changed f (option_and_then (from_bp s) range) s.cells) s.cells e
counted_under_follows f None s e inside h = absurd cc
counted_under_follows f (Some r) s e inside h =
    let a = alike (types_at r (slots_under s)) (Some (IntTy ∷ [])) rules.no_effect e h in
    subst (λ (o : Option CellRange). Follows (int_changed f o s.cells) s.cells e) (sym (from_bp_is s r inside))
    (at_effect _ s.cells _ e a.effect (change_follows f (record r { above = over_bp s + r.above }) s.cells a.first
    (typed_under s r a.first a.first_is) (a.same ∙ sym (some_is _ _ a.second_is))))

-- ---- removals

removed_follows : (count : Option ℕ) (cells : List Cell) (e : StackEffect) → rules.removed count (slots cells) ≡ Some e → Follows (values_dropped count cells) cells e
removed_follows None cells e h = absurd cc
removed_follows (Some n) cells e h =
    let m = on_map (λ (types : List Ty). record { pops = n; pushes = [] }) (types_on n (slots cells)) e h in
    let v = typed n cells m.0 m.1 in
    at_effect _ cells _ e m.2 (goes [] n cells _ (ap (option_map (λ (vs : List Value). drop n cells)) v.are))

types_take : (n : ℕ) (vs : List Value) → value_types (take n vs) ≡ take n (value_types vs)
types_take zero vs = refl
types_take (suc n) [] = refl
types_take (suc n) (v ∷ vs) = ap (λ (ts : List Ty). type_of v ∷ ts) (types_take n vs)

types_drop : (n : ℕ) (vs : List Value) → value_types (drop n vs) ≡ drop n (value_types vs)
types_drop zero vs = refl
types_drop (suc n) [] = refl
types_drop (suc n) (v ∷ vs) = types_drop n vs

-- the part of these values that is kept
keep_follows : (total first count : ℕ) (cells : List Cell) (types : List Ty) → AreValues total cells types
    → Follows (option_map (λ (vs : List Value). with_values (take count (drop first vs)) (drop total cells)) (values_on total cells)) cells
    (record { pops = total; pushes = take count (drop first types) })
keep_follows total first count cells types a =
    subst (λ (ts : List Ty). Follows (option_map (λ (vs : List Value). with_values (take count (drop first vs)) (drop total cells)) (values_on total cells)) cells
    (record { pops = total; pushes = ts }))
    (types_take count (drop first a.values) ∙ ap (take count) (types_drop first a.values ∙ ap (drop first) a.types_are))
    (goes (take count (drop first a.values)) total cells _ (ap (option_map (λ (vs : List Value). with_values (take count (drop first vs)) (drop total cells))) a.are))

-- where a test is passed on both sides
if_follows : (b : Bool) (o : Option (List Cell)) (r : Option StackEffect) (cells : List Cell) (e : StackEffect) → (r ≡ Some e → Follows o cells e)
    → (if b then r else None) ≡ Some e → Follows (if b then o else None) cells e
if_follows true o r cells e f h = f h
if_follows false o r cells e f h = absurd cc

-- either way
either_follows : (b : Bool) (o p : Option (List Cell)) (r q : Option StackEffect) (cells : List Cell) (e : StackEffect)
    → (r ≡ Some e → Follows o cells e) → (q ≡ Some e → Follows p cells e)
    → (if b then r else q) ≡ Some e → Follows (if b then o else p) cells e
either_follows true o p r q cells e f g h = f h
either_follows false o p r q cells e f g h = g h

kept_part_follows : (total offset count : ℕ) (cells : List Cell) (e : StackEffect) → rules.kept_of total offset count (slots cells) ≡ Some e
    → Follows (values_kept total offset count cells) cells e
kept_part_follows total offset count cells e h = if_follows (nat_le (offset + count) total) _ _ cells e (λ h.
    let m = on_map (λ (types : List Ty). record { pops = total; pushes = take count (drop (total - (offset + count)) types) }) (types_on total (slots cells)) e h in
    at_effect _ cells _ e m.2 (keep_follows total (total - (offset + count)) count cells m.0 (typed total cells m.0 m.1))) h

-- a number on both sides
then_follows : {A : Type 0} (a : Option A) (f : A → Option (List Cell)) (r : A → Option StackEffect) (cells : List Cell) (e : StackEffect)
    → ((x : A) → r x ≡ Some e → Follows (f x) cells e) → option_and_then r a ≡ Some e → Follows (option_and_then f a) cells e
then_follows None f r cells e g h = absurd cc
then_follows (Some x) f r cells e g h = g x h

kept_follows : (total offset size : ℕ) (cells : List Cell) (e : StackEffect) → rules.kept total offset size (slots cells) ≡ Some e → Follows (range_kept total offset size cells) cells e
unfolding rules.kept
kept_follows total offset size cells e h =
    then_follows (cell_count total) _ _ cells e (λ t. then_follows (cell_count offset) _ _ cells e (λ o.
    then_follows (cell_count size) _ _ cells e (λ n. kept_part_follows t o n cells e))) h

-- ---- comparisons

-- values of equal types are compared
compare_follows : (answer : Bool → Bool) (upper lower : List Value) (n : ℕ) (cells : List Cell) (o : Option (List Cell)) → tys_eq (value_types upper) (value_types lower) ≡ true
    → o ≡ runs_eq answer upper lower (drop n cells) → Follows o cells (record { pops = n; pushes = IntTy ∷ [] })
compare_follows answer upper lower n cells o test is = goes (Int (as_int (answer (values_eq upper lower))) ∷ []) n cells o (is ∙ passes test)
  where
    passes : tys_eq (value_types upper) (value_types lower) ≡ true
        → runs_eq answer upper lower (drop n cells) ≡ Some (with_values (Int (as_int (answer (values_eq upper lower))) ∷ []) (drop n cells))
    passes h = rw h

runs_follow : (answer : Bool → Bool) (count : Option ℕ) (cells : List Cell) (e : StackEffect) → rules.runs count (slots cells) ≡ Some e
    → Follows (runs_compared answer count cells) cells e
runs_follow answer None cells e h = absurd cc
runs_follow answer (Some n) cells e h =
    let a = alike (types_on n (slots cells)) (types_on n (drop n (slots cells))) (record { pops = n + n; pushes = IntTy ∷ [] }) e h in
    let upper = typed n cells a.first a.first_is in
    let lower = typed n (drop n cells) a.second (sym (ap (types_on n) (slots_drop n cells)) ∙ a.second_is) in
    at_effect _ cells _ e a.effect (compare_follows answer upper.values lower.values (n + n) cells _
    (ap (λ (ts : List Ty). tys_eq ts (value_types lower.values)) upper.types_are ∙ ap (tys_eq a.first) lower.types_are ∙ a.test)
    (ap (option_and_then (λ (u : List Value). option_and_then (λ (l : List Value). runs_eq answer u l (drop (n + n) cells)) (values_on n (drop n cells)))) upper.are
    ∙ ap (option_and_then (λ (l : List Value). runs_eq answer upper.values l (drop (n + n) cells))) lower.are))

pub ty_self : (t : Ty) → ty_eq t t ≡ true
unfolding ty_eq
ty_self Void = refl
ty_self IntTy = refl
ty_self TextTy = refl
ty_self ObjectTy = refl
ty_self EffectTy = refl
ty_self EventTy = refl
ty_self Action = refl
ty_self (Struct n) = (Decides-eqb n n).1 refl
ty_self Refused = refl

tys_self : (ts : List Ty) → tys_eq ts ts ≡ true
unfolding tys_eq
tys_self [] = refl
tys_self (t ∷ ts) = rw (ty_self t) (tys_self ts)

same_tys : (ts us : List Ty) → ts ≡ us → tys_eq ts us ≡ true
same_tys ts us h = subst (λ (us : List Ty). tys_eq ts us ≡ true) h (tys_self ts)

pair_follows : (answer : Bool → Bool) (t : Ty) (cells : List Cell) (e : StackEffect) → rules.exchange (t ∷ t ∷ []) (IntTy ∷ []) (slots cells) ≡ Some e
    → Follows (pair_compared answer (Some t) cells) cells e
pair_follows answer t cells e h =
    let x = exchanged (t ∷ t ∷ []) (IntTy ∷ []) cells e h in
    let v = x.values in
    at_effect _ cells _ e x.effect (compare_follows answer (take 1 v.values) (drop 1 v.values) 2 cells _
    (same_tys _ _ (types_take 1 v.values ∙ ap (take 1) v.types_are ∙ sym (types_drop 1 v.values ∙ ap (drop 1) v.types_are)))
    (ap (option_and_then (λ (vs : List Value). pair_eq answer t vs (drop 2 cells))) v.are
    ∙ passes v.values (same_tys (value_types v.values) (t ∷ t ∷ []) v.types_are)))
  where
    passes : (vs : List Value) → tys_eq (value_types vs) (t ∷ t ∷ []) ≡ true → pair_eq answer t vs (drop 2 cells) ≡ runs_eq answer (take 1 vs) (drop 1 vs) (drop 2 cells)
    passes vs h = rw h

alike_follow : (answer : Bool → Bool) (type : Option Ty) (cells : List Cell) (e : StackEffect) → rules.two_alike type (slots cells) ≡ Some e
    → Follows (pair_compared answer type cells) cells e
alike_follow answer None cells e h = absurd cc
alike_follow answer (Some t) cells e h = pair_follows answer t cells e h

compared_follows : (answer : Bool → Bool) (kind size : ℕ) (cells : List Cell) (e : StackEffect) → rules.compared kind size (slots cells) ≡ Some e
    → Follows (compared answer kind size cells) cells e
unfolding rules.compared
compared_follows answer kind size cells e h = either_follows (kind == 0x24) _ _ _ _ cells e
    (runs_follow answer (cell_count size) cells e) (alike_follow answer (rules.type_of_both kind) cells e) h

-- ---- each instruction

reckoned_follows : (f : ℤ → ℤ → ℤ) (kind : ℕ) (cells : List Cell) (e : StackEffect) → rules.reckoned kind (slots cells) ≡ Some e → Follows (if_ints kind (of_ints f cells)) cells e
unfolding rules.reckoned
reckoned_follows f kind cells e h = if_follows (kind == 0x20) _ _ cells e (two_ints_follow f cells e) h

added_follows : (kind : ℕ) (cells : List Cell) (e : StackEffect) → rules.added kind (slots cells) ≡ Some e → Follows (added kind cells) cells e
unfolding rules.added
added_follows kind cells e h = either_follows (kind == 0x20) _ _ _ _ cells e (two_ints_follow sum cells e)
    (λ h. if_follows (kind == 0x23) _ _ cells e (two_texts_follow joined_texts cells e) h) h

negated_follows : (kind : ℕ) (cells : List Cell) (e : StackEffect) → rules.negated kind (slots cells) ≡ Some e
    → Follows (if kind == 0x03 then of_int opposite cells else None) cells e
unfolding rules.negated
negated_follows kind cells e h = if_follows (kind == 0x03) _ _ cells e (one_int_follows opposite cells e) h

nothing_follows : (cells : List Cell) (e : StackEffect) → Some rules.no_effect ≡ Some e → Follows (Some cells) cells e
nothing_follows cells e h = at_effect (Some cells) cells rules.no_effect e (some_is rules.no_effect e h) (record { after = cells; is = refl; outlines_are = refl })

effect_follows : (op : PlainOp) (self : ℕ) (s : StackView) (e : StackEffect) → s.bp ≤ length s.cells → rules.stack_effect op (slots_under s) (slots s.cells) ≡ Some e
    → Follows (cells_after op self s) s.cells e
unfolding rules.stack_effect cells_after
effect_follows (ops.CpDownSp offset size) self s e b h = written_follows (range_at offset size) s.cells e h
effect_follows (ops.RsAdd kind) self s e b h = pushed_follows (rules.type_of_one kind) (starting_value kind) s.cells e (start_pushed kind) h
effect_follows (ops.CpTopSp offset size) self s e b h = copied_follows (range_at offset size) s.cells e h
effect_follows (ops.Const lit) self s e b h = pushed_follows (rules.type_of_lit lit) (literal_value self lit) s.cells e (literal_pushed self lit) h
effect_follows (ops.Action routine count) self s e b h = absurd cc
effect_follows ops.LogAnd self s e b h = two_ints_follow both s.cells e h
effect_follows ops.LogOr self s e b h = two_ints_follow either s.cells e h
effect_follows ops.IncOr self s e b h = two_ints_follow bits_or s.cells e h
effect_follows ops.ExcOr self s e b h = two_ints_follow bits_xor s.cells e h
effect_follows ops.BoolAnd self s e b h = two_ints_follow bits_and s.cells e h
effect_follows (ops.Equal kind size) self s e b h = compared_follows (λ b. b) kind size s.cells e h
effect_follows (ops.Nequal kind size) self s e b h = compared_follows not kind size s.cells e h
effect_follows (ops.Geq kind) self s e b h = reckoned_follows greater_or_equal kind s.cells e h
effect_follows (ops.Gt kind) self s e b h = reckoned_follows greater kind s.cells e h
effect_follows (ops.Lt kind) self s e b h = reckoned_follows less kind s.cells e h
effect_follows (ops.Leq kind) self s e b h = reckoned_follows less_or_equal kind s.cells e h
effect_follows ops.ShLeft self s e b h = two_ints_follow shift_left s.cells e h
effect_follows ops.ShRight self s e b h = two_ints_follow shift_right s.cells e h
effect_follows ops.UshRight self s e b h = two_ints_follow shift_right_unsigned s.cells e h
effect_follows (ops.Add kind) self s e b h = added_follows kind s.cells e h
effect_follows (ops.Sub kind) self s e b h = reckoned_follows difference kind s.cells e h
effect_follows (ops.Mul kind) self s e b h = reckoned_follows product kind s.cells e h
effect_follows (ops.Div kind) self s e b h = reckoned_follows quotient kind s.cells e h
effect_follows ops.Mod self s e b h = two_ints_follow remainder s.cells e h
effect_follows (ops.Neg kind) self s e b h = negated_follows kind s.cells e h
effect_follows ops.Comp self s e b h = one_int_follows complement s.cells e h
effect_follows (ops.MovSp offset) self s e b h = removed_follows (depth_of offset) s.cells e h
effect_follows (ops.Jmp offset) self s e b h = nothing_follows s.cells e h
effect_follows (ops.Jsr offset) self s e b h = absurd cc
effect_follows (ops.Jz offset) self s e b h = int_drop_follows s.cells e h
effect_follows ops.Retn self s e b h = absurd cc
effect_follows (ops.Destruct total offset size) self s e b h = kept_follows total offset size s.cells e h
effect_follows ops.Not self s e b h = one_int_follows negation s.cells e h
effect_follows (ops.DecISp offset) self s e b h = counted_follows one_less (range_at offset 4) s.cells e h
effect_follows (ops.IncISp offset) self s e b h = counted_follows one_more (range_at offset 4) s.cells e h
effect_follows (ops.Jnz offset) self s e b h = int_drop_follows s.cells e h
effect_follows (ops.CpDownBp offset size) self s e b h = written_under_follows (range_at offset size) s e b h
effect_follows (ops.CpTopBp offset size) self s e b h = copied_under_follows (range_at offset size) s e b h
effect_follows (ops.DecIBp offset) self s e b h = counted_under_follows one_less (range_at offset 4) s e b h
effect_follows (ops.IncIBp offset) self s e b h = counted_under_follows one_more (range_at offset 4) s e b h
effect_follows ops.SaveBp self s e b h = absurd cc
effect_follows ops.RestoreBp self s e b h = absurd cc
effect_follows (ops.StoreState globals locals) self s e b h = absurd cc
effect_follows ops.Nop self s e b h = nothing_follows s.cells e h

pub effects_are_followed : EffectsAreFollowed
effects_are_followed op self s e b h = let f = effect_follows op self s e b h in record { cells = f.after; are = f.is; outlines = f.outlines_are }
