-- Values on cells: what copies, writes and removals find there.
use Rattle.std.proofs.Common.{arith, ◌≡◌, ◌≤◌, ◌+◌, ◌-◌, ◌⊎◌, inl, inr, ℕ, List, [], ◌∷◌, ◌++◌, length, map, take, drop, reverse, Some, true, sym, ◌∙◌, ap, refl, append_assoc}
use Rattle.std.specs.Option.{option_map}
use Rattle.std.proofs.lemmas.List.{reverse-append, length-reverse, length-append, map-append, take-append-drop, length-take-le, length-map, take_at, drop_at, drop-drop}
use Rattle.nwq_value.specs.declared.value.Value.{Value}
use Rattle.nwq_value.specs.Values.{type_of}
use Rattle.nwq_value.specs.Roles.{tys_eq}
use Rattle.saved_state.specs.declared.cell.Cell.{Cell}
use Rattle.saved_state.specs.declared.cell.Cell.TheVariants.{Value as Holds, Base}
use Rattle.machine_rules.specs.Cells.{values_on, values_at, value_types, with_values, overwritten, range_pushed, range_written}
use Rattle.source_meaning.specs.Values.{parts_of}
use Rattle.source_laws.specs.Kept.{pushed, Stands, AreHeld}
use Rattle.source_laws.specs.RangeLemmas.{tys_same}

-- ---- lists

-- two ways of parting a list
pub record Parted {A : Type 0} (a b c d : List A) : Type 0 where
  pub between : List A
  pub right : d ≡ between ++ b
  pub left : a ≡ c ++ between

pub parted : {A : Type 0} (a b c d : List A) → a ++ b ≡ c ++ d → length b ≤ length d → Parted a b c d
parted a b [] d h less = record { between = a; right = sym h; left = refl }
parted [] b (x ∷ c) d h less = let e = ap length h in let s = length-append c d in absurd (omega (arith, e, s))
parted (y ∷ a) b (x ∷ c) d h less =
    let tails : a ++ b ≡ c ++ d = cc in
    let heads : y ≡ x = cc in
    let p = parted a b c d tails less in
    record { between = p.between; right = p.right; left = ap (λ t. y ∷ t) p.left ∙ ap (λ z. z ∷ (c ++ p.between)) heads }

-- ---- pushes

pub pushed_append : (u v : List Value) (cells : List Cell) → pushed (u ++ v) cells ≡ pushed v (pushed u cells)
pushed_append u v cells =
    ap (λ t. map Holds t ++ cells) (reverse-append u v)
    ∙ ap (λ t. t ++ cells) (map-append Holds (reverse v) (reverse u))
    ∙ append_assoc (map Holds (reverse v)) (map Holds (reverse u)) cells

pub pushed_over : (v : List Value) (cells more : List Cell) → pushed v cells ++ more ≡ pushed v (cells ++ more)
pushed_over v cells more = append_assoc (map Holds (reverse v)) cells more

pub pushed_alone : (v : List Value) (cells : List Cell) → pushed v cells ≡ pushed v [] ++ cells
pushed_alone v cells = sym (append_assoc (map Holds (reverse v)) [] cells)

pub holds_length : (v : List Value) → length (map Holds v) ≡ length v
holds_length v = length-map v Holds

pub pushed_length : (v : List Value) (cells : List Cell) → length (pushed v cells) ≡ length v + length cells
pushed_length v cells = length-append (map Holds (reverse v)) cells ∙ ap (λ n. n + length cells) (holds_length (reverse v) ∙ length-reverse v)

-- ---- values on top

pub values_there : (v : List Value) (cells : List Cell) → values_on (length v) (with_values v cells) ≡ Some v
values_there [] cells = refl
values_there (w ∷ v) cells = ap (option_map (λ vs. w ∷ vs)) (values_there v cells)

pub values_pushed : (v : List Value) (cells : List Cell) → values_on (length v) (pushed v cells) ≡ Some (reverse v)
values_pushed v cells = ap (λ n. values_on n (pushed v cells)) (sym (length-reverse v)) ∙ values_there (reverse v) cells

pub dropped_pushed : (v : List Value) (cells : List Cell) → drop (length v) (pushed v cells) ≡ cells
dropped_pushed v cells = drop_at (map Holds (reverse v)) cells (length v) (holds_length (reverse v) ∙ length-reverse v)

-- ---- ranges

-- ---- copies

pub values_in : (over : List Cell) (v : List Value) (under : List Cell) (above count : ℕ) → length over ≡ above → length v ≡ count
    → values_at (record { above = above; count = count }) (over ++ pushed v under) ≡ Some (reverse v)
values_in over v under above count h k =
    ap (values_on count) (drop_at over (pushed v under) above h)
    ∙ ap (λ n. values_on n (pushed v under)) (sym k)
    ∙ values_pushed v under

pub copied : (cells over : List Cell) (v : List Value) (under : List Cell) (above count : ℕ) → cells ≡ over ++ pushed v under → length over ≡ above → length v ≡ count
    → range_pushed (Some (record { above = above; count = count })) cells ≡ Some (pushed v cells)
copied cells over v under above count e h k =
    ap (option_map (λ vs. with_values vs cells)) (ap (values_at (record { above = above; count = count })) e ∙ values_in over v under above count h k)

-- ---- writes

map_reverse : {A B : Type 0} (f : A → B) (xs : List A) → map f (reverse xs) ≡ reverse (map f xs)
map_reverse f [] = refl
map_reverse f (x ∷ xs) =
    ap (map f) (reverse-append (x ∷ []) xs)
    ∙ map-append f (reverse xs) (x ∷ [])
    ∙ ap (λ t. t ++ f x ∷ []) (map_reverse f xs)
    ∙ sym (reverse-append (f x ∷ []) (map f xs))

pub types_reversed : (v : List Value) → value_types (reverse v) ≡ reverse (value_types v)
types_reversed v = map_reverse type_of v

pub types_alike : (v w : List Value) → value_types v ≡ value_types w → tys_eq (value_types (reverse v)) (value_types (reverse w)) ≡ true
types_alike v w e =
    ap (λ t. tys_eq t (value_types (reverse w))) (types_reversed v ∙ ap reverse e ∙ sym (types_reversed w))
    ∙ tys_same (value_types (reverse w))

pub types_count : (v w : List Value) → value_types v ≡ value_types w → length v ≡ length w
types_count v w e = sym (length-map v type_of) ∙ ap length e ∙ length-map w type_of

pub put_there : (over : List Cell) (new old : List Value) (under : List Cell) → length new ≡ length old
    → overwritten (length over) (reverse new) (over ++ pushed old under) ≡ over ++ pushed new under
put_there over new old under same =
    let front = take_at over (pushed old under) (length over) refl in
    let news = length-reverse new in
    let size : length over + length (reverse new) ≡ length over + length old = omega (arith, news, same) in
    let back : drop (length over + length (reverse new)) (over ++ pushed old under) ≡ under =
    ap (λ n. drop n (over ++ pushed old under)) size
    ∙ sym (drop-drop (length old) (length over) (over ++ pushed old under))
    ∙ ap (drop (length old)) (drop_at over (pushed old under) (length over) refl)
    ∙ dropped_pushed old under in
    ap (λ t. t ++ with_values (reverse new) (drop (length over + length (reverse new)) (over ++ pushed old under))) front
    ∙ ap (λ t. over ++ with_values (reverse new) t) back

-- the value on top is written onto one of equal types
pub written : (cells over : List Cell) (new old : List Value) (under top : List Cell) (above count : ℕ)
    → cells ≡ over ++ pushed old under → cells ≡ pushed new top → length over ≡ above → length new ≡ count → value_types new ≡ value_types old
    → range_written (Some (record { above = above; count = count })) cells ≡ Some (over ++ pushed new under)
written cells over new old under top above count e f h k types =
    let same = types_count new old types in
    let news : values_on count cells ≡ Some (reverse new) = ap (values_on count) f ∙ ap (λ n. values_on n (pushed new top)) (sym k) ∙ values_pushed new top in
    let olds : values_at (record { above = above; count = count }) cells ≡ Some (reverse old) =
    ap (values_at (record { above = above; count = count })) e ∙ values_in over old under above count h (sym same ∙ k) in
    let put : overwritten above (reverse new) cells ≡ over ++ pushed new under =
    ap (λ n. overwritten n (reverse new) cells) (sym h) ∙ ap (overwritten (length over) (reverse new)) e ∙ put_there over new old under same in
    rw (news, olds, types_alike new old types, put) refl

-- ---- what stands where

parts_split : (b c : ℕ) (v : List Value) → v ≡ take b v ++ (parts_of b c v ++ drop c (drop b v))
parts_split b c v = sym (take-append-drop b v) ∙ ap (λ t. take b v ++ t) (sym (take-append-drop c (drop b v)))

-- parts of a value stand over the parts before them
pub part_is : (cells : List Cell) (place : ℕ) (v : List Value) (b c : ℕ) (s : Stands cells place v)
    → cells ≡ (s.above ++ pushed (drop c (drop b v)) []) ++ pushed (parts_of b c v) (pushed (take b v) s.below)
part_is cells place v b c s =
    let front = take b v in
    let part = parts_of b c v in
    let rest = drop c (drop b v) in
    s.is
    ∙ ap (λ t. s.above ++ pushed t s.below) (parts_split b c v)
    ∙ ap (λ t. s.above ++ t) (pushed_append front (part ++ rest) s.below ∙ pushed_append part rest (pushed front s.below) ∙ pushed_alone rest (pushed part (pushed front s.below)))
    ∙ sym (append_assoc s.above (pushed rest []) (pushed part (pushed front s.below)))

pub part_at : (cells : List Cell) (place : ℕ) (v : List Value) (b : ℕ) → b ≤ length v → (s : Stands cells place v) → length (pushed (take b v) s.below) ≡ place + b
part_at cells place v b h s = let n = pushed_length (take b v) s.below in let m = length-take-le b v h in let a = s.at in omega (arith, n, m, a)

pub part_stands : (cells : List Cell) (place : ℕ) (v : List Value) (b c : ℕ) → b ≤ length v → Stands cells place v → Stands cells (place + b) (parts_of b c v)
part_stands cells place v b c h s = record {
  above = s.above ++ pushed (drop c (drop b v)) [];
  below = pushed (take b v) s.below;
  is = part_is cells place v b c s;
  at = part_at cells place v b h s;
}

-- what stands over other cells
pub stands_over : (cells more : List Cell) (place : ℕ) (v : List Value) → Stands cells place v → Stands (more ++ cells) place v
stands_over cells more place v s = record {
  above = more ++ s.above;
  below = s.below;
  is = ap (λ t. more ++ t) s.is ∙ sym (append_assoc more s.above (pushed v s.below));
  at = s.at;
}

-- and with other cells beneath
pub stands_under : (cells more : List Cell) (place : ℕ) (v : List Value) → Stands cells place v → Stands (cells ++ more) (length more + place) v
stands_under cells more place v s = record {
  above = s.above;
  below = s.below ++ more;
  is = ap (λ t. t ++ more) s.is ∙ append_assoc s.above (pushed v s.below) more ∙ ap (λ t. s.above ++ t) (pushed_over v s.below more);
  at = let n = length-append s.below more in let a = s.at in omega (arith, n, a);
}

pub stands_length : (cells : List Cell) (place : ℕ) (v : List Value) (s : Stands cells place v) → length cells ≡ length s.above + (length v + place)
stands_length cells place v s =
    let a = ap length s.is in let b = length-append s.above (pushed v s.below) in let c = pushed_length v s.below in let d = s.at in omega (arith, a, b, c, d)

-- another value that has no cell in common with a written range stands as it did
pub others_stand : (above : List Cell) (new old : List Value) (below : List Cell) (place : ℕ) (v : List Value) → length new ≡ length old
    → (place + length v ≤ length below) ⊎ (length below + length old ≤ place) → Stands (above ++ pushed old below) place v → Stands (above ++ pushed new below) place v
others_stand above new old below place v same (inl less) s =
    let whole : s.above ++ pushed v s.below ≡ (above ++ pushed old []) ++ below = sym s.is ∙ ap (λ t. above ++ t) (pushed_alone old below) ∙ sym (append_assoc above (pushed old []) below) in
    let size = pushed_length v s.below in
    let a = s.at in
    let p = parted s.above (pushed v s.below) (above ++ pushed old []) below whole (omega (arith, size, a)) in
    record {
      above = above ++ pushed new p.between;
      below = s.below;
      is = ap (λ t. above ++ pushed new t) p.right ∙ ap (λ t. above ++ t) (sym (pushed_over new p.between (pushed v s.below)))
          ∙ sym (append_assoc above (pushed new p.between) (pushed v s.below));
      at = s.at;
    }
others_stand above new old below place v same (inr more) s =
    let whole : above ++ pushed old below ≡ (s.above ++ pushed v []) ++ s.below = s.is ∙ ap (λ t. s.above ++ t) (pushed_alone v s.below) ∙ sym (append_assoc s.above (pushed v []) s.below) in
    let size = pushed_length old below in
    let a = s.at in
    let p = parted above (pushed old below) (s.above ++ pushed v []) s.below whole (omega (arith, size, a)) in
    let deep = ap length p.right in
    let sum = length-append p.between (pushed old below) in
    let news = pushed_length new below in
    record {
      above = s.above;
      below = p.between ++ pushed new below;
      is = ap (λ t. t ++ pushed new below) p.left
          ∙ append_assoc (s.above ++ pushed v []) p.between (pushed new below)
          ∙ append_assoc s.above (pushed v []) (p.between ++ pushed new below)
          ∙ ap (λ t. s.above ++ t) (sym (pushed_alone v (p.between ++ pushed new below)));
      at = length-append p.between (pushed new below) ∙ omega (arith, deep, sum, news, size, a, same);
    }

-- ---- cells that hold values

pub held_over : (a b : List Cell) → AreHeld a → AreHeld b → AreHeld (a ++ b)
held_over [] b h k = k
held_over (c ∷ a) b h k = (h.0, held_over a b h.1 k)

pub held_parts : (a b : List Cell) → AreHeld (a ++ b) → AreHeld a × AreHeld b
held_parts [] b h = (tt, h)
held_parts (c ∷ a) b h = let p = held_parts a b h.1 in ((h.0, p.0), p.1)

values_held : (v : List Value) → AreHeld (map Holds v)
values_held [] = tt
values_held (w ∷ v) = (tt, values_held v)

pub held_pushed : (v : List Value) (cells : List Cell) → AreHeld cells → AreHeld (pushed v cells)
held_pushed v cells h = held_over (map Holds (reverse v)) cells (values_held (reverse v)) h

pub held_put : (above below : List Cell) (new old : List Value) → AreHeld (above ++ pushed old below) → AreHeld (above ++ pushed new below)
held_put above below new old h =
    let p = held_parts above (pushed old below) h in
    let q = held_parts (map Holds (reverse old)) below p.1 in
    held_over above (pushed new below) p.0 (held_pushed new below q.1)

-- so many values lie on top where these cells do
pub held_values : (cells rest : List Cell) → AreHeld cells → (v : List Value) × (values_on (length cells) (cells ++ rest) ≡ Some v)
held_values [] rest h = ([], refl)
held_values (Holds w ∷ cells) rest h = let v = held_values cells rest h.1 in (w ∷ v.0, ap (option_map (λ vs. w ∷ vs)) v.1)
held_values (Base bp ∷ cells) rest h = absurd h.0
