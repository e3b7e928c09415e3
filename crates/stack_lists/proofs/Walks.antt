-- Walks down lists of slots.
use Rattle.std.proofs.Common.{arith, ◌≡◌, ◌≤◌, ◌<◌, ◌+◌, ◌-◌, ℕ, zero, suc, List, [], ◌∷◌, ◌++◌, length, map, take, drop, get_or, Option, None, Some, sym, subst, ◌∙◌, ap, refl}
use Rattle.std.specs.Option.{option_map}
use Rattle.std.proofs.lemmas.List.{append_assoc, append-nil, length-append, length-map, take-append-drop}
use Rattle.nwq_value.specs.declared.value.Ty.{Ty}
use Rattle.stack_shape.specs.declared.shape.Slot.{Slot}
use Rattle.stack_shape.specs.declared.shape.Slot.TheVariants.{Of, Base}
use Rattle.stack_shape.specs.TopFirst.{types_on}
use Rattle.stack_lists.specs.declared.lists.Node.{Node}
use Rattle.stack_lists.specs.Shared.{read, Grows}
use Rattle.stack_lists.specs.Growth.{grows_none, grows_then}

-- ---- growing

-- ---- types

pub record TypesSoFar (slots rest : List Slot) (count left : ℕ) (types : List Ty) : Type 0 where
  pub size : length types + left ≡ count
  pub gives : types_on count slots ≡ option_map (λ more. types ++ more) (types_on left rest)

map_none : (o : Option (List Ty)) → o ≡ option_map (λ more. [] ++ more) o
map_none None = refl
map_none (Some types) = refl

pub types_begin : (slots : List Slot) (count : ℕ) → TypesSoFar slots slots count count []
types_begin slots count = record { size = omega arith; gives = map_none (types_on count slots) }

joined : (types : List Ty) (t : Ty) (o : Option (List Ty))
    → option_map (λ more. types ++ more) (option_map (λ more. t ∷ more) o) ≡ option_map (λ more. (types ++ t ∷ []) ++ more) o
joined types t None = refl
joined types t (Some more) = ap Some (sym (append_assoc types (t ∷ []) more))

pub types_step : (slots rest below : List Slot) (count left next : ℕ) (types after : List Ty) (t : Ty) → TypesSoFar slots rest count left types
    → rest ≡ Of t ∷ below → 0 < left → next ≡ left - 1 → after ≡ types ++ t ∷ [] → TypesSoFar slots below count next after
types_step slots rest below count zero next types after t h e p n a = absurd (omega (arith, p))
types_step slots rest below count (suc left) next types after t h e p n a = subst (λ z. TypesSoFar slots below count next z) (sym a) (record {
  size = omega (arith, h.size, n, length-append types (t ∷ []));
  gives = h.gives ∙ ap (λ r. option_map (λ more. types ++ more) (types_on (suc left) r)) e ∙ joined types t (types_on left below)
      ∙ ap (λ k. option_map (λ more. (types ++ t ∷ []) ++ more) (types_on k below)) (let f : left ≡ next = omega (arith, n) in f);
})

pub types_base : (slots rest below : List Slot) (count left : ℕ) (types : List Ty) → TypesSoFar slots rest count left types
    → rest ≡ Base ∷ below → 0 < left → None ≡ types_on count slots
types_base slots rest below count zero types h e p = absurd (omega (arith, p))
types_base slots rest below count (suc left) types h e p = sym (h.gives ∙ ap (λ r. option_map (λ more. types ++ more) (types_on (suc left) r)) e)

pub types_end : (slots rest : List Slot) (count left : ℕ) (types : List Ty) → TypesSoFar slots rest count left types
    → rest ≡ [] → 0 < left → None ≡ types_on count slots
types_end slots rest count zero types h e p = absurd (omega (arith, p))
types_end slots rest count (suc left) types h e p = sym (h.gives ∙ ap (λ r. option_map (λ more. types ++ more) (types_on (suc left) r)) e)

pub types_done : (slots rest : List Slot) (count left : ℕ) (types : List Ty) → TypesSoFar slots rest count left types
    → left ≤ 0 → Some types ≡ types_on count slots
types_done slots rest count zero types h e = sym (h.gives ∙ ap Some (append-nil types))
types_done slots rest count (suc left) types h e = absurd (omega (arith, e))

pub types_size : (slots rest : List Slot) (count left : ℕ) (types : List Ty) → TypesSoFar slots rest count left types
    → left ≤ 0 → length types ≡ count
types_size slots rest count left types h e = omega (arith, h.size, e)

pub ruleset typing = (types_begin, types_step, types_base, types_end, types_done, types_size)

-- ---- equality

pub record SameSoFar {A : Type 0} (a b x y : List A) : Type 0 where
  pub forth : x ≡ y → a ≡ b
  pub back : a ≡ b → x ≡ y

pub same_begin : {A : Type 0} (a b : List A) → SameSoFar a b a b
same_begin a b = record { forth = λ h. h; back = λ h. h }

tail_is : {A : Type 0} (s : A) (x y : List A) → (Rattle.std.proofs.Common.◌∷◌ s x) ≡ s ∷ y → x ≡ y
tail_is s x y h = cc

pub same_step : {A : Type 0} (a b x y u v : List A) (s t : A) → SameSoFar a b x y → x ≡ s ∷ u → y ≡ t ∷ v → s ≡ t → SameSoFar a b u v
same_step a b x y u v s t h e f st = record {
  forth = λ i. h.forth (e ∙ ap (λ s. s ∷ u) st ∙ ap (λ z. t ∷ z) i ∙ sym f);
  back = λ i. tail_is t u v (ap (λ s. s ∷ u) (sym st) ∙ sym e ∙ h.back i ∙ f);
}

pub same_at : {A : Type 0} (a b x y : List A) → SameSoFar a b x y → x ≡ y → a ≡ b
same_at a b x y h e = h.forth e

pub same_ends : {A : Type 0} (a b x y : List A) → SameSoFar a b x y → x ≡ [] → y ≡ [] → a ≡ b
same_ends a b x y h e f = h.forth (e ∙ sym f)

pub differ_heads : {A : Type 0} (a b x y u v : List A) (s t : A) → SameSoFar a b x y → x ≡ s ∷ u → y ≡ t ∷ v → (s ≡ t → ⊥) → a ≡ b → ⊥
differ_heads {A = A} a b x y u v s t h e f ne i = ne (heads s t u v (sym e ∙ h.back i ∙ f))
  where
    heads : (s t : A) (u v : List A) → (Rattle.std.proofs.Common.◌∷◌ s u) ≡ t ∷ v → s ≡ t
    heads s t u v h = cc

pub differ_first : {A : Type 0} (a b x y v : List A) (t : A) → SameSoFar a b x y → x ≡ [] → y ≡ t ∷ v → a ≡ b → ⊥
differ_first {A = A} a b x y v t h e f i = ends (sym e ∙ h.back i ∙ f)
  where
    ends : [] ≡ t ∷ v → ⊥
    ends h = absurd cc

pub differ_second : {A : Type 0} (a b x y u : List A) (s : A) → SameSoFar a b x y → x ≡ s ∷ u → y ≡ [] → a ≡ b → ⊥
differ_second {A = A} a b x y u s h e f i = ends (sym f ∙ sym (h.back i) ∙ e)
  where
    ends : [] ≡ s ∷ u → ⊥
    ends h = absurd cc

pub map_top : (nodes : List (Node Slot)) (ns below : List ℕ) (n : ℕ) → ns ≡ n ∷ below → map (read nodes) ns ≡ read nodes n ∷ map (read nodes) below
map_top nodes ns below n e = ap (map (read nodes)) e

pub map_end : (nodes : List (Node Slot)) (ns : List ℕ) → ns ≡ [] → map (read nodes) ns ≡ []
map_end nodes ns e = ap (map (read nodes)) e

pub ruleset comparing = (same_begin, same_step, same_at, same_ends, differ_heads, differ_first, differ_second, map_top, map_end)

-- ---- slots put on a list, the last first

pub record PutSoFar {A : Type 0} (slots : List A) (first after : List (Node A)) (number at i : ℕ) : Type 0 where
  pub grows : Grows first after
  pub inside : at ≤ length after
  pub reads : read after at ≡ drop i slots ++ read first number
  pub within : i ≤ length slots

drop_last : {A : Type 0} (xs : List A) → drop (length xs) xs ≡ []
drop_last [] = refl
drop_last (x ∷ xs) = drop_last xs

pub put_begin : {A : Type 0} (slots : List A) (nodes : List (Node A)) (number : ℕ) → number ≤ length nodes
    → PutSoFar slots nodes nodes number number (length slots)
put_begin slots nodes number h =
    record { grows = grows_none nodes; inside = h; reads = ap (λ z. z ++ read nodes number) (sym (drop_last slots)); within = omega arith }

drop_next : {A : Type 0} (xs : List A) (k : ℕ) (x : A) → k < length xs → x ≡ get_or xs k x → drop k xs ≡ x ∷ drop (suc k) xs
drop_next [] k x h e = absurd (omega (arith, h))
drop_next (y ∷ xs) zero x h e = ap (λ z. z ∷ xs) (sym e)
drop_next (y ∷ xs) (suc k) x h e = drop_next xs k x (omega (arith, h)) e

pub put_step : {A : Type 0} (slots : List A) (first after more : List (Node A)) (number at on i next : ℕ) (slot : A)
    → PutSoFar slots first after number at i → 0 < i → next ≡ i - 1 → slot ≡ get_or slots next slot
    → Grows after more → on ≤ length more → read more on ≡ slot ∷ read after at → PutSoFar slots first more number on next
put_step slots first after more number at on zero next slot h p n e g in_ r = absurd (omega (arith, p))
put_step slots first after more number at on (suc i) next slot h p n e g in_ r = record {
  grows = grows_then first after more h.grows g;
  inside = in_;
  reads = r ∙ ap (λ z. slot ∷ z) h.reads ∙ ap (λ z. z ++ read first number) (sym (ap (λ k. drop k slots) (same next i n)
      ∙ drop_next slots i slot (omega (arith, h.within)) (subst (λ k. slot ≡ get_or slots k slot) (same next i n) e)));
  within = omega (arith, h.within, n);
}
  where
    same : (next i : ℕ) → next ≡ suc i - 1 → next ≡ i
    same next i n = omega (arith, n)

pub put_done : {A : Type 0} (slots : List A) (first after : List (Node A)) (number at i : ℕ) → PutSoFar slots first after number at i → i ≤ 0
    → read after at ≡ slots ++ read first number
put_done slots first after number at zero h e = h.reads
put_done slots first after number at (suc i) h e = absurd (omega (arith, e))

get_map : (types : List Ty) (k : ℕ) (t : Ty) → t ≡ get_or types k t → Of t ≡ get_or (map Of types) k (Of t)
get_map [] k t e = refl
get_map (u ∷ types) zero t e = ap Of e
get_map (u ∷ types) (suc k) t e = get_map types k t e

pub put_type : (types : List Ty) (first after more : List (Node Slot)) (number at on i next : ℕ) (t : Ty)
    → PutSoFar (map Of types) first after number at i → 0 < i → next ≡ i - 1 → t ≡ get_or types next t
    → Grows after more → on ≤ length more → read more on ≡ Of t ∷ read after at → PutSoFar (map Of types) first more number on next
put_type types first after more number at on i next t h p n e g in_ r =
    put_step (map Of types) first after more number at on i next (Of t) h p n (get_map types next t e) g in_ r

pub put_types_begin : (types : List Ty) (nodes : List (Node Slot)) (number : ℕ) → number ≤ length nodes
    → PutSoFar (map Of types) nodes nodes number number (length types)
put_types_begin types nodes number h =
    subst (λ n. PutSoFar (map Of types) nodes nodes number number n) (length-map types Of) (put_begin (map Of types) nodes number h)

pub ruleset putting = (put_begin, put_step, put_done, put_type, put_types_begin)

-- ---- the topmost slots of a list

pub list_step : (slots after all rest below : List Slot) (slot : Slot) (left next : ℕ) → slots ++ take left rest ≡ all → rest ≡ slot ∷ below → 0 < left
    → next ≡ left - 1 → after ≡ slots ++ slot ∷ [] → after ++ take next below ≡ all
list_step slots after all rest below slot zero next h e p n a = absurd (omega (arith, p))
list_step slots after all rest below slot (suc left) next h e p n a =
    ap (λ z. z ++ take next below) a ∙ append_assoc slots (slot ∷ []) (take next below)
    ∙ ap (λ z. slots ++ z) (ap (λ k. slot ∷ take k below) (let f : next ≡ left = omega (arith, n) in f) ∙ ap (take (suc left)) (sym e)) ∙ h

take_nil : (n : ℕ) (xs : List Slot) → xs ≡ [] → take n xs ≡ []
take_nil zero xs e = refl
take_nil (suc n) [] e = refl
take_nil (suc n) (x ∷ xs) e = absurd cc

pub list_end : (slots all rest : List Slot) (left : ℕ) → slots ++ take left rest ≡ all → rest ≡ [] → slots ≡ all
list_end slots all rest left h e = sym (append-nil slots) ∙ ap (λ z. slots ++ z) (sym (take_nil left rest e)) ∙ h

pub list_done : (slots all rest : List Slot) (left : ℕ) → slots ++ take left rest ≡ all → left ≤ 0 → slots ≡ all
list_done slots all rest zero h e = sym (append-nil slots) ∙ h
list_done slots all rest (suc left) h e = absurd (omega (arith, e))

pub ruleset listing = (list_step, list_end, list_done)

pub join_whole : (nodes : List (Node Slot)) (upper count lower rest : ℕ) → read nodes rest ≡ drop count (read nodes upper) → rest ≡ lower
    → read nodes upper ≡ take count (read nodes upper) ++ read nodes lower
join_whole nodes upper count lower rest h e =
    sym (take-append-drop count (read nodes upper)) ∙ ap (λ z. take count (read nodes upper) ++ z) (sym h ∙ ap (read nodes) e)

pub ruleset joining = (grows_none, join_whole)
