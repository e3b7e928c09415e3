-- Variables that stand on cells, and what a write makes of them.
use Rattle.std.proofs.Common.{arith, ◌≡◌, ◌≤◌, ◌<◌, ◌+◌, ◌-◌, ◌⊎◌, inl, inr, ℕ, zero, suc, List, [], ◌∷◌, ◌++◌, length, map, take, drop, Some, Bool, true, false, sym, subst, ◌∙◌, ap, refl}
use Rattle.std.proofs.Common.{append_assoc}
use Rattle.std.specs.Prelude.{◌==◌, if◌then◌else◌}
use Rattle.std.specs.Option.{option_map}
use Rattle.std.proofs.lemmas.Bool.Decides.{Decides-eqb}
use Rattle.std.proofs.lemmas.List.{length-map, length-take-le, length-drop, take-append-drop, take-take, take_all, drop-take, drop-drop, map-append}
use Rattle.nwq_value.specs.declared.value.Ty.{Ty}
use Rattle.nwq_value.specs.declared.value.Value.{Value}
use Rattle.nwq_value.specs.Values.{type_of as type_of_value}
use Rattle.nwq_value.specs.Engine.{EngineTable}
use Rattle.typing_rules.specs.declared.places.Place.TheVariants.{Local, Global, Const as IsConst}
use Rattle.typing_rules.specs.Typed.{TypedExpr, literal, name, call, member, prefix, postfix, binary, assign, type_of, is_place}
use Rattle.typing_rules.specs.Cells.{cell_types}
use Rattle.saved_state.specs.declared.cell.Cell.{Cell}
use Rattle.emission_rules.specs.Layout.{position}
use Rattle.emission_rules.specs.Expressions.{Home, InFrame, InGlobals, moved, home}
use Rattle.machine_rules.specs.Cells.{value_types}
use Rattle.source_meaning.specs.Values.{parts_of, with_parts}
use Rattle.source_meaning.specs.Evaluation.{Variables, with_variable}
use Rattle.source_meaning.specs.Spots.{Spot, OfLocal, OfGlobal, further, spot}
use Rattle.source_meaning.specs.Scripts.{Function}
use Rattle.source_laws.specs.Kept.{pushed, Stands, Site, In, part_types, Vars}
use Rattle.source_laws.specs.Fine.{AreParts, IsFine}
use Rattle.source_laws.proofs.Cells.{pushed_append, pushed_alone, part_stands, part_is, part_at, others_stand}

-- ---- parts of parts

-- the first ones, where a list is as long as they say
pub all_parts : (all : List Ty) → 0 < length all → AreParts all 0 all
all_parts all h = record { are = take_all (length all) all (omega arith); inside = omega arith; some = h }

pub parts_further : (all : List Ty) (b : ℕ) (parts : List Ty) (c : ℕ) (inner : List Ty) → AreParts all b parts → AreParts parts c inner → AreParts all (b + c) inner
parts_further all b parts c inner p q =
    let inside = q.inside in
    let outside = p.inside in
    let rest = length parts - c in
    let whole : length parts ≡ c + rest = omega arith in
    let few : length inner ≤ rest = omega arith in
    record {
      are = ap (take (length inner)) (sym (drop-drop c b all))
          ∙ sym (take-take (length inner) rest (drop c (drop b all)) few)
          ∙ ap (take (length inner)) (sym (drop-take c rest (drop b all)) ∙ ap (λ n. drop c (take n (drop b all))) (sym whole) ∙ ap (drop c) p.are)
          ∙ q.are;
      inside = omega arith;
      some = q.some;
    }

map_take : {A B : Type 0} (f : A → B) (n : ℕ) (xs : List A) → map f (take n xs) ≡ take n (map f xs)
map_take f zero xs = refl
map_take f (suc n) [] = refl
map_take f (suc n) (x ∷ xs) = ap (λ t. f x ∷ t) (map_take f n xs)

map_drop : {A B : Type 0} (f : A → B) (n : ℕ) (xs : List A) → map f (drop n xs) ≡ drop n (map f xs)
map_drop f zero xs = refl
map_drop f (suc n) [] = refl
map_drop f (suc n) (x ∷ xs) = map_drop f n xs

-- the parts of a value have the types of those parts
pub part_types_are : (all : List Ty) (b : ℕ) (parts : List Ty) (v : List Value) → AreParts all b parts → value_types v ≡ all → value_types (parts_of b (length parts) v) ≡ parts
part_types_are all b parts v p h =
    map_take type_of_value (length parts) (drop b v) ∙ ap (take (length parts)) (map_drop type_of_value b v ∙ ap (drop b) h) ∙ p.are

-- ---- a value with other parts

put_stands : (cells : List Cell) (place : ℕ) (v : List Value) (b : ℕ) (new : List Value) (h : b ≤ length v) (s : Stands cells place v)
    → Stands ((s.above ++ pushed (drop (length new) (drop b v)) []) ++ pushed new (pushed (take b v) s.below)) place (with_parts b new v)
put_stands cells place v b new h s =
    let front = take b v in
    let rest = drop (length new) (drop b v) in
    let back : rest ≡ drop (b + length new) v = drop-drop (length new) b v in
    record {
      above = s.above;
      below = s.below;
      is = append_assoc s.above (pushed rest []) (pushed new (pushed front s.below))
          ∙ ap (λ t. s.above ++ t) (
          sym (pushed_alone rest (pushed new (pushed front s.below)))
          ∙ sym (pushed_append new rest (pushed front s.below))
          ∙ sym (pushed_append front (new ++ rest) s.below)
          ∙ ap (λ t. pushed (front ++ (new ++ t)) s.below) back);
      at = s.at;
    }

map_put : (b : ℕ) (new v : List Value) (h : b + length new ≤ length v) → value_types new ≡ value_types (parts_of b (length new) v) → value_types (with_parts b new v) ≡ value_types v
map_put b new v h e =
    let back = drop-drop (length new) b v in
    map-append type_of_value (take b v) (new ++ drop (b + length new) v)
    ∙ ap (λ t. value_types (take b v) ++ t) (
    map-append type_of_value new (drop (b + length new) v)
    ∙ ap (λ t. t ++ value_types (drop (b + length new) v)) e
    ∙ ap (λ t. value_types (parts_of b (length new) v) ++ value_types t) (sym back)
    ∙ sym (map-append type_of_value (parts_of b (length new) v) (drop (length new) (drop b v)))
    ∙ ap value_types (take-append-drop (length new) (drop b v)))
    ∙ sym (map-append type_of_value (take b v) (drop b v))
    ∙ ap value_types (take-append-drop b v)

-- which side another variable stands on
sides : (pm pn wm wn b c below vm part : ℕ) → (pm + wm ≤ pn) ⊎ (pn + wn ≤ pm) → b + c ≤ wn → below ≡ pn + b → vm ≡ wm → part ≡ c → (pm + vm ≤ below) ⊎ (below + part ≤ pm)
sides pm pn wm wn b c below vm part (inl h) k e f g = inl (omega arith)
sides pm pn wm wn b c below vm part (inr h) k e f g = inr (omega arith)

differ : true ≡ false → ⊥
differ h = absurd cc

-- ---- variables

module _ (x : Site) (scope : List ℕ) where
  -- the split of the cells around the parts of a variable
  pub there : (cells : List Cell) (vars : Variables) (n b c : ℕ) (v : Vars x scope cells vars) (i : In n scope) → b ≤ length (vars n) → Stands cells (position x.layout n + b) (parts_of b c (vars n))
  there cells vars n b c v i h = part_stands cells (position x.layout n) (vars n) b c h (v.value n i)

  value_size : (cells : List Cell) (vars : Variables) (n : ℕ) → Vars x scope cells vars → In n scope → length (vars n) ≡ length (part_types x n)
  value_size cells vars n v i = sym (length-map (vars n) type_of_value) ∙ ap length (v.typed n i)

  pub size_of : (cells : List Cell) (vars : Variables) (n : ℕ) → Vars x scope cells vars → In n scope → length (vars n) ≡ length (part_types x n)
  size_of cells vars n v i = value_size cells vars n v i

  put_value : (cells : List Cell) (vars : Variables) (n b : ℕ) (new : List Value) (v : Vars x scope cells vars) (i : In n scope) (h : b + length new ≤ length (vars n))
      (m : ℕ) (j : In m scope) (t : Bool) → (m == n) ≡ t
      → Stands (((v.value n i).above ++ pushed (drop (length new) (drop b (vars n))) [])
      ++ pushed new (pushed (take b (vars n)) (v.value n i).below)) (position x.layout m)
      (if t then with_parts b new (vars n) else vars m)
  put_value cells vars n b new v i h m j true e =
      let same : m ≡ n = (Decides-eqb m n).0 e in
      let s = v.value n i in
      subst (λ k. Stands ((s.above ++ pushed (drop (length new) (drop b (vars n))) []) ++ pushed new (pushed (take b (vars n)) s.below)) (position x.layout k) (with_parts b new (vars n))) (sym same)
      (put_stands cells (position x.layout n) (vars n) b new (omega (arith, h)) s)
  put_value cells vars n b new v i h m j false e =
      let s = v.value n i in
      let front = take b (vars n) in
      let rest = drop (length new) (drop b (vars n)) in
      let other = v.value m j in
      let size_n = value_size cells vars n v i in
      let size_m = value_size cells vars m v j in
      let deep = part_at cells (position x.layout n) (vars n) b (omega (arith, h)) s in
      let long : length (parts_of b (length new) (vars n)) ≡ length new = length-take-le (length new) (drop b (vars n)) (let d = length-drop b (vars n) in omega (arith, d, h)) in
      others_stand (s.above ++ pushed rest []) new (parts_of b (length new) (vars n)) (pushed front s.below) (position x.layout m) (vars m) (sym long)
      (sides (position x.layout m) (position x.layout n) (length (part_types x m)) (length (part_types x n)) b
      (length new) (length (pushed front s.below)) (length (vars m)) (length (parts_of b (length new) (vars n)))
      (v.apart m n j i (λ same. differ (sym ((Decides-eqb m n).1 same) ∙ e))) (omega (arith, h, size_n)) deep size_m long)
      (subst (λ (t : List Cell). Stands t (position x.layout m) (vars m)) (part_is cells (position x.layout n) (vars n) b (length new) s) other)

  put_typed : (cells : List Cell) (vars : Variables) (n b : ℕ) (new : List Value) (v : Vars x scope cells vars) (i : In n scope) (h : b + length new ≤ length (vars n))
      → value_types new ≡ value_types (parts_of b (length new) (vars n)) → (m : ℕ) (j : In m scope) (t : Bool) → (m == n) ≡ t
      → value_types (if t then with_parts b new (vars n) else vars m) ≡ part_types x m
  put_typed cells vars n b new v i h types m j true e =
      let same : m ≡ n = (Decides-eqb m n).0 e in
      map_put b new (vars n) h types ∙ v.typed n i ∙ ap (part_types x) (sym same)
  put_typed cells vars n b new v i h types m j false e = v.typed m j

  -- a variable's parts are written
  pub vars_put : (cells : List Cell) (vars : Variables) (n b : ℕ) (new : List Value) (v : Vars x scope cells vars) (i : In n scope) (h : b + length new ≤ length (vars n))
      → value_types new ≡ value_types (parts_of b (length new) (vars n))
      → Vars x scope (((v.value n i).above ++ pushed (drop (length new) (drop b (vars n))) [])
      ++ pushed new (pushed (take b (vars n)) (v.value n i).below)) (with_variable vars n (with_parts b new (vars n)))
  vars_put cells vars n b new v i h types = record {
    value = λ m j. put_value cells vars n b new v i h m j (m == n) refl;
    typed = λ m j. put_typed cells vars n b new v i h types m j (m == n) refl;
    apart = v.apart;
  }

-- ---- spots

module _ (x : Site) (scope : List ℕ) where
  abbrev pub home_of : Spot → Home
  home_of (OfLocal n b) = InFrame (position x.layout n + b)
  home_of (OfGlobal n b) = InGlobals (position x.layout n + b)

  abbrev pub IsSpot : Ty → Spot → Type 0
  IsSpot t (OfLocal n b) = In n scope × AreParts (part_types x n) b (cell_types x.layout.structs t)
  IsSpot t (OfGlobal n b) = In n x.globals × (x.layout.globals ≡ x.bp) × AreParts (part_types x n) b (cell_types x.layout.structs t)

  pub record SpotOf (e : TypedExpr) : Type 0 where
    pub where_is : Spot
    pub is : spot e ≡ Some where_is
    pub fine : IsSpot (type_of e) where_is
    pub home_is : home x.layout e ≡ Some (home_of where_is)

  of_member : (t : Ty) (e : TypedExpr) (before : ℕ) → AreParts (cell_types x.layout.structs (type_of e)) before (cell_types x.layout.structs t) → (s : Spot)
      → spot e ≡ Some s → IsSpot (type_of e) s → home x.layout e ≡ Some (home_of s) → SpotOf (member t e before)
  of_member t e before p (OfLocal n b) is f h =
      let sum : position x.layout n + b + before ≡ position x.layout n + (b + before) = omega arith in
      record {
        where_is = OfLocal n (b + before);
        is = ap (option_map (further before)) is;
        fine = (f.0, parts_further (part_types x n) b (cell_types x.layout.structs (type_of e)) before (cell_types x.layout.structs t) f.1 p);
        home_is = ap (option_map (moved before)) h ∙ ap (λ k. Some (InFrame k)) sum;
      }
  of_member t e before p (OfGlobal n b) is f h =
      let sum : position x.layout n + b + before ≡ position x.layout n + (b + before) = omega arith in
      record {
        where_is = OfGlobal n (b + before);
        is = ap (option_map (further before)) is;
        fine = (f.0, f.1, parts_further (part_types x n) b (cell_types x.layout.structs (type_of e)) before (cell_types x.layout.structs t) f.2 p);
        home_is = ap (option_map (moved before)) h ∙ ap (λ k. Some (InGlobals k)) sum;
      }

module _ (table : EngineTable) (functions : List Function) (x : Site) (scope : List ℕ) where
  -- what can be written has a spot
  pub spot_of : (e : TypedExpr) → is_place e ≡ true → IsFine table functions x scope e → SpotOf x scope e
  spot_of (name t (Local n)) h f =
      let sum : position x.layout n ≡ position x.layout n + 0 = omega arith in
      record {
        where_is = OfLocal n 0;
        is = refl;
        fine = (
          f.0,
          subst (λ s. AreParts (part_types x n) 0 (cell_types x.layout.structs s)) f.1
              (all_parts (part_types x n) (subst (λ s. 0 < length (cell_types x.layout.structs s)) (sym f.1) f.2)),
        );
        home_is = ap (λ k. Some (InFrame k)) sum;
      }
  spot_of (name t (Global n)) h f =
      let sum : position x.layout n ≡ position x.layout n + 0 = omega arith in
      record {
        where_is = OfGlobal n 0;
        is = refl;
        fine = (
          f.0,
          f.3,
          subst (λ s. AreParts (part_types x n) 0 (cell_types x.layout.structs s)) f.1
              (all_parts (part_types x n) (subst (λ s. 0 < length (cell_types x.layout.structs s)) (sym f.1) f.2)),
        );
        home_is = ap (λ k. Some (InGlobals k)) sum;
      }
  spot_of (name t (IsConst k)) h f = absurd cc
  spot_of (member t e before) h f = let s = spot_of e h f.0 in of_member x scope t e before f.1 s.where_is s.is s.fine s.home_is
  spot_of (literal k) h f = absurd cc
  spot_of (call t g es ks) h f = absurd cc
  spot_of (prefix t o e) h f = absurd cc
  spot_of (postfix t o e) h f = absurd cc
  spot_of (binary t o d e) h f = absurd cc
  spot_of (assign t o d e) h f = absurd cc
