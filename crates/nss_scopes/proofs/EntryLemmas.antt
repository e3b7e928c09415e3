-- Structs and declarations of functions by the places of their names.
use Rattle.std.proofs.Common.{◌≡◌, ℕ, zero, suc, ◌+◌, ◌^◌, ◌<◌, ◌≤◌, Bool, true, false, ◌&&◌, if◌then◌else◌, List, [], ◌∷◌, ◌++◌, length, map, slice_get, Option, None, Some, is_some, Bor, refl}
use Rattle.std.proofs.Common.{sym, ap, ◌∙◌, arith}
use Rattle.std.specs.Option.{option_map, option_and_then, option_copied}
use Rattle.std.specs.Str.{bytes_eq}
use Rattle.typing_rules.specs.Sight as sight
use Rattle.typing_rules.specs.Sight.{struct_means, has_struct, is_of_struct, find_head, has_head, has_body, body_number}
use Rattle.nss_scopes.specs.declared.structs.Structure.{Structure}
use Rattle.nss_scopes.specs.declared.heads.Head.{Head}
use Rattle.nwq_value.specs.Index.{first_place}
use Rattle.nss_scopes.specs.Entries.{structure_of, head_of, struct_name, head_name, AreStructs, AreHeads, bodies_in, struct_limit}

pub mapped_at : {A B : Type 0} (f : A → B) (xs : List A) (i : ℕ) → option_map f (slice_get xs i) ≡ slice_get (map f xs) i
mapped_at f [] i = refl
mapped_at f (x ∷ xs) zero = refl
mapped_at f (x ∷ xs) (suc i) = mapped_at f xs i

-- a view of what is lent
pub lent_map : {A B : Type 0} (f : A → B) (o : Option (Bor A)) → option_map (λ x. f x.now) o ≡ option_map f (option_copied o)
lent_map f None = refl
lent_map f (Some x) = refl

pub mapped_more : {A B : Type 0} (f : A → B) (xs : List A) (x : A) → map f (xs ++ x ∷ []) ≡ map f xs ++ f x ∷ []
mapped_more f [] x = refl
mapped_more f (y ∷ ys) x = ap (λ l. f y ∷ l) (mapped_more f ys x)

one_longer : {A : Type 0} (xs : List A) (x : A) → length (xs ++ x ∷ []) ≡ length xs + 1
one_longer [] x = refl
one_longer (y ∷ ys) x = let e = one_longer ys x in omega (arith, e)

below : (b : Bool) (o : Option ℕ) (n i : ℕ) → ((k : ℕ) → o ≡ Some k → k < n) → (if b then Some 0 else option_map suc o) ≡ Some i → i < suc n
below true o n i h is = let e : 0 ≡ i = cc in omega (arith, e)
below false None n i h is = cc
below false (Some k) n i h is = let e : suc k ≡ i = cc in omega (arith, e, h k refl)

pub place_below : (x : List ℕ) (ys : List (List ℕ)) (i : ℕ) → first_place x ys ≡ Some i → i < length ys
place_below x [] i is = cc
place_below x (y ∷ ys) i is = below (bytes_eq x y) (first_place x ys) (length ys) i (place_below x ys) is

pub nothing_there : {A : Type 0} (xs : List A) (i : ℕ) → i < length xs → None ≡ slice_get xs i → ⊥
nothing_there [] i lt is = omega (arith, lt)
nothing_there (x ∷ xs) zero lt is = cc
nothing_there (x ∷ xs) (suc i) lt is = nothing_there xs i (omega (arith, lt)) is

-- ---- structs

means_at : ℕ → Option Structure → Option sight.Meant
means_at n None = Some sight.IsMissing
means_at n (Some s) = is_of_struct n (structure_of s).members

chosen : ℕ → List Structure → Option ℕ → Option sight.Meant
chosen n ss None = Some sight.IsMissing
chosen n ss (Some i) = means_at (n + i) (slice_get ss i)

struct_chosen : (n : ℕ) (x : List ℕ) (ss : List Structure) → struct_means n x (map structure_of ss) ≡ chosen n ss (first_place x (map struct_name ss))
unfolding chosen means_at
struct_chosen n x [] = refl
struct_chosen n x (s ∷ ss) = by (bytes_eq x s.called) (first_place x (map struct_name ss)) (struct_chosen (n + 1) x ss)
  where
    by : (b : Bool) (o : Option ℕ) → struct_means (n + 1) x (map structure_of ss) ≡ chosen (n + 1) ss o
        → (if b then is_of_struct n (structure_of s).members else struct_means (n + 1) x (map structure_of ss)) ≡ chosen n (s ∷ ss) (if b then Some 0 else option_map suc o)
    by true o h = ap (λ k. is_of_struct k (structure_of s).members) (omega arith)
    by false None h = h
    by false (Some i) h = h ∙ ap (λ k. means_at k (slice_get ss i)) (omega arith)

module _ (x : List ℕ) (all : List Structure) (places : List (List ℕ)) (seen : List sight.Structure) (kept : AreStructs all places) (view : map structure_of all ≡ seen) where
  pub means_missing : None ≡ first_place x places → Some sight.IsMissing ≡ struct_means 0 x seen
  unfolding chosen
  means_missing none =
      ap (chosen 0 all) (none ∙ ap (first_place x) kept.names) ∙ (sym (struct_chosen 0 x all) ∙ ap (struct_means 0 x) view)

  pub means_found : (i : ℕ) (s : Structure) → Some i ≡ first_place x places → Some s ≡ slice_get all i → is_of_struct i (structure_of s).members ≡ struct_means 0 x seen
  unfolding chosen means_at
  means_found i s some at =
      ap (means_at i) at ∙ (ap (λ k. means_at k (slice_get all i)) (omega arith)
      ∙ (ap (chosen 0 all) (some ∙ ap (first_place x) kept.names) ∙ (sym (struct_chosen 0 x all) ∙ ap (struct_means 0 x) view)))

  pub is_within : (i : ℕ) → Some i ≡ first_place x places → i < length all
  is_within i some = let e = place_below x places i (sym some) in let n = ap length kept.names in let m = mapped_length all in omega (arith, e, n, m)
    where
      mapped_length : (ss : List Structure) → length (map struct_name ss) ≡ length ss
      mapped_length [] = refl
      mapped_length (t ∷ ss) = ap suc (mapped_length ss)

struct_there : (x : List ℕ) (ss : List Structure) → has_struct x (map structure_of ss) ≡ is_some (first_place x (map struct_name ss))
struct_there x [] = refl
struct_there x (s ∷ ss) = by (bytes_eq x s.called) (first_place x (map struct_name ss)) (struct_there x ss)
  where
    by : (b : Bool) (o : Option ℕ) → has_struct x (map structure_of ss) ≡ is_some o
        → (if b then true else has_struct x (map structure_of ss)) ≡ is_some (if b then Some 0 else option_map suc o)
    by true o h = refl
    by false None h = h
    by false (Some i) h = h

pub struct_is_there : (x : List ℕ) (all : List Structure) (places : List (List ℕ)) (seen : List sight.Structure) → AreStructs all places → map structure_of all ≡ seen
    → is_some (first_place x places) ≡ has_struct x seen
struct_is_there x all places seen kept view =
    ap (λ ps. is_some (first_place x ps)) kept.names ∙ (sym (struct_there x all) ∙ ap (has_struct x) view)

pub structs_more : (all : List Structure) (places after : List (List ℕ)) (s : Structure) (name : List ℕ) → AreStructs all places → name ≡ s.called → length all < struct_limit
    → after ≡ places ++ name ∷ [] → AreStructs (all ++ s ∷ []) after
structs_more all places after s name kept is few more = record {
  names = more ∙ (ap (λ ps. ps ++ name ∷ []) kept.names ∙ (ap (λ x. map struct_name all ++ x ∷ []) is ∙ sym (mapped_more struct_name all s)));
  few = let e = one_longer all s in omega (arith, e, few);
}

-- ---- declarations of functions

head_there : (x : List ℕ) (hs : List Head) → has_head x (map head_of hs) ≡ is_some (first_place x (map head_name hs))
head_there x [] = refl
head_there x (h ∷ hs) = by (bytes_eq x h.called) (first_place x (map head_name hs)) (head_there x hs)
  where
    by : (b : Bool) (o : Option ℕ) → has_head x (map head_of hs) ≡ is_some o
        → (if b then true else has_head x (map head_of hs)) ≡ is_some (if b then Some 0 else option_map suc o)
    by true o r = refl
    by false None r = r
    by false (Some i) r = r

head_found : (x : List ℕ) (hs : List Head) → find_head x (map head_of hs) ≡ option_map head_of (option_and_then (slice_get hs) (first_place x (map head_name hs)))
head_found x [] = refl
head_found x (h ∷ hs) = by (bytes_eq x h.called) (first_place x (map head_name hs)) (head_found x hs)
  where
    by : (b : Bool) (o : Option ℕ) → find_head x (map head_of hs) ≡ option_map head_of (option_and_then (slice_get hs) o)
        → (if b then Some (head_of h) else find_head x (map head_of hs)) ≡ option_map head_of (option_and_then (slice_get (h ∷ hs)) (if b then Some 0 else option_map suc o))
    by true o r = refl
    by false None r = r
    by false (Some i) r = r

number_if : Bool → ℕ → Option ℕ
number_if b n = if b then Some n else None

body_found : (x : List ℕ) (hs : List Head) → first_place x (bodies_in hs) ≡ number_if (has_body x (map head_of hs)) (body_number x (map head_of hs))
unfolding number_if
body_found x [] = refl
body_found x (h ∷ hs) = by h.has_body (bytes_eq x h.called) refl (has_body x (map head_of hs)) (body_found x hs)
  where
    by : (d b : Bool) → bytes_eq x h.called ≡ b → (r : Bool) → first_place x (bodies_in hs) ≡ number_if r (body_number x (map head_of hs))
        → first_place x (if d then h.called ∷ bodies_in hs else bodies_in hs)
        ≡ number_if (if b && d then true else r) (if d then (if b then 0 else suc (body_number x (map head_of hs))) else body_number x (map head_of hs))
    by true true eq r is = ap (λ c. if c then Some 0 else option_map suc (first_place x (bodies_in hs))) eq
    by true false eq true is = ap (λ c. if c then Some 0 else option_map suc (first_place x (bodies_in hs))) eq ∙ ap (option_map suc) is
    by true false eq false is = ap (λ c. if c then Some 0 else option_map suc (first_place x (bodies_in hs))) eq ∙ ap (option_map suc) is
    by false true eq r is = is
    by false false eq r is = is

module _ (x : List ℕ) (all : List Head) (places bodies : List (List ℕ)) (seen : List sight.Head) (kept : AreHeads all places bodies) (view : map head_of all ≡ seen) where
  pub body_is : first_place x bodies ≡ (if has_body x seen then Some (body_number x seen) else None)
  unfolding number_if
  body_is = ap (first_place x) kept.with_body ∙ (body_found x all ∙ ap (λ hs. if has_body x hs then Some (body_number x hs) else None) view)

  pub body_there : is_some (first_place x bodies) ≡ has_body x seen
  body_there = ap is_some body_is ∙ by (has_body x seen) (body_number x seen)
    where
      by : (b : Bool) (n : ℕ) → is_some (if b then Some n else None) ≡ b
      by true n = refl
      by false n = refl

  pub number_below : (n : ℕ) → Some n ≡ first_place x bodies → n < 2 ^ 32
  number_below n some =
      let e = place_below x bodies n (sym some) in let k = ap length kept.with_body in let m = fewer all in omega (arith, e, k, m, kept.few)
    where
      either_way : (d : Bool) (y : List ℕ) (ys : List (List ℕ)) (k : ℕ) → length ys ≤ k → length (if d then y ∷ ys else ys) ≤ suc k
      either_way true y ys k le = omega (arith, le)
      either_way false y ys k le = omega (arith, le)

      fewer : (hs : List Head) → length (bodies_in hs) ≤ length hs
      fewer [] = omega arith
      fewer (h ∷ hs) = either_way h.has_body h.called (bodies_in hs) (length hs) (fewer hs)

bodies_more : (hs : List Head) (h : Head) → bodies_in (hs ++ h ∷ []) ≡ (if h.has_body then bodies_in hs ++ h.called ∷ [] else bodies_in hs)
bodies_more [] h = by h.has_body
  where
    by : (d : Bool) → (if d then h.called ∷ [] else []) ≡ (if d then [] ++ h.called ∷ [] else [])
    by true = refl
    by false = refl
bodies_more (g ∷ hs) h = by g.has_body h.has_body (bodies_more hs h)
  where
    by : (c d : Bool) → bodies_in (hs ++ h ∷ []) ≡ (if d then bodies_in hs ++ h.called ∷ [] else bodies_in hs)
        → (if c then g.called ∷ bodies_in (hs ++ h ∷ []) else bodies_in (hs ++ h ∷ []))
        ≡ (if d then (if c then g.called ∷ bodies_in hs else bodies_in hs) ++ h.called ∷ [] else (if c then g.called ∷ bodies_in hs else bodies_in hs))
    by true true is = ap (λ l. g.called ∷ l) is
    by true false is = ap (λ l. g.called ∷ l) is
    by false true is = is
    by false false is = is

pub heads_more : (all : List Head) (places bodies after behind : List (List ℕ)) (h : Head) (name other : List ℕ) → AreHeads all places bodies → name ≡ h.called → other ≡ h.called
    → length all + 1 < 2 ^ 32 → after ≡ places ++ name ∷ [] → behind ≡ (if h.has_body then bodies ++ other ∷ [] else bodies) → AreHeads (all ++ h ∷ []) after behind
heads_more all places bodies after behind h name other kept is same few more body = record {
  names = more ∙ (ap (λ ps. ps ++ name ∷ []) kept.names ∙ (ap (λ x. map head_name all ++ x ∷ []) is ∙ sym (mapped_more head_name all h)));
  with_body = body ∙ (ap (λ x. if h.has_body then bodies ++ x ∷ [] else bodies) same ∙ (ap (λ bs. if h.has_body then bs ++ h.called ∷ [] else bs) kept.with_body ∙ sym (bodies_more all h)));
  few = let e = one_longer all h in omega (arith, e, few);
}

pub head_is_there : (x : List ℕ) (all : List Head) (places bodies : List (List ℕ)) (seen : List sight.Head) → AreHeads all places bodies → map head_of all ≡ seen
    → is_some (first_place x places) ≡ has_head x seen
head_is_there x all places bodies seen kept view =
    ap (λ ps. is_some (first_place x ps)) kept.names ∙ (sym (head_there x all) ∙ ap (has_head x) view)

pub head_is : (x : List ℕ) (all : List Head) (places bodies : List (List ℕ)) (seen : List sight.Head) (p : Option ℕ) → AreHeads all places bodies → map head_of all ≡ seen
    → p ≡ first_place x places → option_map head_of (option_and_then (slice_get all) p) ≡ find_head x seen
head_is x all places bodies seen p kept view is =
    ap (λ o. option_map head_of (option_and_then (slice_get all) o)) (is ∙ ap (first_place x) kept.names) ∙ (sym (head_found x all) ∙ ap (find_head x) view)
