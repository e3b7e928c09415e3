-- Where the role of a row comes from.
use Rattle.std.proofs.Common.{◌≡◌, ℕ, zero, suc, ◌+◌, Bool, true, false, not, ◌&&◌, ◌||◌, nat_eq, eqb-true, if◌then◌else◌, List, [], ◌∷◌, Option, None, Some, unwrap_or, slice_get, refl, sym, ap, subst, ◌∙◌, true≢false, zero-add, arith}
use Rattle.std.specs.Cmp.Lexicographic.{nat_list_eq_equiv, bytes_decides}
use Rattle.std.specs.List.{list_any}
use Rattle.std.specs.Str.{bytes_eq}
use Rattle.nwq_value.specs.declared.value.Ty.{Ty}
use Rattle.nwq_value.specs.declared.engine.Role.{Role}
use Rattle.nwq_value.specs.declared.engine.Role.TheVariants.{Built, Pure, World, Uncallable}
use Rattle.nwq_value.specs.Header.{header_routines}
use Rattle.nwq_value.specs.Roles.{Signature, ty_eq, tys_eq, has_signature, role_of_row, role_without_row, engine_role, header_signatures, is_barred_type, BuiltAsHeader, PureAsHeader, HeaderAsRole, WorldIsCallable, UncallableIsBarred}
use Rattle.nwq_value.proofs.RoleLemmas.{ty_eq-same, ty_eq-refl}

both : (a b : Bool) → (a && b) ≡ true → (a ≡ true) × (b ≡ true)
both true b e = (refl, e)
both false b e = absurd (true≢false (sym e))

tys_eq-same : (ts us : List Ty) → tys_eq ts us ≡ true → ts ≡ us
unfolding tys_eq
tys_eq-same [] [] e = refl
tys_eq-same [] (u ∷ us) e = absurd (true≢false (sym e))
tys_eq-same (t ∷ ts) [] e = absurd (true≢false (sym e))
tys_eq-same (t ∷ ts) (u ∷ us) e =
    let p = both (ty_eq t u) (tys_eq ts us) e in
    let head = ty_eq-same t u p.0 in
    let tail = tys_eq-same ts us p.1 in
    λ k. head k ∷ tail k

-- a row that fits has the very name and types
fitting : (name : List ℕ) (gives : Ty) (takes : List Ty) (s : Signature) (o : Option Role) → has_signature name gives takes s ≡ true → s.role ≡ o
    → s ≡ record { name = name; gives = gives; takes = takes; role = o }
unfolding has_signature
fitting name gives takes s o e role =
    let p = both (bytes_eq name s.name && ty_eq gives s.gives) (tys_eq takes s.takes) e in
    let q = both (bytes_eq name s.name) (ty_eq gives s.gives) p.0 in
    let a = sym ((bytes_decides name s.name).0 q.0) in
    let b = sym (ty_eq-same gives s.gives q.1) in
    let c = sym (tys_eq-same takes s.takes p.1) in
    λ k. record { name = a k; gives = b k; takes = c k; role = role k }

record IsRowAt (ss : List Signature) (name : List ℕ) (gives : Ty) (takes : List Ty) (role : Role) : Type 0 where
  number : ℕ
  at : slice_get ss number ≡ Some (record { name = name; gives = gives; takes = takes; role = Some role })

row_at : (ss : List Signature) (name : List ℕ) (gives : Ty) (takes : List Ty) (role : Role) → role_of_row ss name gives takes ≡ Some role
    → IsRowAt ss name gives takes role
unfolding role_of_row
row_at [] name gives takes role e = cc
row_at (s ∷ ss) name gives takes role e = by (has_signature name gives takes s) refl e (row_at ss name gives takes role)
  where
    by : (b : Bool) → has_signature name gives takes s ≡ b → (if b then s.role else role_of_row ss name gives takes) ≡ Some role
        → (role_of_row ss name gives takes ≡ Some role → IsRowAt ss name gives takes role) → IsRowAt (s ∷ ss) name gives takes role
    by true fits is rest = record { number = 0; at = ap Some (fitting name gives takes s (Some role) fits is) }
    by false other is rest = let r = rest is in record { number = suc r.number; at = r.at }

-- ---- the numbers in the header's rows

is_number : ℕ → Option Role → Bool
is_number i (Some (Built n)) = nat_eq n i
is_number i (Some (Pure k)) = nat_eq (28 + k) i
is_number i None = true
is_number i _ = false

numbered : ℕ → List Signature → Bool
numbered i [] = true
numbered i (s ∷ ss) = is_number i s.role && numbered (suc i) ss

header_numbered : numbered 0 header_signatures ≡ true
unfolding header_routines numbered is_number
header_numbered = refl

number_at : (ss : List Signature) (first i : ℕ) (s : Signature) → numbered first ss ≡ true → slice_get ss i ≡ Some s → is_number (first + i) s.role ≡ true
unfolding numbered
number_at [] first i s all at = cc
number_at (x ∷ xs) first zero s all at =
    let is : x ≡ s = cc in
    let p = both (is_number first x.role) (numbered (suc first) xs) all in
    let same : first + 0 ≡ first = omega arith in
    subst (λ j. is_number j s.role ≡ true) (sym same) (subst (λ y. is_number first y.role ≡ true) is p.0)
number_at (x ∷ xs) first (suc i) s all at =
    let p = both (is_number first x.role) (numbered (suc first) xs) all in
    let same : suc first + i ≡ first + suc i = omega arith in
    subst (λ j. is_number j s.role ≡ true) same (number_at xs (suc first) i s p.1 at)

number_from_zero : (ss : List Signature) (i : ℕ) (s : Signature) → numbered 0 ss ≡ true → slice_get ss i ≡ Some s → is_number i s.role ≡ true
number_from_zero ss i s all at = subst (λ j. is_number j s.role ≡ true) (zero-add i) (number_at ss 0 i s all at)

at_number : (ss : List Signature) (i n : ℕ) (s : Signature) → nat_eq n i ≡ true → slice_get ss i ≡ Some s → slice_get ss n ≡ Some s
at_number ss i n s same at = subst (λ j. slice_get ss j ≡ Some s) (sym (eqb-true n i same)) at

built_at : (ss : List Signature) (name : List ℕ) (gives : Ty) (takes : List Ty) (n : ℕ) → numbered 0 ss ≡ true → IsRowAt ss name gives takes (Built n)
    → slice_get ss n ≡ Some (record { name = name; gives = gives; takes = takes; role = Some (Built n) })
unfolding is_number
built_at ss name gives takes n all row = at_number ss row.number n _ (number_from_zero ss row.number _ all row.at) row.at

pure_at : (ss : List Signature) (name : List ℕ) (gives : Ty) (takes : List Ty) (k : ℕ) → numbered 0 ss ≡ true → IsRowAt ss name gives takes (Pure k)
    → slice_get ss (28 + k) ≡ Some (record { name = name; gives = gives; takes = takes; role = Some (Pure k) })
unfolding is_number
pure_at ss name gives takes k all row = at_number ss row.number (28 + k) _ (number_from_zero ss row.number _ all row.at) row.at

-- ---- a role other than Uncallable and World is that of a row

no_row_built : (b : Bool) (n : ℕ) → (if b then Uncallable else World) ≡ Built n → ⊥
no_row_built true n e = cc
no_row_built false n e = cc

no_row_pure : (b : Bool) (k : ℕ) → (if b then Uncallable else World) ≡ Pure k → ⊥
no_row_pure true k e = cc
no_row_pure false k e = cc

built_row : (o : Option Role) (b : Bool) (n : ℕ) → unwrap_or o (if b then Uncallable else World) ≡ Built n → o ≡ Some (Built n)
built_row None b n e = absurd (no_row_built b n e)
built_row (Some role) b n e = ap Some e

pure_row : (o : Option Role) (b : Bool) (k : ℕ) → unwrap_or o (if b then Uncallable else World) ≡ Pure k → o ≡ Some (Pure k)
pure_row None b k e = absurd (no_row_pure b k e)
pure_row (Some role) b k e = ap Some e

pub built_as_header : BuiltAsHeader
unfolding engine_role role_without_row
built_as_header name gives takes n e =
    built_at header_signatures name gives takes n header_numbered (row_at header_signatures name gives takes (Built n)
    (built_row (role_of_row header_signatures name gives takes) (is_barred_type gives || list_any is_barred_type takes) n e))

pub pure_as_header : PureAsHeader
unfolding engine_role role_without_row
pure_as_header name gives takes k e =
    pure_at header_signatures name gives takes k header_numbered (row_at header_signatures name gives takes (Pure k)
    (pure_row (role_of_row header_signatures name gives takes) (is_barred_type gives || list_any is_barred_type takes) k e))

-- ---- no row is of a world function or of an uncallable one

no_such_row : (ss : List Signature) (name : List ℕ) (gives : Ty) (takes : List Ty) (role : Role) → numbered 0 ss ≡ true
    → ((i : ℕ) → is_number i (Some role) ≡ false) → role_of_row ss name gives takes ≡ Some role → ⊥
no_such_row ss name gives takes role all never e =
    let row = row_at ss name gives takes role e in
    true≢false (sym (number_from_zero ss row.number _ all row.at) ∙ never row.number)

world_row : (o : Option Role) (b : Bool) → unwrap_or o (if b then Uncallable else World) ≡ World → (o ≡ Some World → ⊥) → b ≡ false
world_row None true e never = cc
world_row None false e never = refl
world_row (Some role) b e never = absurd (never (ap Some e))

uncallable_row : (o : Option Role) (b : Bool) → unwrap_or o (if b then Uncallable else World) ≡ Uncallable → (o ≡ Some Uncallable → ⊥) → b ≡ true
uncallable_row None true e never = refl
uncallable_row None false e never = cc
uncallable_row (Some role) b e never = absurd (never (ap Some e))

pub world_is_callable : WorldIsCallable
unfolding engine_role role_without_row is_number
world_is_callable name gives takes e =
    world_row (role_of_row header_signatures name gives takes) (is_barred_type gives || list_any is_barred_type takes) e
    (no_such_row header_signatures name gives takes World header_numbered (λ i. refl))

pub uncallable_is_barred : UncallableIsBarred
unfolding engine_role role_without_row is_number
uncallable_is_barred name gives takes e =
    uncallable_row (role_of_row header_signatures name gives takes) (is_barred_type gives || list_any is_barred_type takes) e
    (no_such_row header_signatures name gives takes Uncallable header_numbered (λ i. refl))

-- ---- the names of the rows differ, so each row is the first of its signature

is_first_of_name : Signature → List Signature → Bool
is_first_of_name s [] = true
is_first_of_name s (t ∷ ts) = not (bytes_eq t.name s.name) && is_first_of_name s ts

are_distinct : List Signature → Bool
are_distinct [] = true
are_distinct (s ∷ ss) = is_first_of_name s ss && are_distinct ss

header_distinct : are_distinct header_signatures ≡ true
unfolding header_routines are_distinct is_first_of_name
header_distinct = refl

other_name : (b : Bool) → not b ≡ true → b ≡ false
other_name true e = absurd (true≢false (sym e))
other_name false e = refl

later_differs : (s : Signature) (ss : List Signature) (i : ℕ) (t : Signature) → is_first_of_name s ss ≡ true → slice_get ss i ≡ Some t
    → bytes_eq t.name s.name ≡ false
unfolding is_first_of_name
later_differs s [] i t first at = cc
later_differs s (x ∷ xs) zero t first at =
    let is : x ≡ t = cc in
    let p = both (not (bytes_eq x.name s.name)) (is_first_of_name s xs) first in
    subst (λ y. bytes_eq y.name s.name ≡ false) is (other_name (bytes_eq x.name s.name) p.0)
later_differs s (x ∷ xs) (suc i) t first at =
    later_differs s xs i t (both (not (bytes_eq x.name s.name)) (is_first_of_name s xs) first).1 at

tys_eq-refl : (ts : List Ty) → tys_eq ts ts ≡ true
unfolding tys_eq
tys_eq-refl [] = refl
tys_eq-refl (t ∷ ts) = ap (λ b. b && tys_eq ts ts) (ty_eq-refl t) ∙ tys_eq-refl ts

has_its_own : (s : Signature) → has_signature s.name s.gives s.takes s ≡ true
unfolding has_signature
has_its_own s =
    ap (λ b. (b && ty_eq s.gives s.gives) && tys_eq s.takes s.takes) (nat_list_eq_equiv.refl s.name)
    ∙ ap (λ b. b && tys_eq s.takes s.takes) (ty_eq-refl s.gives) ∙ tys_eq-refl s.takes

has_no_other : (s t : Signature) → bytes_eq t.name s.name ≡ false → has_signature t.name t.gives t.takes s ≡ false
unfolding has_signature
has_no_other s t e = ap (λ b. (b && ty_eq t.gives s.gives) && tys_eq t.takes s.takes) e

role_at : (ss : List Signature) (i : ℕ) (s : Signature) → are_distinct ss ≡ true → slice_get ss i ≡ Some s
    → role_of_row ss s.name s.gives s.takes ≡ s.role
unfolding are_distinct role_of_row
role_at [] i s distinct at = cc
role_at (x ∷ xs) zero s distinct at =
    let is : x ≡ s = cc in
    subst (λ y. role_of_row (y ∷ xs) s.name s.gives s.takes ≡ s.role) (sym is)
    (ap (λ b. if b then s.role else role_of_row xs s.name s.gives s.takes) (has_its_own s))
role_at (x ∷ xs) (suc i) s distinct at =
    let p = both (is_first_of_name x xs) (are_distinct xs) distinct in
    ap (λ b. if b then x.role else role_of_row xs s.name s.gives s.takes) (has_no_other x s (later_differs x xs i s p.0 at))
    ∙ role_at xs i s p.1 at

pub header_as_role : HeaderAsRole
unfolding engine_role
header_as_role n s at =
    ap (λ o. unwrap_or o (role_without_row s.gives s.takes)) (role_at header_signatures n s header_distinct at)
