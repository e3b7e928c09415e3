-- The standard functions are the header's, and standard hooks serve its routines.
use Rattle.std.proofs.Common.{◌≡◌, ℕ, zero, suc, ◌+◌, List, [], ◌∷◌, ◌++◌, length, length-append, map, take, drop, Option, Some, None, refl, sym, ap, subst, ◌∙◌, arith}
use Rattle.std.proofs.lemmas.Option.{none-some}
use Rattle.std.specs.List.{slice_get}
use Rattle.std.specs.Option.{option_map}
use Rattle.nwq_value.specs.Header.{header_routines}
use Rattle.nwq_value.specs.Roles.{Signature, header_signatures}
use Rattle.nwq_value.specs.declared.engine.Role.{Role}
use Rattle.nwq_value.specs.declared.engine.Role.TheVariants.{Pure}
use Rattle.nwq_value.specs.declared.value.Ty.{Ty}
use Rattle.nwq_value.specs.declared.value.Ty.TheVariants.{Void}
use Rattle.nwq_value.specs.declared.value.Value.{Value}
use Rattle.world_rules.specs.Pure.{CellLookup, pure}
use Rattle.table_2da.specs.Look.{cell_of}
use Rattle.table_2da.specs.declared.tables.Named.{Named}
use Rattle.hook_table.specs.Standard.{Function, standard, function_numbered, number_named, pure_numbered}
use Rattle.hook_table.specs.Served.{StandsFor, BeginWith, AreTheHeaders, StandardServe, FirstGrow, LastCompletes}
use Rattle.hook_table.specs.declared.hook.Known.{Known}

-- ---- the header's rows

-- the signature of a function with its number
abbrev as_row : ℕ → Function → Signature
as_row n f = record { name = f.name; gives = f.result; takes = f.params; role = Some (Pure n) }

pub are_the_headers : AreTheHeaders
unfolding header_routines
are_the_headers zero f h = ap (option_map (as_row 0)) h
are_the_headers (suc zero) f h = ap (option_map (as_row 1)) h
are_the_headers (suc (suc zero)) f h = ap (option_map (as_row 2)) h
are_the_headers (suc (suc (suc zero))) f h = ap (option_map (as_row 3)) h
are_the_headers (suc (suc (suc (suc zero)))) f h = ap (option_map (as_row 4)) h
are_the_headers (suc (suc (suc (suc (suc zero))))) f h = ap (option_map (as_row 5)) h
are_the_headers (suc (suc (suc (suc (suc (suc zero)))))) f h = ap (option_map (as_row 6)) h
are_the_headers (suc (suc (suc (suc (suc (suc (suc zero))))))) f h = ap (option_map (as_row 7)) h
are_the_headers (suc (suc (suc (suc (suc (suc (suc (suc zero)))))))) f h = ap (option_map (as_row 8)) h
are_the_headers (suc (suc (suc (suc (suc (suc (suc (suc (suc zero))))))))) f h = ap (option_map (as_row 9)) h
are_the_headers (suc (suc (suc (suc (suc (suc (suc (suc (suc (suc n)))))))))) f h = absurd (none-some f h)

behind : {A : Type 0} (k n : ℕ) (xs : List A) → slice_get xs (k + n) ≡ slice_get (drop k xs) n
behind zero n xs = let e : zero + n ≡ n = omega arith in ap (slice_get xs) e
behind (suc k) n [] = refl
behind (suc k) n (x ∷ xs) = let e : suc k + n ≡ suc (k + n) = omega arith in ap (slice_get (x ∷ xs)) e ∙ behind k n xs

-- ---- the function of a row

-- the row of this number with a Pure role is that of the standard function of this number
record IsFunction (n : ℕ) (name : List ℕ) (gives : Ty) (takes : List Ty) (f : Function) : Type 0 where
  at : slice_get standard n ≡ Some f
  params : f.params ≡ takes
  result : f.result ≡ gives
  number : number_named f.name ≡ Some n

abbrev takes_in : Option Signature → List Ty
takes_in None = []
takes_in (Some s) = s.takes

abbrev gives_in : Option Signature → Ty
gives_in None = Void
gives_in (Some s) = s.gives

abbrev is_pure : Role → Type 0
is_pure (Pure n) = Unit {0}
is_pure _ = ⊥

abbrev HasPure : Option Role → Type 0
HasPure None = ⊥
HasPure (Some role) = is_pure role

abbrev RowHasPure : Option Signature → Type 0
RowHasPure None = ⊥
RowHasPure (Some s) = HasPure s.role

abbrev row_of : List ℕ → Ty → List Ty → ℕ → Option Signature
row_of name gives takes n = Some (record { name = name; gives = gives; takes = takes; role = Some (Pure n) })

pure_row : (n : ℕ) (name : List ℕ) (gives : Ty) (takes : List Ty) → slice_get (drop 28 header_signatures) n ≡ row_of name gives takes n
    → (f : Function) × IsFunction n name gives takes f
unfolding header_routines number_named
pure_row zero name gives takes e =
    (function_numbered 0, record { at = refl; params = ap takes_in e; result = ap gives_in e; number = refl })
pure_row (suc zero) name gives takes e =
    (function_numbered 1, record { at = refl; params = ap takes_in e; result = ap gives_in e; number = refl })
pure_row (suc (suc zero)) name gives takes e =
    (function_numbered 2, record { at = refl; params = ap takes_in e; result = ap gives_in e; number = refl })
pure_row (suc (suc (suc zero))) name gives takes e =
    (function_numbered 3, record { at = refl; params = ap takes_in e; result = ap gives_in e; number = refl })
pure_row (suc (suc (suc (suc zero)))) name gives takes e =
    (function_numbered 4, record { at = refl; params = ap takes_in e; result = ap gives_in e; number = refl })
pure_row (suc (suc (suc (suc (suc zero))))) name gives takes e =
    (function_numbered 5, record { at = refl; params = ap takes_in e; result = ap gives_in e; number = refl })
pure_row (suc (suc (suc (suc (suc (suc zero)))))) name gives takes e =
    (function_numbered 6, record { at = refl; params = ap takes_in e; result = ap gives_in e; number = refl })
pure_row (suc (suc (suc (suc (suc (suc (suc zero))))))) name gives takes e =
    (function_numbered 7, record { at = refl; params = ap takes_in e; result = ap gives_in e; number = refl })
pure_row (suc (suc (suc (suc (suc (suc (suc (suc zero)))))))) name gives takes e =
    (function_numbered 8, record { at = refl; params = ap takes_in e; result = ap gives_in e; number = refl })
pure_row (suc (suc (suc (suc (suc (suc (suc (suc (suc zero))))))))) name gives takes e =
    (function_numbered 9, record { at = refl; params = ap takes_in e; result = ap gives_in e; number = refl })
pure_row (suc (suc (suc (suc (suc (suc (suc (suc (suc (suc zero)))))))))) name gives takes e = absurd (subst RowHasPure (sym e) tt)
pure_row (suc (suc (suc (suc (suc (suc (suc (suc (suc (suc (suc zero))))))))))) name gives takes e = absurd (subst RowHasPure (sym e) tt)
pure_row (suc (suc (suc (suc (suc (suc (suc (suc (suc (suc (suc (suc zero)))))))))))) name gives takes e = absurd (subst RowHasPure (sym e) tt)
pure_row (suc (suc (suc (suc (suc (suc (suc (suc (suc (suc (suc (suc (suc n))))))))))))) name gives takes e = absurd (subst RowHasPure (sym e) tt)

-- ---- hooks

record Stands (f : Function) (hooks : List Known) (n : ℕ) : Type 0 where
  hook : Known
  at : slice_get hooks n ≡ Some hook
  stands : StandsFor f hook

hook_at : (fs : List Function) (hooks : List Known) (n : ℕ) (f : Function) → BeginWith fs hooks → slice_get fs n ≡ Some f → Stands f hooks n
hook_at [] hooks n f begin is = absurd (none-some f is)
hook_at (g ∷ fs) [] n f begin is = absurd begin
hook_at (g ∷ fs) (h ∷ hooks) zero f begin is =
    let same : g ≡ f = cc in record { hook = h; at = refl; stands = subst (λ k. StandsFor k h) same begin.0 }
hook_at (g ∷ fs) (h ∷ hooks) (suc n) f begin is =
    let found = hook_at fs hooks n f begin.1 is in record { hook = found.hook; at = found.at; stands = found.stands }

-- the answer of a hook whose function has this number
named : (cell : CellLookup) (o : Option ℕ) (n : ℕ) (args : List Value) (v : Value) → o ≡ Some n → pure_numbered cell o args ≡ Some v → pure cell n args ≡ Some v
named cell o n args v is value = sym (ap (λ k. pure_numbered cell k args) is) ∙ value

-- only the tenth function looks cells up
same_value : (n : ℕ) (h : Known) (tables : List Named) (args : List Value) → (n ≡ 9 → h.tables ≡ tables)
    → pure (cell_of tables) n args ≡ pure (cell_of h.tables) n args
same_value zero h tables args tenth = refl
same_value (suc zero) h tables args tenth = refl
same_value (suc (suc zero)) h tables args tenth = refl
same_value (suc (suc (suc zero))) h tables args tenth = refl
same_value (suc (suc (suc (suc zero)))) h tables args tenth = refl
same_value (suc (suc (suc (suc (suc zero))))) h tables args tenth = refl
same_value (suc (suc (suc (suc (suc (suc zero)))))) h tables args tenth = refl
same_value (suc (suc (suc (suc (suc (suc (suc zero))))))) h tables args tenth = refl
same_value (suc (suc (suc (suc (suc (suc (suc (suc zero)))))))) h tables args tenth = refl
same_value (suc (suc (suc (suc (suc (suc (suc (suc (suc zero))))))))) h tables args tenth = ap (λ t. pure (cell_of t) 9 args) (sym (tenth refl))
same_value (suc (suc (suc (suc (suc (suc (suc (suc (suc (suc n)))))))))) h tables args tenth = refl

pub standard_serve : StandardServe
standard_serve hooks tables n name gives takes are row =
    let found = pure_row n name gives takes (sym (behind 28 n header_signatures) ∙ row) in
    let f : Function = found.0 in
    let hook = hook_at standard hooks n f are.begin found.1.at in
    let h : Known = hook.hook in
    let number : number_named h.name ≡ Some n = ap number_named hook.stands.name ∙ found.1.number in
    let tenth : n ≡ 9 → h.tables ≡ tables = λ e. are.cells h (sym (ap (slice_get hooks) e) ∙ hook.at) in (
      h,
      hook.at,
      record {
        params = hook.stands.params ∙ found.1.params;
        result = hook.stands.result ∙ found.1.result;
        answers = λ args v a. same_value n h tables args tenth ∙ named (cell_of h.tables) (number_named h.name) n args v number a.value;
      },
    )

-- ---- hooks that are put one by one

begin_more : (fs : List Function) (hooks : List Known) (n : ℕ) (f : Function) (h : Known) → slice_get fs n ≡ Some f → BeginWith (take n fs) hooks
    → length hooks ≡ n → StandsFor f h → BeginWith (take (n + 1) fs) (hooks ++ h ∷ [])
begin_more [] hooks n f h at begin count stands = absurd (none-some f at)
begin_more (g ∷ fs) [] zero f h at begin count stands = let same : g ≡ f = cc in (subst (λ k. StandsFor k h) (sym same) stands, tt)
begin_more (g ∷ fs) (k ∷ hooks) zero f h at begin count stands = absurd (omega arith)
begin_more (g ∷ fs) [] (suc n) f h at begin count stands = absurd begin
begin_more (g ∷ fs) (k ∷ hooks) (suc n) f h at begin count stands =
    let fewer : length hooks ≡ n = omega arith in
    let next : suc (n + 1) ≡ suc n + 1 = omega arith in
    subst (λ m. BeginWith (take m (g ∷ fs)) (k ∷ (hooks ++ h ∷ []))) next (begin.0, begin_more fs hooks n f h at begin.1 fewer stands)

pub first_grow : FirstGrow
first_grow n f hooks h at first stands = record {
  begin = begin_more standard hooks n f h at first.begin first.count stands;
  count = length-append hooks (h ∷ []) ∙ ap (λ m. m + 1) first.count;
}

last_at : (hooks : List Known) (h : Known) → slice_get (hooks ++ h ∷ []) (length hooks) ≡ Some h
last_at [] h = refl
last_at (k ∷ hooks) h = last_at hooks h

same_hook : (h k : Known) → ◌≡◌ {A = Option Known} (Some h) (Some k) → h ≡ k
same_hook h k e = cc

pub last_completes : LastCompletes
last_completes hooks h first stands = record {
  begin = (first_grow 9 (function_numbered 9) hooks h refl first stands).begin;
  cells = λ k at.
      let here : slice_get (hooks ++ h ∷ []) 9 ≡ Some h = ap (slice_get (hooks ++ h ∷ [])) (sym first.count) ∙ last_at hooks h
      in ap (λ x. x.tables) (sym (same_hook h k (sym here ∙ at)));
}

-- ---- what is known of hooks

pub known_push : {A B : Type 0} (f : A → B) (new old : List A) (x : A) → new ≡ old ++ x ∷ [] → map f new ≡ map f old ++ f x ∷ []
known_push {A} f new old x is = ap (map f) is ∙ pushed old
  where
    pushed : (xs : List A) → map f (xs ++ x ∷ []) ≡ map f xs ++ f x ∷ []
    pushed [] = refl
    pushed (y ∷ ys) = ap (λ zs. f y ∷ zs) (pushed ys)
