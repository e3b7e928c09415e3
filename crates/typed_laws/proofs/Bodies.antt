-- The functions with bodies, by the declarations of the unit.
use Rattle.std.proofs.Common.{arith, ◌≡◌, ◌+◌, ◌⊎◌, inl, inr, ℕ, zero, suc, List, [], ◌∷◌, ◌++◌, length, map, Option, Some, None, Bool, true, false, sym, subst, ◌∙◌, ap, refl, append_assoc}
use Rattle.std.specs.Prelude.{not, ◌&&◌, slice_get, is_some, bytes_eq, if◌then◌else◌}
use Rattle.std.specs.List.{AllByRecursion}
use Rattle.std.specs.Option.{option_map, option_and_then}
use Rattle.std.proofs.lemmas.Slice.Eq.{bytes_eq-Decides}
use Rattle.std.proofs.lemmas.List.{length-append}
use Rattle.std.proofs.lemmas.Option.{none-some, same_Some}
use Rattle.nss_tree.specs.Source.{SourceStmts, SourceDeclared, SourceParameter, SourceItem}
use Rattle.nss_tree.specs.declared.constants.TypeName.{TypeName}
use Rattle.nss_tree.specs.Units as unit
use Rattle.nwq_value.specs.declared.value.Ty.{Ty}
use Rattle.nwq_value.specs.declared.engine.Const.{Const}
use Rattle.nwq_value.specs.declared.engine.Param.{Param}
use Rattle.nwq_value.specs.Engine.{const_type}
use Rattle.typing_rules.specs.declared.fault.FaultKind.{FaultKind}
use Rattle.typing_rules.specs.Nodes.{Rows, first_kind, fine, ruled, asked, two, Fits, There, absent, present}
use Rattle.typing_rules.specs.Sight.{Head, Sight, Signature, has_body, find_head, types_of_head, first_types, body_number, Meant, type_means, value_type, any_type, declared}
use Rattle.typing_rules.specs.Types.{is_action, same_type}
use Rattle.typing_rules.specs.Typed.{TypedStmts, TypedParameter, TypedItem}
use Rattle.typing_rules.specs.Rules.{when, TypedHead, params_of, signature_of, same_types, may_declare, head_of, function_rule, function_rows, gives, parameter_of, parameter_rule, default_fits}
use Rattle.typing_rules.specs.Meaning as rules
use Rattle.typing_rules.specs.Meaning.{TypesParams, TypesHead, TypesItem, TypesItems, ParameterParts, FunctionParts}
use Rattle.typing_rules.specs.Verdicts.{after_names, after_item, after_items, line_type, in_function, in_body, head, head_verdict, body_fine}
use Rattle.typing_rules.specs.Laws.{ItemsAreRight}
use Rattle.source_meaning.specs.Scripts.{Function, functions}
use Rattle.source_laws.specs.Fine.{parameter_type}
use Rattle.typed_laws.proofs.Types.{same_type_is, no_action_declared}

-- ---- tests

pub when_is : {A : Type 0} (b : Bool) (a u : A) → when b a ≡ Some u → (b ≡ true) × (a ≡ u)
when_is true a u h = (refl, same_Some _ _ h)
when_is false a u h = absurd (none-some u h)

pub both_are : (a b : Bool) → (a && b) ≡ true → (a ≡ true) × (b ≡ true)
both_are true b h = (refl, h)
both_are false b h = absurd cc

pub not_is : (b : Bool) → not b ≡ true → b ≡ false
not_is false h = refl
not_is true h = absurd cc

-- ---- verdicts

two_is : {A B : Type 0} (o : Option A) (p : Option B) (q : A × B) → two o p ≡ Some q → (o ≡ Some q.0) × (p ≡ Some q.1)
two_is (Some a) (Some b) q e = let h = same_Some _ _ e in (ap (λ r. Some r.0) h, ap (λ r. Some r.1) h)
two_is (Some a) None q e = absurd (none-some q e)
two_is None p q e = absurd (none-some q e)

ruled_is : {B : Type 0} (k : FaultKind) (o : Option B) (b : B) → fine (ruled k o) ≡ Some b → o ≡ Some b
ruled_is k (Some c) b e = e
ruled_is k None b e = absurd (none-some b e)

pub asked_is : {A B : Type 0} (rows : A → Rows) (rule : A → Option B) (o : Option A) (b : B) → fine (asked rows rule o) ≡ Some b
    → (a : A) × (o ≡ Some a) × (rule a ≡ Some b)
asked_is rows rule None b e = absurd (none-some b e)
asked_is rows rule (Some a) b e = (a, refl, ruled_is (first_kind (rows a)) (rule a) b e)

-- ---- signatures

-- no parameter is an action, and a default has its parameter's type
abbrev pub DefaultFits : Option Const → Ty → Type 0
DefaultFits None t = Unit {0}
DefaultFits (Some k) t = const_type k ≡ t

abbrev pub AreSignatureParams : List Param → Type 0
AreSignatureParams [] = Unit {0}
AreSignatureParams (p ∷ ps) = (is_action p.ty ≡ false) × DefaultFits p.default p.ty × AreSignatureParams ps

abbrev pub IsHead : Head → Type 0
IsHead h = (s : Signature) → h.types ≡ Some s → AreSignatureParams s.params

abbrev pub AreHeads : List Head → Type 0
AreHeads hs = AllByRecursion IsHead hs

types_fit : (g : Head) → IsHead g → (s : Signature) → (o : Option Signature) → g.types ≡ o → option_map (λ (t : Signature). Some t) o ≡ Some (Some s) → AreSignatureParams s.params
types_fit g h s None same e = absurd (none-some (Some s) e)
types_fit g h s (Some t) same e = h s (same ∙ same_Some _ _ e)

first_by : (g : Head) → IsHead g → (s : Signature) (r : Option Head)
    → (types_of_head r ≡ Some (Some s) → AreSignatureParams s.params) → (b : Bool)
    → types_of_head (if b then Some g else r) ≡ Some (Some s) → AreSignatureParams s.params
first_by g h s r later true e = types_fit g h s g.types refl e
first_by g h s r later false e = later e

pub first_is_head : (x : List ℕ) (hs : List Head) → AreHeads hs → (s : Signature) → first_types x hs ≡ Some (Some s) → AreSignatureParams s.params
first_is_head x [] all s h = absurd cc
first_is_head x (g ∷ hs) all s h = first_by g all.0 s (find_head x hs) (λ e. first_is_head x hs all.1 s e) (bytes_eq x g.called) h

-- ---- look-ups in a longer list

last_by : (m : Bool) (r q : Bool) → (r ≡ true → (q ≡ true) ⊎ (m ≡ true)) → (b : Bool) → (if b then true else r) ≡ true → ((if b then true else q) ≡ true) ⊎ (m ≡ true)
last_by m r q later true e = inl refl
last_by m r q later false e = later e

only_body : (b : Bool) → (if b then true else false) ≡ true → (false ≡ true) ⊎ (b ≡ true)
only_body true e = inr refl
only_body false e = absurd cc

last_body : (x : List ℕ) (hs : List Head) (h : Head) → has_body x (hs ++ h ∷ []) ≡ true → (has_body x hs ≡ true) ⊎ ((bytes_eq x h.called && h.has_body) ≡ true)
last_body x [] h e = only_body (bytes_eq x h.called && h.has_body) e
last_body x (g ∷ hs) h e =
    last_by (bytes_eq x h.called && h.has_body) (has_body x (hs ++ h ∷ [])) (has_body x hs) (λ r. last_body x hs h r) (bytes_eq x g.called && g.has_body) e

before_by : (m n : ℕ) (r : Bool) → (r ≡ true → m ≡ n) → (b a : Bool) → (if a && b then true else r) ≡ true
    → (if b then (if a then 0 else suc m) else m) ≡ (if b then (if a then 0 else suc n) else n)
before_by m n r later true true e = refl
before_by m n r later true false e = ap suc (later e)
before_by m n r later false true e = later e
before_by m n r later false false e = later e

number_before : (x : List ℕ) (hs more : List Head) → has_body x hs ≡ true → body_number x (hs ++ more) ≡ body_number x hs
number_before x [] more e = absurd cc
number_before x (g ∷ hs) more e = before_by (body_number x (hs ++ more)) (body_number x hs) (has_body x hs) (λ r. number_before x hs more r) g.has_body (bytes_eq x g.called) e

abbrev pub bodies : List Head → ℕ
bodies [] = 0
bodies (h ∷ hs) = if h.has_body then suc (bodies hs) else bodies hs

number_by : (m n : ℕ) (r : Bool) → (r ≡ false → m ≡ n) → (b a : Bool) → (if a && b then true else r) ≡ false → (if b then (if a then 0 else suc m) else m) ≡ (if b then suc n else n)
number_by m n r later true true e = absurd cc
number_by m n r later true false e = ap suc (later e)
number_by m n r later false true e = later e
number_by m n r later false false e = later e

number_last : (x : List ℕ) (hs : List Head) (h : Head) → has_body x hs ≡ false → bytes_eq x h.called ≡ true → h.has_body ≡ true → body_number x (hs ++ h ∷ []) ≡ bodies hs
number_last x [] h e same has =
    ap (λ (b : Bool). if b then (if bytes_eq x h.called then 0 else suc 0) else 0) has ∙ ap (λ (b : Bool). if b then 0 else suc 0) same
number_last x (g ∷ hs) h e same has = number_by (body_number x (hs ++ h ∷ [])) (bodies hs) (has_body x hs) (λ r. number_last x hs h r same has) g.has_body (bytes_eq x g.called) e

one_body : (b : Bool) → (if b then suc 0 else 0) ≡ (if b then 0 + 1 else 0)
one_body true = omega arith
one_body false = refl

bodies_by : (m n : ℕ) (b a : Bool) → m ≡ (if a then n + 1 else n) → (if b then suc m else m) ≡ (if a then (if b then suc n else n) + 1 else (if b then suc n else n))
bodies_by m n true true e = omega (arith, e)
bodies_by m n true false e = ap suc e
bodies_by m n false true e = e
bodies_by m n false false e = e

bodies_last : (hs : List Head) (h : Head) → bodies (hs ++ h ∷ []) ≡ (if h.has_body then bodies hs + 1 else bodies hs)
bodies_last [] h = one_body h.has_body
bodies_last (g ∷ hs) h = bodies_by (bodies (hs ++ h ∷ [])) (bodies hs) g.has_body h.has_body (bodies_last hs h)

head_by : (h g : Head) (r q : Option Head) → (r ≡ Some g → q ≡ Some g) → (b : Bool) → (if b then Some h else r) ≡ Some g → (if b then Some h else q) ≡ Some g
head_by h g r q later true e = e
head_by h g r q later false e = later e

head_before : (x : List ℕ) (hs more : List Head) (g : Head) → find_head x hs ≡ Some g → find_head x (hs ++ more) ≡ Some g
head_before x [] more g e = absurd (none-some g e)
head_before x (h ∷ hs) more g e = head_by h g (find_head x hs) (find_head x (hs ++ more)) (λ r. head_before x hs more g r) (bytes_eq x h.called) e

none_by : (g h : Head) (r q : Option Head) → (r ≡ None → q ≡ Some h) → (b : Bool) → (if b then Some g else r) ≡ None → (if b then Some g else q) ≡ Some h
none_by g h r q later true e = absurd (none-some g (sym e))
none_by g h r q later false e = later e

head_last : (x : List ℕ) (hs : List Head) (h : Head) → find_head x hs ≡ None → bytes_eq x h.called ≡ true → find_head x (hs ++ h ∷ []) ≡ Some h
head_last x [] h e same = ap (λ (b : Bool). if b then Some h else None) same
head_last x (g ∷ hs) h e same = none_by g h (find_head x hs) (find_head x (hs ++ h ∷ [])) (λ r. head_last x hs h r same) (bytes_eq x g.called) e

body_by : (h : Head) (r : Bool) (q : Option Head) → (r ≡ true → (g : Head) × (q ≡ Some g)) → (b a : Bool) → (if b && a then true else r) ≡ true → (g : Head) × ((if b then Some h else q) ≡ Some g)
body_by h r q later true a e = (h, refl)
body_by h r q later false a e = later e

body_head : (x : List ℕ) (hs : List Head) → has_body x hs ≡ true → (g : Head) × (find_head x hs ≡ Some g)
body_head x [] e = absurd cc
body_head x (h ∷ hs) e = body_by h (has_body x hs) (find_head x hs) (λ r. body_head x hs r) (bytes_eq x h.called) h.has_body e

slice_before : {A : Type 0} (xs ys : List A) (n : ℕ) (a : A) → slice_get xs n ≡ Some a → slice_get (xs ++ ys) n ≡ Some a
slice_before [] ys n a e = absurd (none-some a e)
slice_before (x ∷ xs) ys zero a e = e
slice_before (x ∷ xs) ys (suc n) a e = slice_before xs ys n a e

slice_last : {A : Type 0} (xs : List A) (a : A) → slice_get (xs ++ a ∷ []) (length xs) ≡ Some a
slice_last [] a = refl
slice_last (x ∷ xs) a = slice_last xs a

-- ---- the functions of the declarations so far

pub record IsOf (fs : List Function) (number : ℕ) (s : Signature) : Type 0 where
  pub function : Function
  pub is : slice_get fs number ≡ Some function
  pub result : function.result ≡ s.result
  pub params : map parameter_type function.parameters ≡ map (λ (p : Param). p.ty) s.params

abbrev pub AreBodies : List Function → List Head → Type 0
AreBodies fs seen = (x : List ℕ) (s : Signature) → has_body x seen ≡ true → first_types x seen ≡ Some (Some s) → IsOf fs (body_number x seen) s

same_first : (x : List ℕ) (seen : List Head) (h : Head) → has_body x seen ≡ true → first_types x (seen ++ h ∷ []) ≡ first_types x seen
same_first x seen h has =
    let g = body_head x seen has in
    ap types_of_head (head_before x seen (h ∷ []) g.0 g.1 ∙ sym g.1)

more_functions : (fs more : List Function) (n : ℕ) (s : Signature) → IsOf fs n s → IsOf (fs ++ more) n s
more_functions fs more n s k = record { function = k.function; is = slice_before fs more n k.function k.is; result = k.result; params = k.params }

-- one that was declared with its body before
kept_body : (fs more : List Function) (seen : List Head) (h : Head) → AreBodies fs seen → (x : List ℕ) (s : Signature) → has_body x seen ≡ true → first_types x (seen ++ h ∷ []) ≡ Some (Some s)
    → IsOf (fs ++ more) (body_number x (seen ++ h ∷ [])) s
kept_body fs more seen h all x s has e =
    subst (λ n. IsOf (fs ++ more) n s) (sym (number_before x seen (h ∷ []) has))
    (more_functions fs more (body_number x seen) s (all x s has (sym (same_first x seen h has) ∙ e)))

-- a declaration without a body
pub without_body : (fs : List Function) (seen : List Head) (h : Head) → h.has_body ≡ false → AreBodies fs seen → AreBodies fs (seen ++ h ∷ [])
without_body fs seen h isnt all x s has e = by (last_body x seen h has)
  where
    all_of_them : (ys : List Function) → ys ++ [] ≡ ys
    all_of_them [] = refl
    all_of_them (y ∷ ys) = ap (λ t. y ∷ t) (all_of_them ys)

    never : (a b : Bool) → b ≡ false → (a && b) ≡ true → ⊥
    never true b f e = absurd cc
    never false b f e = absurd cc

    by : (has_body x seen ≡ true) ⊎ ((bytes_eq x h.called && h.has_body) ≡ true) → IsOf fs (body_number x (seen ++ h ∷ [])) s
    by (inl before) = subst (λ ys. IsOf ys (body_number x (seen ++ h ∷ [])) s) (all_of_them fs) (kept_body fs [] seen h all x s before e)
    by (inr now) = absurd (never (bytes_eq x h.called) h.has_body isnt now)

-- a declaration with a body, of the same types as the first one
pub with_body : (fs : List Function) (fn : Function) (seen : List Head) (h : Head) (own : Signature) → h.has_body ≡ true → h.types ≡ Some own → bodies seen ≡ length fs
    → fn.result ≡ own.result → map parameter_type fn.parameters ≡ map (λ (p : Param). p.ty) own.params
    → ((s : Signature) → first_types h.called seen ≡ Some (Some s) → (s.result ≡ own.result) × (map (λ (p : Param). p.ty) s.params ≡ map (λ (p : Param). p.ty) own.params))
    → AreBodies fs seen → AreBodies (fs ++ fn ∷ []) (seen ++ h ∷ [])
with_body fs fn seen h own has_one types count result params first all x s has e = by (has_body x seen) refl
  where
    at_last : (b a : Bool) → (b && a) ≡ true → b ≡ true
    at_last true a e = refl
    at_last false a e = absurd cc

    not_before : (o : (has_body x seen ≡ true) ⊎ ((bytes_eq x h.called && h.has_body) ≡ true)) → has_body x seen ≡ false → bytes_eq x h.called ≡ true
    not_before (inl f) isnt = let never : true ≡ false = sym f ∙ isnt in absurd cc
    not_before (inr f) isnt = at_last (bytes_eq x h.called) h.has_body f

    same_types_as : (o : Option Head) → find_head x seen ≡ o → bytes_eq x h.called ≡ true → (s.result ≡ own.result) × (map (λ (p : Param). p.ty) s.params ≡ map (λ (p : Param). p.ty) own.params)
    same_types_as None found same =
        let is : types_of_head (Some h) ≡ Some (Some s) = sym (ap types_of_head (head_last x seen h found same)) ∙ e in
        let both : Some own ≡ Some s = same_Some _ _ (sym (ap (option_map (λ (t : Signature). Some t)) types) ∙ is) in
        let one : own ≡ s = same_Some _ _ both in
        (ap (λ (t : Signature). t.result) (sym one), ap (λ (t : Signature). map (λ (p : Param). p.ty) t.params) (sym one))
    same_types_as (Some g) found same =
        let is : types_of_head (Some g) ≡ Some (Some s) = sym (ap types_of_head (head_before x seen (h ∷ []) g found)) ∙ e in
        let before : first_types x seen ≡ Some (Some s) = ap types_of_head found ∙ is in
        first s (subst (λ (y : List ℕ). first_types y seen ≡ Some (Some s)) ((bytes_eq-Decides x h.called).0 same) before)

    by : (b : Bool) → has_body x seen ≡ b → IsOf (fs ++ fn ∷ []) (body_number x (seen ++ h ∷ [])) s
    by true before = kept_body fs (fn ∷ []) seen h all x s before e
    by false isnt =
        let same = not_before (last_body x seen h has) isnt in
        let place : body_number x (seen ++ h ∷ []) ≡ length fs = number_last x seen h isnt same has_one ∙ count in
        let t = same_types_as (find_head x seen) refl same in
        record {
          function = fn;
          is = ap (slice_get (fs ++ fn ∷ [])) place ∙ slice_last fs fn;
          result = result ∙ sym t.0;
          params = params ∙ sym t.1;
        }

-- ---- the types of one declaration

same_params : (ps qs : List Param) → same_types ps qs ≡ true → map (λ (p : Param). p.ty) ps ≡ map (λ (p : Param). p.ty) qs
same_params [] [] h = refl
same_params [] (q ∷ qs) h = absurd cc
same_params (p ∷ ps) [] h = absurd cc
same_params (p ∷ ps) (q ∷ qs) h =
    let b = both_are (same_type p.ty q.ty) (same_types ps qs) h in
    ap (λ t. t ∷ map (λ (r : Param). r.ty) ps) (same_type_is p.ty q.ty b.0) ∙ ap (λ ts. q.ty ∷ ts) (same_params ps qs b.1)

params_typed : (ps : List TypedParameter) → map parameter_type ps ≡ map (λ (p : Param). p.ty) (params_of ps)
params_typed [] = refl
params_typed (p ∷ ps) = ap (λ ts. p.ty ∷ ts) (params_typed ps)

pub record IsDeclaredHead (c : Sight) (t : TypeName) (x : List ℕ) (ps : List SourceParameter) (bodied : Bool) (h : TypedHead) : Type 0 where
  pub params : TypesParams (in_function c t) false ps h.params
  pub meant : Meant
  pub means : type_means c.structs t ≡ Some meant
  pub result : any_type meant ≡ Some h.result
  pub first : Option Signature
  pub first_is : first_types x c.seen ≡ Some first
  pub may : may_declare c x bodied first h ≡ true

pub head_is : (c : Sight) (t : TypeName) (x : List ℕ) (ps : List SourceParameter) (bodied : Bool) (h : TypedHead) → TypesHead c t x ps bodied h → IsDeclaredHead c t x ps bodied h
head_is c t x ps bodied h e = of_rule e.typed.0 e.typed.1 e.typed.2 e.parts.0 e.parts.1 e.parts.2 (any_type e.typed.1) refl e.gives
  where
    of_rule : (us : List TypedParameter) (m : Meant) (f : Option Signature) → TypesParams (in_function c t) false ps us → type_means c.structs t ≡ Some m → first_types x c.seen ≡ Some f
        → (o : Option Ty) → any_type m ≡ o → option_and_then (λ r. head_of c x bodied f (record { params = us; result = r })) o ≡ Some h → IsDeclaredHead c t x ps bodied h
    of_rule us m f e1 e2 e3 None r g = absurd (none-some h g)
    of_rule us m f e1 e2 e3 (Some r) same g =
        let w = when_is (may_declare c x bodied f (record { params = us; result = r })) (record { params = us; result = r }) h g in
        record {
          params = subst (λ (k : TypedHead). TypesParams (in_function c t) false ps k.params) w.1 e1;
          meant = m;
          means = e2;
          result = same ∙ ap (λ (k : TypedHead). Some k.result) w.1;
          first = f;
          first_is = e3;
          may = ap (may_declare c x bodied f) (sym w.1) ∙ w.0;
        }

-- the types of the first declaration are these
pub agreed : (c : Sight) (t : TypeName) (x : List ℕ) (ps : List SourceParameter) (bodied : Bool) (h : TypedHead)
    → IsDeclaredHead c t x ps bodied h → (s : Signature) → first_types x c.seen ≡ Some (Some s)
    → (s.result ≡ h.result) × (map (λ (p : Param). p.ty) s.params ≡ map (λ (p : Param). p.ty) (params_of h.params))
agreed c t x ps bodied h d s e = of_first d.first d.first_is d.may
  where
    of_first : (f : Option Signature) → first_types x c.seen ≡ Some f → may_declare c x bodied f h ≡ true
        → (s.result ≡ h.result) × (map (λ (p : Param). p.ty) s.params ≡ map (λ (p : Param). p.ty) (params_of h.params))
    of_first None is may = let never : Some s ≡ None = same_Some _ _ (sym e ∙ is) in absurd (none-some s (sym never))
    of_first (Some r) is may =
        let same : s ≡ r = same_Some _ _ (same_Some _ _ (sym e ∙ is)) in
        let m = both_are _ _ may in
        let a = both_are _ _ m.1 in
        let k = both_are (same_types r.params (params_of h.params)) (same_type r.result h.result) a.0 in (
          ap (λ (v : Signature). v.result) same ∙ same_type_is r.result h.result k.1,
          ap (λ (v : Signature). map (λ (p : Param). p.ty) v.params) same ∙ same_params r.params (params_of h.params) k.0,
        )

-- ---- one parameter

pub record IsParameter (c : Sight) (p : SourceParameter) (t : TypedParameter) : Type 0 where
  pub meant : Meant
  pub means : type_means c.structs p.ty ≡ Some meant
  pub type : value_type meant ≡ Some t.ty
  pub number : c.next ≡ t.name.number
  pub default : default_fits t.ty t.default ≡ true

pub parameter_is : (c : Sight) (late : Bool) (p : SourceParameter) (t : TypedParameter) → Fits (ParameterParts c p) (parameter_rule c late p) t → IsParameter c p t
parameter_is c late p t f = of_type (value_type f.typed.0) refl f.gives
  where
    of_type : (o : Option Ty) → value_type f.typed.0 ≡ o → option_and_then (parameter_of c late p f.typed.1) o ≡ Some t → IsParameter c p t
    of_type None same g = absurd (none-some t g)
    of_type (Some v) same g =
        let w = when_is _ (record { token = p.token; ty = v; name = record { number = c.next; ty = v }; default = f.typed.1 }) t g in
        let a = both_are _ _ w.0 in
        let b = both_are _ _ a.1 in
        let d = both_are (default_fits v f.typed.1) _ b.1 in
        record {
          meant = f.typed.0;
          means = f.parts.0;
          type = same ∙ ap (λ (u : TypedParameter). Some u.ty) w.1;
          number = ap (λ (u : TypedParameter). u.name.number) w.1;
          default = ap (λ (u : TypedParameter). default_fits u.ty u.default) (sym w.1) ∙ d.0;
        }

signature_params : (c : Sight) (late : Bool) (ps : List SourceParameter) (us : List TypedParameter) → TypesParams c late ps us → AreSignatureParams (params_of us)
signature_params c late ps us (rules.TypesParams.none d l) = tt
signature_params c late ps us (rules.TypesParams.more d l {p = p} {ps = qs} {t = t} {ts = ts} f k) =
    let i = parameter_is c late p t f in
    (no_action_declared c.structs p.ty i.meant t.ty i.means i.type, fits t.default t.ty i.default, signature_params _ _ qs ts k)
  where
    fits : (o : Option Const) (v : Ty) → default_fits v o ≡ true → DefaultFits o v
    fits None v h = tt
    fits (Some j) v h = sym (same_type_is v (const_type j) h)

-- ---- all declarations

names_seen_same : (c : Sight) (t : Option Ty) (ds : List SourceDeclared) → (after_names c t ds).seen ≡ c.seen
names_seen_same c t [] = refl
names_seen_same c t (d ∷ ds) = names_seen_same (declared c d.name t) t ds

all_heads : (hs : List Head) (h : Head) → AreHeads hs → IsHead h → AreHeads (hs ++ h ∷ [])
all_heads [] h a b = (b, tt)
all_heads (g ∷ hs) h a b = (a.0, all_heads hs h a.1 b)

no_more : {A : Type 0} (xs : List A) → xs ++ [] ≡ xs
no_more [] = refl
no_more (x ∷ xs) = ap (λ t. x ∷ t) (no_more xs)

pub record Declared (fs : List Function) (seen : List Head) : Type 0 where
  pub heads : AreHeads seen
  pub are : AreBodies fs seen
  pub count : bodies seen ≡ length fs

abbrev function_item : ℕ → Ty → List ℕ → List TypedParameter → Option TypedStmts → TypedItem
function_item n r x ps b = unit.function n r x ps b

abbrev signature_with : List TypedParameter → Ty → Signature
signature_with ps r = record { params = params_of ps; result = r }

same_function : (n m : ℕ) (r s : Ty) (x y : List ℕ) (ps qs : List TypedParameter) (b d : Option TypedStmts) → function_item n r x ps b ≡ function_item m s y qs d → (r ≡ s) × (ps ≡ qs) × (b ≡ d)
same_function n m r s x y ps qs b d e = (cc, cc, cc)

module _ (right : ItemsAreRight) (hs : List Head) where
  -- a function's declaration
  after_function : (fs : List Function) (c : Sight) (n : ℕ) (t : TypeName) (x : List ℕ) (ps : List SourceParameter)
      (body : Option SourceStmts) (u : TypedItem) → TypesItem hs c (unit.function n t x ps body) u
      → Fits (FunctionParts hs c t x ps body) (function_rule n x) u → Declared fs c.seen → Declared (fs ++ functions (u ∷ [])) (c.seen ++ head c t x ps (is_some body) ∷ [])
  after_function fs c n t x ps body u h f d =
      let p = f.typed in
      let own = head_is c t x ps (is_some body) p.0 f.parts.0 in
      let w = when_is (gives p.0.result p.1) (unit.function n p.0.result x p.0.params p.1) u f.gives in
      let v = asked_is function_rows (function_rule n x)
      (two (fine (head_verdict c t x ps (is_some body))) (body_fine hs (in_body c t ps) body)) u
      ((right hs c (unit.function n t x ps body) u).1 h) in
      let a = v.0 in
      let b = two_is (fine (head_verdict c t x ps (is_some body))) (body_fine hs (in_body c t ps) body) a v.1 in
      let z = when_is (gives a.0.result a.1) (unit.function n a.0.result x a.0.params a.1) u v.2 in
      let same = same_function n n a.0.result p.0.result x x a.0.params p.0.params a.1 p.1 (z.1 ∙ sym w.1) in
      let types : option_map signature_of (fine (head_verdict c t x ps (is_some body))) ≡ Some (signature_of p.0) =
      ap (option_map signature_of) b.0 ∙ ap (λ (r : Ty). Some (signature_with a.0.params r)) same.0 ∙ ap (λ (qs : List TypedParameter). Some (signature_with qs p.0.result)) same.1 in
      let one : IsHead (head c t x ps (is_some body)) = λ s e. let k : signature_of p.0 ≡ s = same_Some _ _ (sym types ∙ e) in
      subst (λ (g : Signature). AreSignatureParams g.params) k (signature_params (in_function c t) false ps p.0.params own.params) in
      subst (λ (i : TypedItem). Declared (fs ++ functions (i ∷ [])) (c.seen ++ head c t x ps (is_some body) ∷ [])) w.1
      (by_body body p.1 f.parts.1 own types one)
    where
      by_body : (o : Option SourceStmts) (q : Option TypedStmts) → There (rules.TypesStmts hs (in_body c t ps)) o q → IsDeclaredHead c t x ps (is_some o) f.typed.0
          → (head c t x ps (is_some o)).types ≡ Some (signature_of f.typed.0) → IsHead (head c t x ps (is_some o))
          → Declared (fs ++ functions (unit.function n f.typed.0.result x f.typed.0.params q ∷ [])) (c.seen ++ head c t x ps (is_some o) ∷ [])
      by_body None None absent own types one = record {
        heads = all_heads c.seen _ d.heads one;
        are = subst (λ (ys : List Function). AreBodies ys (c.seen ++ head c t x ps false ∷ [])) (sym (no_more fs)) (without_body fs c.seen (head c t x ps false) refl d.are);
        count = bodies_last c.seen (head c t x ps false) ∙ d.count ∙ ap length (sym (no_more fs));
      }
      by_body None (Some ys) h own types one = elim h [ ]
      by_body (Some xs) None h own types one = elim h [ ]
      by_body (Some xs) (Some ys) (present k) own types one =
          let p = f.typed in
          let fn : Function = record { result = p.0.result; parameters = p.0.params; body = ys } in
          let longer = length-append fs (fn ∷ []) in
          let count = d.count in
          let last = bodies_last c.seen (head c t x ps true) in
          record {
            heads = all_heads c.seen _ d.heads one;
            are = with_body fs fn c.seen (head c t x ps true) (signature_of p.0) refl types d.count refl (params_typed p.0.params) (agreed c t x ps true p.0 own) d.are;
            count = omega (arith, longer, count, last);
          }

  -- so the functions are those of the declarations
  pub after_all : (fs : List Function) (c : Sight) (is : List SourceItem) (ts : List TypedItem) → TypesItems hs c is ts → Declared fs c.seen → Declared (fs ++ functions ts) (after_items c is).seen
  after_all fs c is ts (rules.TypesItems.none e) d = subst (λ (ys : List Function). Declared ys c.seen) (sym (no_more fs)) d
  after_all fs c is ts (rules.TypesItems.more e {i = unit.structure n x ls} {is = js} {ts = us} (rules.TypesItem.structure m y f) k) d = after_all fs (after_item c (unit.structure n x ls)) js us k d
  after_all fs c is ts (rules.TypesItems.more e {i = unit.constant n t x v} {is = js} {ts = us}
      (rules.TypesItem.constant m s y w f) k) d = after_all fs (after_item c (unit.constant n t x v)) js us k d
  after_all fs c is ts (rules.TypesItems.more e {i = unit.global n t ds} {is = js} {ts = us} (rules.TypesItem.global m s f g) k) d =
      after_all fs (after_item c (unit.global n t ds)) js us k (subst (Declared fs) (sym (names_seen_same c (line_type c.structs t) ds)) d)
  after_all fs c is ts (rules.TypesItems.more e {i = unit.function n t x ps body} {is = js} {t = u} {ts = us} (rules.TypesItem.function m s y qs b f) k) d =
      let one = after_function fs c n t x ps body u (rules.TypesItem.function m s y qs b f) f d in
      let rest = after_all (fs ++ functions (u ∷ [])) (after_item c (unit.function n t x ps body)) js us k one in
      subst (λ (ys : List Function). Declared ys (after_items (after_item c (unit.function n t x ps body)) js).seen)
      (append_assoc fs (functions (u ∷ [])) (functions us) ∙ ap (λ r. fs ++ r) (functions_split u us)) rest
    where
      functions_split : (u : TypedItem) (us : List TypedItem) → functions (u ∷ []) ++ functions us ≡ functions (u ∷ us)
      functions_split (unit.structure n x ls) us = refl
      functions_split (unit.constant n t x v) us = refl
      functions_split (unit.global n t ds) us = refl
      functions_split (unit.function n t x ps None) us = refl
      functions_split (unit.function n t x ps (Some b)) us = refl
