-- What a reader of a format is, and that each way to make a reader of others gives one.
use Rattle.std.proofs.Common.{◌≡◌, ◌≢◌, ◌≤◌, ◌==◌, ◌⊎◌, inl, inr, ℕ, zero, suc, ◌+◌, Bool, true, false, cond, List, [], ◌∷◌, ◌++◌, length, Result, Ok, Err, refl, sym, ap, subst, ◌∙◌}
use Rattle.std.proofs.Common.{append_assoc, arith}
use Rattle.std.specs.List.{AllByRecursion, flat_map}
use Rattle.std.proofs.lemmas.Bool.{eqb-true, eq-eqb, ne_eqb}
use Rattle.std.proofs.lemmas.List.{append-nil, length-append}
use Rattle.state_format.specs.Parts.{AreStateBytes}
use Rattle.state_format.specs.Fields.{Fields, joined, tag}
use Rattle.state_format.specs.Reading.{Reader, ◌>>=◌, mapped, followed, both, many, only, choose, nothing_at}

-- ---- lists

-- where two lists in a row are two others in a row, the first one ends inside the other first one,
-- or behind it
pub record Inside {X : Type 0} (x y front back : List X) : Type 0 where
  pub middle : List X
  pub whole : x ≡ front ++ middle
  pub after : middle ++ y ≡ back

pub record Behind {X : Type 0} (x y front back : List X) : Type 0 where
  pub middle : List X
  pub whole : front ≡ x ++ middle
  pub after : y ≡ middle ++ back

pub split : {X : Type 0} (x y front back : List X) → x ++ y ≡ front ++ back → Inside x y front back ⊎ Behind x y front back
split [] y front back e = inr (record { middle = front; whole = refl; after = e })
split (a ∷ x) y [] back e = inl (record { middle = a ∷ x; whole = refl; after = e })
split (a ∷ x) y (b ∷ front) back e =
    let head : a ≡ b = cc in
    let tail : x ++ y ≡ front ++ back = cc in
    elim (split x y front back tail) [
      | inl i ↦ let whole = i.whole in inl (record { middle = i.middle; whole = cc; after = i.after })
      | inr j ↦ let whole = j.whole in inr (record { middle = j.middle; whole = cc; after = j.after })
    ]

pub joined-append : (x y : Fields) → joined (x ++ y) ≡ joined x ++ joined y
joined-append [] y = refl
joined-append (f ∷ x) y = ap (λ (l : List ℕ). f ++ l) (joined-append x y) ∙ sym (append_assoc f (joined x) (joined y))

-- the same in front of more
pub joined-before : (x y : Fields) (rest : List ℕ) → joined (x ++ y) ++ rest ≡ joined x ++ (joined y ++ rest)
joined-before x y rest = ap (λ (l : List ℕ). l ++ rest) (joined-append x y) ∙ append_assoc (joined x) (joined y) rest

pub bytes-behind : (x y : List ℕ) → AreStateBytes (x ++ y) → AreStateBytes y
bytes-behind [] y h = h
bytes-behind (b ∷ x) y h = bytes-behind x y h.1

pub bytes-front : (x y : List ℕ) → AreStateBytes (x ++ y) → AreStateBytes x
bytes-front [] y h = tt
bytes-front (b ∷ x) y h = (h.0, bytes-front x y h.1)

-- ---- answers

pub answered : {A E : Type 0} (r : Result A E) → ((x : A) × (r ≡ Ok x)) ⊎ ((e : E) × (r ≡ Err e))
answered (Ok x) = inl (x, refl)
answered (Err e) = inr (e, refl)

abbrev pub done : {A : Type 0} → A → Result A ℕ
done x = Ok x

pub ok_is : {A : Type 0} (x y : A) → done x ≡ done y → x ≡ y
ok_is x y e = cc

pub bind_ok : {A B : Type 0} (r : Result A ℕ) (f : A → Result B ℕ) (y : B) → (r >>= f) ≡ Ok y → (x : A) × ((r ≡ Ok x) × (f x ≡ Ok y))
bind_ok (Ok x) f y e = (x, (refl, e))
bind_ok (Err left) f y e = absurd cc

pub err_is : (A : Type 0) (m n : ℕ) → (let r : Result A ℕ = Err m in r ≡ Err n) → m ≡ n
err_is A m n e = cc

pub mapped_ok : {A B : Type 0} (f : A → B) (r : Result (A × List ℕ) ℕ) (y : B × List ℕ) → mapped f r ≡ Ok y → (x : A × List ℕ) × ((r ≡ Ok x) × ((f x.0, x.1) ≡ y))
mapped_ok f (Ok x) y e = (x, (refl, ok_is _ _ e))
mapped_ok f (Err left) y e = absurd cc

pub mapped_err : {A B : Type 0} (f : A → B) (r : Result (A × List ℕ) ℕ) (left : ℕ) → mapped f r ≡ Err left → r ≡ Err left
mapped_err f (Ok x) left e = absurd cc
mapped_err f (Err n) left e = cc

-- how many bytes are left where reading ended
abbrev pub left_of : {A : Type 0} → Result (A × List ℕ) ℕ → ℕ
left_of (Ok x) = length x.1
left_of (Err left) = left

pub left_mapped : {A B : Type 0} (f : A → B) (r : Result (A × List ℕ) ℕ) → left_of (mapped f r) ≡ left_of r
left_mapped f (Ok x) = refl
left_mapped f (Err n) = refl

-- ---- readers

-- the bytes begin with the first fields of some value, and so many are left behind these
pub record Reaches {A : Type 0} (Has : A → Type 0) (f : A → Fields) (bytes : List ℕ) (left : ℕ) : Type 0 where
  pub value : A
  pub has : Has value
  pub front : Fields
  pub back : Fields
  pub rest : List ℕ
  pub fields : f value ≡ front ++ back
  pub begins : bytes ≡ joined front ++ rest
  pub ends : length rest ≡ left

-- A reader of values that are laid out by f: what is read stands there; what stands there is read;
-- from bytes that begin with the first fields of a value no less is read than these; and where
-- reading stops, so far the bytes begin as some value does.
pub record IsReader {A : Type 0} (Has : A → Type 0) (f : A → Fields) (p : Reader A) : Type 0 where
  pub sound : (bytes : List ℕ) (x : A × List ℕ) → AreStateBytes bytes → p bytes ≡ Ok x → Has x.0 × (bytes ≡ joined (f x.0) ++ x.1)
  pub again : (a : A) (rest : List ℕ) → Has a → p (joined (f a) ++ rest) ≡ Ok (a, rest)
  pub front : (a : A) (front back : Fields) (rest : List ℕ) → Has a → f a ≡ front ++ back → AreStateBytes (joined front ++ rest)
      → left_of (p (joined front ++ rest)) ≤ length rest
  pub reach : (bytes : List ℕ) (left : ℕ) → AreStateBytes bytes → p bytes ≡ Err left → Reaches Has f bytes left

-- what is left is no more than what there was
pub within : {A : Type 0} {Has : A → Type 0} {f : A → Fields} {p : Reader A} → IsReader Has f p → (bytes : List ℕ) → AreStateBytes bytes → left_of (p bytes) ≤ length bytes
within {f = f} {p = p} r bytes h = elim (answered (p bytes)) [
  | inl y ↦
      let s = r.sound bytes y.0 h y.1 in
      let size : length bytes ≡ length (joined (f y.0.0)) + length y.0.1 = ap length s.1 ∙ length-append _ _ in
      rw y.1 (omega arith)
  | inr y ↦
      let s = r.reach bytes y.0 h y.1 in
      let size : length bytes ≡ length (joined s.front) + length s.rest = ap length s.begins ∙ length-append _ _ in
      let ends = s.ends in
      rw y.1 (omega arith)
]

-- there is a value
pub some : {A : Type 0} {Has : A → Type 0} {f : A → Fields} {p : Reader A} → IsReader Has f p → (a : A) × Has a
some {p = p} r = elim (answered (p [])) [
  | inl y ↦ (y.0.0, (r.sound [] y.0 tt y.1).0)
  | inr y ↦ let s = r.reach [] y.0 tt y.1 in (s.value, s.has)
]

-- ---- one field

pub single : {A : Type 0} (Has : A → Type 0) (w : A → List ℕ) (p : Reader A)
    → ((bytes : List ℕ) (x : A × List ℕ) → AreStateBytes bytes → p bytes ≡ Ok x → Has x.0 × (bytes ≡ w x.0 ++ x.1))
    → ((a : A) (rest : List ℕ) → Has a → p (w a ++ rest) ≡ Ok (a, rest))
    → ((bytes : List ℕ) (left : ℕ) → p bytes ≡ Err left → left ≡ length bytes)
    → (a : A) → Has a → IsReader Has (λ x. w x ∷ []) p
single {A = A} Has w p sound again stops a0 has0 = record {
  sound = λ bytes x h e. let s = sound bytes x h e in (s.0, s.1 ∙ ap (λ (l : List ℕ). l ++ x.1) (sym (append-nil (w x.0))));
  again = λ a rest h. ap (λ (l : List ℕ). p (l ++ rest)) (append-nil (w a)) ∙ again a rest h;
  front = front;
  reach = λ bytes left h e. record { value = a0; has = has0; front = []; back = w a0 ∷ []; rest = bytes; fields = refl; begins = refl; ends = sym (stops bytes left e) };
}
  where
    ended : (bytes : List ℕ) → AreStateBytes bytes → left_of (p bytes) ≤ length bytes
    ended bytes h = elim (answered (p bytes)) [
      | inl y ↦
          let s = sound bytes y.0 h y.1 in
          let size : length bytes ≡ length (w y.0.0) + length y.0.1 = ap length s.1 ∙ length-append _ _ in
          rw y.1 (omega arith)
      | inr y ↦ let same = stops bytes y.0 y.1 in rw y.1 (omega arith)
    ]

    front : (a : A) (front back : Fields) (rest : List ℕ) → Has a → (w a ∷ []) ≡ front ++ back → AreStateBytes (joined front ++ rest) → left_of (p (joined front ++ rest)) ≤ length rest
    front a [] back rest h e b = ended rest b
    front a (v ∷ []) back rest h e b =
        let same : v ≡ w a = cc in
        let read : p ((v ++ []) ++ rest) ≡ Ok (a, rest) = ap (λ (l : List ℕ). p (l ++ rest)) (append-nil v ∙ same) ∙ again a rest h in
        rw read (omega arith)
    front a (v ∷ u ∷ us) back rest h e b = absurd cc

-- nothing
pub nothing-reader : IsReader (λ (x : Unit {0}). Unit {0}) (λ x. []) nothing_at
nothing-reader = record {
  sound = λ bytes x h e. (tt, ap (λ (y : Unit {0} × List ℕ). y.1) (ok_is _ _ e));
  again = λ a rest h. refl;
  front = front;
  reach = λ bytes left h e. absurd cc;
}
  where
    front : (a : Unit {0}) (front back : Fields) (rest : List ℕ) → Unit {0} → [] ≡ front ++ back → AreStateBytes (joined front ++ rest) → left_of (nothing_at (joined front ++ rest)) ≤ length rest
    front a [] back rest h e b = omega arith
    front a (v ∷ vs) back rest h e b = absurd cc

-- ---- one after the other

pub followed-reader : {A B : Type 0} (Has : A → Type 0) (HasB : A → B → Type 0) (f : A → Fields) (g : A → B → Fields) (p : Reader A) (q : A → Reader B)
    → IsReader Has f p → ((a : A) → Has a → IsReader (HasB a) (g a) (q a))
    → IsReader (λ (x : A × B). Has x.0 × HasB x.0 x.1) (λ x. f x.0 ++ g x.0 x.1) (followed p q)
followed-reader {A = A} {B = B} Has HasB f g p q rp rq = record { sound = sound; again = again; front = fronts; reach = reach }
  where
    sound : (bytes : List ℕ) (x : (A × B) × List ℕ) → AreStateBytes bytes → followed p q bytes ≡ Ok x → (Has x.0.0 × HasB x.0.0 x.0.1) × (bytes ≡ joined (f x.0.0 ++ g x.0.0 x.0.1) ++ x.1)
    sound bytes x h e =
        let one = bind_ok (p bytes) (λ u. mapped (λ v. (u.0, v)) (q u.0 u.1)) x e in
        let u : A × List ℕ = one.0 in
        let two = mapped_ok (λ v. (u.0, v)) (q u.0 u.1) x one.1.1 in
        let v : B × List ℕ = two.0 in
        let su = rp.sound bytes u h one.1.0 in
        let hu : AreStateBytes u.1 = bytes-behind (joined (f u.0)) u.1 (subst AreStateBytes su.1 h) in
        let sv = (rq u.0 su.0).sound u.1 v hu two.1.0 in
        let same : ((u.0, v.0), v.1) ≡ x = two.1.1 in
        let parts : bytes ≡ joined (f u.0 ++ g u.0 v.0) ++ v.1 = su.1 ∙ ap (λ (l : List ℕ). joined (f u.0) ++ l) sv.1 ∙ sym (joined-before (f u.0) (g u.0 v.0) v.1) in
        subst (λ (z : (A × B) × List ℕ). (Has z.0.0 × HasB z.0.0 z.0.1) × (bytes ≡ joined (f z.0.0 ++ g z.0.0 z.0.1) ++ z.1)) same ((su.0, sv.0), parts)

    read : (bytes : List ℕ) (u : A × List ℕ) (r : Result (B × List ℕ) ℕ) → p bytes ≡ Ok u → q u.0 u.1 ≡ r → followed p q bytes ≡ mapped (λ v. (u.0, v)) r
    read bytes u r e1 e2 = ap (λ (z : Result (A × List ℕ) ℕ). z >>= λ u. mapped (λ v. (u.0, v)) (q u.0 u.1)) e1 ∙ ap (mapped (λ v. (u.0, v))) e2

    again : (x : A × B) (rest : List ℕ) → Has x.0 × HasB x.0 x.1 → followed p q (joined (f x.0 ++ g x.0 x.1) ++ rest) ≡ Ok (x, rest)
    again x rest h =
        let ea = rp.again x.0 (joined (g x.0 x.1) ++ rest) h.0 in
        let eb = (rq x.0 h.0).again x.1 rest h.1 in
        ap (followed p q) (joined-before (f x.0) (g x.0 x.1) rest) ∙ read _ (x.0, joined (g x.0 x.1) ++ rest) (Ok (x.1, rest)) ea eb

    left_first : (bytes : List ℕ) → AreStateBytes bytes → left_of (followed p q bytes) ≤ left_of (p bytes)
    left_first bytes h = elim (answered (p bytes)) [
      | inl y ↦
          let su = rp.sound bytes y.0 h y.1 in
          let hu : AreStateBytes y.0.1 = bytes-behind (joined (f y.0.0)) y.0.1 (subst AreStateBytes su.1 h) in
          let less : left_of (q y.0.0 y.0.1) ≤ length y.0.1 = within (rq y.0.0 su.0) y.0.1 hu in
          let whole : left_of (followed p q bytes) ≡ left_of (q y.0.0 y.0.1) = ap left_of (read bytes y.0 _ y.1 refl) ∙ left_mapped (λ v. (y.0.0, v)) (q y.0.0 y.0.1) in
          let here : left_of (p bytes) ≡ length y.0.1 = ap left_of y.1 in
          omega (arith, less, whole, here)
      | inr y ↦
          let whole : left_of (followed p q bytes) ≡ y.0 = ap (λ (z : Result (A × List ℕ) ℕ). left_of {A = A × B} (z >>= λ u. mapped (λ v. (u.0, v)) (q u.0 u.1))) y.1 in
          let here : left_of (p bytes) ≡ y.0 = ap left_of y.1 in
          omega (arith, whole, here)
    ]

    fronts : (x : A × B) (front back : Fields) (rest : List ℕ) → Has x.0 × HasB x.0 x.1 → f x.0 ++ g x.0 x.1 ≡ front ++ back → AreStateBytes (joined front ++ rest)
        → left_of (followed p q (joined front ++ rest)) ≤ length rest
    fronts x front back rest h e b = elim (split (f x.0) (g x.0 x.1) front back e) [
      | inl i ↦
          let first = rp.front x.0 front i.middle rest h.0 i.whole b in
          let less = left_first (joined front ++ rest) b in
          omega (arith, first, less)
      | inr j ↦
          let same : joined front ++ rest ≡ joined (f x.0) ++ (joined j.middle ++ rest) = ap (λ (l : Fields). joined l ++ rest) j.whole ∙ joined-before (f x.0) j.middle rest in
          let hb : AreStateBytes (joined j.middle ++ rest) = bytes-behind (joined (f x.0)) (joined j.middle ++ rest) (subst AreStateBytes same b) in
          let second = (rq x.0 h.0).front x.1 j.middle back rest h.1 j.after hb in
          let whole : left_of (followed p q (joined front ++ rest))
          ≡ left_of (q x.0 (joined j.middle ++ rest)) = ap (λ (l : List ℕ). left_of (followed p q l)) same
          ∙ ap left_of (read _ (x.0, joined j.middle ++ rest) _ (rp.again x.0 (joined j.middle ++ rest) h.0) refl)
          ∙ left_mapped (λ v. (x.0, v)) (q x.0 (joined j.middle ++ rest)) in
          omega (arith, second, whole)
    ]

    reach : (bytes : List ℕ) (left : ℕ) → AreStateBytes bytes → followed p q bytes ≡ Err left → Reaches (λ (x : A × B). Has x.0 × HasB x.0 x.1) (λ x. f x.0 ++ g x.0 x.1) bytes left
    reach bytes left h e = elim (answered (p bytes)) [
      | inl y ↦
          let u : A × List ℕ = y.0 in
          let su = rp.sound bytes u h y.1 in
          let hu : AreStateBytes u.1 = bytes-behind (joined (f u.0)) u.1 (subst AreStateBytes su.1 h) in
          let stopped : mapped (λ v. (u.0, v)) (q u.0 u.1) ≡ Err left = sym (read bytes u _ y.1 refl) ∙ e in
          let s = (rq u.0 su.0).reach u.1 left hu (mapped_err (λ v. (u.0, v)) (q u.0 u.1) left stopped) in
          record {
            value = (u.0, s.value);
            has = (su.0, s.has);
            front = f u.0 ++ s.front;
            back = s.back;
            rest = s.rest;
            fields = ap (λ (l : Fields). f u.0 ++ l) s.fields ∙ sym (append_assoc (f u.0) s.front s.back);
            begins = su.1 ∙ ap (λ (l : List ℕ). joined (f u.0) ++ l) s.begins ∙ sym (joined-before (f u.0) s.front s.rest);
            ends = s.ends;
          }
      | inr y ↦
          let here : Err y.0 ≡ followed p q bytes = sym (ap (λ (z : Result (A × List ℕ) ℕ). z >>= λ u. mapped (λ v. (u.0, v)) (q u.0 u.1)) y.1) in
          let same : y.0 ≡ left = err_is ((A × B) × List ℕ) _ _ (here ∙ e) in
          let s = rp.reach bytes left h (y.1 ∙ ap Err same) in
          let other = some (rq s.value s.has) in
          record {
            value = (s.value, other.0);
            has = (s.has, other.1);
            front = s.front;
            back = s.back ++ g s.value other.0;
            rest = s.rest;
            fields = ap (λ (l : Fields). l ++ g s.value other.0) s.fields ∙ append_assoc s.front s.back (g s.value other.0);
            begins = s.begins;
            ends = s.ends;
          }
    ]

-- ---- a value made of another

pub via-reader : {A B : Type 0} (Has : A → Type 0) (f : A → Fields) (Is : B → Type 0) (g : B → Fields) (to : A → B) (p : Reader A)
    → IsReader Has f p → ((a : A) → Has a → Is (to a) × (g (to a) ≡ f a)) → ((b : B) → Is b → (a : A) × (Has a × (to a ≡ b)))
    → IsReader Is g (λ bytes. mapped to (p bytes))
via-reader {A = A} {B = B} Has f Is g to p r makes onto = record { sound = sound; again = again; front = fronts; reach = reach }
  where
    sound : (bytes : List ℕ) (x : B × List ℕ) → AreStateBytes bytes → mapped to (p bytes) ≡ Ok x → Is x.0 × (bytes ≡ joined (g x.0) ++ x.1)
    sound bytes x h e =
        let m = mapped_ok to (p bytes) x e in
        let s = r.sound bytes m.0 h m.1.0 in
        let made = makes m.0.0 s.0 in
        subst (λ (z : B × List ℕ). Is z.0 × (bytes ≡ joined (g z.0) ++ z.1)) m.1.1 (made.0, s.1 ∙ ap (λ (l : Fields). joined l ++ m.0.1) (sym made.1))

    laid : (b : B) (h : Is b) → g b ≡ f (onto b h).0
    laid b h = ap g (sym (onto b h).1.1) ∙ (makes (onto b h).0 (onto b h).1.0).1

    again : (b : B) (rest : List ℕ) → Is b → mapped to (p (joined (g b) ++ rest)) ≡ Ok (b, rest)
    again b rest h =
        ap (λ (l : Fields). mapped to (p (joined l ++ rest))) (laid b h) ∙ ap (mapped to) (r.again (onto b h).0 rest (onto b h).1.0) ∙ ap (λ (z : B). done (z, rest)) (onto b h).1.1

    fronts : (b : B) (front back : Fields) (rest : List ℕ) → Is b → g b ≡ front ++ back → AreStateBytes (joined front ++ rest) → left_of (mapped to (p (joined front ++ rest))) ≤ length rest
    fronts b front back rest h e bytes =
        let less = r.front (onto b h).0 front back rest (onto b h).1.0 (sym (laid b h) ∙ e) bytes in
        rw (left_mapped to (p (joined front ++ rest))) less

    reach : (bytes : List ℕ) (left : ℕ) → AreStateBytes bytes → mapped to (p bytes) ≡ Err left → Reaches Is g bytes left
    reach bytes left h e =
        let s = r.reach bytes left h (mapped_err to (p bytes) left e) in
        let made = makes s.value s.has in
        record { value = to s.value; has = made.0; front = s.front; back = s.back; rest = s.rest; fields = made.1 ∙ s.fields; begins = s.begins; ends = s.ends }

-- ---- a choice by the first byte

-- what is chosen where a test tells
pub chosen_true : {A : Type 0} (c : Bool) (x y z : A) → c ≡ true → cond c x y ≡ z → x ≡ z
chosen_true true x y z e h = h
chosen_true false x y z e h = absurd cc

pub chosen_false : {A : Type 0} (c : Bool) (x y z : A) → c ≡ false → cond c x y ≡ z → y ≡ z
chosen_false true x y z e h = absurd cc
chosen_false false x y z e h = h

pub takes_true : {A : Type 0} (c : Bool) (x y : A) → c ≡ true → cond c x y ≡ x
takes_true true x y e = refl
takes_true false x y e = absurd cc

pub takes_false : {A : Type 0} (c : Bool) (x y : A) → c ≡ false → cond c x y ≡ y
takes_false true x y e = absurd cc
takes_false false x y e = refl

pub tested : (c : Bool) → (c ≡ true) ⊎ (c ≡ false)
tested true = inl refl
tested false = inr refl

-- the list begins with one byte
pub record Starts (byte : ℕ) (fields : Fields) : Type 0 where
  pub behind : Fields
  pub is : fields ≡ tag byte ∷ behind

pub only-reader : {A : Type 0} (Has : A → Type 0) (f : A → Fields) (byte : ℕ) (p : Reader A)
    → IsReader Has f p → IsReader Has (λ a. tag byte ∷ f a) (only byte p)
only-reader {A = A} Has f byte p r = record { sound = sound; again = again; front = fronts; reach = reach }
  where
    sound : (bytes : List ℕ) (x : A × List ℕ) → AreStateBytes bytes → only byte p bytes ≡ Ok x → Has x.0 × (bytes ≡ byte ∷ (joined (f x.0) ++ x.1))
    sound [] x h e = absurd cc
    sound (b ∷ rest) x h e = elim (tested (b == byte)) [
      | inl t ↦
          let s = r.sound rest x h.1 (chosen_true (b == byte) (p rest) (Err (suc (length rest))) (done x) t e) in
          (s.0, ap (λ (z : ℕ). z ∷ rest) (eqb-true b byte t) ∙ ap (λ (l : List ℕ). byte ∷ l) s.1)
      | inr t ↦ let no : Err (suc (length rest)) ≡ done x = chosen_false (b == byte) (p rest) (Err (suc (length rest))) (done x) t e in absurd cc
    ]

    reads : (l : List ℕ) → only byte p (byte ∷ l) ≡ p l
    reads l = takes_true (byte == byte) (p l) (Err (suc (length l))) (eq-eqb byte byte refl)

    again : (a : A) (rest : List ℕ) → Has a → only byte p (byte ∷ (joined (f a) ++ rest)) ≡ Ok (a, rest)
    again a rest h = reads (joined (f a) ++ rest) ∙ r.again a rest h

    ended : (bytes : List ℕ) → AreStateBytes bytes → left_of (only byte p bytes) ≤ length bytes
    ended [] h = omega arith
    ended (b ∷ rest) h = elim (tested (b == byte)) [
      | inl t ↦ let less = within r rest h.1 in rw (takes_true (b == byte) (p rest) (Err (suc (length rest))) t) (omega (arith, less))
      | inr t ↦ rw (takes_false (b == byte) (p rest) (Err (suc (length rest))) t) (omega arith)
    ]

    fronts : (a : A) (front back : Fields) (rest : List ℕ) → Has a → tag byte ∷ f a ≡ front ++ back → AreStateBytes (joined front ++ rest)
        → left_of (only byte p (joined front ++ rest)) ≤ length rest
    fronts a [] back rest h e b = ended rest b
    fronts a (v ∷ vs) back rest h e b =
        let head : v ≡ tag byte = cc in
        let tail : f a ≡ vs ++ back = cc in
        let same : (v ++ joined vs) ++ rest ≡ byte ∷ (joined vs ++ rest) = ap (λ (l : List ℕ). (l ++ joined vs) ++ rest) head in
        let bytes : AreStateBytes (byte ∷ (joined vs ++ rest)) = subst AreStateBytes same b in
        let less = r.front a vs back rest h tail bytes.1 in
        let whole : left_of (only byte p ((v ++ joined vs) ++ rest)) ≡ left_of (p (joined vs ++ rest)) = ap (λ (l : List ℕ). left_of (only byte p l)) same ∙ ap left_of (reads (joined vs ++ rest)) in
        omega (arith, less, whole)

    nothing : (bytes : List ℕ) → (a : A) × Has a → Reaches Has (λ a. tag byte ∷ f a) bytes (length bytes)
    nothing bytes s = record { value = s.0; has = s.1; front = []; back = tag byte ∷ f s.0; rest = bytes; fields = refl; begins = refl; ends = refl }

    reach : (bytes : List ℕ) (left : ℕ) → AreStateBytes bytes → only byte p bytes ≡ Err left → Reaches Has (λ a. tag byte ∷ f a) bytes left
    reach [] left h e = subst (Reaches Has (λ a. tag byte ∷ f a) []) (err_is (A × List ℕ) 0 left e) (nothing [] (some r))
    reach (b ∷ rest) left h e = elim (tested (b == byte)) [
      | inl t ↦
          let s = r.reach rest left h.1 (chosen_true (b == byte) (p rest) (Err (suc (length rest))) (Err left) t e) in
          record {
            value = s.value;
            has = s.has;
            front = tag byte ∷ s.front;
            back = s.back;
            rest = s.rest;
            fields = ap (λ (l : Fields). tag byte ∷ l) s.fields;
            begins = ap (λ (z : ℕ). z ∷ rest) (eqb-true b byte t) ∙ ap (λ (l : List ℕ). byte ∷ l) s.begins;
            ends = s.ends;
          }
      | inr t ↦ subst (Reaches Has (λ a. tag byte ∷ f a) (b ∷ rest))
          (err_is (A × List ℕ) _ left (chosen_false (b == byte) (p rest) (Err (suc (length rest))) (Err left) t e))
          (nothing (b ∷ rest) (some r))
    ]

-- by the first byte a value is of the one kind or of the other
abbrev pub Either : {A B : Type 0} → (A → Type 0) → (B → Type 0) → A ⊎ B → Type 0
Either HasA HasB (inl a) = HasA a
Either HasA HasB (inr b) = HasB b

abbrev pub either_fields : {A B : Type 0} → (A → Fields) → (B → Fields) → A ⊎ B → Fields
either_fields f g (inl a) = f a
either_fields f g (inr b) = g b

-- it begins with another byte
abbrev pub StartsOther : ℕ → Fields → Type 0
StartsOther byte [] = ⊥
StartsOther byte (field ∷ fields) = (other : ℕ) × ((field ≡ tag other) × (other ≢ byte))

pub choose-reader : {A B : Type 0} (HasA : A → Type 0) (HasB : B → Type 0) (f : A → Fields) (g : B → Fields) (byte : ℕ) (p : Reader A) (q : Reader B)
    → IsReader HasA f p → IsReader HasB g q → ((b : B) → StartsOther byte (g b))
    → IsReader (Either HasA HasB) (either_fields (λ a. tag byte ∷ f a) g) (choose byte p q)
choose-reader {A = A} {B = B} HasA HasB f g byte p q rp rq others = record { sound = sound; again = again; front = fronts; reach = reach }
  where
    sound : (bytes : List ℕ) (x : (A ⊎ B) × List ℕ) → AreStateBytes bytes → choose byte p q bytes ≡ Ok x → Either HasA HasB x.0 × (bytes ≡ joined (either_fields (λ a. tag byte ∷ f a) g x.0) ++ x.1)
    sound [] x h e = absurd cc
    sound (b ∷ rest) x h e = elim (tested (b == byte)) [
      | inl t ↦
          let m = mapped_ok inl (p rest) x (chosen_true (b == byte) (mapped inl (p rest)) (mapped inr (q (b ∷ rest))) (done x) t e) in
          let s = rp.sound rest m.0 h.1 m.1.0 in
          subst (λ (z : (A ⊎ B) × List ℕ). Either HasA HasB z.0
          × (b ∷ rest ≡ joined (either_fields (λ a. tag byte ∷ f a) g z.0) ++ z.1)) m.1.1
          (s.0, ap (λ (z : ℕ). z ∷ rest) (eqb-true b byte t) ∙ ap (λ (l : List ℕ). byte ∷ l) s.1)
      | inr t ↦
          let m = mapped_ok inr (q (b ∷ rest)) x (chosen_false (b == byte) (mapped inl (p rest)) (mapped inr (q (b ∷ rest))) (done x) t e) in
          let s = rq.sound (b ∷ rest) m.0 h m.1.0 in
          subst (λ (z : (A ⊎ B) × List ℕ). Either HasA HasB z.0 × (b ∷ rest ≡ joined (either_fields (λ a. tag byte ∷ f a) g z.0) ++ z.1)) m.1.1 (s.0, s.1)
    ]

    reads_first : (l : List ℕ) → choose byte p q (byte ∷ l) ≡ mapped inl (p l)
    reads_first l = takes_true (byte == byte) (mapped inl (p l)) (mapped inr (q (byte ∷ l))) (eq-eqb byte byte refl)

    reads_other : (other : ℕ) (l : List ℕ) → other ≢ byte → choose byte p q (other ∷ l) ≡ mapped inr (q (other ∷ l))
    reads_other other l h = takes_false (other == byte) (mapped inl (p l)) (mapped inr (q (other ∷ l))) (ne_eqb other byte h)

    reads_behind : (b : B) (fields : Fields) (l : List ℕ) → g b ≡ fields → choose byte p q (joined (g b) ++ l) ≡ mapped inr (q (joined (g b) ++ l))
    reads_behind b [] l e = absurd (subst (StartsOther byte) e (others b))
    reads_behind b (v ∷ vs) l e =
        let o = subst (StartsOther byte) e (others b) in
        let same : joined (g b) ++ l ≡ o.0 ∷ (joined vs ++ l) = ap (λ (z : Fields). joined z ++ l) e ∙ ap (λ (z : List ℕ). (z ++ joined vs) ++ l) o.1.0 in
        rw same (reads_other o.0 (joined vs ++ l) o.1.1)

    again : (x : A ⊎ B) (rest : List ℕ) → Either HasA HasB x → choose byte p q (joined (either_fields (λ a. tag byte ∷ f a) g x) ++ rest) ≡ Ok (x, rest)
    again (inl a) rest h = reads_first (joined (f a) ++ rest) ∙ ap (mapped inl) (rp.again a rest h)
    again (inr b) rest h = reads_behind b (g b) rest refl ∙ ap (mapped inr) (rq.again b rest h)

    ended : (bytes : List ℕ) → AreStateBytes bytes → left_of (choose byte p q bytes) ≤ length bytes
    ended [] h = omega arith
    ended (b ∷ rest) h = elim (tested (b == byte)) [
      | inl t ↦
          let less = within rp rest h.1 in
          let whole : left_of (choose byte p q (b ∷ rest)) ≡ left_of (p rest) = ap left_of (takes_true (b == byte) (mapped inl (p rest)) (mapped inr (q (b ∷ rest))) t) ∙ left_mapped inl (p rest) in
          omega (arith, less, whole)
      | inr t ↦
          let less = within rq (b ∷ rest) h in
          let whole : left_of (choose byte p q (b ∷ rest))
          ≡ left_of (q (b ∷ rest)) = ap left_of
          (takes_false (b == byte) (mapped inl (p rest)) (mapped inr (q (b ∷ rest))) t)
          ∙ left_mapped inr (q (b ∷ rest)) in
          omega (arith, less, whole)
    ]

    fronts : (x : A ⊎ B) (front back : Fields) (rest : List ℕ) → Either HasA HasB x
        → either_fields (λ a. tag byte ∷ f a) g x ≡ front ++ back → AreStateBytes (joined front ++ rest)
        → left_of (choose byte p q (joined front ++ rest)) ≤ length rest
    fronts x [] back rest h e b = ended rest b
    fronts (inl a) (v ∷ vs) back rest h e b =
        let head : v ≡ tag byte = cc in
        let tail : f a ≡ vs ++ back = cc in
        let same : (v ++ joined vs) ++ rest ≡ byte ∷ (joined vs ++ rest) = ap (λ (l : List ℕ). (l ++ joined vs) ++ rest) head in
        let bytes : AreStateBytes (byte ∷ (joined vs ++ rest)) = subst AreStateBytes same b in
        let less = rp.front a vs back rest h tail bytes.1 in
        let whole : left_of (choose byte p q ((v ++ joined vs) ++ rest))
        ≡ left_of (p (joined vs ++ rest)) = ap (λ (l : List ℕ). left_of (choose byte p q l)) same
        ∙ ap left_of (reads_first (joined vs ++ rest)) ∙ left_mapped inl (p (joined vs ++ rest)) in
        omega (arith, less, whole)
    fronts (inr x) (v ∷ vs) back rest h e b =
        let o = subst (StartsOther byte) e (others x) in
        let same : (v ++ joined vs) ++ rest ≡ o.0 ∷ (joined vs ++ rest) = ap (λ (l : List ℕ). (l ++ joined vs) ++ rest) o.1.0 in
        let less = rq.front x (v ∷ vs) back rest h e b in
        let there : left_of (q ((v ++ joined vs) ++ rest)) ≡ left_of (q (o.0 ∷ (joined vs ++ rest))) = ap (λ (l : List ℕ). left_of (q l)) same in
        let whole : left_of (choose byte p q ((v ++ joined vs) ++ rest))
        ≡ left_of (q (o.0 ∷ (joined vs ++ rest))) = ap (λ (l : List ℕ). left_of (choose byte p q l)) same
        ∙ ap left_of (reads_other o.0 (joined vs ++ rest) o.1.1)
        ∙ left_mapped inr (q (o.0 ∷ (joined vs ++ rest))) in
        omega (arith, less, there, whole)

    reach : (bytes : List ℕ) (left : ℕ) → AreStateBytes bytes → choose byte p q bytes ≡ Err left → Reaches (Either HasA HasB) (either_fields (λ a. tag byte ∷ f a) g) bytes left
    reach [] left h e =
        let s = some rp in
        subst (Reaches (Either HasA HasB) (either_fields (λ a. tag byte ∷ f a) g) [])
        (err_is ((A ⊎ B) × List ℕ) 0 left e)
        (record {
          value = inl s.0;
          has = s.1;
          front = [];
          back = tag byte ∷ f s.0;
          rest = [];
          fields = refl;
          begins = refl;
          ends = refl;
        })
    reach (b ∷ rest) left h e = elim (tested (b == byte)) [
      | inl t ↦
          let s = rp.reach rest left h.1 (mapped_err inl (p rest) left (chosen_true (b == byte) (mapped inl (p rest)) (mapped inr (q (b ∷ rest))) (Err left) t e)) in
          record {
            value = inl s.value;
            has = s.has;
            front = tag byte ∷ s.front;
            back = s.back;
            rest = s.rest;
            fields = ap (λ (l : Fields). tag byte ∷ l) s.fields;
            begins = ap (λ (z : ℕ). z ∷ rest) (eqb-true b byte t) ∙ ap (λ (l : List ℕ). byte ∷ l) s.begins;
            ends = s.ends;
          }
      | inr t ↦
          let s = rq.reach (b ∷ rest) left h (mapped_err inr (q (b ∷ rest)) left (chosen_false (b == byte) (mapped inl (p rest)) (mapped inr (q (b ∷ rest))) (Err left) t e)) in
          record { value = inr s.value; has = s.has; front = s.front; back = s.back; rest = s.rest; fields = s.fields; begins = s.begins; ends = s.ends }
    ]

-- ---- so many

pub many-reader : {A : Type 0} (Has : A → Type 0) (f : A → Fields) (p : Reader A) (n : ℕ) → IsReader Has f p
    → IsReader (λ (l : List A). (length l ≡ n) × AllByRecursion Has l) (flat_map f) (many n p)
many-reader {A = A} Has f p zero r = record { sound = sound; again = again; front = fronts; reach = λ bytes left h e. absurd cc }
  where
    sound : (bytes : List ℕ) (x : List A × List ℕ) → AreStateBytes bytes → many zero p bytes ≡ Ok x → ((length x.0 ≡ 0) × AllByRecursion Has x.0) × (bytes ≡ joined (flat_map f x.0) ++ x.1)
    sound bytes x h e =
        subst (λ (z : List A × List ℕ). ((length z.0 ≡ 0) × AllByRecursion Has z.0) × (bytes ≡ joined (flat_map f z.0) ++ z.1)) (ok_is _ _ e) ((refl, tt), refl)

    again : (l : List A) (rest : List ℕ) → (length l ≡ 0) × AllByRecursion Has l → many zero p (joined (flat_map f l) ++ rest) ≡ Ok (l, rest)
    again [] rest h = refl
    again (a ∷ l) rest h = absurd cc

    fronts : (l : List A) (front back : Fields) (rest : List ℕ) → (length l ≡ 0) × AllByRecursion Has l → flat_map f l ≡ front ++ back → AreStateBytes (joined front ++ rest)
        → left_of (many zero p (joined front ++ rest)) ≤ length rest
    fronts [] [] back rest h e b = omega arith
    fronts [] (v ∷ vs) back rest h e b = absurd cc
    fronts (a ∷ l) front back rest h e b = absurd cc
many-reader {A = A} Has f p (suc n) r =
    via-reader (λ (x : A × List A). Has x.0 × ((length x.1 ≡ n) × AllByRecursion Has x.1))
    (λ x. f x.0 ++ flat_map f x.1) (λ (l : List A). (length l ≡ suc n) × AllByRecursion Has l) (flat_map f)
    (λ x. x.0 ∷ x.1) (both p (many n p))
    (followed-reader Has (λ a l. (length l ≡ n) × AllByRecursion Has l) f (λ a. flat_map f) p (λ a. many n p) r (λ a h. many-reader Has f p n r))
    (λ x h. ((ap suc h.1.0, (h.0, h.1.1)), refl))
    onto
  where
    onto : (l : List A) → (length l ≡ suc n) × AllByRecursion Has l → (x : A × List A) × ((Has x.0 × ((length x.1 ≡ n) × AllByRecursion Has x.1)) × ((x.0 ∷ x.1) ≡ l))
    onto [] h = absurd cc
    onto (a ∷ l) h = ((a, l), ((h.1.0, (omega (arith, h.0), h.1.1)), refl))
