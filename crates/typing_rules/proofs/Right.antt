-- Nodes whose verdicts, faults and meaning agree, and how they are put together.
use Rattle.std.proofs.Common.{◌≤◌, ◌≡◌, refl, ap, subst, ℕ, true, List, [], ◌∷◌, ◌++◌, Option, None, Some, option_map, ◌⊎◌, inl, inr}
use Rattle.std.proofs.lemmas.Option.{none-some, same_Some}
use Rattle.typing_rules.specs.declared.fault.Fault.{Fault}
use Rattle.typing_rules.specs.declared.fault.FaultKind.{FaultKind}
use Rattle.typing_rules.specs.Nodes.{Rows, rank, first_kind, Verdict, Fine, Wrong, Open, fine, ruled, asked, passed, two, three, four, no_parts, present_if, if_there, Fits, Own, There, absent}
use Rattle.typing_rules.specs.Nodes.{present, FaultThere, at, faults_there, Among}
use Rattle.typing_rules.proofs.FirstKind.{first_is, only_first}

-- An answer, and a list of faults, that agree with a meaning: what is typed so, and what is at
-- fault. T says that what is in sight is typed.
pub record Right (T : Type 0) {A : Type 0} (P : A → Type 0) (o : Option A) (fs : List Fault) (Q : Fault → Type 0) : Type 0 where
  pub complete : (a : A) → P a → o ≡ Some a
  pub sound : (a : A) → o ≡ Some a → P a
  pub out : (f : Fault) → Among f fs → Q f
  pub up : (f : Fault) → Q f → Among f fs
  pub quiet : (a : A) → o ≡ Some a → fs ≡ []
  pub settled : T → fs ≡ [] → (a : A) × (o ≡ Some a)

abbrev pub Never : Fault → Type 0
Never f = ⊥

-- ---- lists of faults

pub among_left : (f : Fault) (xs ys : List Fault) → Among f xs → Among f (xs ++ ys)
among_left f [] ys h = absurd h
among_left f (x ∷ xs) ys (inl e) = inl e
among_left f (x ∷ xs) ys (inr h) = inr (among_left f xs ys h)

pub among_right : (f : Fault) (xs ys : List Fault) → Among f ys → Among f (xs ++ ys)
among_right f [] ys h = h
among_right f (x ∷ xs) ys h = inr (among_right f xs ys h)

pub among_split : (f : Fault) (xs ys : List Fault) → Among f (xs ++ ys) → Among f xs ⊎ Among f ys
among_split f [] ys h = inr h
among_split f (x ∷ xs) ys (inl e) = inl (inl e)
among_split f (x ∷ xs) ys (inr h) = on (among_split f xs ys h)
  where
    on : Among f xs ⊎ Among f ys → ((x ≡ f) ⊎ Among f xs) ⊎ Among f ys
    on (inl a) = inl (inr a)
    on (inr b) = inr b

pub none_split : (xs ys : List Fault) → xs ++ ys ≡ [] → (xs ≡ []) × (ys ≡ [])
none_split [] ys e = (refl, e)
none_split (x ∷ xs) ys e = absurd cc

pub none_join : (xs ys : List Fault) → xs ≡ [] → ys ≡ [] → xs ++ ys ≡ []
none_join xs ys d e = rw (d, e) refl

-- two lists that hold what is at fault in either way
joined_out : {P Q : Fault → Type 0} (xs ys : List Fault) → ((f : Fault) → Among f xs → P f) → ((f : Fault) → Among f ys → Q f)
    → (f : Fault) → Among f (xs ++ ys) → P f ⊎ Q f
joined_out {P} {Q} xs ys g h f a = on (among_split f xs ys a)
  where
    on : Among f xs ⊎ Among f ys → P f ⊎ Q f
    on (inl b) = inl (g f b)
    on (inr b) = inr (h f b)

joined_up : {P Q : Fault → Type 0} (xs ys : List Fault) → ((f : Fault) → P f → Among f xs) → ((f : Fault) → Q f → Among f ys)
    → (f : Fault) → P f ⊎ Q f → Among f (xs ++ ys)
joined_up xs ys g h f (inl p) = among_left f xs ys (g f p)
joined_up xs ys g h f (inr q) = among_right f xs ys (h f q)

-- ---- verdicts

pub two_is : {A B : Type 0} (o : Option A) (p : Option B) (q : A × B) → two o p ≡ Some q → (o ≡ Some q.0) × (p ≡ Some q.1)
two_is (Some a) (Some b) q e = let h = same_Some _ _ e in (ap (λ r. Some r.0) h, ap (λ r. Some r.1) h)
two_is (Some a) None q e = absurd (none-some q e)
two_is None p q e = absurd (none-some q e)

pub three_is : {A B C : Type 0} (o : Option A) (p : Option B) (r : Option C) (q : A × B × C) → three o p r ≡ Some q
    → (o ≡ Some q.0) × (p ≡ Some q.1) × (r ≡ Some q.2)
three_is (Some a) (Some b) (Some c) q e = let h = same_Some _ _ e in (ap (λ r. Some r.0) h, ap (λ r. Some r.1) h, ap (λ r. Some r.2) h)
three_is (Some a) (Some b) None q e = absurd (none-some q e)
three_is (Some a) None r q e = absurd (none-some q e)
three_is None p r q e = absurd (none-some q e)

four_is : {A B C D : Type 0} (o : Option A) (p : Option B) (r : Option C) (s : Option D) (q : A × B × C × D) → four o p r s ≡ Some q
    → (o ≡ Some q.0) × (p ≡ Some q.1) × (r ≡ Some q.2) × (s ≡ Some q.3)
four_is (Some a) (Some b) (Some c) (Some d) q e =
    let h = same_Some _ _ e in (ap (λ r. Some r.0) h, ap (λ r. Some r.1) h, ap (λ r. Some r.2) h, ap (λ r. Some r.3) h)
four_is (Some a) (Some b) (Some c) None q e = absurd (none-some q e)
four_is (Some a) (Some b) None s q e = absurd (none-some q e)
four_is (Some a) None r s q e = absurd (none-some q e)
four_is None p r s q e = absurd (none-some q e)

ruled_fine : {B : Type 0} (k : FaultKind) (o : Option B) (b : B) → fine (ruled k o) ≡ Some b → o ≡ Some b
ruled_fine k (Some c) b e = e
ruled_fine k None b e = absurd (none-some b e)

pub asked_fine : {A B : Type 0} (rows : A → Rows) (rule : A → Option B) (o : Option A) (b : B) → fine (asked rows rule o) ≡ Some b
    → (a : A) × (o ≡ Some a) × (rule a ≡ Some b)
asked_fine rows rule None b e = absurd (none-some b e)
asked_fine rows rule (Some a) b e = (a, refl, ruled_fine (first_kind (rows a)) (rule a) b e)

abbrev kind_or : {B : Type 0} → FaultKind → Verdict B → FaultKind
kind_or k (Wrong i) = i
kind_or k (Fine b) = k
kind_or k Open = k

ruled_wrong : {B : Type 0} (j k : FaultKind) (o : Option B) → ruled j o ≡ Wrong k → (o ≡ None) × (j ≡ k)
ruled_wrong j k (Some b) e = absurd cc
ruled_wrong {B} j k None e = (refl, ap {A = Verdict B} (kind_or k) e)

asked_wrong : {A B : Type 0} (rows : A → Rows) (rule : A → Option B) (o : Option A) (k : FaultKind) → asked rows rule o ≡ Wrong k
    → (a : A) × (o ≡ Some a) × (rule a ≡ None) × (first_kind (rows a) ≡ k)
asked_wrong rows rule None k e = absurd cc
asked_wrong rows rule (Some a) k e = let h = ruled_wrong (first_kind (rows a)) k (rule a) e in (a, refl, h.0, h.1)

at_among : {A : Type 0} (n : ℕ) (v : Verdict A) (f : Fault) → Among f (at n v) → (v ≡ Wrong f.kind) × (n ≡ f.token)
at_among n (Fine a) f h = absurd h
at_among n Open f h = absurd h
at_among n (Wrong k) f (inl e) = (ap (λ (g : Fault). Wrong g.kind) e, ap (λ (g : Fault). g.token) e)
at_among n (Wrong k) f (inr h) = absurd h

same_fault : (k : FaultKind) (n : ℕ) (f : Fault) → k ≡ f.kind → n ≡ f.token → Among f (at {A = ⊥} n (Wrong k))
same_fault k n f d e = inl (rw (d, e) refl)

pub quiet_at : {A : Type 0} (n : ℕ) (v : Verdict A) (a : A) → fine v ≡ Some a → at n v ≡ []
quiet_at n (Fine b) a e = refl
quiet_at n (Wrong k) a e = absurd (none-some a e)
quiet_at n Open a e = absurd (none-some a e)

settle_ruled : {B : Type 0} (n : ℕ) (k : FaultKind) (o : Option B) → at n (ruled k o) ≡ [] → (b : B) × (fine (ruled k o) ≡ Some b)
settle_ruled n k (Some b) e = (b, refl)
settle_ruled n k None e = absurd cc

pub settle_at : {A B : Type 0} (rows : A → Rows) (rule : A → Option B) (n : ℕ) (o : Option A) (a : A) → o ≡ Some a → at n (asked rows rule o) ≡ []
    → (b : B) × (fine (asked rows rule o) ≡ Some b)
settle_at rows rule n (Some c) a i e = settle_ruled n (first_kind (rows c)) (rule c) e
settle_at rows rule n None a i e = absurd (none-some a i)

-- ---- nodes

-- some row is true wherever the rule doesn't fit
abbrev pub Covered : {A B : Type 0} → (A → Rows) → (A → Option B) → Type 0
Covered {A} rows rule = (a : A) → rule a ≡ None → (k : FaultKind) × (rows a k ≡ true)

own_out : {A B : Type 0} (rows : A → Rows) (rule : A → Option B) → Covered rows rule → (P : A → Type 0) (o : Option A) → ((a : A) → o ≡ Some a → P a)
    → (n : ℕ) (f : Fault) → Among f (at n (asked rows rule o)) → Own n P rule rows f
own_out rows rule covered P o sound n f h =
    let w = at_among n (asked rows rule o) f h in
    let (a, i, misfit, first) = asked_wrong rows rule o f.kind w.0 in
    let row = covered a misfit in
    record {
      fault = record {
        typed = a;
        parts = sound a i;
        misfit = misfit;
        true_of = subst (λ k. rows a k ≡ true) first (first_is (rows a) row.0 row.1).1;
        first = λ j e. subst (λ k. rank k ≤ rank j) first (first_is (rows a) j e).0;
      };
      token = w.1;
    }

own_up : {A B : Type 0} (rows : A → Rows) (rule : A → Option B) (P : A → Type 0) (o : Option A) → ((a : A) → P a → o ≡ Some a)
    → (n : ℕ) (f : Fault) → Own n P rule rows f → Among f (at n (asked rows rule o))
own_up rows rule P o complete n f own =
    let a = own.fault in
    rw (complete a.typed a.parts, a.misfit) (same_fault (first_kind (rows a.typed)) n f (only_first (rows a.typed) f.kind a.true_of a.first) own.token)

pub node : {T A B : Type 0} (rows : A → Rows) (rule : A → Option B) → Covered rows rule → (n : ℕ) {P : A → Type 0} {o : Option A} {fs : List Fault} {Q : Fault → Type 0}
    → Right T P o fs Q → Right T (Fits P rule) (fine (asked rows rule o)) (fs ++ at n (asked rows rule o)) (λ f. Q f ⊎ Own n P rule rows f)
node {T} {A} {B} rows rule covered n {P} {o} {fs} r = record {
  complete = λ b f. rw (r.complete f.typed f.parts, f.gives) refl;
  sound = λ b e. let h = asked_fine rows rule o b e in record { typed = h.0; parts = r.sound h.0 h.1; gives = h.2 };
  out = joined_out fs (at n (asked rows rule o)) r.out (own_out rows rule covered P o r.sound n);
  up = joined_up fs (at n (asked rows rule o)) r.up (own_up rows rule P o r.complete n);
  quiet = λ b e. let h = asked_fine rows rule o b e in none_join fs (at n (asked rows rule o)) (r.quiet h.0 h.1) (quiet_at n (asked rows rule o) b e);
  settled = λ t e.
      let h = none_split fs (at n (asked rows rule o)) e in
      let s = r.settled t h.0 in
      settle_at rows rule n o s.0 s.1 h.1;
}

-- the same of other words for what is typed, and for what is at fault
pub said : {T A : Type 0} {P R : A → Type 0} {o : Option A} {fs : List Fault} {Q : Fault → Type 0}
    → ((a : A) → P a → R a) → ((a : A) → R a → P a) → Right T P o fs Q → Right T R o fs Q
said there back r = record {
  complete = λ a h. r.complete a (back a h);
  sound = λ a e. there a (r.sound a e);
  out = r.out;
  up = r.up;
  quiet = r.quiet;
  settled = r.settled;
}

pub told : {T A : Type 0} {P : A → Type 0} {o : Option A} {fs : List Fault} {Q R : Fault → Type 0}
    → ((f : Fault) → Q f → R f) → ((f : Fault) → R f → Q f) → Right T P o fs Q → Right T P o fs R
told there back r = record {
  complete = r.complete;
  sound = r.sound;
  out = λ f h. there f (r.out f h);
  up = λ f h. r.up f (back f h);
  quiet = r.quiet;
  settled = r.settled;
}

-- what is in sight is typed already where more is
pub under : {T U A : Type 0} {P : A → Type 0} {o : Option A} {fs : List Fault} {Q : Fault → Type 0} → (U → T) → Right T P o fs Q → Right U P o fs Q
under given r = record {
  complete = r.complete;
  sound = r.sound;
  out = r.out;
  up = r.up;
  quiet = r.quiet;
  settled = λ u e. r.settled (given u) e;
}

-- where it is typed as soon as nothing in it is at fault
pub given_by : {T U A : Type 0} {P : A → Type 0} {o : Option A} {fs : List Fault} {Q : Fault → Type 0} → (U → fs ≡ [] → T) → Right T P o fs Q → Right U P o fs Q
given_by given r = record {
  complete = r.complete;
  sound = r.sound;
  out = r.out;
  up = r.up;
  quiet = r.quiet;
  settled = λ u e. r.settled (given u e) e;
}

-- a look-up
pub looked : {T A : Type 0} (o : Option A) → (T → (a : A) × (o ≡ Some a)) → Right T (λ a. o ≡ Some a) o [] Never
looked o there = record {
  complete = λ a h. h;
  sound = λ a h. h;
  out = λ f h. h;
  up = λ f h. h;
  quiet = λ a h. refl;
  settled = λ t e. there t;
}

pub no_part : {T : Type 0} → Right T (λ (u : Unit {0}). Unit {0}) no_parts [] Never
no_part = record {
  complete = λ a h. refl;
  sound = λ a h. tt;
  out = λ f h. h;
  up = λ f h. h;
  quiet = λ a h. refl;
  settled = λ t e. (tt, refl);
}

-- a node none of whose parts has faults of its own
pub leaf : {T A B : Type 0} (rows : A → Rows) (rule : A → Option B) → Covered rows rule → (n : ℕ) {P : A → Type 0} {o : Option A}
    → Right T P o [] Never → Right T (Fits P rule) (fine (asked rows rule o)) (at n (asked rows rule o)) (Own n P rule rows)
leaf rows rule covered n {P} r = told here (λ f h. inr h) (node rows rule covered n r)
  where
    here : (f : Fault) → ⊥ ⊎ Own n P rule rows f → Own n P rule rows f
    here f (inl h) = absurd h
    here f (inr h) = h

-- ---- parts

-- What is in sight of the second part may depend on the first one.
pub both : {T U A B : Type 0} {P : A → Type 0} {P' : B → Type 0} {o : Option A} {p : Option B} {fs gs : List Fault} {Q Q' : Fault → Type 0}
    → Right T P o fs Q → (T → fs ≡ [] → U) → Right U P' p gs Q' → Right T (λ q. P q.0 × P' q.1) (two o p) (fs ++ gs) (λ f. Q f ⊎ Q' f)
both {T} {U} {A} {B} {P} {P'} {o} {p} {fs} {gs} r step s = record {
  complete = λ q h. rw (r.complete q.0 h.0, s.complete q.1 h.1) refl;
  sound = λ q e. let h = two_is o p q e in (r.sound q.0 h.0, s.sound q.1 h.1);
  out = joined_out fs gs r.out s.out;
  up = joined_up fs gs r.up s.up;
  quiet = λ q e. let h = two_is o p q e in none_join fs gs (r.quiet q.0 h.0) (s.quiet q.1 h.1);
  settled = λ t e.
      let h = none_split fs gs e in
      let a = r.settled t h.0 in
      let b = s.settled (step t h.0) h.1 in
      ((a.0, b.0), rw (a.1, b.1) refl);
}

pub all_three : {T U V A B C : Type 0} {P : A → Type 0} {P' : B → Type 0} {P'' : C → Type 0} {o : Option A} {p : Option B} {q : Option C}
    {fs gs hs : List Fault} {Q Q' Q'' : Fault → Type 0}
    → Right T P o fs Q → (T → fs ≡ [] → U) → Right U P' p gs Q' → (U → gs ≡ [] → V) → Right V P'' q hs Q''
    → Right T (λ r. P r.0 × P' r.1 × P'' r.2) (three o p q) (fs ++ (gs ++ hs)) (λ f. Q f ⊎ (Q' f ⊎ Q'' f))
all_three {o = o} {p = p} {q = q} {fs = fs} {gs = gs} {hs = hs} r step s step' t = record {
  complete = λ x h. rw (r.complete x.0 h.0, s.complete x.1 h.1, t.complete x.2 h.2) refl;
  sound = λ x e. let h = three_is o p q x e in (r.sound x.0 h.0, s.sound x.1 h.1, t.sound x.2 h.2);
  out = joined_out fs (gs ++ hs) r.out (joined_out gs hs s.out t.out);
  up = joined_up fs (gs ++ hs) r.up (joined_up gs hs s.up t.up);
  quiet = λ x e.
      let h = three_is o p q x e in
      none_join fs (gs ++ hs) (r.quiet x.0 h.0) (none_join gs hs (s.quiet x.1 h.1) (t.quiet x.2 h.2));
  settled = λ w e.
      let h = none_split fs (gs ++ hs) e in
      let i = none_split gs hs h.1 in
      let a = r.settled w h.0 in
      let b = s.settled (step w h.0) i.0 in
      let c = t.settled (step' (step w h.0) i.0) i.1 in
      ((a.0, b.0, c.0), rw (a.1, b.1, c.1) refl);
}

pub all_four : {T A B C D : Type 0} {P : A → Type 0} {P' : B → Type 0} {P'' : C → Type 0} {P3 : D → Type 0} {o : Option A} {p : Option B} {q : Option C} {w : Option D}
    {fs gs hs is : List Fault} {Q Q' Q'' Q3 : Fault → Type 0}
    → Right T P o fs Q → Right T P' p gs Q' → Right T P'' q hs Q'' → Right T P3 w is Q3
    → Right T (λ r. P r.0 × P' r.1 × P'' r.2 × P3 r.3) (four o p q w) (fs ++ (gs ++ (hs ++ is))) (λ f. Q f ⊎ (Q' f ⊎ (Q'' f ⊎ Q3 f)))
all_four {o = o} {p = p} {q = q} {w = w} {fs = fs} {gs = gs} {hs = hs} {is = is} r s t u = record {
  complete = λ x h. rw (r.complete x.0 h.0, s.complete x.1 h.1, t.complete x.2 h.2, u.complete x.3 h.3) refl;
  sound = λ x e. let h = four_is o p q w x e in (r.sound x.0 h.0, s.sound x.1 h.1, t.sound x.2 h.2, u.sound x.3 h.3);
  out = joined_out fs (gs ++ (hs ++ is)) r.out (joined_out gs (hs ++ is) s.out (joined_out hs is t.out u.out));
  up = joined_up fs (gs ++ (hs ++ is)) r.up (joined_up gs (hs ++ is) s.up (joined_up hs is t.up u.up));
  quiet = λ x e.
      let h = four_is o p q w x e in
      none_join fs (gs ++ (hs ++ is)) (r.quiet x.0 h.0)
      (none_join gs (hs ++ is) (s.quiet x.1 h.1) (none_join hs is (t.quiet x.2 h.2) (u.quiet x.3 h.3)));
  settled = λ v e.
      let h = none_split fs (gs ++ (hs ++ is)) e in
      let i = none_split gs (hs ++ is) h.1 in
      let j = none_split hs is i.1 in
      let a = r.settled v h.0 in
      let b = s.settled v i.0 in
      let c = t.settled v j.0 in
      let d = u.settled v j.1 in
      ((a.0, b.0, c.0, d.0), rw (a.1, b.1, c.1, d.1) refl);
}

-- a part, then a look-up
pub and_looked : {T A B : Type 0} {P : A → Type 0} {o : Option A} {fs : List Fault} {Q : Fault → Type 0} → Right T P o fs Q
    → (l : Option B) → (T → (b : B) × (l ≡ Some b)) → Right T (λ q. P q.0 × (l ≡ Some q.1)) (two o l) fs Q
and_looked {o = o} r l there = record {
  complete = λ q h. rw (r.complete q.0 h.0, h.1) refl;
  sound = λ q e. let h = two_is o l q e in (r.sound q.0 h.0, h.1);
  out = r.out;
  up = r.up;
  quiet = λ q e. r.quiet q.0 (two_is o l q e).0;
  settled = λ t e. let a = r.settled t e in let b = there t in ((a.0, b.0), rw (a.1, b.1) refl);
}

pub looked_and : {T A B : Type 0} {P : A → Type 0} {o : Option A} {fs : List Fault} {Q : Fault → Type 0}
    → (l : Option B) → (T → (b : B) × (l ≡ Some b)) → Right T P o fs Q → Right T (λ q. (l ≡ Some q.0) × P q.1) (two l o) fs Q
looked_and {o = o} l there r = record {
  complete = λ q h. rw (h.0, r.complete q.1 h.1) refl;
  sound = λ q e. let h = two_is l o q e in (h.0, r.sound q.1 h.1);
  out = r.out;
  up = r.up;
  quiet = λ q e. r.quiet q.1 (two_is l o q e).1;
  settled = λ t e. let a = r.settled t e in let b = there t in ((b.0, a.0), rw (b.1, a.1) refl);
}

pub and_two_looked : {T A B C : Type 0} {P : A → Type 0} {o : Option A} {fs : List Fault} {Q : Fault → Type 0} → Right T P o fs Q
    → (l : Option B) → (T → (b : B) × (l ≡ Some b)) → (m : Option C) → (T → (c : C) × (m ≡ Some c))
    → Right T (λ q. P q.0 × (l ≡ Some q.1) × (m ≡ Some q.2)) (three o l m) fs Q
and_two_looked {o = o} r l there m there' = record {
  complete = λ q h. rw (r.complete q.0 h.0, h.1, h.2) refl;
  sound = λ q e. let h = three_is o l m q e in (r.sound q.0 h.0, h.1, h.2);
  out = r.out;
  up = r.up;
  quiet = λ q e. r.quiet q.0 (three_is o l m q e).0;
  settled = λ t e. let a = r.settled t e in let b = there t in let c = there' t in ((a.0, b.0, c.0), rw (a.1, b.1, c.1) refl);
}

-- ---- what is typed as soon as its parts are

passed_is : {A B : Type 0} (f : A → B) (o : Option A) (b : B) → fine (passed f o) ≡ Some b → (a : A) × (o ≡ Some a) × (f a ≡ b)
passed_is f None b e = absurd (none-some b e)
passed_is f (Some a) b e = (a, refl, same_Some _ _ e)

map_is : {A B : Type 0} (f : A → B) (o : Option A) (b : B) → option_map f o ≡ Some b → (a : A) × (o ≡ Some a) × (f a ≡ b)
map_is f None b e = absurd (none-some b e)
map_is f (Some a) b e = (a, refl, same_Some _ _ e)

abbrev pub Image : {A B : Type 0} → (A → B) → (A → Type 0) → B → Type 0
Image {A} f P b = (a : A) × P a × (f a ≡ b)

pub passes : {T A B : Type 0} (f : A → B) {P : A → Type 0} {o : Option A} {fs : List Fault} {Q : Fault → Type 0} → Right T P o fs Q
    → Right T (Image f P) (fine (passed f o)) fs Q
passes f {o = o} r = record {
  complete = λ b h. rw (r.complete h.0 h.1) (ap Some h.2);
  sound = λ b e. let h = passed_is f o b e in (h.0, r.sound h.0 h.1, h.2);
  out = r.out;
  up = r.up;
  quiet = λ b e. let h = passed_is f o b e in r.quiet h.0 h.1;
  settled = λ t e. let a = r.settled t e in (f a.0, rw a.1 refl);
}

pub maps : {T A B : Type 0} (f : A → B) {P : A → Type 0} {o : Option A} {fs : List Fault} {Q : Fault → Type 0} → Right T P o fs Q
    → Right T (Image f P) (option_map f o) fs Q
maps f {o = o} r = record {
  complete = λ b h. rw (r.complete h.0 h.1) (ap Some h.2);
  sound = λ b e. let h = map_is f o b e in (h.0, r.sound h.0 h.1, h.2);
  out = r.out;
  up = r.up;
  quiet = λ b e. let h = map_is f o b e in r.quiet h.0 h.1;
  settled = λ t e. let a = r.settled t e in (f a.0, rw a.1 refl);
}

-- ---- a part that may be absent

present_is : {B : Type 0} (o : Option B) (q : Option B) → present_if o ≡ Some q → (b : B) × (o ≡ Some b) × (Some b ≡ q)
present_is None q e = absurd (none-some q e)
present_is (Some b) q e = (b, refl, same_Some _ _ e)

there_complete : {A B : Type 0} {P : A → B → Type 0} (g : A → Option B) → ((a : A) (b : B) → P a b → g a ≡ Some b) → {o : Option A} {q : Option B}
    → There P o q → if_there g o ≡ Some q
there_complete g h absent = refl
there_complete g h (present {a = a} {b = b} p) = rw (h a b p) refl

pub if_right : {T A B : Type 0} {P : A → B → Type 0} (g : A → Option B) (fs : A → List Fault) (Q : A → Fault → Type 0)
    → ((a : A) → Right T (P a) (g a) (fs a) (Q a)) → (o : Option A)
    → Right T (There P o) (if_there g o) (faults_there fs o) (FaultThere Q o)
if_right {P = P} g fs Q r None = record {
  complete = λ q h. there_complete g (λ a. (r a).complete) h;
  sound = λ q e. subst (There P None) (same_Some _ _ e) absent;
  out = λ f h. h;
  up = λ f h. h;
  quiet = λ q e. refl;
  settled = λ t e. (None, refl);
}
if_right {P = P} g fs Q r (Some a) = record {
  complete = λ q h. there_complete g (λ a. (r a).complete) h;
  sound = λ q e. let p = present_is (g a) q e in subst (There P (Some a)) p.2 (present ((r a).sound p.0 p.1));
  out = (r a).out;
  up = (r a).up;
  quiet = λ q e. let p = present_is (g a) q e in (r a).quiet p.0 p.1;
  settled = λ t e. let b = (r a).settled t e in (Some b.0, rw b.1 refl);
}

-- nothing that could be at fault
pub always : {T A : Type 0} (a : A) → Right T (λ b. a ≡ b) (Some a) [] Never
always a = record {
  complete = λ b h. ap Some h;
  sound = λ b e. same_Some _ _ e;
  out = λ f h. h;
  up = λ f h. h;
  quiet = λ b e. refl;
  settled = λ t e. (a, refl);
}
