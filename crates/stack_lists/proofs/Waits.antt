-- Calls that wait: what is handed in and out leaves each mark right.
use Rattle.std.proofs.Common.{arith, ◌≡◌, ◌≢◌, ◌≤◌, ◌+◌, ℕ, zero, suc, List, [], ◌∷◌, ◌++◌, length, map, get_or, ◌⊎◌, inl, inr, sym, subst, ◌∙◌, ap, refl, append-nil}
use Rattle.std.specs.Prelude.{Contains}
use Rattle.std.proofs.lemmas.Bool.{cases_eq}
use Rattle.std.proofs.lemmas.List.{append_assoc, length-append, map-append}
use Rattle.std.proofs.lemmas.List.Elements.{Contains-append_left, Contains-append_right, Contains-append_cases, Contains-push, Contains-push_cases}
use Rattle.stack_lists.specs.declared.lists.Node.{Node}
use Rattle.stack_lists.specs.declared.todo.Again.{Again}
use Rattle.stack_lists.specs.declared.todo.Call.{Call}
use Rattle.stack_lists.specs.declared.todo.Spot.{Spot}
use Rattle.stack_lists.specs.Shared.{Grows, read}
use Rattle.stack_lists.specs.Rows.{PutAt, SameNumbers}
use Rattle.stack_lists.specs.Worklist.{AllWait, CallsPut, HasNumber, IsTop, KeepsWaiting, StandsAt, spot_of}
use Rattle.stack_lists.proofs.Worklists.{top_still}

-- ---- the first of all

none_there : (t : ℕ) → get_or (let xs : List ℕ = [] in xs) t 0 ≡ 0
none_there zero = refl
none_there (suc t) = refl

pub wait_none : (calls : List (Node Call)) (waits : List ℕ) (now later : List Again) → waits ≡ [] → now ≡ [] → later ≡ [] → AllWait calls waits (now ++ later)
wait_none calls waits now later w n l =
    subst (λ z. AllWait calls waits z) (sym (ap (λ (z : List Again). z ++ later) n ∙ l)) (record {
      here = λ number ne. absurd (ne (ap (λ (ws : List ℕ). get_or ws number 0) w ∙ none_there number));
      tops = λ again c. absurd (let lt = c.1 in omega (arith, lt));
    })

pub ruleset beginning = (wait_none)

-- ---- one call is handed in

among_map : (all : List Again) (again : Again) → Contains all again → Contains (map spot_of all) again.spot
among_map [] again c = absurd (let lt = c.1 in omega (arith, lt))
among_map (a ∷ all) again (zero, l, e) = (0, omega arith, ap spot_of e)
among_map (a ∷ all) again (suc k, l, e) = Contains-append_right (a.spot ∷ []) (map spot_of all) again.spot (among_map all again (k, omega (arith, l), e))

pub keeps_same : (calls : List (Node Call)) (later : List Again) (waits : List ℕ) → KeepsWaiting calls later waits later waits
keeps_same calls later waits = record { by = λ others all. all }

pub keeps_numbers : (calls : List (Node Call)) (later : List Again) (waits after : List ℕ) → SameNumbers waits after → KeepsWaiting calls later waits later after
keeps_numbers calls later waits after s = record {
  by = λ others all. record { here = λ number ne. all.here number (λ e. ne (s.by number ∙ e)); tops = all.tops };
}

-- a call that wasn't marked, and is put last
put_tops : (calls : List (Node Call)) (all : List Again) (again : Again) (call : Call) → ((a : Again) → Contains all a → StandsAt calls a)
    → IsTop calls again.number call → again.spot ≡ call.spot → (a : Again) → Contains (all ++ again ∷ []) a → StandsAt calls a
put_tops calls all again call tops top s a c = elim (Contains-push_cases all again a c) [
  | inl i ↦ tops a i
  | inr e ↦ subst (λ a. StandsAt calls a) e (record { call = call; top = top; spot = sym s })
]

put_number : (all : List Again) (again : Again) (number : ℕ) → HasNumber all number → HasNumber (all ++ again ∷ []) number
put_number all again number h = record { again = h.again; among = Contains-append_left all (again ∷ []) h.again h.among; is = h.is }

-- with no mark yet
pub keeps_put : (calls : List (Node Call)) (later more : List Again) (waits after : List ℕ) (again : Again) (call : Call) → IsTop calls again.number call
    → again.spot ≡ call.spot → more ≡ later ++ again ∷ [] → SameNumbers waits after → KeepsWaiting calls later waits more after
keeps_put calls later more waits after again call top s m w = record {
  by = λ others all. subst (λ z. AllWait calls after z)
      (append_assoc others later (again ∷ []) ∙ ap (λ (z : List Again). others ++ z) (sym m)) (record {
        here = λ number ne. put_number (others ++ later) again number (all.here number (λ e. ne (w.by number ∙ e)));
        tops = put_tops calls (others ++ later) again call all.tops top s;
      });
}

-- and with it
pub keeps_marked : (calls : List (Node Call)) (later more : List Again) (waits after : List ℕ) (again : Again) (call : Call) → IsTop calls again.number call
    → again.spot ≡ call.spot → more ≡ later ++ again ∷ [] → PutAt waits after again.number 1 → KeepsWaiting calls later waits more after
keeps_marked calls later more waits after again call top s m w = record {
  by = λ others all. subst (λ z. AllWait calls after z)
      (append_assoc others later (again ∷ []) ∙ ap (λ (z : List Again). others ++ z) (sym m)) (record {
        here = λ number ne. elim (cases_eq number again.number) [
          | inl e ↦ record { again = again; among = Contains-push (others ++ later) again; is = sym e }
          | inr other ↦ put_number (others ++ later) again number (all.here number (λ e. ne (w.others number other ∙ e)))
        ];
        tops = put_tops calls (others ++ later) again call all.tops top s;
      });
}

one_of : (call c : Call) → Contains (call ∷ []) c → call ≡ c
one_of call c (zero, l, e) = e
one_of call c (suc k, l, e) = absurd (omega (arith, l))

top_same : (calls : List (Node Call)) (number : ℕ) (a b : Call) → IsTop calls number a → IsTop calls number b → a ≡ b
top_same calls number a b x y = is a b x.older y.older (sym x.is ∙ y.is)
  where
    is : (a b : Call) (x y : List Call) → a ∷ x ≡ b ∷ y → a ≡ b
    is a b x y h = cc

-- it waits already
pub put_waits : (calls : List (Node Call)) (later : List Again) (waits : List ℕ) (number mark : ℕ) (call : Call) → IsTop calls number call
    → mark ≡ get_or waits number 0 → (mark ≡ 0 → ⊥) → CallsPut calls later waits later (call ∷ [])
put_waits calls later waits number mark call top m ne = record {
  added = [];
  is = sym (append-nil later);
  few = omega arith;
  by = λ others all c i.
      let h = all.here number (λ e. ne (m ∙ e)) in
      let s = all.tops h.again h.among in
      let same : s.call ≡ call = top_same calls number s.call call (subst (λ n. IsTop calls n s.call) h.is s.top) top in
      subst (λ spot. Contains (map spot_of (others ++ later)) spot) (sym s.spot ∙ ap (λ (c : Call). c.spot) (same ∙ one_of call c i))
      (among_map (others ++ later) h.again h.among);
}

pub put_last : (calls : List (Node Call)) (later more : List Again) (waits : List ℕ) (again : Again) (call : Call) → again.spot ≡ call.spot
    → more ≡ later ++ again ∷ [] → CallsPut calls later waits more (call ∷ [])
put_last calls later more waits again call s m = record {
  added = again ∷ [];
  is = m;
  few = omega arith;
  by = λ others all c i.
      subst (λ spot. Contains (map spot_of (others ++ more)) spot) (s ∙ ap (λ (c : Call). c.spot) (one_of call c i))
      (among_map (others ++ more) again
      (Contains-append_right others more again (subst (λ z. Contains z again) (sym m) (Contains-push later again))));
}

pub ruleset adding = (keeps_same, keeps_numbers, keeps_put, keeps_marked, put_waits, put_last)

-- ---- all calls of a list

pub keeps_then : (calls : List (Node Call)) (a b c : List Again) (x y z : List ℕ) → KeepsWaiting calls a x b y → KeepsWaiting calls b y c z
    → KeepsWaiting calls a x c z
keeps_then calls a b c x y z h k = record { by = λ others all. k.by others (h.by others all) }

-- what of a list was put before what lies beneath a number
pub record PutSoFar (calls : List (Node Call)) (begin : List Again) (first : List ℕ) (later : List Again) (waits : List ℕ) (number at : ℕ) : Type 0 where
  pub inside : at ≤ length calls
  pub keeps : KeepsWaiting calls begin first later waits
  pub added : List Again
  pub is : later ≡ begin ++ added
  pub few : length added + length (read calls at) ≤ length (read calls number)
  pub by : (others : List Again) → AllWait calls first (others ++ begin) → (call : Call) → Contains (read calls number) call
      → Contains (read calls at) call ⊎ Contains (map spot_of (others ++ later)) call.spot

pub so_far_none : (calls : List (Node Call)) (later : List Again) (waits : List ℕ) (number : ℕ) → number ≤ length calls
    → PutSoFar calls later waits later waits number number
so_far_none calls later waits number l = record {
  inside = l;
  keeps = keeps_same calls later waits;
  added = [];
  is = sym (append-nil later);
  few = omega arith;
  by = λ others all call c. inl c;
}

among_still : (others later more : List Again) (spot : Spot) (added : List Again) → more ≡ later ++ added → Contains (map spot_of (others ++ later)) spot
    → Contains (map spot_of (others ++ more)) spot
among_still others later more spot added e c =
    subst (λ z. Contains z spot) (sym (ap (map spot_of) (ap (λ (z : List Again). others ++ z) e ∙ sym (append_assoc others later added)) ∙ map-append spot_of (others ++ later) added))
    (Contains-append_left (map spot_of (others ++ later)) (map spot_of added) spot c)

pub so_far_more : (calls : List (Node Call)) (begin later more : List Again) (first waits after : List ℕ) (number at below : ℕ) (call : Call)
    → PutSoFar calls begin first later waits number at → below ≤ length calls → read calls at ≡ call ∷ read calls below
    → KeepsWaiting calls later waits more after → CallsPut calls later waits more (call ∷ []) → PutSoFar calls begin first more after number below
so_far_more calls begin later more first waits after number at below call so l r k p = record {
  inside = l;
  keeps = keeps_then calls begin later more first waits after so.keeps k;
  added = so.added ++ p.added;
  is = p.is ∙ ap (λ (z : List Again). z ++ p.added) so.is ∙ append_assoc begin so.added p.added;
  few = let s = so.few in let k = p.few in let n = ap (λ (z : List Call). length z) r in let m = length-append so.added p.added in
      omega (arith, s, k, n, m);
  by = λ others all c i. elim (so.by others all c i) [
    | inl j ↦ elim (Contains-append_cases (call ∷ []) (read calls below) c (subst (λ z. Contains z c) r j)) [
      | inl here ↦ inr (p.by others (so.keeps.by others all) c here)
      | inr there ↦ inl there
    ]
    | inr j ↦ inr (among_still others later more c.spot p.added p.is j)
  ];
}

pub so_far_top : (calls : List (Node Call)) (begin later : List Again) (first waits : List ℕ) (number at below : ℕ) (call : Call)
    → PutSoFar calls begin first later waits number at → read calls at ≡ call ∷ read calls below → IsTop calls at call
so_far_top calls begin later first waits number at below call so r = record { inside = so.inside; older = read calls below; is = r }

pub so_far_keeps : (calls : List (Node Call)) (begin later : List Again) (first waits : List ℕ) (number at : ℕ)
    → PutSoFar calls begin first later waits number at → KeepsWaiting calls begin first later waits
so_far_keeps calls begin later first waits number at so = so.keeps

pub so_far_err : (calls : List (Node Call)) (begin later more : List Again) (first waits after : List ℕ) (number at : ℕ)
    → PutSoFar calls begin first later waits number at → KeepsWaiting calls later waits more after → KeepsWaiting calls begin first more after
so_far_err calls begin later more first waits after number at so k = keeps_then calls begin later more first waits after so.keeps k

pub so_far_all : (calls : List (Node Call)) (begin later : List Again) (first waits : List ℕ) (number at : ℕ)
    → PutSoFar calls begin first later waits number at → read calls at ≡ [] → CallsPut calls begin first later (read calls number)
so_far_all calls begin later first waits number at so r = record {
  added = so.added;
  is = so.is;
  few = let s = so.few in omega (arith, s);
  by = λ others all call i. elim (so.by others all call i) [
    | inl j ↦ absurd (let c = subst (λ z. Contains z call) r j in let lt = c.1 in omega (arith, lt))
    | inr j ↦ j
  ];
}

pub ruleset adding_all = (so_far_none, so_far_more, so_far_top, so_far_keeps, so_far_err, so_far_all)

-- ---- a call is handed out

pub wait_since : (calls : List (Node Call)) (waits : List ℕ) (now later : List Again) → now ≡ [] → AllWait calls waits (now ++ later)
    → AllWait calls waits (later ++ now)
wait_since calls waits now later e all = subst (λ z. AllWait calls waits z)
    (ap (λ (z : List Again). z ++ later) e ∙ sym (append-nil later) ∙ ap (λ (z : List Again). later ++ z) (sym e)) all

less_among : (less later : List Again) (again a : Again) → Contains (less ++ later) a → Contains ((less ++ again ∷ []) ++ later) a
less_among less later again a c = elim (Contains-append_cases less later a c) [
  | inl i ↦ Contains-append_left (less ++ again ∷ []) later a (Contains-append_left less (again ∷ []) a i)
  | inr i ↦ Contains-append_right (less ++ again ∷ []) later a i
]

other_among : (less later : List Again) (again a : Again) → (a.number ≡ again.number → ⊥) → Contains ((less ++ again ∷ []) ++ later) a
    → Contains (less ++ later) a
other_among less later again a ne c = elim (Contains-append_cases (less ++ again ∷ []) later a c) [
  | inl i ↦ elim (Contains-push_cases less again a i) [
    | inl j ↦ Contains-append_left less later a j
    | inr e ↦ absurd (ne (ap (λ (a : Again). a.number) (sym e)))
  ]
  | inr i ↦ Contains-append_right less later a i
]

pub wait_less : (calls : List (Node Call)) (waits after : List ℕ) (now less later : List Again) (again : Again) → now ≡ less ++ again ∷ []
    → AllWait calls waits (now ++ later) → PutAt waits after again.number 0 → AllWait calls after (less ++ later)
wait_less calls waits after now less later again e all p =
    let all = subst (λ z. AllWait calls waits (z ++ later)) e all in record {
      here = λ number ne.
          let other : number ≢ again.number = λ same. ne (ap (λ n. get_or after n 0) same ∙ p.here) in
          let h = all.here number (λ z. ne (p.others number other ∙ z)) in
          record { again = h.again; among = other_among less later again h.again (λ same. other (sym h.is ∙ same)) h.among; is = h.is };
      tops = λ a c. all.tops a (less_among less later again a c);
    }

pub wait_empty : (calls : List (Node Call)) (waits : List ℕ) (now later : List Again) → now ≡ [] → AllWait calls waits (now ++ later)
    → AllWait calls waits later
wait_empty calls waits now later e all = subst (λ z. AllWait calls waits (z ++ later)) e all

pub ruleset handing = (wait_since, wait_less, wait_empty)

-- ---- a call is kept

pub wait_grows : (calls more : List (Node Call)) (waits : List ℕ) (all : List Again) → Grows calls more → AllWait calls waits all → AllWait more waits all
wait_grows calls more waits all g h = record {
  here = h.here;
  tops = λ again c. let s = h.tops again c in record { call = s.call; top = top_still calls more again.number s.call g s.top; spot = s.spot };
}

pub ruleset keeping = (wait_grows)
