-- The worklist: what is handed in and out, and the calls that are kept.
use Rattle.std.proofs.Common.{arith, ◌≡◌, ◌≢◌, ◌≤◌, ◌<◌, ◌⊎◌, ℕ, zero, suc, List, [], ◌∷◌, ◌++◌, length, map, get_or, Option, None, Some, slice_get, inl, inr, sym, subst, ◌∙◌, ap, refl, append-nil}
use Rattle.std.specs.Prelude.{Result, Ok, Err, OnOk, Contains}
use Rattle.std.proofs.lemmas.Bool.{cases_eq}
use Rattle.std.proofs.lemmas.List.{append_assoc, length-append, map-append}
use Rattle.std.proofs.lemmas.List.Elements.{Contains-append_left, Contains-append_right, Contains-append_cases}
use Rattle.stack_lists.specs.declared.lists.Node.{Node}
use Rattle.stack_lists.specs.declared.todo.Again.{Again}
use Rattle.stack_lists.specs.declared.todo.Call.{Call}
use Rattle.stack_lists.specs.declared.todo.Spot.{Spot}
use Rattle.stack_lists.specs.Shared.{Grows, read, read_within, with_node}
use Rattle.stack_lists.specs.Rows.{PutAt, SameNumbers}
use Rattle.stack_lists.specs.Worklist.{AllWait, AreMarked, AreThere, CallKept, CallersAdded, CallsPut, HasOther, IsMarked, IsMarkedAnew, IsTop, SameCalls, Worklist, calls_of, spot_of, stands_at, waiting}
use Rattle.stack_lists.specs.Growth.{read_empty}
use Rattle.stack_lists.specs.Budget.{most}

-- ---- the first of all

none_there : (t : ℕ) → get_or (let xs : List ℕ = [] in xs) t 0 ≡ 0
none_there zero = refl
none_there (suc t) = refl

pub there_none : (calls : List (Node Call)) (called : List ℕ) → called ≡ [] → AreThere calls called
there_none calls called e = record { by = λ t. let z = ap (λ (ns : List ℕ). get_or ns t 0) e ∙ none_there t in omega (arith, z) }

pub no_calls : (calls : List (Node Call)) (called : List ℕ) (target : ℕ) → called ≡ [] → read calls (get_or called target 0) ≡ []
no_calls calls called target e = ap (read calls) (ap (λ (ns : List ℕ). get_or ns target 0) e ∙ none_there target) ∙ read_empty calls

pub ruleset beginning = (there_none, no_calls)

-- ---- handing in and out

pub same_calls : (before after : Worklist) → after.calls ≡ before.calls → after.called ≡ before.called → after.marks ≡ before.marks → SameCalls before after
same_calls before after c d m = record {
  by = λ t. ap (λ (ns : List (Node Call)). read ns (get_or after.called t 0)) c ∙ ap (λ (ns : List ℕ). read before.calls (get_or ns t 0)) d;
  count = ap (λ (ns : List (Node Call)). length ns) c;
  calls = c;
  marks = m;
}

-- the last spot is handed out
pub next_first : (calls first less : List Spot) (spot : Spot) → first ≡ less ++ spot ∷ [] → calls ++ first ≡ (calls ++ less) ++ spot ∷ []
next_first calls first less spot e = ap (λ (z : List Spot). calls ++ z) e ∙ sym (append_assoc calls less (spot ∷ []))

-- the last call is
map_end : (all : List Again) (again : Again) → map spot_of (all ++ again ∷ []) ≡ map spot_of all ++ again.spot ∷ []
map_end [] again = refl
map_end (a ∷ all) again = ap (λ (z : List Spot). a.spot ∷ z) (map_end all again)

pub next_again : (later now less : List Again) (again : Again) (first : List Spot) → first ≡ [] → now ≡ less ++ again ∷ []
    → map spot_of (later ++ now) ++ first ≡ (map spot_of (later ++ less) ++ first) ++ again.spot ∷ []
next_again later now less again first f e =
    let z = ap (λ (z : List Spot). map spot_of (later ++ now) ++ z) f ∙ append-nil (map spot_of (later ++ now)) in
    let m = ap (λ (z : List Again). map spot_of (later ++ z)) e ∙ ap (map spot_of) (sym (append_assoc later less (again ∷ []))) ∙ map_end (later ++ less) again in
    let n = ap (λ (z : List Spot). z ++ again.spot ∷ []) (sym (ap (λ (z : List Spot). map spot_of (later ++ less) ++ z) f ∙ append-nil (map spot_of (later ++ less)))) in
    z ∙ m ∙ n

-- those that were handed in since are the next
pub next_since : (later soon : List Again) (first : List Spot) → soon ≡ [] → map spot_of (soon ++ later) ++ first ≡ map spot_of (later ++ soon) ++ first
next_since later soon first e = ap (λ (z : List Again). map spot_of z ++ first)
    (ap (λ (z : List Again). z ++ later) e ∙ sym (append-nil later) ∙ ap (λ (z : List Again). later ++ z) (sym e))

pub next_none : (later now : List Again) (first : List Spot) → first ≡ [] → later ≡ [] → now ≡ [] → map spot_of (later ++ now) ++ first ≡ []
next_none later now first f l n =
    ap (λ (z : List Spot). map spot_of (later ++ now) ++ z) f ∙ append-nil (map spot_of (later ++ now))
    ∙ ap (λ (z : List Again). map spot_of (z ++ now)) l ∙ ap (map spot_of) n

pub ruleset handing = (same_calls, next_first, next_again, next_since, next_none)

-- ---- calls

never_top : (call : Call) (older : List Call) → [] ≡ call ∷ older → ⊥
never_top call older h = absurd cc

top_is : (a b : Call) (x y : List Call) → a ∷ x ≡ b ∷ y → a ≡ b
top_is a b x y h = cc

pub there_put : (calls more : List (Node Call)) (called after : List ℕ) (target number : ℕ) → AreThere calls called → length calls ≤ length more → number ≤ length more
    → PutAt called after target number → AreThere more after
there_put calls more called after target number there longer inside p = record {
  by = λ t. elim (cases_eq t target) [
    | inl e ↦ let z = ap (λ t. get_or after t 0) e ∙ p.here in omega (arith, z, inside)
    | inr ne ↦ let z = p.others t ne in let b = there.by t in omega (arith, z, b, longer)
  ];
}

pub there_same : (calls more : List (Node Call)) (called after : List ℕ) → AreThere calls called → length calls ≤ length more → SameNumbers called after
    → AreThere more after
there_same calls more called after there longer s = record { by = λ t. let z = s.by t in let b = there.by t in omega (arith, z, b, longer) }

pub there_more : (calls more : List (Node Call)) (called : List ℕ) → AreThere calls called → length calls ≤ length more → AreThere more called
there_more calls more called there longer = record { by = λ t. let b = there.by t in omega (arith, b, longer) }

-- ---- marks

pub marked_is : (calls : List (Node Call)) (marks : List ℕ) (row number : ℕ) (call kept : Call) (older : List Call) → number ≡ get_or marks row 0
    → number ≤ length calls → read calls number ≡ kept ∷ older → kept ≡ call → IsTop calls (get_or marks row 0) call
marked_is calls marks row number call kept older n l r e = record {
  inside = omega (arith, n, l);
  older = older;
  is = ap (read calls) (sym n) ∙ r ∙ ap (λ c. c ∷ older) e;
}

pub marked_no_top : (calls : List (Node Call)) (marks : List ℕ) (row number : ℕ) (call : Call) → number ≡ get_or marks row 0 → read calls number ≡ []
    → IsTop calls (get_or marks row 0) call → ⊥
marked_no_top calls marks row number call n r top = never_top call top.older (sym r ∙ ap (read calls) n ∙ top.is)

pub marked_other : (calls : List (Node Call)) (marks : List ℕ) (row number : ℕ) (call kept : Call) (older : List Call) → number ≡ get_or marks row 0
    → read calls number ≡ kept ∷ older → (kept ≡ call → ⊥) → IsTop calls (get_or marks row 0) call → ⊥
marked_other calls marks row number call kept older n r ne top =
    ne (top_is kept call older top.older (sym r ∙ ap (read calls) n ∙ top.is))

pub mark_inside : (calls : List (Node Call)) (called marks : List ℕ) (row number : ℕ) → AreMarked calls called marks → number ≡ get_or marks row 0
    → number ≤ length calls
mark_inside calls called marks row number m n = let l = m.there row in omega (arith, n, l)

pub ruleset marking = (marked_is, marked_no_top, marked_other, mark_inside)

-- where lists are only added, what was a top is one
pub still_top : (calls more : List (Node Call)) (number : ℕ) (call : Call) → Grows calls more → number ≤ length calls → IsTop more number call
    → IsTop calls number call
still_top calls more number call g l top = record { inside = l; older = top.older; is = sym (g.same number l) ∙ top.is }

pub top_still : (calls more : List (Node Call)) (number : ℕ) (call : Call) → Grows calls more → IsTop calls number call → IsTop more number call
top_still calls more number call g top =
    record { inside = (let k = g.longer in let l = top.inside in omega (arith, k, l)); older = top.older; is = g.same number top.inside ∙ top.is }

among_more : (calls more : List Call) (call newest : Call) → more ≡ newest ∷ calls → Contains calls call → Contains more call
among_more calls more call newest e among = subst (λ cs. Contains cs call) (sym e) (Contains-append_right (newest ∷ []) calls call among)

among_same : (calls more : List Call) (call : Call) → more ≡ calls → Contains calls call → Contains more call
among_same calls more call e among = subst (λ cs. Contains cs call) (sym e) among

among_newest : (calls more : List Call) (call : Call) → more ≡ call ∷ calls → Contains more call
among_newest calls more call e = subst (λ cs. Contains cs call) (sym e) (0, omega arith, refl)

-- a list is added
pub marked_grows : (calls more : List (Node Call)) (called after marks : List ℕ) → AreThere calls called → AreMarked calls called marks
    → Grows calls more → SameNumbers called after → AreMarked more after marks
marked_grows calls more called after marks there m g s = record {
  there = λ row. let l = m.there row in let k = g.longer in omega (arith, l, k);
  by = λ row call top.
      among_same (read calls (get_or called call.target 0)) (read more (get_or after call.target 0)) call
      (ap (read more) (s.by call.target) ∙ g.same (get_or called call.target 0) (there.by call.target))
      (m.by row call (still_top calls more (get_or marks row 0) call g (m.there row) top));
}

pub marked_put : (calls more : List (Node Call)) (called after marks : List ℕ) (below number : ℕ) (call : Call) → AreThere calls called
    → AreMarked calls called marks → Grows calls more → below ≡ get_or called call.target 0 → read more number ≡ call ∷ read calls below
    → PutAt called after call.target number → AreMarked more after marks
marked_put calls more called after marks below number call there m g b r p = record {
  there = λ row. let l = m.there row in let k = g.longer in omega (arith, l, k);
  by = λ row c top.
      let among = m.by row c (still_top calls more (get_or marks row 0) c g (m.there row) top) in
      elim (cases_eq c.target call.target) [
        | inl e ↦ among_more (read calls (get_or called c.target 0)) (read more (get_or after c.target 0)) c call
            (ap (λ t. read more (get_or after t 0)) e ∙ ap (read more) p.here ∙ r
            ∙ ap (λ n. call ∷ read calls n) (b ∙ ap (λ t. get_or called t 0) (sym e))) among
        | inr ne ↦ among_same (read calls (get_or called c.target 0)) (read more (get_or after c.target 0)) c
            (ap (read more) (p.others c.target ne) ∙ g.same (get_or called c.target 0) (there.by c.target)) among
      ];
}

pub marked_same : (calls : List (Node Call)) (called marks after : List ℕ) → AreMarked calls called marks → SameNumbers marks after
    → AreMarked calls called after
marked_same calls called marks after m s = record {
  there = λ row. let l = m.there row in let e = s.by row in omega (arith, l, e);
  by = λ row call top. m.by row call (subst (λ n. IsTop calls n call) (s.by row) top);
}

-- the mark of the call that is kept now
pub marked_here : (calls : List (Node Call)) (called marks after : List ℕ) (row number : ℕ) (call : Call) (older : List Call) → AreMarked calls called marks
    → number ≤ length calls → read calls number ≡ call ∷ older → get_or called call.target 0 ≡ number → PutAt marks after row number
    → AreMarked calls called after
marked_here calls called marks after row number call older m l r at p = record {
  there = λ k. elim (cases_eq k row) [
    | inl e ↦ let z = ap (λ h. get_or after h 0) e ∙ p.here in omega (arith, z, l)
    | inr ne ↦ let z = p.others k ne in let i = m.there k in omega (arith, z, i)
  ];
  by = λ k c top. elim (cases_eq k row) [
    | inl e ↦
        let is : call ≡ c = top_is call c older top.older (sym r ∙ ap (read calls) (sym (ap (λ h. get_or after h 0) e ∙ p.here)) ∙ top.is) in
        subst (λ c. Contains (read calls (get_or called c.target 0)) c) is
        (among_newest older (read calls (get_or called call.target 0)) call (ap (read calls) at ∙ r))
    | inr ne ↦ m.by k c (subst (λ n. IsTop calls n c) (p.others k ne) top)
  ];
}

-- there was room for one call more
pub few_more : (calls more : List (Node Call)) (count : ℕ) (node : Node Call) → count ≡ length calls → count < most → more ≡ calls ++ node ∷ []
    → length more ≤ most
few_more calls more count node n l e = let z = ap length e ∙ length-append calls (node ∷ []) in omega (arith, z, n, l)

-- ---- a call is kept

pub call_marked : (w : Worklist) (row : ℕ) (call : Call) → AreMarked w.calls w.called w.marks → IsMarked w row call → CallKept w w row call
call_marked w row call m is = record {
  here = m.by row call is;
  marked = is;
  added = inl refl;
  once = λ h. refl;
  anew = inl refl;
  others = λ t ne. refl;
  longer = omega arith;
}

-- each list but the empty one has a top
top_there : (calls : List (Node Call)) (number : ℕ) → number ≢ 0 → number ≤ length calls → (call : Call) × IsTop calls number call
unfolding read
top_there calls zero ne l = absurd (ne refl)
top_there calls (suc k) ne l =
    let n = there calls k (omega (arith, l)) in (
      n.0.item,
      record { inside = l; older = read_within k calls n.0.below; is = ap (λ o. with_node o (read_within k calls)) n.1 },
    )
  where
    there : (nodes : List (Node Call)) (k : ℕ) → k < length nodes → (n : Node Call) × (slice_get nodes k ≡ Some n)
    there [] k h = absurd (omega (arith, h))
    there (n ∷ nodes) zero h = (n, refl)
    there (n ∷ nodes) (suc k) h = there nodes k (omega (arith, h))

had_other : (w : Worklist) (row : ℕ) (call : Call) → AreMarked w.calls w.called w.marks → (IsMarked w row call → ⊥)
    → (get_or w.marks row 0 ≡ 0) ⊎ HasOther w row call
had_other w row call m ne = elim (cases_eq (get_or w.marks row 0) 0) [
  | inl e ↦ inl e
  | inr some ↦
      let t = top_there w.calls (get_or w.marks row 0) some (m.there row) in
      inr (record { other = t.0; marked = t.1; differs = λ e. ne (subst (λ c. IsMarked w row c) e t.1) })
]

pub call_anew : (before after : Worklist) (row number : ℕ) (call : Call) (node : Node Call) → AreMarked before.calls before.called before.marks
    → Grows before.calls after.calls → after.calls ≡ before.calls ++ node ∷ [] → PutAt before.marks after.marks row number → (IsMarked before row call → ⊥)
    → IsMarkedAnew before after row call
call_anew before after row number call node m g a k ne = record {
  more = ap (λ (ns : List (Node Call)). length ns) a ∙ length-append before.calls (node ∷ []);
  had = had_other before row call m ne;
  others = k.others;
  tops = λ n c other top.
      let t = subst (λ z. IsTop after.calls z c) (k.others n other) top in still_top before.calls after.calls (get_or before.marks n 0) c g (m.there n) t;
}

pub call_added : (before after : Worklist) (row below number : ℕ) (call : Call) (node : Node Call) → AreThere before.calls before.called
    → AreMarked before.calls before.called before.marks → Grows before.calls after.calls → after.calls ≡ before.calls ++ node ∷ []
    → below ≡ get_or before.called call.target 0 → read after.calls number ≡ call ∷ read before.calls below → number ≤ length after.calls
    → PutAt before.called after.called call.target number → PutAt before.marks after.marks row number
    → (IsMarked before row call → ⊥) → CallKept before after row call
call_added before after row below number call node there m g a b r l p k ne = record {
  here = among_newest (calls_of before call.target) (calls_of after call.target) call newest;
  marked = record {
    inside = (let z = k.here in omega (arith, z, l));
    older = read before.calls below;
    is = ap (read after.calls) k.here ∙ r;
  };
  added = inr newest;
  once = λ h. absurd (ne h);
  anew = inr (call_anew before after row number call node m g a k ne);
  others = λ t ne. ap (read after.calls) (p.others t ne) ∙ g.same (get_or before.called t 0) (there.by t);
  longer = g.longer;
}
  where
    newest : calls_of after call.target ≡ call ∷ calls_of before call.target
    newest = ap (read after.calls) p.here ∙ r ∙ ap (λ n. call ∷ read before.calls n) b

pub ruleset keeping = (there_put, there_same, there_more, marked_grows, marked_put, marked_same, marked_here, call_marked, call_added)

-- ---- the calls of a routine are handed in

with_short : (o : Option (Node Call)) (limit : ℕ) (go : ℕ → List Call) → ((n : ℕ) → length (go n) ≤ limit) → length (with_node o go) ≤ suc limit
with_short None limit go h = omega arith
with_short (Some n) limit go h = let l = h n.below in omega (arith, l)

within_short : (limit : ℕ) (nodes : List (Node Call)) (number : ℕ) → length (read_within limit nodes number) ≤ limit
within_short zero nodes number = omega arith
within_short (suc limit) nodes zero = omega arith
within_short (suc limit) nodes (suc k) = with_short (slice_get nodes k) limit (read_within limit nodes) (within_short limit nodes)

read_short : (nodes : List (Node Call)) (number : ℕ) → length (read nodes number) ≤ number
unfolding read
read_short nodes number = within_short number nodes number

all_wait : (later now : List Again) (first : List Spot) (spot : Spot) → Contains (map spot_of (now ++ later)) spot
    → Contains (map spot_of (later ++ now) ++ first) spot
all_wait later now first spot c =
    Contains-append_left (map spot_of (later ++ now)) first spot (subst (λ z. Contains z spot) (sym (map-append spot_of later now))
    (elim (Contains-append_cases (map spot_of now) (map spot_of later) spot (subst (λ z. Contains z spot) (map-append spot_of now later) c)) [
      | inl i ↦ Contains-append_right (map spot_of later) (map spot_of now) spot i
      | inr i ↦ Contains-append_left (map spot_of later) (map spot_of now) spot i
    ]))

pub callers_added : (before after : Worklist) (target number : ℕ) → after.first ≡ before.first → after.soon ≡ before.soon → after.calls ≡ before.calls
    → after.called ≡ before.called → after.marks ≡ before.marks → number ≡ get_or before.called target 0 → AllWait before.calls before.waits (before.soon ++ before.later)
    → number ≤ length before.calls → CallsPut before.calls before.later before.waits after.later (read before.calls number)
    → CallersAdded before after target
callers_added before after target number f w c d k n all l p = record {
  first = f;
  soon = w;
  added = p.added;
  later = p.is;
  few = let h = p.few in let s = read_short before.calls number in omega (arith, h, s, l);
  all = λ call i. all_wait after.later after.soon after.first call.spot
      (subst (λ z. Contains (map spot_of (z ++ after.later)) call.spot) (sym w)
      (p.by before.soon all call (subst (λ n. Contains (read before.calls n) call) (sym n) i)));
  calls = same_calls before after c d k;
}

pub callers_done : {E : Type 0} (before after : Worklist) (target number : ℕ) (r : Result (Unit {0}) E) → after.first ≡ before.first → after.soon ≡ before.soon
    → after.calls ≡ before.calls → after.called ≡ before.called → after.marks ≡ before.marks → number ≡ get_or before.called target 0
    → AllWait before.calls before.waits (before.soon ++ before.later)
    → number ≤ length before.calls → OnOk r (CallsPut before.calls before.later before.waits after.later (read before.calls number))
    → OnOk r (CallersAdded before after target)
callers_done before after target number (Ok u) f w c d k n all l p = callers_added before after target number f w c d k n all l p
callers_done before after target number (Err e) f w c d k n all l p = tt

pub list_inside : (calls : List (Node Call)) (called : List ℕ) (target number : ℕ) → AreThere calls called → number ≡ get_or called target 0
    → number ≤ length calls
list_inside calls called target number there n = let l = there.by target in omega (arith, l, n)

-- so many calls of the list are put first
pub record FirstSoFar (calls : List (Node Call)) (before now : List Spot) (number at : ℕ) : Type 0 where
  pub added : List Spot
  pub is : now ≡ before ++ added
  pub rest : map stands_at (read calls number) ≡ added ++ map stands_at (read calls at)
  pub inside : at ≤ length calls

pub first_begin : (calls : List (Node Call)) (before : List Spot) (number : ℕ) → number ≤ length calls → FirstSoFar calls before before number number
first_begin calls before number l = record { added = []; is = sym (append-nil before); rest = refl; inside = l }

pub first_step : (calls : List (Node Call)) (before now next : List Spot) (number at below : ℕ) (call : Call) → FirstSoFar calls before now number at
    → read calls at ≡ call ∷ read calls below → below ≤ length calls → next ≡ now ++ call.spot ∷ [] → FirstSoFar calls before next number below
first_step calls before now next number at below call s r l e = record {
  added = s.added ++ call.spot ∷ [];
  is = e ∙ ap (λ z. z ++ call.spot ∷ []) s.is ∙ append_assoc before s.added (call.spot ∷ []);
  rest = s.rest ∙ ap (λ z. s.added ++ map stands_at z) r ∙ sym (append_assoc s.added (call.spot ∷ []) (map stands_at (read calls below)));
  inside = l;
}

pub first_all : (calls : List (Node Call)) (before now : List Spot) (number at : ℕ) → FirstSoFar calls before now number at → read calls at ≡ []
    → now ≡ before ++ map stands_at (read calls number)
first_all calls before now number at s r =
    s.is ∙ ap (λ z. before ++ z) (sym (s.rest ∙ ap (λ z. s.added ++ map stands_at z) r ∙ append-nil s.added))

pub ruleset putting = (first_begin, first_step, first_all)

pub first_waits : {E : Type 0} (before after : Worklist) (target number : ℕ) (r : Result (Unit {0}) E) → after.soon ≡ before.soon → after.later ≡ before.later
    → number ≡ get_or before.called target 0
    → OnOk r (after.first ≡ before.first ++ map stands_at (read before.calls number))
    → OnOk r (waiting after ≡ waiting before ++ map stands_at (calls_of before target))
first_waits before after target number (Ok u) w l n e =
    ap (λ z. map spot_of (after.later ++ z) ++ after.first) w ∙ ap (λ z. map spot_of (z ++ before.soon) ++ after.first) l
    ∙ ap (λ z. map spot_of (before.later ++ before.soon) ++ z) (e ∙ ap (λ n. before.first ++ map stands_at (read before.calls n)) n)
    ∙ sym (append_assoc (map spot_of (before.later ++ before.soon)) before.first (map stands_at (calls_of before target)))
first_waits before after target number (Err x) w l n e = tt

pub calls_short : (w : Worklist) (target : ℕ) → AreThere w.calls w.called → length (calls_of w target) ≤ length w.calls
calls_short w target there = let s = read_short w.calls (get_or w.called target 0) in let l = there.by target in omega (arith, s, l)

pub ruleset calling = (list_inside, callers_added, first_waits, calls_short, same_calls)
