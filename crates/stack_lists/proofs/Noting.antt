-- Lists that are found again.
use Rattle.std.proofs.Common.{arith, ◌≡◌, ◌≢◌, ◌≤◌, ◌<◌, ◌+◌, ◌-◌, ℕ, zero, suc, List, [], ◌∷◌, ◌++◌, length, get_or, None, Some, slice_get, inl, inr, ◌⊎◌, sym, subst, ◌∙◌, ap, refl}
use Rattle.std.specs.Prelude.{Result, Ok, Err, IfErr, IfOk}
use Rattle.std.specs.BTreeMap.{BTreeMap}
use Rattle.std.proofs.lemmas.Bool.{cases_eq}
use Rattle.std.proofs.lemmas.List.{length-append}
use Rattle.stack_shape.specs.declared.shape.Slot.{Slot}
use Rattle.stack_lists.specs.declared.stacks.Link.{Link}
use Rattle.stack_lists.specs.Rows.{PutAt, SameNumbers}
use Rattle.stack_lists.specs.Shared.{read, Grows}
use Rattle.stack_lists.specs.Growth.{read_empty}
use Rattle.stack_lists.specs.declared.stacks.Agreed.{Agreed}
use Rattle.stack_lists.specs.declared.stacks.Join.{Join}
use Rattle.stack_lists.specs.Stacks.{AllAgree, AllJoin, AreLinked, IsNew, node_of, nodes_of}
use Rattle.stack_lists.specs.Notes.{AreOne, AreNoted, IsFresh, IsNoted, IsOn, back}
use Rattle.stack_lists.proofs.SharedLists.{pop_top, pop_inside}
use Rattle.stack_lists.proofs.Links.{added_all, added_grows, added_reads, get_end, get_node, link_fits, nodes_length}

some_is : {A : Type 0} (a b : A) → Some a ≡ Some b → a ≡ b
some_is a b h = cc

none_some : {A : Type 0} (a : A) → None ≡ Some a → ⊥
none_some a h = absurd cc

-- ---- one list

pub on_there : (links : List Link) (number below : ℕ) (slot : Slot) (l : Link) → 0 < number → Some l ≡ slice_get links (number - 1)
    → l.below ≡ below → l.slot ≡ slot → IsOn links number below slot
on_there links number below slot l p e b s =
    record { k = number - 1; next = omega (arith, p); link = l; has = sym e; below_is = b; slot_is = s }

place_is : (links : List Link) (number below : ℕ) (slot : Slot) (o : IsOn links number below slot) → slice_get links (number - 1) ≡ Some o.link
place_is links number below slot o = ap (slice_get links) (let n = o.next in let e : number - 1 ≡ o.k = omega (arith, n) in e) ∙ o.has

pub on_none : (links : List Link) (number below : ℕ) (slot : Slot) → None ≡ slice_get links (number - 1) → IsOn links number below slot → ⊥
on_none links number below slot e o = none_some o.link (e ∙ place_is links number below slot o)

pub on_zero : (links : List Link) (number below : ℕ) (slot : Slot) → number ≡ 0 → IsOn links number below slot → ⊥
on_zero links number below slot e o = let n = o.next in omega (arith, n, e)

pub ruleset standing = (on_there, on_none, on_zero)

-- ---- the search

pub record IsBack (older : List ℕ) (at number : ℕ) : Type 0 where
  pub steps : ℕ
  pub is : back steps older at ≡ number

-- Each list of the slot on the list is this one, or an older one.
pub record Ahead (links : List Link) (older : List ℕ) (below : ℕ) (slot : Slot) (at : ℕ) : Type 0 where
  pub by : (number : ℕ) → IsOn links number below slot → IsBack older at number

pub ahead_begin : (links : List Link) (newest older : List ℕ) (below at : ℕ) (slot : Slot) → AreNoted links newest older
    → (IsOn links (below + 1) below slot → ⊥) → at ≡ get_or newest below 0 → Ahead links older below slot at
ahead_begin links newest older below at slot all none e = record {
  by = λ number o. elim (all.by o.k o.link o.has) [
    | inl next ↦ absurd (none (subst (λ n. IsOn links n below slot) (let x = o.next in let y = o.below_is in let s : number ≡ below + 1 = omega (arith, x, y, next) in s) o))
    | inr noted ↦ record {
      steps = noted.steps;
      is = ap (back noted.steps older) (e ∙ ap (λ b. get_or newest b 0) (sym o.below_is)) ∙ noted.is ∙ sym o.next;
    }
  ];
}

pub ahead_step : (links : List Link) (older : List ℕ) (below at next : ℕ) (slot : Slot) → Ahead links older below slot at
    → (IsOn links at below slot → ⊥) → next ≡ get_or older at 0 → Ahead links older below slot next
ahead_step links older below at next slot ahead none e = record { by = λ number o. further number o (ahead.by number o) }
  where
    steps_on : (number steps : ℕ) → IsOn links number below slot → back steps older at ≡ number → IsBack older next number
    steps_on number zero o b = absurd (none (subst (λ n. IsOn links n below slot) (sym b) o))
    steps_on number (suc steps) o b = record { steps = steps; is = ap (back steps older) e ∙ b }

    further : (number : ℕ) → IsOn links number below slot → IsBack older at number → IsBack older next number
    further number o b = steps_on number b.steps o b.is

back_zero : (older : List ℕ) (steps : ℕ) → get_or older 0 0 ≡ 0 → back steps older 0 ≡ 0
back_zero older zero e = refl
back_zero older (suc steps) e = ap (back steps older) e ∙ back_zero older steps e

first_zero : (links : List Link) (newest older : List ℕ) → AreNoted links newest older → get_or older 0 0 ≡ 0
first_zero links newest older all = let l = all.earlier 0 in omega (arith, l)

pub ahead_end : (links : List Link) (newest older : List ℕ) (below at number : ℕ) (slot : Slot) → AreNoted links newest older
    → Ahead links older below slot at → at ≡ 0 → IsOn links number below slot → ⊥
ahead_end links newest older below at number slot all ahead e o =
    let b = ahead.by number o in
    on_zero links number below slot (sym b.is ∙ ap (back b.steps older) e ∙ back_zero older b.steps (first_zero links newest older all)) o

pub older_less : (links : List Link) (newest older : List ℕ) (at : ℕ) → AreNoted links newest older → 0 < at → get_or older at 0 < at
older_less links newest older at all p = let l = all.earlier at in omega (arith, l, p)

pub ruleset searching = (ahead_begin, ahead_step, ahead_end, older_less)

-- ---- a note more

-- the notes up to this number are the same
pub record SameUpTo (most : ℕ) (before after : List ℕ) : Type 0 where
  pub by : (k : ℕ) → k ≤ most → get_or after k 0 ≡ get_or before k 0

back_same : (most : ℕ) (before after : List ℕ) (steps at : ℕ) → SameUpTo most before after → ((number : ℕ) → get_or before number 0 ≤ number - 1)
    → at ≤ most → back steps after at ≡ back steps before at
back_same most before after zero at same less h = refl
back_same most before after (suc steps) at same less h =
    ap (back steps after) (same.by at h)
    ∙ back_same most before after steps (get_or before at 0) same less (let l = less at in omega (arith, l, h))

noted_same : (most : ℕ) (newest newest' older older' : List ℕ) (below number : ℕ) → SameUpTo most older older'
    → ((number : ℕ) → get_or older number 0 ≤ number - 1) → get_or newest' below 0 ≡ get_or newest below 0 → get_or newest below 0 ≤ most
    → IsNoted newest older below number → IsNoted newest' older' below number
noted_same most newest newest' older older' below number same less e h n = record {
  steps = n.steps;
  is = ap (back n.steps older') e ∙ back_same most older older' n.steps (get_or newest below 0) same less h ∙ n.is;
}

-- The same lists, with notes that say the same of them.
notes_same : (links : List Link) (newest newest' older older' : List ℕ) → AreNoted links newest older → SameUpTo (length links) older older'
    → SameNumbers newest newest' → ((number : ℕ) → get_or older' number 0 ≤ number - 1) → AreNoted links newest' older'
notes_same links newest newest' older older' all same e less = record {
  by = λ k l h. elim (all.by k l h) [
    | inl next ↦ inl next
    | inr noted ↦ inr (noted_same (length links) newest newest' older older' l.below (suc k) same all.earlier (e.by l.below) (all.there l.below) noted)
  ];
  there = λ below. subst (λ n. n ≤ length links) (sym (e.by below)) (all.there below);
  earlier = less;
}

same_up_to : (most : ℕ) (before after : List ℕ) → SameNumbers before after → SameUpTo most before after
same_up_to most before after e = record { by = λ k h. e.by k }

same_none : (a : List ℕ) → SameNumbers a a
same_none a = record { by = λ k. refl }

put_same : (before after : List ℕ) (place number : ℕ) → PutAt before after place number → number ≡ get_or before place 0 → SameNumbers before after
put_same before after place number p e = record {
  by = λ k. elim (cases_eq k place) [
    | inl i ↦ ap (λ k. get_or after k 0) i ∙ p.here ∙ e ∙ ap (λ k. get_or before k 0) (sym i)
    | inr ne ↦ p.others k ne
  ];
}

put_up_to : (before after : List ℕ) (most place number : ℕ) → PutAt before after place number → most < place → SameUpTo most before after
put_up_to before after most place number p lt = record { by = λ k h. p.others k (λ e. omega (arith, e, h, lt)) }

put_less : (before after : List ℕ) (place number : ℕ) → PutAt before after place number → ((k : ℕ) → get_or before k 0 ≤ k - 1) → number ≤ place - 1
    → (k : ℕ) → get_or after k 0 ≤ k - 1
put_less before after place number p less h k = elim (cases_eq k place) [
  | inl i ↦ subst (λ k. get_or after k 0 ≤ k - 1) (sym i) (subst (λ n. n ≤ place - 1) (sym p.here) h)
  | inr ne ↦ subst (λ n. n ≤ k - 1) (sym (p.others k ne)) (less k)
]

less_same : (before after : List ℕ) → SameNumbers before after → ((k : ℕ) → get_or before k 0 ≤ k - 1) → (k : ℕ) → get_or after k 0 ≤ k - 1
less_same before after e less k = subst (λ n. n ≤ k - 1) (sym (e.by k)) (less k)

-- where there is no memory for the newest one
pub noted_newest : (links : List Link) (newest newest' older : List ℕ) → AreNoted links newest older → SameNumbers newest newest'
    → AreNoted links newest' older
noted_newest links newest newest' older all e = notes_same links newest newest' older older all (same_up_to (length links) older older (same_none older)) e all.earlier

pub noted_put : (links : List Link) (newest newest' older : List ℕ) (below last : ℕ) → AreNoted links newest older → PutAt newest newest' below last
    → last ≡ get_or newest below 0 → AreNoted links newest' older
noted_put links newest newest' older below last all p e = noted_newest links newest newest' older all (put_same newest newest' below last p e)

pub noted_older : (links : List Link) (newest older older' : List ℕ) → AreNoted links newest older → SameNumbers older older'
    → AreNoted links newest older'
noted_older links newest older older' all e =
    notes_same links newest newest older older' all (same_up_to (length links) older older' e) (same_none newest) (less_same older older' e all.earlier)

-- with a note of a list that isn't there yet
pub noted_next : (links : List Link) (newest older older' : List ℕ) (number last below : ℕ) → AreNoted links newest older → PutAt older older' number last
    → number ≡ length links + 1 → last ≡ get_or newest below 0 → AreNoted links newest older'
noted_next links newest older older' number last below all p n e =
    notes_same links newest newest older older' all (put_up_to older older' (length links) number last p (omega (arith, n))) (same_none newest)
    (put_less older older' number last p all.earlier (let t = all.there below in omega (arith, t, n, e)))

-- A list is added that needs no note.
pub noted_near : (links after : List Link) (newest older : List ℕ) (link : Link) → AreNoted links newest older → after ≡ links ++ link ∷ []
    → length links ≡ link.below → AreNoted after newest older
noted_near links after newest older link all e near = record {
  by = λ k l h. elim (get_end links link l k (ap (λ xs. slice_get xs k) (sym e) ∙ h)) [
    | inl old ↦ all.by k l old
    | inr is ↦ inl (is.0 ∙ near ∙ ap (λ (l : Link). l.below) (sym is.1))
  ];
  there = λ below. let t = all.there below in let a = ap (λ (z : List Link). length z) e ∙ length-append links (link ∷ []) in omega (arith, t, a);
  earlier = all.earlier;
}

-- Its note says which one was the newest before.
noted_last : (links after : List Link) (newest newest' older : List ℕ) (link : Link) (number : ℕ) → AreNoted links newest older
    → after ≡ links ++ link ∷ [] → number ≡ length links + 1 → PutAt newest newest' link.below number
    → ((steps : ℕ) (k : ℕ) → back steps older (get_or newest link.below 0) ≡ suc k → back (suc steps) older number ≡ suc k)
    → AreNoted after newest' older
noted_last links after newest newest' older link number all e n p last = record {
  by = λ k l h. elim (get_end links link l k (ap (λ xs. slice_get xs k) (sym e) ∙ h)) [
    | inl old ↦ elim (all.by k l old) [
      | inl next ↦ inl next
      | inr noted ↦ inr (still k l.below noted (cases_eq l.below link.below))
    ]
    | inr is ↦ inr (record { steps = 0; is = ap (λ b. get_or newest' b 0) (ap (λ (l : Link). l.below) is.1) ∙ p.here ∙ (let f = is.0 in omega (arith, n, f)) })
  ];
  there = λ below. elim (cases_eq below link.below) [
    | inl i ↦ let h = ap (λ b. get_or newest' b 0) i ∙ p.here in let a = more in omega (arith, h, n, a)
    | inr ne ↦ let h = p.others below ne in let t = all.there below in let a = more in omega (arith, h, t, a)
  ];
  earlier = all.earlier;
}
  where
    more : length after ≡ length links + 1
    more = ap (λ (z : List Link). length z) e ∙ length-append links (link ∷ [])

    still : (k below : ℕ) → IsNoted newest older below (suc k) → (below ≡ link.below) ⊎ (below ≢ link.below) → IsNoted newest' older below (suc k)
    still k below noted (inl i) = record {
      steps = suc noted.steps;
      is = ap (λ n. back noted.steps older (get_or older n 0)) (ap (λ b. get_or newest' b 0) i ∙ p.here)
          ∙ last noted.steps k (ap (λ b. back noted.steps older (get_or newest b 0)) (sym i) ∙ noted.is);
    }
    still k below noted (inr ne) = record { steps = noted.steps; is = ap (back noted.steps older) (p.others below ne) ∙ noted.is }

pub noted_first : (links after : List Link) (newest newest' older : List ℕ) (link : Link) (number : ℕ) → AreNoted links newest older
    → after ≡ links ++ link ∷ [] → number ≡ length links + 1 → PutAt newest newest' link.below number → get_or newest link.below 0 ≡ 0
    → AreNoted after newest' older
noted_first links after newest newest' older link number all e n p none =
    noted_last links after newest newest' older link number all e n p
    (λ steps k b. absurd (zero_suc k (sym (back_zero older steps (first_zero links newest older all)) ∙ ap (back steps older) (sym none) ∙ b)))
  where
    zero_suc : (k : ℕ) → 0 ≡ suc k → ⊥
    zero_suc k h = omega (arith, h)

pub noted_later : (links after : List Link) (newest newest' older older' : List ℕ) (link : Link) (number last : ℕ) → AreNoted links newest older
    → after ≡ links ++ link ∷ [] → number ≡ length links + 1 → PutAt newest newest' link.below number → PutAt older older' number last
    → last ≡ get_or newest link.below 0 → AreNoted after newest' older'
noted_later links after newest newest' older older' link number last all e n p q l =
    noted_last links after newest newest' older' link number
    (noted_next links newest older older' number last link.below all q n l) e n p
    (λ steps k b. ap (back steps older') (q.here ∙ l) ∙ b)

-- ---- the outcomes of an addition, where the newest one was put again to make room

pub noted_ready : (links : List Link) (newest mid older : List ℕ) (below last : ℕ) → AreNoted links newest older → PutAt newest mid below last
    → last ≡ get_or newest below 0 → AreNoted links mid older
noted_ready links newest mid older below last all p e = noted_put links newest mid older below last all p e

pub noted_failed : (links : List Link) (newest mid older older' : List ℕ) (below last : ℕ) → AreNoted links newest older → PutAt newest mid below last
    → last ≡ get_or newest below 0 → SameNumbers older older' → AreNoted links mid older'
noted_failed links newest mid older older' below last all p e s = noted_older links mid older older' (noted_put links newest mid older below last all p e) s

pub noted_before : (links : List Link) (newest mid older older' : List ℕ) (below number last : ℕ) → AreNoted links newest older → PutAt newest mid below last
    → last ≡ get_or newest below 0 → PutAt older older' number last → number ≡ length links + 1 → AreNoted links mid older'
noted_before links newest mid older older' below number last all p e q n =
    noted_next links mid older older' number last below (noted_put links newest mid older below last all p e) q n (sym p.here)

pub noted_behind : (links after : List Link) (newest mid newest' older older' : List ℕ) (link : Link) (number last : ℕ) → AreNoted links newest older
    → PutAt newest mid link.below last → last ≡ get_or newest link.below 0 → PutAt older older' number last → number ≡ length links + 1
    → after ≡ links ++ link ∷ [] → PutAt mid newest' link.below number → AreNoted after newest' older'
noted_behind links after newest mid newest' older older' link number last all p e q n a r =
    noted_later links after mid newest' older older' link number last (noted_put links newest mid older link.below last all p e) a n r q (sym p.here)

pub noted_after : (links after : List Link) (newest mid newest' older : List ℕ) (link : Link) (number last : ℕ) → AreNoted links newest older
    → PutAt newest mid link.below last → last ≡ get_or newest link.below 0 → last ≡ 0 → number ≡ length links + 1
    → after ≡ links ++ link ∷ [] → PutAt mid newest' link.below number → AreNoted after newest' older
noted_after links after newest mid newest' older link number last all p e z n a r =
    noted_first links after mid newest' older link number (noted_put links newest mid older link.below last all p e) a n r (p.here ∙ z)

pub ruleset adding = (noted_newest, noted_near)

-- ---- equal lists

get_there : (links : List Link) (k : ℕ) → k < length links → (l : Link) × (slice_get links k ≡ Some l)
get_there [] k h = absurd (omega (arith, h))
get_there (l ∷ links) zero h = (l, refl)
get_there (l ∷ links) (suc k) h = get_there links k (omega (arith, h))

heads : (s t : Slot) (u v : List Slot) → (s ∷ u) ≡ t ∷ v → s ≡ t
heads s t u v h = cc

tails : (s t : Slot) (u v : List Slot) → (s ∷ u) ≡ t ∷ v → u ≡ v
tails s t u v h = cc

empty_full : (t : Slot) (v : List Slot) → [] ≡ t ∷ v → ⊥
empty_full t v h = absurd cc

-- The list with this number has this top.
record Has (links : List Link) (number : ℕ) (slot : Slot) (rest : List Slot) : Type 0 where
  k : ℕ
  next : number ≡ suc k
  link : Link
  has : slice_get links k ≡ Some link
  slot_is : link.slot ≡ slot
  rest_is : read (nodes_of links) link.below ≡ rest
  inside : link.below ≤ length (nodes_of links)

has_top : (links : List Link) (number : ℕ) (slot : Slot) (rest : List Slot) → AreLinked links → number ≤ length (nodes_of links)
    → read (nodes_of links) number ≡ slot ∷ rest → Has links number slot rest
has_top links zero slot rest all h r = absurd (empty_full slot rest (sym (read_empty (nodes_of links)) ∙ r))
has_top links (suc k) slot rest all h r =
    let g = get_there links k (let n = nodes_length links in omega (arith, n, h)) in
    let n = get_node links k g.0 g.1 in
    let t = pop_top (nodes_of links) (suc k) k (node_of g.0) all.older (omega arith) (omega arith) n in
    record {
      k = k;
      next = refl;
      link = g.0;
      has = g.1;
      slot_is = heads g.0.slot slot _ rest (sym t ∙ r);
      rest_is = tails g.0.slot slot _ rest (sym t ∙ r);
      inside = pop_inside (nodes_of links) k (node_of g.0) all.older n;
    }

-- what the search doesn't find isn't there
pub fresh_is : (links : List Link) (below : ℕ) (slot : Slot) → AreLinked links → AreOne (nodes_of links) → below ≤ length (nodes_of links)
    → ((number : ℕ) → IsOn links number below slot → ⊥) → IsFresh (nodes_of links) below slot
fresh_is links below slot all one h none = record {
  by = λ number i r.
      let t = has_top links number slot (read (nodes_of links) below) all i r in
      none number (record { k = t.k; next = t.next; link = t.link; has = t.has; below_is = one.by t.link.below below t.inside h t.rest_is; slot_is = t.slot_is });
}

pub on_reads : (links : List Link) (number below : ℕ) (slot : Slot) → AreLinked links → IsOn links number below slot
    → read (nodes_of links) number ≡ slot ∷ read (nodes_of links) below
on_reads links number below slot all o =
    pop_top (nodes_of links) number o.k (node_of o.link) all.older (let n = o.next in omega (arith, n)) (let n = o.next in omega (arith, n)) (get_node links o.k o.link o.has)
    ∙ ap (λ s. s ∷ read (nodes_of links) o.link.below) o.slot_is ∙ ap (λ b. slot ∷ read (nodes_of links) b) o.below_is

pub on_inside : (links : List Link) (number below : ℕ) (slot : Slot) → IsOn links number below slot → number ≤ length (nodes_of links)
on_inside links number below slot o =
    let f = link_fits links o.k o.link o.has in let n = o.next in let l = nodes_length links in omega (arith, f, n, l)

-- a list more, which wasn't there
pub one_more : (links after : List Link) (link : Link) → AreLinked links → AreOne (nodes_of links) → after ≡ links ++ link ∷ []
    → link.below ≤ length (nodes_of links) → IsFresh (nodes_of links) link.below link.slot → AreOne (nodes_of after)
one_more links after link all one e h fresh = record { by = λ m n i j r. at m n (last m i) (last n j) r }
  where
    g : Grows (nodes_of links) (nodes_of after)
    g = added_grows links after link all e

    top : read (nodes_of after) (length links + 1) ≡ link.slot ∷ read (nodes_of links) link.below
    top = added_reads links after link (length links + 1) all e h refl

    last : (n : ℕ) → n ≤ length (nodes_of after) → (n ≤ length (nodes_of links)) ⊎ (n ≡ length links + 1)
    last n i = elim (cases_eq n (length links + 1)) [
      | inl is ↦ inr is
      | inr ne ↦ inl (
          let a = ap (λ (z : List Link). length z) e ∙ length-append links (link ∷ []) in
          let b = nodes_length links in
          let c = nodes_length after in
          omega (arith, i, ne, a, b, c))
    ]

    new : (m : ℕ) → m ≤ length (nodes_of links) → read (nodes_of after) m ≡ read (nodes_of after) (length links + 1) → ⊥
    new m i r = fresh.by m i (sym (g.same m i) ∙ r ∙ top)

    at : (m n : ℕ) → (m ≤ length (nodes_of links)) ⊎ (m ≡ length links + 1) → (n ≤ length (nodes_of links)) ⊎ (n ≡ length links + 1)
        → read (nodes_of after) m ≡ read (nodes_of after) n → m ≡ n
    at m n (inl i) (inl j) r = one.by m n i j (sym (g.same m i) ∙ r ∙ g.same n j)
    at m n (inl i) (inr j) r = absurd (new m i (r ∙ ap (read (nodes_of after)) j))
    at m n (inr i) (inl j) r = absurd (new n j (sym r ∙ ap (read (nodes_of after)) i))
    at m n (inr i) (inr j) r = i ∙ sym j

pub one_none : (links : List Link) → links ≡ [] → AreOne (nodes_of links)
one_none links e = record { by = λ m n i j r. (let l = nodes_length links in let z = ap (λ (z : List Link). length z) e in omega (arith, i, j, l, z)) }

-- all that the lists keep, with one list more, or as before
pub added_whole : {E : Type 0} (links after : List Link) (newest newest' older older' : List ℕ) (l : Link) (agreed : BTreeMap ℕ Agreed) (joins : BTreeMap ℕ Join) (r : Result ℕ E)
    → AreLinked links × AllAgree (nodes_of links) agreed × AllJoin (nodes_of links) joins × AreNoted links newest older × AreOne (nodes_of links)
    → IsNew (nodes_of links) l → IsFresh (nodes_of links) l.below l.slot → IfOk r (λ n. after ≡ links ++ l ∷ []) → IfOk r (λ n. length links < 33554432)
    → IfErr r (λ e. after ≡ links) → AreNoted after newest' older'
    → AreLinked after × AllAgree (nodes_of after) agreed × AllJoin (nodes_of after) joins × AreNoted after newest' older' × AreOne (nodes_of after)
added_whole links after newest newest' older older' l agreed joins (Ok o) all n fresh e room same noted =
    let a = added_all links after l agreed joins (all.0, all.1, all.2) e n room in
    (a.0, a.1, a.2, noted, one_more links after l all.0 all.4 e n.below fresh)
added_whole links after newest newest' older older' l agreed joins (Err x) all n fresh e room same noted = (
  subst AreLinked (sym same) all.0,
  subst (λ z. AllAgree (nodes_of z) agreed) (sym same) all.1,
  subst (λ z. AllJoin (nodes_of z) joins) (sym same) all.2,
  noted,
  subst (λ z. AreOne (nodes_of z)) (sym same) all.4,
)

none_got : (xs : List ℕ) (k : ℕ) → xs ≡ [] → get_or xs k 0 ≡ 0
none_got [] zero e = refl
none_got [] (suc k) e = refl
none_got (x ∷ xs) k e = absurd cc

no_links : (links : List Link) (k : ℕ) (l : Link) → links ≡ [] → slice_get links k ≡ Some l → ⊥
no_links [] zero l e h = none_some l h
no_links [] (suc k) l e h = none_some l h
no_links (m ∷ links) k l e h = absurd cc

pub noted_none : (links : List Link) (newest older : List ℕ) → links ≡ [] → newest ≡ [] → older ≡ [] → AreNoted links newest older
noted_none links newest older e f g = record {
  by = λ k l h. absurd (no_links links k l e h);
  there = λ below. let z = none_got newest below f in omega (arith, z);
  earlier = λ number. let z = none_got older number g in omega (arith, z);
}

pub ruleset finding = (fresh_is, on_reads, on_inside)

pub ruleset beginning = (one_none, noted_none)
