-- Lists of slots with their depths and lists further down in them.
use Rattle.std.proofs.Common.{arith, ◌≡◌, ◌≢◌, ◌≤◌, ◌<◌, ◌+◌, ◌-◌, ℕ, zero, suc, List, [], ◌∷◌, ◌++◌, length, take, drop, false, Option, None, Some, slice_get, inl, inr, ◌⊎◌, sym, subst, ◌∙◌, ap}
use Rattle.std.proofs.Common.{refl}
use Rattle.std.specs.Prelude.{Result, Ok, Err, OnOk, OnErr}
use Rattle.std.specs.Ordering.{nat_cmp, is_eq}
use Rattle.std.specs.BTreeMap.{BTreeMap, Updates, get, is_at}
use Rattle.std.specs.Map.{lookup}
use Rattle.std.specs.Prelude.{if◌then◌else◌}
use Rattle.std.proofs.lemmas.Bool.{cases_eq, eq-eqb, ne_eqb}
use Rattle.std.proofs.lemmas.Bool.Decides.{nat_tests}
use Rattle.std.proofs.lemmas.List.{append_assoc, append_cancel_left, drop_all, length-append, length-map}
use Rattle.std.proofs.Math.Seq.{drop-append_seam}
use Rattle.std.specs.Option.{option_map}
use Rattle.stack_shape.specs.TopFirst.{types_on}
use Rattle.stack_shape.specs.declared.shape.Slot.{Slot}
use Rattle.stack_shape.specs.declared.shape.Slot.TheVariants.{Of, Base}
use Rattle.stack_lists.specs.declared.lists.Node.{Node}
use Rattle.stack_lists.specs.declared.stacks.Link.{Link}
use Rattle.stack_lists.specs.declared.stacks.Agreed.{Agreed}
use Rattle.stack_lists.specs.declared.stacks.Join.{Join}
use Rattle.stack_lists.specs.Shared.{with_node, read_within, read, Grows}
use Rattle.stack_lists.specs.Stacks.{AreTyped, from_base, jump_depth, jump_within, leap, node_of, nodes_of, LiesOn, IsLink, IsNew, IsTop, IsJoin, AreLinked, Agrees, AllAgree, AllJoin}
use Rattle.stack_lists.proofs.SharedLists.{grows_one, older_one, pop_inside, pop_older, pop_none, pop_top, pushed_reads, read_zero}
use Rattle.stack_lists.specs.Growth.{read_empty}

some_is : {A : Type 0} (a b : A) → Some a ≡ Some b → a ≡ b
some_is a b h = cc

-- ---- links and nodes

pub nodes_length : (links : List Link) → length (nodes_of links) ≡ length links
nodes_length links = length-map links node_of

pub nodes_few : (links : List Link) → AreLinked links → length links ≤ 33554432
nodes_few links all = all.few

pub ruleset counting = (nodes_length, nodes_few)

nodes_more : (links : List Link) (l : Link) → nodes_of (links ++ l ∷ []) ≡ nodes_of links ++ node_of l ∷ []
nodes_more [] l = refl
nodes_more (m ∷ links) l = ap (λ rest. node_of m ∷ rest) (nodes_more links l)

pub get_node : (links : List Link) (k : ℕ) (l : Link) → slice_get links k ≡ Some l → slice_get (nodes_of links) k ≡ Some (node_of l)
get_node [] k l h = absurd cc
get_node (m ∷ links) zero l h = ap (λ l. Some (node_of l)) (some_is m l h)
get_node (m ∷ links) (suc k) l h = get_node links k l h

no_node : (links : List Link) (k : ℕ) → slice_get links k ≡ None → slice_get (nodes_of links) k ≡ None
no_node [] zero h = refl
no_node [] (suc k) h = refl
no_node (m ∷ links) zero h = absurd cc
no_node (m ∷ links) (suc k) h = no_node links k h

pub link_fits : (links : List Link) (k : ℕ) (l : Link) → slice_get links k ≡ Some l → k < length links
link_fits [] k l h = absurd cc
link_fits (m ∷ links) zero l h = omega arith
link_fits (m ∷ links) (suc k) l h = omega (arith, link_fits links k l h)

-- ---- the top of a list

pub top_is : (links : List Link) (number k : ℕ) (l : Link) → AreLinked links → 0 < number → k ≡ number - 1 → Some l ≡ slice_get links k
    → IsTop (nodes_of links) number l
top_is links number k l all p e h =
    let n = get_node links k l (sym h) in
    let f = link_fits links k l (sym h) in
    record {
      link = subst (λ n. IsLink (nodes_of links) n l) (let s : suc k ≡ number = omega (arith, p, e) in s) (all.each k l (sym h));
      top = pop_top (nodes_of links) number k (node_of l) all.older p e n;
      older = pop_older (nodes_of links) number k (node_of l) all.older p e n;
      inside = pop_inside (nodes_of links) k (node_of l) all.older n;
      few = omega (arith, all.few, f, p, e);
    }

pub top_none : (links : List Link) (number k : ℕ) → 0 < number → k ≡ number - 1 → None ≡ slice_get links k → read (nodes_of links) number ≡ []
top_none links number k p e h = pop_none (nodes_of links) number k p e (no_node links k (sym h))

pub top_zero : (nodes : List (Node Slot)) (number : ℕ) → number ≡ 0 → read nodes number ≡ []
top_zero nodes number e = read_zero nodes number e

pub ruleset linking = (top_is, top_none, top_zero)

-- ---- depths

with_short : (o : Option (Node Slot)) (limit : ℕ) (go : ℕ → List Slot) → ((n : ℕ) → length (go n) ≤ limit) → length (with_node o go) ≤ suc limit
with_short None limit go h = omega arith
with_short (Some n) limit go h = let l = h n.below in omega (arith, l)

within_short : (limit : ℕ) (nodes : List (Node Slot)) (number : ℕ) → length (read_within limit nodes number) ≤ limit
within_short zero nodes number = omega arith
within_short (suc limit) nodes zero = omega arith
within_short (suc limit) nodes (suc k) = with_short (slice_get nodes k) limit (read_within limit nodes) (within_short limit nodes)

read_short : (nodes : List (Node Slot)) (number : ℕ) → length (read nodes number) ≤ number
unfolding read
read_short nodes number = within_short number nodes number

pub depth_none : (nodes : List (Node Slot)) (number : ℕ) → read nodes number ≡ [] → 0 ≡ length (read nodes number)
depth_none nodes number e = sym (ap (λ (l : List Slot). length l) e)

pub depth_is : (nodes : List (Node Slot)) (number : ℕ) (l : Link) → IsTop nodes number l → l.depth ≡ length (read nodes number)
depth_is nodes number l t = t.link.depth

pub depth_few : (nodes : List (Node Slot)) (number : ℕ) (l : Link) → IsTop nodes number l → l.depth ≤ 33554432
depth_few nodes number l t = let s = read_short nodes number in omega (arith, t.link.depth, s, t.few)

pub ruleset measuring = (depth_none, depth_is, depth_few)

-- ---- values on top

pub based_none : (nodes : List (Node Slot)) (number : ℕ) → read nodes number ≡ [] → 0 ≡ from_base (read nodes number)
based_none nodes number e = sym (ap from_base e)

pub based_is : (nodes : List (Node Slot)) (number : ℕ) (l : Link) → IsTop nodes number l → l.based ≡ from_base (read nodes number)
based_is nodes number l t = t.link.based

pub ruleset basing = (based_none, based_is)

pub from_base_few : (slots : List Slot) → from_base slots ≤ length slots
from_base_few [] = omega arith
from_base_few (Base ∷ slots) = omega arith
from_base_few (Of t ∷ slots) = let i = from_base_few slots in omega (arith, i)

values_there : (count : ℕ) (slots : List Slot) → count ≤ length slots - from_base slots → AreTyped count slots
values_there zero slots h = ([], refl)
values_there (suc count) [] h = absurd (omega (arith, h))
values_there (suc count) (Base ∷ slots) h = absurd (omega (arith, h))
values_there (suc count) (Of t ∷ slots) h =
    let few = from_base_few slots in
    let i = values_there count slots (omega (arith, h, few)) in (t ∷ i.0, ap (option_map (λ types. t ∷ types)) i.1)

values_none : (count : ℕ) (slots : List Slot) → length slots - from_base slots < count → types_on count slots ≡ None
values_none zero slots h = absurd (omega (arith, h))
values_none (suc count) [] h = refl
values_none (suc count) (Base ∷ slots) h = refl
values_none (suc count) (Of t ∷ slots) h =
    let few = from_base_few slots in ap (option_map (λ types. t ∷ types)) (values_none count slots (omega (arith, h, few)))

pub are_typed : (count values depth based : ℕ) (slots : List Slot) → depth ≡ length slots → based ≡ from_base slots → values ≡ depth - based → count ≤ values
    → AreTyped count slots
are_typed count values depth based slots d b v h = values_there count slots (omega (arith, d, b, v, h))

pub not_typed : (count values depth based : ℕ) (slots : List Slot) → depth ≡ length slots → based ≡ from_base slots → values ≡ depth - based → values < count
    → types_on count slots ≡ None
not_typed count values depth based slots d b v h = values_none count slots (omega (arith, d, b, v, h))

pub ruleset valuing = (are_typed, not_typed)

-- ---- further down

pub lies_same : (nodes : List (Node Slot)) (number : ℕ) → LiesOn nodes number number
lies_same nodes number = record { front = []; is = refl }

pub lies_then : (nodes : List (Node Slot)) (a b c : ℕ) → LiesOn nodes a b → LiesOn nodes b c → LiesOn nodes a c
lies_then nodes a b c h i = record { front = h.front ++ i.front; is = h.is ∙ ap (λ z. h.front ++ z) i.is ∙ sym (append_assoc h.front i.front (read nodes c)) }

pub lies_below : (nodes : List (Node Slot)) (number : ℕ) (l : Link) → IsTop nodes number l → LiesOn nodes number l.below
lies_below nodes number l t = record { front = l.slot ∷ []; is = t.top }

pub jump_far : (nodes : List (Node Slot)) (number : ℕ) (l m : Link) → IsTop nodes number l → IsTop nodes l.jump m → LiesOn nodes number m.jump
jump_far nodes number l m t u = lies_then nodes number l.jump m.jump t.link.on u.link.on

pub jump_older : (nodes : List (Node Slot)) (number : ℕ) (l m : Link) → IsTop nodes number l → IsTop nodes l.jump m → m.jump ≤ number
jump_older nodes number l m t u = omega (arith, t.link.older, u.link.older)

leap_far : (below near far : ℕ) → below + far ≡ near + near → leap below near far ≡ far
leap_far below near far e = ap (λ b. if b then far else below) (eq-eqb (below + far) (near + near) e)

leap_near : (below near far : ℕ) → below + far ≢ near + near → leap below near far ≡ below
leap_near below near far ne = ap (λ b. if b then far else below) (ne_eqb (below + far) (near + near) ne)

leap_less : (below near far : ℕ) → far ≤ below → leap below near far ≤ below
leap_less below near far h = elim (cases_eq (below + far) (near + near)) [
  | inl e ↦ subst (λ n. n ≤ below) (sym (leap_far below near far e)) h
  | inr ne ↦ subst (λ n. n ≤ below) (sym (leap_near below near far ne)) (omega arith)
]

within_less : (a d : ℕ) → jump_within a d ≤ d
within_less zero d = omega arith
within_less (suc a) zero = omega arith
within_less (suc a) (suc d) =
    let n = within_less a d in
    let f = within_less a (jump_within a d) in
    let l = leap_less d (jump_within a d) (jump_within a (jump_within a d)) (omega (arith, n, f)) in
    omega (arith, l)

within_enough : (a b d : ℕ) → d ≤ a → d ≤ b → jump_within a d ≡ jump_within b d
within_enough zero zero d h i = refl
within_enough zero (suc b) zero h i = refl
within_enough zero (suc b) (suc d) h i = absurd (omega (arith, h))
within_enough (suc a) zero zero h i = refl
within_enough (suc a) zero (suc d) h i = absurd (omega (arith, i))
within_enough (suc a) (suc b) zero h i = refl
within_enough (suc a) (suc b) (suc d) h i =
    let e = within_enough a b d (omega (arith, h)) (omega (arith, i)) in
    let l = within_less a d in
    ap (λ n. leap d n (jump_within a (jump_within a d))) e
    ∙ ap (λ n. leap d (jump_within b d) n) (ap (jump_within a) e ∙ within_enough a b (jump_within b d) (omega (arith, h, l, e)) (omega (arith, i, l, e)))

depth_less : (d : ℕ) → jump_depth d ≤ d
unfolding jump_depth
depth_less d = within_less d d

-- the jump of a list on one of so many slots
jump_on : (d : ℕ) → jump_depth (suc d) ≡ leap d (jump_depth d) (jump_depth (jump_depth d))
unfolding jump_depth
jump_on d = ap (λ n. leap d (jump_within d d) n) (within_enough d (jump_within d d) (jump_within d d) (within_less d d) (omega arith))

-- where the list beneath has no slots, and where its jump leads to the empty list
pub jump_first : (nodes : List (Node Slot)) (below : ℕ) → read nodes below ≡ [] → length (read nodes below) ≡ jump_depth (length (read nodes below) + 1)
jump_first nodes below e = ap (λ (z : List Slot). length z) e ∙ sym (ap (λ (z : List Slot). jump_depth (length z + 1)) e ∙ first)
  where
    first : jump_depth (0 + 1) ≡ 0
    first = ap jump_depth (let e : 0 + 1 ≡ 1 = omega arith in e) ∙ jump_on 0
        ∙ (let n = depth_less 0 in let f = depth_less (jump_depth 0) in let l = leap_less 0 (jump_depth 0) (jump_depth (jump_depth 0)) (omega (arith, n, f)) in omega (arith, l))

jump_plus : (d : ℕ) → jump_depth (d + 1) ≡ leap d (jump_depth d) (jump_depth (jump_depth d))
jump_plus d = ap jump_depth (let e : d + 1 ≡ suc d = omega arith in e) ∙ jump_on d

pub jump_second : (nodes : List (Node Slot)) (below : ℕ) (l : Link) → IsTop nodes below l → read nodes l.jump ≡ []
    → length (read nodes below) ≡ jump_depth (length (read nodes below) + 1)
jump_second nodes below l t e = sym (jump_plus (length (read nodes below)) ∙ leap_near (length (read nodes below)) _ _ (λ eq. far (ap jump_depth zero) eq))
  where
    zero : jump_depth (length (read nodes below)) ≡ 0
    zero = ap jump_depth (sym t.link.depth) ∙ sym t.link.far ∙ ap (λ (z : List Slot). length z) e

    far : jump_depth (jump_depth (length (read nodes below))) ≡ jump_depth 0
        → length (read nodes below) + jump_depth (jump_depth (length (read nodes below))) ≡ jump_depth (length (read nodes below)) + jump_depth (length (read nodes below)) → ⊥
    far f eq =
        let top = ap (λ (z : List Slot). length z) t.top in
        omega (arith, f, eq, zero, top)

jump_near_is : (nodes : List (Node Slot)) (below : ℕ) (l : Link) → IsTop nodes below l → jump_depth (length (read nodes below)) ≡ length (read nodes l.jump)
jump_near_is nodes below l t = ap jump_depth (sym t.link.depth) ∙ sym t.link.far

jump_far_is : (nodes : List (Node Slot)) (below : ℕ) (l m : Link) → IsTop nodes below l → IsTop nodes l.jump m
    → jump_depth (jump_depth (length (read nodes below))) ≡ length (read nodes m.jump)
jump_far_is nodes below l m t u = ap jump_depth (jump_near_is nodes below l t) ∙ jump_near_is nodes l.jump m u

-- two jumps of one length, and two of different ones
pub jump_twice : (nodes : List (Node Slot)) (below near far : ℕ) (l m : Link) → IsTop nodes below l → IsTop nodes l.jump m
    → near ≡ length (read nodes l.jump) → far ≡ length (read nodes m.jump) → l.depth + far ≡ near + near
    → length (read nodes m.jump) ≡ jump_depth (length (read nodes below) + 1)
jump_twice nodes below near far l m t u n f e = sym (jump_plus (length (read nodes below))
    ∙ leap_far _ _ _ (let a = jump_near_is nodes below l t in let b = jump_far_is nodes below l m t u in let d = t.link.depth in omega (arith, a, b, d, n, f, e))
    ∙ jump_far_is nodes below l m t u)

pub jump_once : (nodes : List (Node Slot)) (below near far : ℕ) (l m : Link) → IsTop nodes below l → IsTop nodes l.jump m
    → near ≡ length (read nodes l.jump) → far ≡ length (read nodes m.jump) → (l.depth + far ≡ near + near → ⊥)
    → length (read nodes below) ≡ jump_depth (length (read nodes below) + 1)
jump_once nodes below near far l m t u n f ne = sym (jump_plus (length (read nodes below))
    ∙ leap_near _ _ _ (λ e. ne (let a = jump_near_is nodes below l t in let b = jump_far_is nodes below l m t u in let d = t.link.depth in omega (arith, a, b, d, n, f, e))))

pub ruleset jumping = (lies_same, jump_far, jump_older, jump_first, jump_second)

pub near_none : (nodes : List (Node Slot)) (number depth : ℕ) → depth < length (read nodes number) → read nodes number ≡ [] → ⊥
near_none nodes number depth h e = let l = ap (λ (l : List Slot). length l) e in omega (arith, h, l)

pub near_below : (nodes : List (Node Slot)) (number depth : ℕ) (l : Link) → IsTop nodes number l → depth < length (read nodes number)
    → depth ≤ length (read nodes l.below)
near_below nodes number depth l t h = let e = ap (λ (l : List Slot). length l) t.top in omega (arith, h, e)

pub near_on : (nodes : List (Node Slot)) (number : ℕ) (l : Link) → IsTop nodes number l → LiesOn nodes number l.jump
near_on nodes number l t = t.link.on

pub near_older : (nodes : List (Node Slot)) (number : ℕ) (l : Link) → IsTop nodes number l → l.jump < number
near_older nodes number l t = t.link.older

pub below_older : (nodes : List (Node Slot)) (number : ℕ) (l : Link) → IsTop nodes number l → l.below < number
below_older nodes number l t = t.older

pub ruleset nearing = (near_none, near_below, near_on, near_older, below_older, lies_below)

pub ruleset lowest = (lies_same, lies_then)

lower_of : (front below all : List Slot) (count : ℕ) → all ≡ front ++ below → length below ≡ length all - count → count ≤ length all → below ≡ drop count all
lower_of front below all count e l h =
    let n : length front ≡ count = let a = ap (λ (z : List Slot). length z) e ∙ length-append front below in omega (arith, l, h, a) in
    sym (ap (drop count) e ∙ subst (λ k. drop k (front ++ below) ≡ below) n (drop-append_seam front below))

pub lower_is : (nodes : List (Node Slot)) (number result count depth : ℕ) → LiesOn nodes number result → length (read nodes result) ≡ depth - count
    → depth ≡ length (read nodes number) → count < depth → read nodes result ≡ drop count (read nodes number)
lower_is nodes number result count depth on l d h =
    lower_of on.front (read nodes result) (read nodes number) count on.is (l ∙ ap (λ n. n - count) d) (omega (arith, d, h))

pub lower_all : (nodes : List (Node Slot)) (number count depth : ℕ) → depth ≡ length (read nodes number) → depth ≤ count
    → read nodes 0 ≡ drop count (read nodes number)
lower_all nodes number count depth d h = read_empty nodes ∙ sym (drop_all count (read nodes number) (omega (arith, d, h)))

pub ruleset lowering = (lower_is, lower_all)

-- ---- a link more

reads_still : (before after : List (Node Slot)) (a b : ℕ) → Grows before after → a ≤ length before → b ≤ length before → LiesOn before a b → LiesOn after a b
reads_still before after a b g h i on = record { front = on.front; is = g.same a h ∙ on.is ∙ ap (λ z. on.front ++ z) (sym (g.same b i)) }

link_still : (before after : List (Node Slot)) (number : ℕ) (l : Link) → Grows before after → number ≤ length before → IsLink before number l → IsLink after number l
link_still before after number l g h i = record {
  depth = i.depth ∙ ap (λ (z : List Slot). length z) (sym (g.same number h));
  older = i.older;
  on = reads_still before after number l.jump g h (omega (arith, i.older, h)) i.on;
  far = ap (λ (z : List Slot). length z) (g.same l.jump (omega (arith, i.older, h))) ∙ i.far;
  based = i.based ∙ ap from_base (sym (g.same number h));
}

pub get_end : (xs : List Link) (x y : Link) (k : ℕ) → slice_get (xs ++ x ∷ []) k ≡ Some y → (slice_get xs k ≡ Some y) ⊎ ((k ≡ length xs) × (y ≡ x))
get_end [] x y zero h = inr (refl, some_is y x (sym h))
get_end [] x y (suc k) h = absurd cc
get_end (z ∷ xs) x y zero h = inl h
get_end (z ∷ xs) x y (suc k) h = elim (get_end xs x y k h) [
  | inl a ↦ inl a
  | inr b ↦ inr (ap (λ n. suc n) b.0, b.1)
]

pub added_grows : (links after : List Link) (l : Link) → AreLinked links → after ≡ links ++ l ∷ [] → Grows (nodes_of links) (nodes_of after)
added_grows links after l all e = grows_one (nodes_of links) (nodes_of after) (node_of l) all.older (ap nodes_of e ∙ nodes_more links l)

pub added_reads : (links after : List Link) (l : Link) (number : ℕ) → AreLinked links → after ≡ links ++ l ∷ [] → l.below ≤ length (nodes_of links)
    → number ≡ length links + 1 → read (nodes_of after) number ≡ l.slot ∷ read (nodes_of links) l.below
added_reads links after l number all e h n =
    ap (read (nodes_of after)) (n ∙ ap (λ n. n + 1) (sym (nodes_length links)))
    ∙ pushed_reads (nodes_of links) (nodes_of after) l.slot l.below all.older (ap nodes_of e ∙ nodes_more links l) h

pub added_inside : (links after : List Link) (l : Link) (number : ℕ) → after ≡ links ++ l ∷ [] → number ≡ length links + 1 → number ≤ length (nodes_of after)
added_inside links after l number e n =
    let a = ap (λ (z : List Link). length z) e ∙ length-append links (l ∷ []) in
    let b = nodes_length after in
    omega (arith, a, b, n)

new_link : (links after : List Link) (l : Link) → AreLinked links → after ≡ links ++ l ∷ [] → l.below ≤ length (nodes_of links)
    → l.depth ≡ length (read (nodes_of links) l.below) + 1 → LiesOn (nodes_of links) l.below l.jump → l.jump ≤ l.below
    → length (read (nodes_of links) l.jump) ≡ jump_depth l.depth
    → l.based ≡ from_base (l.slot ∷ read (nodes_of links) l.below) → IsLink (nodes_of after) (suc (length links)) l
new_link links after l all e h d on older far based =
    let g = added_grows links after l all e in
    let r = added_reads links after l (suc (length links)) all e h (omega arith) in
    record {
      depth = d ∙ (let s = ap (λ (z : List Slot). length z) r in omega (arith, s));
      older = let n = nodes_length links in omega (arith, older, h, n);
      on = record {
        front = l.slot ∷ on.front;
        is = r ∙ ap (λ z. l.slot ∷ z) (on.is ∙ ap (λ z. on.front ++ z) (sym (g.same l.jump (omega (arith, older, h)))));
      };
      far = ap (λ (z : List Slot). length z) (g.same l.jump (omega (arith, older, h))) ∙ far;
      based = based ∙ ap from_base (sym r);
    }

pub ruleset adding = (added_grows, added_reads, added_inside)

pub added_linked : (links after : List Link) (l : Link) → AreLinked links → after ≡ links ++ l ∷ [] → l.below ≤ length (nodes_of links)
    → l.depth ≡ length (read (nodes_of links) l.below) + 1 → LiesOn (nodes_of links) l.below l.jump → l.jump ≤ l.below
    → length (read (nodes_of links) l.jump) ≡ jump_depth l.depth
    → l.based ≡ from_base (l.slot ∷ read (nodes_of links) l.below) → length links < 33554432 → AreLinked after
added_linked links after l all e h d on older far based room = record {
  older = older_one (nodes_of links) (nodes_of after) (node_of l) all.older (ap nodes_of e ∙ nodes_more links l) h;
  each = λ k m f. elim (get_end links l m k (ap (λ xs. slice_get xs k) (sym e) ∙ f)) [
    | inl old ↦ link_still (nodes_of links) (nodes_of after) (suc k) m (added_grows links after l all e)
        (let i = link_fits links k m old in let n = nodes_length links in omega (arith, i, n)) (all.each k m old)
    | inr is ↦ subst (λ (m : Link). IsLink (nodes_of after) (suc k) m) (sym is.1)
        (subst (λ k. IsLink (nodes_of after) (suc k) l) (sym is.0) (new_link links after l all e h d on older far based))
  ];
  few = let a = ap (λ (z : List Link). length z) e ∙ length-append links (l ∷ []) in omega (arith, a, room);
}

pub agree_still : (before after : List (Node Slot)) (agreed : BTreeMap ℕ Agreed) → Grows before after → AllAgree before agreed → AllAgree after agreed
agree_still before after agreed g all = record {
  by = λ key a e.
      let h = all.by key a e in
      record {
        first = omega (arith, h.first, g.longer);
        second = omega (arith, h.second, g.longer);
        same = ap (take a.count) (g.same a.first h.first) ∙ h.same ∙ ap (take a.count) (sym (g.same a.second h.second));
      };
}

-- ---- fronts

take_less : (a b : ℕ) (l : List Slot) → a ≤ b → take a l ≡ take a (take b l)
take_less zero b l h = refl
take_less (suc a) zero l h = absurd (omega (arith, h))
take_less (suc a) (suc b) [] h = refl
take_less (suc a) (suc b) (x ∷ l) h = ap (λ z. x ∷ z) (take_less a b l (omega (arith, h)))

pub agree_less : (x y : List Slot) (count known : ℕ) → take known x ≡ take known y → count ≤ known → take count x ≡ take count y
agree_less x y count known e h = take_less count known x h ∙ ap (take count) e ∙ sym (take_less count known y h)

take_none : (n : ℕ) → take n [] ≡ (let xs : List Slot = [] in xs)
take_none zero = refl
take_none (suc n) = refl

take_then : (a n : ℕ) (l : List Slot) → take (a + n) l ≡ take a l ++ take n (drop a l)
take_then zero n l = ap (λ k. take k l) (there n)
  where
    there : (n : ℕ) → zero + n ≡ n
    there n = omega arith
take_then (suc a) n [] = take_none (suc a + n) ∙ sym (take_none n)
take_then (suc a) n (x ∷ l) = ap (λ k. take k (x ∷ l)) (there a n) ∙ ap (λ z. x ∷ z) (take_then a n l)
  where
    there : (a n : ℕ) → suc a + n ≡ suc (a + n)
    there a n = omega arith

split : (known count : ℕ) (l : List Slot) → known ≤ count → take count l ≡ take known l ++ take (count - known) (drop known l)
split known count l h = ap (λ k. take k l) (let e : count ≡ known + (count - known) = omega (arith, h) in e) ∙ take_then known (count - known) l

pub agree_more : (x y u v : List Slot) (count known : ℕ) → take known x ≡ take known y → known ≤ count → u ≡ drop known x → v ≡ drop known y
    → take (count - known) u ≡ take (count - known) v → take count x ≡ take count y
agree_more x y u v count known e h a b f =
    split known count x h ∙ ap (λ z. z ++ take (count - known) (drop known x)) e
    ∙ ap (λ z. take known y ++ z) (ap (take (count - known)) (sym a) ∙ f ∙ ap (take (count - known)) b) ∙ sym (split known count y h)

pub agree_back : (x y u v : List Slot) (count known : ℕ) → take known x ≡ take known y → known ≤ count → u ≡ drop known x → v ≡ drop known y
    → take count x ≡ take count y → take (count - known) u ≡ take (count - known) v
agree_back x y u v count known e h a b f =
    ap (take (count - known)) a
    ∙ append_cancel_left (take known x) _ _ (sym (split known count x h) ∙ f ∙ split known count y h
    ∙ ap (λ z. z ++ take (count - known) (drop known y)) (sym e))
    ∙ ap (take (count - known)) (sym b)

pub take_top : (l rest : List Slot) (slot : Slot) (left next : ℕ) → l ≡ slot ∷ rest → 0 < left → next ≡ left - 1 → take left l ≡ slot ∷ take next rest
take_top l rest slot zero next e p n = absurd (omega (arith, p))
take_top l rest slot (suc left) next e p n = ap (take (suc left)) e ∙ ap (λ k. slot ∷ take k rest) (let f : left ≡ next = omega (arith, n) in f)

take_nil : (n : ℕ) (l : List Slot) → l ≡ [] → take n l ≡ []
take_nil zero l e = refl
take_nil (suc n) [] e = refl
take_nil (suc n) (x ∷ l) e = absurd cc

pub front_end : (l : List Slot) (left : ℕ) → l ≡ [] → take left l ≡ []
front_end l left e = take_nil left l e

pub front_done : (x y : List Slot) (left : ℕ) → left ≤ 0 → take left x ≡ take left y
front_done x y zero h = refl
front_done x y (suc left) h = absurd (omega (arith, h))

pub ruleset fronts = (take_top, front_end, front_done)

pub none_known : (x y : List Slot) → take 0 x ≡ take 0 y
none_known x y = refl

pub known_is : (nodes : List (Node Slot)) (agreed : BTreeMap ℕ Agreed) (key a b : ℕ) (v : Agreed) → AllAgree nodes agreed → Some v ≡ get nat_cmp agreed key
    → v.first ≡ a → v.second ≡ b → take v.count (read nodes a) ≡ take v.count (read nodes b)
known_is nodes agreed key a b v all e f s =
    let h = all.by key v (sym e) in
    ap (λ n. take v.count (read nodes n)) (sym f) ∙ h.same ∙ ap (λ n. take v.count (read nodes n)) s

pub ruleset knowing = (none_known, known_is)

other_cmp : (k q : ℕ) → q ≢ k → is_eq (nat_cmp k q) ≡ false
other_cmp k q ne = grind (arith, nat_tests, ne)

pub agree_kept : (nodes : List (Node Slot)) (before after : BTreeMap ℕ Agreed) (key : ℕ) (a : Agreed) → AllAgree nodes before → a.first ≤ length nodes
    → a.second ≤ length nodes → take a.count (read nodes a.first) ≡ take a.count (read nodes a.second) → Updates nat_cmp before after key (Some a)
    → AllAgree nodes after
agree_kept nodes before after key a all f s same u = record {
  by = λ q b e. elim (cases_eq q key) [
    | inl i ↦ subst (λ (b : Agreed). Agrees nodes b) (some_is a b (sym u.1 ∙ ap (get nat_cmp after) (sym i) ∙ e)) (record { first = f; second = s; same = same })
    | inr ne ↦ all.by q b (sym (u.2 q (other_cmp key q ne)) ∙ e)
  ];
}

pub agree_unchanged : (nodes : List (Node Slot)) (before after : BTreeMap ℕ Agreed) → after.entries ≡ before.entries → AllAgree nodes before → AllAgree nodes after
agree_unchanged nodes before after e all = record {
  by = λ key a h. all.by key a (ap (lookup (is_at (nat_cmp key))) (sym e) ∙ h);
}

pub ruleset agreeing = (agree_less, agree_more, agree_back)

-- ---- joins

pub joins_still : (before after : List (Node Slot)) (joins : BTreeMap ℕ Join) → Grows before after → AllJoin before joins → AllJoin after joins
joins_still before after joins g all = record {
  by = λ key j e.
      let h = all.by key j e in
      record {
        upper = omega (arith, h.upper, g.longer);
        lower = omega (arith, h.lower, g.longer);
        inside = omega (arith, h.inside, g.longer);
        reads = g.same j.number h.inside ∙ h.reads ∙ ap (λ z. take j.count z ++ read before j.lower) (sym (g.same j.upper h.upper))
            ∙ ap (λ z. take j.count (read after j.upper) ++ z) (sym (g.same j.lower h.lower));
      };
}

pub join_is : (nodes : List (Node Slot)) (joins : BTreeMap ℕ Join) (key upper count lower number : ℕ) (j : Join) → AllJoin nodes joins
    → Some j ≡ get nat_cmp joins key → j.upper ≡ upper → j.lower ≡ lower → j.count ≡ count → number ≡ j.number
    → IsJoin nodes (record { upper = upper; count = count; lower = lower; number = number })
join_is nodes joins key upper count lower number j all e u l c n =
    let h = all.by key j (sym e) in
    record {
      upper = omega (arith, h.upper, u);
      lower = omega (arith, h.lower, l);
      inside = omega (arith, h.inside, n);
      reads = ap (read nodes) n ∙ h.reads ∙ ap (λ k. take k (read nodes j.upper) ++ read nodes j.lower) c
          ∙ ap (λ k. take count (read nodes k) ++ read nodes j.lower) u ∙ ap (λ k. take count (read nodes upper) ++ read nodes k) l;
    }

pub ruleset joining = (join_is)

joins_kept : (nodes : List (Node Slot)) (before after : BTreeMap ℕ Join) (key : ℕ) (j : Join) → AllJoin nodes before → IsJoin nodes j
    → Updates nat_cmp before after key (Some j) → AllJoin nodes after
joins_kept nodes before after key j all is u = record {
  by = λ q k e. elim (cases_eq q key) [
    | inl i ↦ subst (λ (k : Join). IsJoin nodes k) (some_is j k (sym u.1 ∙ ap (get nat_cmp after) (sym i) ∙ e)) is
    | inr ne ↦ all.by q k (sym (u.2 q (other_cmp key q ne)) ∙ e)
  ];
}

joins_unchanged : (nodes : List (Node Slot)) (before after : BTreeMap ℕ Join) → after.entries ≡ before.entries → AllJoin nodes before → AllJoin nodes after
joins_unchanged nodes before after e all = record {
  by = λ key j h. all.by key j (ap (lookup (is_at (nat_cmp key))) (sym e) ∙ h);
}

pub added_all : (links after : List Link) (l : Link) (agreed : BTreeMap ℕ Agreed) (joins : BTreeMap ℕ Join)
    → AreLinked links × AllAgree (nodes_of links) agreed × AllJoin (nodes_of links) joins → after ≡ links ++ l ∷ []
    → IsNew (nodes_of links) l → length links < 33554432 → AreLinked after × AllAgree (nodes_of after) agreed × AllJoin (nodes_of after) joins
added_all links after l agreed joins all e n room = (
  added_linked links after l all.0 e n.below n.depth n.on n.older n.far n.based room,
  agree_still (nodes_of links) (nodes_of after) agreed (added_grows links after l all.0 e) all.1,
  joins_still (nodes_of links) (nodes_of after) joins (added_grows links after l all.0 e) all.2,
)

pub agree_after : {E O M N : Type 0} (links : List Link) (before after : BTreeMap ℕ Agreed) (joins : BTreeMap ℕ Join) (key : ℕ) (a : Agreed) (r : Result O E)
    → AreLinked links × AllAgree (nodes_of links) before × AllJoin (nodes_of links) joins × M × N
    → (a.first ≤ length (nodes_of links)) × (a.second ≤ length (nodes_of links))
    → take a.count (read (nodes_of links) a.first) ≡ take a.count (read (nodes_of links) a.second)
    → OnOk r (Updates nat_cmp before after key (Some a)) → OnErr r (after.entries ≡ before.entries)
    → AreLinked links × AllAgree (nodes_of links) after × AllJoin (nodes_of links) joins × M × N
agree_after links before after joins key a (Ok o) all i same u e = (all.0, agree_kept (nodes_of links) before after key a all.1 i.0 i.1 same u, all.2, all.3, all.4)
agree_after links before after joins key a (Err x) all i same u e = (all.0, agree_unchanged (nodes_of links) before after e all.1, all.2, all.3, all.4)

pub join_after : {E O M N : Type 0} (links : List Link) (agreed : BTreeMap ℕ Agreed) (before after : BTreeMap ℕ Join) (key : ℕ) (j : Join) (r : Result O E)
    → AreLinked links × AllAgree (nodes_of links) agreed × AllJoin (nodes_of links) before × M × N → IsJoin (nodes_of links) j
    → OnOk r (Updates nat_cmp before after key (Some j)) → OnErr r (after.entries ≡ before.entries)
    → AreLinked links × AllAgree (nodes_of links) agreed × AllJoin (nodes_of links) after × M × N
join_after links agreed before after key j (Ok o) all is u e = (all.0, all.1, joins_kept (nodes_of links) before after key j all.2 is u, all.3, all.4)
join_after links agreed before after key j (Err x) all is u e = (all.0, all.1, joins_unchanged (nodes_of links) before after e all.2, all.3, all.4)
