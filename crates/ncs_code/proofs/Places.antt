-- Where instructions stand.
use Rattle.std.proofs.Common.{◌≡◌, ◌<◌, ◌≤◌, ◌+◌, ◌-◌, ◌++◌, ◌∷◌, [], ℕ, zero, suc, pos, negsuc, List, Some, Bool, true, false, cond, eqb, ltb, refl, sym, ap, ◌∙◌, arith}
use Rattle.std.specs.List.{slice_get}
use Rattle.std.proofs.lemmas.Bool.{eqb-true, ne_eqb, ltb-true, ltb-false}
use Rattle.ncs_code.specs.Plain.{PlainOp}
use Rattle.ncs_code.specs.Spelling.{op_size}
use Rattle.ncs_code.specs.File.{ops_size, file_length, placed_from, placed, op_from, op_at, jump_place, distance, leads_well, IsFirstBad}
use Rattle.ncs_code.specs.Laws.{StandsBehind}
use Rattle.ncs_code.proofs.Sizes.{size_some, sizes_add}

some_is : (x y : PlainOp) → Some x ≡ Some y → x ≡ y
some_is x y same = cc

-- behind others an instruction begins
stood_from : (at : ℕ) (before behind : List PlainOp) (op : PlainOp) (place : ℕ) → place ≡ at + ops_size before → op_from at (before ++ op ∷ behind) place ≡ Some op
stood_from at [] behind op place is =
    let test : eqb place at ≡ true = grind (arith, is) in
    rw test refl
stood_from at (x ∷ before) behind op place is =
    let test : eqb place at ≡ false = ne_eqb place at (λ same. omega (arith, same, is, size_some x)) in
    rw test (stood_from (at + op_size x) before behind op place (omega (arith, is)))

pub stood_begins : (before behind : List PlainOp) (op : PlainOp) → op_at (before ++ op ∷ behind) (file_length before) ≡ Some op
unfolding op_at
stood_begins before behind op = stood_from 13 before behind op (file_length before) refl

-- an instruction of a list whose first stands at `from`
record Stands (from : ℕ) (ops : List PlainOp) (at : ℕ) (op : PlainOp) : Type 0 where
  before : List PlainOp
  behind : List PlainOp
  both : ops ≡ before ++ op ∷ behind
  place : at ≡ from + ops_size before

stands_next : (from : ℕ) (x : PlainOp) (ops : List PlainOp) (at : ℕ) (op : PlainOp) → Stands (from + op_size x) ops at op → Stands from (x ∷ ops) at op
stands_next from x ops at op s = record {
  before = x ∷ s.before;
  behind = s.behind;
  both = ap (λ (others : List PlainOp). x ∷ others) s.both;
  place = omega (arith, s.place);
}

begun_case : (from : ℕ) (x : PlainOp) (ops : List PlainOp) (at : ℕ) (op : PlainOp) (test : Bool) → eqb at from ≡ test
    → (op_from (from + op_size x) ops at ≡ Some op → Stands (from + op_size x) ops at op)
    → cond test (Some x) (op_from (from + op_size x) ops at) ≡ Some op → Stands from (x ∷ ops) at op
begun_case from x ops at op true is more here = record {
  before = [];
  behind = ops;
  both = ap (λ o. o ∷ ops) (some_is x op here);
  place = omega (arith, eqb-true at from is);
}
begun_case from x ops at op false is more here = stands_next from x ops at op (more here)

begun : (from : ℕ) (ops : List PlainOp) (at : ℕ) (op : PlainOp) → op_from from ops at ≡ Some op → Stands from ops at op
begun from [] at op is = absurd cc
begun from (x ∷ ops) at op is = begun_case from x ops at op (eqb at from) refl (begun (from + op_size x) ops at op) is

pub begun_stands : (ops : List PlainOp) (at : ℕ) (op : PlainOp) → op_at ops at ≡ Some op → StandsBehind ops at op
unfolding op_at
begun_stands ops at op is =
    let s = begun 13 ops at op is in
    record { before = s.before; behind = s.behind; both = s.both; place = s.place }

-- ---- between others

pub begun_lies : (ops : List PlainOp) (at : ℕ) (op : PlainOp) → op_at ops at ≡ Some op → (13 ≤ at) × (at + op_size op ≤ file_length ops)
begun_lies ops at op is =
    let s = begun_stands ops at op is in
    (omega (arith, s.place), omega (arith, s.place, ap ops_size s.both, sizes_add s.before (op ∷ s.behind)))

heads : (x y : PlainOp) (xs ys : List PlainOp) → x ∷ xs ≡ y ∷ ys → (x ≡ y) × (xs ≡ ys)
heads x y xs ys same = (cc, cc)

-- of two instructions that stand in one list the one that stands further is behind the whole other
further : (xs ys : List PlainOp) (x y : PlainOp) (vs ws : List PlainOp) → xs ++ x ∷ vs ≡ ys ++ y ∷ ws → ops_size xs < ops_size ys → ops_size xs + op_size x ≤ ops_size ys
further [] [] x y vs ws same lt = absurd (omega (arith, lt))
further [] (z ∷ ys) x y vs ws same lt = omega (arith, ap op_size (heads x z vs (ys ++ y ∷ ws) same).0)
further (z ∷ xs) [] x y vs ws same lt = absurd (omega (arith, lt))
further (z ∷ xs) (w ∷ ys) x y vs ws same lt =
    let h = heads z w (xs ++ x ∷ vs) (ys ++ y ∷ ws) same in
    omega (arith, ap op_size h.0, further xs ys x y vs ws h.1 (omega (arith, ap op_size h.0, lt)))

pub ops_apart : (ops : List PlainOp) (at place : ℕ) (op other : PlainOp) → op_at ops at ≡ Some op → op_at ops place ≡ Some other → at < place → at + op_size op ≤ place
ops_apart ops at place op other is there lt =
    let s = begun_stands ops at op is in
    let t = begun_stands ops place other there in
    omega (arith, s.place, t.place, further s.before t.before op other s.behind t.behind (sym s.both ∙ t.both) (omega (arith, s.place, t.place, lt)))

-- ---- the list of places

some_pair : (x y : ℕ × PlainOp) → Some x ≡ Some y → (x.0 ≡ y.0) × (x.1 ≡ y.1)
some_pair x y same = let e : x ≡ y = cc in (ap (λ p. p.0) e, ap (λ p. p.1) e)

pub least : (from : ℕ) (ops : List PlainOp) (i at : ℕ) (op : PlainOp) → slice_get (placed_from from ops) i ≡ Some (at, op) → from ≤ at
least from [] i at op is = absurd cc
least from (x ∷ ops) zero at op is = omega (arith, (some_pair (from, x) (at, op) is).0)
least from (x ∷ ops) (suc i) at op is = omega (arith, least (from + op_size x) ops i at op is)

placed_from_begins : (from : ℕ) (ops : List PlainOp) (i at : ℕ) (op : PlainOp) → slice_get (placed_from from ops) i ≡ Some (at, op) → op_from from ops at ≡ Some op
placed_from_begins from [] i at op is = absurd cc
placed_from_begins from (x ∷ ops) zero at op is =
    let both = some_pair (from, x) (at, op) is in
    let test : eqb at from ≡ true = grind (arith, both.0) in
    rw test (ap Some both.1)
placed_from_begins from (x ∷ ops) (suc i) at op is =
    let test : eqb at from ≡ false = ne_eqb at from (λ same. omega (arith, same, size_some x, least (from + op_size x) ops i at op is)) in
    rw test (placed_from_begins (from + op_size x) ops i at op is)

pub placed_begins : (ops : List PlainOp) (i at : ℕ) (op : PlainOp) → slice_get (placed ops) i ≡ Some (at, op) → op_at ops at ≡ Some op
unfolding op_at
placed_begins ops i at op is = placed_from_begins 13 ops i at op is

listed_case : (from : ℕ) (x : PlainOp) (ops : List PlainOp) (at : ℕ) (op : PlainOp) (test : Bool) → eqb at from ≡ test
    → (op_from (from + op_size x) ops at ≡ Some op → (i : ℕ) × (slice_get (placed_from (from + op_size x) ops) i ≡ Some (at, op)))
    → cond test (Some x) (op_from (from + op_size x) ops at) ≡ Some op → (i : ℕ) × (slice_get (placed_from from (x ∷ ops)) i ≡ Some (at, op))
listed_case from x ops at op true is more here =
    let place : from ≡ at = sym (eqb-true at from is) in
    let same : x ≡ op = some_is x op here in
    (0, ap (λ p. Some (p, x)) place ∙ ap (λ o. Some (at, o)) same)
listed_case from x ops at op false is more here = let found = more here in (suc found.0, found.1)

listed : (from : ℕ) (ops : List PlainOp) (at : ℕ) (op : PlainOp) → op_from from ops at ≡ Some op → (i : ℕ) × (slice_get (placed_from from ops) i ≡ Some (at, op))
listed from [] at op is = absurd cc
listed from (x ∷ ops) at op is = listed_case from x ops at op (eqb at from) refl (listed (from + op_size x) ops at op) is

pub begun_is_placed : (ops : List PlainOp) (at : ℕ) (op : PlainOp) → op_at ops at ≡ Some op → (i : ℕ) × (slice_get (placed ops) i ≡ Some (at, op))
unfolding op_at
begun_is_placed ops at op is = listed 13 ops at op is

-- one index has one place
one_index : (from : ℕ) (ops : List PlainOp) (i j at : ℕ) (x y : PlainOp) → slice_get (placed_from from ops) i ≡ Some (at, x) → slice_get (placed_from from ops) j ≡ Some (at, y) → i ≡ j
one_index from [] i j at x y f g = absurd cc
one_index from (o ∷ ops) zero zero at x y f g = refl
one_index from (o ∷ ops) zero (suc j) at x y f g =
    absurd (omega (arith, (some_pair (from, o) (at, x) f).0, size_some o, least (from + op_size o) ops j at y g))
one_index from (o ∷ ops) (suc i) zero at x y f g =
    absurd (omega (arith, (some_pair (from, o) (at, y) g).0, size_some o, least (from + op_size o) ops i at x f))
one_index from (o ∷ ops) (suc i) (suc j) at x y f g = ap (λ n. suc n) (one_index (from + op_size o) ops i j at x y f g)

-- ---- the first that leads badly

not_both : (b : Bool) → b ≡ true → b ≡ false → ⊥
not_both b t f = let tf : true ≡ false = sym t ∙ f in absurd cc

no_earlier : (ops : List PlainOp) (i j at place : ℕ) → IsFirstBad ops i at → IsFirstBad ops j place → at < place → ⊥
no_earlier ops i j at place f g lt = not_both (leads_well ops at f.op) (g.before at f.op lt (placed_begins ops i at f.op f.stands)) f.bad

pub one_first_bad : (ops : List PlainOp) (i j at place : ℕ) → IsFirstBad ops i at → IsFirstBad ops j place → (i ≡ j) × (at ≡ place)
one_first_bad ops i j at place f g =
    let up : at < place → ⊥ = no_earlier ops i j at place f g in
    let down : place < at → ⊥ = no_earlier ops j i place at g f in
    let same : at ≡ place = grind (arith, up, down) in
    (one_index 13 ops i j place f.op g.op (f.stands ∙ ap (λ p. Some (p, f.op)) same) g.stands, same)

-- ---- jumps

-- by whether it leads back
leads_by : (at place : ℕ) (back : Bool) → ltb place at ≡ back → jump_place at (cond back (negsuc (at - suc place)) (pos (place - at))) ≡ place
leads_by at place true is = omega (arith, ltb-true place at is)
leads_by at place false is = omega (arith, ltb-false place at is)

pub distance_leads : (at place : ℕ) → jump_place at (distance at place) ≡ place
distance_leads zero place = omega arith
distance_leads (suc n) place = leads_by (suc n) place (ltb place (suc n)) refl
