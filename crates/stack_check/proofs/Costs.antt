-- How many looks are counted.
use Rattle.std.proofs.Common.{arith, ◌≡◌, ◌≤◌, ◌+◌, ◌-◌, ◌*◌, ◌^◌, ℕ, List, [], ◌∷◌, ◌++◌, length, sym, subst, ◌∙◌, ap, min, mul-le-mul_left}
use Rattle.std.proofs.Common.{mul-le-mul_right}
use Rattle.std.proofs.lemmas.List.{length-append}
use Rattle.nwq_value.specs.Engine.{EngineTable}
use Rattle.ncs_code.specs.Plain.{PlainOp}
use Rattle.stack_lists.specs.declared.held.Heap.{Heap}
use Rattle.stack_lists.specs.declared.todo.Spot.{Spot}
use Rattle.stack_lists.specs.Worklist.{SameCalls, Worklist, waiting}
use Rattle.stack_check.specs.declared.facts.Facts.{Facts}
use Rattle.stack_check.specs.declared.seen.Seen.{Seen}
use Rattle.stack_check.specs.declared.seen.Seen.TheVariants.{Quiet}
use Rattle.stack_check.specs.Facts.{found}
use Rattle.stack_check.specs.Inference.{AddsCalls, Keeps, NothingNew}
use Rattle.stack_check.specs.Costs.{CountsTurn, LooksAreFew, most_looks}

-- ---- a turn

-- So many spots were handed out, and nothing was found.
pub record DrainCounts (first now : Worklist) (looks looks' : ℕ) : Type 0 where
  pub few : looks' + length (waiting now) ≤ looks + length (waiting first)
  pub longer : length first.calls ≤ length now.calls

pub drain_counts_begin : (w : Worklist) (n : ℕ) → DrainCounts w w n n
drain_counts_begin w n = record { few = omega arith; longer = omega arith }

last_out : (a b : Worklist) (spot : Spot) → waiting a ≡ waiting b ++ spot ∷ [] → length (waiting a) ≡ length (waiting b) + 1
last_out a b spot h = ap (λ (z : List Spot). length z) h ∙ length-append (waiting b) (spot ∷ [])

-- one spot is handed out, and its look finds nothing
pub drain_counts_step : (first now out next : Worklist) (looks a b : ℕ) (spot : Spot) (seen : Seen) → DrainCounts first now looks a
    → waiting now ≡ waiting out ++ spot ∷ [] → SameCalls now out → b ≡ min (a + 1) (2 ^ 64 - 1) → NothingNew out next seen → AddsCalls out next 4
    → seen ≡ Quiet → DrainCounts first next looks b
drain_counts_step first now out next looks a b spot seen d w s e k few q =
    let same : waiting next ≡ waiting out = subst (λ s. NothingNew out next s) q k in
    let x = ap (λ (z : List Spot). length z) same in
    let y = last_out now out spot w in
    record {
      few = let f = d.few in omega (arith, x, y, f, e);
      longer = let l = d.longer in let c = s.count in let m = few.longer in omega (arith, l, c, m);
    }

-- one that finds something, or that is refused
pub drain_counts_last : (first now out next : Worklist) (looks a b : ℕ) (spot : Spot) → DrainCounts first now looks a
    → waiting now ≡ waiting out ++ spot ∷ [] → SameCalls now out → b ≡ min (a + 1) (2 ^ 64 - 1) → AddsCalls out next 4 → CountsTurn first next looks b
drain_counts_last first now out next looks a b spot d w s e few = record {
  few = let y = last_out now out spot w in let f = d.few in let m = few.few in omega (arith, y, e, f, m);
  longer = let l = d.longer in let c = s.count in let m = few.longer in omega (arith, l, c, m);
}

pub drain_counts_all : (first now out : Worklist) (looks a : ℕ) → DrainCounts first now looks a → (waiting now ≡ []) × (waiting out ≡ [])
    → SameCalls now out → CountsTurn first out looks a
drain_counts_all first now out looks a d e s =
    let x = ap (λ (z : List Spot). length z) e.0 in
    let y = ap (λ (z : List Spot). length z) e.1 in
    record {
      few = let f = d.few in omega (arith, x, y, f);
      longer = let l = d.longer in let c = s.count in omega (arith, l, c);
    }

pub ruleset draining = (drain_counts_begin, drain_counts_step, drain_counts_last, drain_counts_all)

-- ---- all turns

-- so many turns were taken, and each found something
pub record LooksSoFar (first now : Worklist) (turns turns' looks looks' : ℕ) : Type 0 where
  pub order : turns ≤ turns'
  pub few : looks' + length (waiting now) ≤ looks + length (waiting first) + (turns' - turns) * (length now.calls + 4)

pub looks_begin : (now : Worklist) (turns looks : ℕ) → LooksSoFar now now turns turns looks looks
looks_begin now turns looks = record { order = omega arith; few = omega arith }

spent_more : (n a b : ℕ) → a ≤ b → n * a + b ≤ (n + 1) * b
spent_more n a b l =
    let m = mul-le-mul_left n l in
    let e : (n + 1) * b ≡ n * b + b = omega arith in
    omega (arith, m, e)

looks_next : (first now next : Worklist) (turns a b looks x y : ℕ) → LooksSoFar first now turns a looks x → b ≡ a + 1 → CountsTurn now next x y
    → y + length (waiting next) ≤ looks + length (waiting first) + (b - turns) * (length next.calls + 4)
looks_next first now next turns a b looks x y d e c =
    let f = d.few in
    let g = c.few in
    let l = c.longer in
    let s = spent_more (a - turns) (length now.calls + 4) (length next.calls + 4) (omega (arith, l)) in
    let o = d.order in
    let n : b - turns ≡ a - turns + 1 = omega (arith, e, o) in
    let t = ap (λ n. n * (length next.calls + 4)) n in
    omega (arith, f, g, s, t)

pub looks_step : (first now next : Worklist) (turns a b looks x y : ℕ) → LooksSoFar first now turns a looks x → b ≡ a + 1 → CountsTurn now next x y
    → LooksSoFar first next turns b looks y
looks_step first now next turns a b looks x y d e c = record {
  order = let o = d.order in omega (arith, e, o);
  few = looks_next first now next turns a b looks x y d e c;
}

pub looks_last : (header : EngineTable) (code : List PlainOp) (heap : Heap) (begun before : Facts) (first now next : Worklist) (turns a b looks x y : ℕ)
    → Keeps header code heap before → LooksSoFar first now turns a looks x → a + found begun ≤ turns + found before → b ≡ a + 1
    → CountsTurn now next x y → LooksAreFew header code begun first next turns b looks y
unfolding most_looks
looks_last header code heap begun before first now next turns a b looks x y k d f e c = record {
  heap = heap;
  known = before;
  keeps = k;
  finds = omega (arith, e, f);
  few = looks_next first now next turns a b looks x y d e c;
}

pub looks_found : (first now next : Worklist) (turns a b looks x y : ℕ) → LooksSoFar first now turns a looks x → b ≡ a + 1 → CountsTurn now next x y
    → y ≤ looks + length (waiting first) + most_looks (b - turns) (length next.calls)
unfolding most_looks
looks_found first now next turns a b looks x y d e c = let n = looks_next first now next turns a b looks x y d e c in omega (arith, n)

pub ruleset settling = (looks_begin)

-- ---- the whole inference

pub looks_infer : (none w v : Worklist) (looks turns calls : ℕ) → waiting none ≡ [] → length (waiting w) ≡ length (waiting none) + 1
    → looks ≤ 0 + length (waiting w) + most_looks (turns - 0) (length v.calls) → calls ≡ length v.calls → looks ≤ most_looks turns calls + 1
looks_infer none w v looks turns calls e o l c =
    let x = ap (λ (z : List Spot). length z) e in
    let n : turns - 0 ≡ turns = omega arith in
    let m = subst (λ t. looks ≤ 0 + length (waiting w) + most_looks t (length v.calls)) n l in
    let k = subst (λ n. looks ≤ 0 + length (waiting w) + most_looks turns n) (sym c) m in
    omega (arith, x, o, k)

pub calls_infer : (v : Worklist) (calls rows : ℕ) → length v.calls ≤ rows → calls ≡ length v.calls → calls ≤ rows
calls_infer v calls rows l e = omega (arith, l, e)

pub looks_under : (turns most looks calls : ℕ) → looks ≤ most_looks turns calls + 1 → turns ≤ most → looks ≤ most_looks most calls + 1
unfolding most_looks
looks_under turns most looks calls l t = let m = mul-le-mul_right (calls + 4) t in omega (arith, l, m)

pub ruleset inferring = (looks_infer, calls_infer)
