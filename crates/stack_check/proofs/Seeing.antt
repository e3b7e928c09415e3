-- What an instruction looks at.
use Rattle.std.proofs.Common.{arith, ◌≡◌, ◌+◌, ◌-◌, ℕ, List, [], ◌∷◌, map, true, false, None, Some, slice_get, slice_set, sym, subst, ◌∙◌, ap, refl}
use Rattle.nwq_value.specs.Engine.{EngineTable}
use Rattle.ncs_code.specs.Plain.{PlainOp}
use Rattle.stack_shape.specs.declared.reach.Reach.{Reach}
use Rattle.stack_shape.specs.Stored.{TopShape}
use Rattle.stack_lists.specs.declared.held.Held.{Held}
use Rattle.stack_lists.specs.declared.held.Heap.{Heap}
use Rattle.stack_check.specs.declared.facts.Trial.{Trial}
use Rattle.stack_check.specs.declared.facts.Unseen.{Unseen}
use Rattle.stack_check.specs.declared.facts.Facts.{Facts}
use Rattle.stack_lists.specs.Shared.{read}
use Rattle.stack_lists.specs.Held.{shape_of}
use Rattle.stack_lists.specs.Rows.{row_in}
use Rattle.stack_check.specs.Facts.{FindsMore, given_found, given_open, open_of, seen_of}
use Rattle.stack_check.specs.Inference.{Keeps, IsThere, LooksOwed, SeesMore, UnseenOwed, Within, is_nil, unseen_after}
use Rattle.stack_check.proofs.Windows.{after_less, fits_after, lowest_length, within_same}
use Rattle.stack_check.proofs.Keeping.{keeps_narrow}
use Rattle.stack_check.proofs.Left.{more_set}
use Rattle.stack_check.proofs.Steps.{row_trial}

some_is : {A : Type 0} (a b : A) → Some a ≡ Some b → a ≡ b
some_is a b h = cc

-- ---- a trial that has looked at more

pub narrow_keeps : (header : EngineTable) (code : List PlainOp) (heap : Heap) (facts after : Facts) (n : ℕ) (trial now : Trial) (unseen : Unseen)
    → Keeps header code heap facts → slice_get facts.trials n ≡ Some trial → SeesMore trial.unseen unseen → UnseenOwed header code heap facts n trial unseen
    → now ≡ record trial { unseen = unseen } → after ≡ record facts { trials = slice_set facts.trials n now } → Keeps header code heap after
narrow_keeps header code heap facts after n trial now unseen k has m o e a =
    subst (λ f. Keeps header code heap f) (sym (a ∙ ap (λ t. record facts { trials = slice_set facts.trials n t }) e))
    (keeps_narrow header code heap facts n trial unseen k has m o)

pub narrow_more : (header : EngineTable) (code : List PlainOp) (heap : Heap) (facts after : Facts) (n : ℕ) (trial now : Trial) (unseen : Unseen)
    → Keeps header code heap facts → slice_get facts.trials n ≡ Some trial → SeesMore trial.unseen unseen
    → now ≡ record trial { unseen = unseen } → after ≡ record facts { trials = slice_set facts.trials n now } → FindsMore facts after
narrow_more header code heap facts after n trial now unseen k has m e a =
    let i = k.inside.trials n trial has in
    more_set facts after n trial now has (ap (λ (f : Facts). f.trials) a) (ap (λ (f : Facts). f.rows) a)
    (let o : open_of now ≡ given_open trial.given + unseen.cells + unseen.under = ap open_of e in omega (arith, o, m.less))
    (let o : seen_of now ≡ given_found trial.given + (trial.at_first.cells - unseen.cells) + (trial.at_first.under - unseen.under) = ap seen_of e in
    omega (arith, o, m.less, m.cells, m.under, i.first_cells.0, i.first_under.0))

pub ruleset narrowing = (narrow_keeps, narrow_more)

-- ---- how much is unseen

pub nil_is : (heap : Heap) (held : Held) → read heap.saved held.saved ≡ [] → is_nil (shape_of heap held).saved ≡ true
nil_is heap held e = ap (λ ns. is_nil (map (read heap.slots) ns)) e

not_nil : (heap : Heap) (ns : List ℕ) → (ns ≡ [] → ⊥) → is_nil (map (read heap.slots) ns) ≡ false
not_nil heap [] ne = absurd (ne refl)
not_nil heap (n ∷ ns) ne = refl

pub nil_isnt : (heap : Heap) (held : Held) → (read heap.saved held.saved ≡ [] → ⊥) → is_nil (shape_of heap held).saved ≡ false
nil_isnt heap held ne = not_nil heap (read heap.saved held.saved) ne

pub ruleset unseeing = (nil_is, nil_isnt)

-- ---- looking

pub see_within : (header : EngineTable) (code : List PlainOp) (heap : Heap) (facts : Facts) (n p : ℕ) (held : Held) (trial : Trial) (reach : Reach)
    → Keeps header code heap facts → row_in facts.rows n p ≡ Some held → slice_get facts.trials n ≡ Some trial → IsThere (shape_of heap held) reach
    → unseen_after trial.unseen (shape_of heap held) reach ≡ trial.unseen → Within heap facts n (shape_of heap held) reach
see_within header code heap facts n p held trial reach k r has there same =
    let o = k.over.rows n p held trial r has in
    let i = k.inside.trials n trial has in
    record {
      trial = trial;
      has = has;
      own = o.own;
      is = o.is;
      there = within_same _ _ trial.unseen (shape_of heap held) o.own reach (lowest_length trial.unseen.cells (read heap.slots trial.taken) i.unseen_cells)
          (lowest_length trial.unseen.under (read heap.slots trial.under) i.unseen_under) o.is there same;
    }

pub see_owed : (header : EngineTable) (code : List PlainOp) (heap : Heap) (facts : Facts) (n p : ℕ) (held : Held) (trial : Trial) (reach : Reach)
    → row_in facts.rows n p ≡ Some held → slice_get facts.trials n ≡ Some trial → LooksOwed header code heap facts n p reach
    → UnseenOwed header code heap facts n trial (unseen_after trial.unseen (shape_of heap held) reach)
see_owed header code heap facts n p held trial reach r has owed = record {
  by = λ table meets f.
      let a = f.rows p held r in
      fits_after f.x f.y trial.unseen (shape_of heap held) a.own reach (f.cells, f.under) a.is (owed.by table meets trial has a.own a.known);
}

pub see_less : (s : TopShape) (trial : Trial) (reach : Reach) (unseen : Unseen) → unseen ≡ unseen_after trial.unseen s reach → (unseen ≡ trial.unseen → ⊥)
    → SeesMore trial.unseen unseen
see_less s trial reach unseen e ne = subst (λ u. SeesMore trial.unseen u) (sym e) (after_less trial.unseen s reach (λ same. ne (e ∙ same)))

pub see_trial : (header : EngineTable) (code : List PlainOp) (heap : Heap) (facts : Facts) (n p : ℕ) (held : Held) → Keeps header code heap facts
    → row_in facts.rows n p ≡ Some held → None ≡ slice_get facts.trials n → ⊥
see_trial header code heap facts n p held k r none = let t = row_trial header code heap facts n p held k r in nothing t.0 (none ∙ t.1)
  where
    nothing : (t : Trial) → None ≡ Some t → ⊥
    nothing t h = absurd cc

pub ruleset seeing = (see_within, see_owed, see_less, see_trial)
