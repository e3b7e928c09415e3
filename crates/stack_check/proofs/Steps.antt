-- An instruction with a rule of one shape, in what was found and in every table.
use Rattle.std.proofs.Common.{arith, ◌≡◌, ◌<◌, ℕ, zero, suc, List, [], ◌∷◌, length, Option, None, Some, slice_get, inl, inr, ◌⊎◌, sym, subst, ◌∙◌, ap, refl}
use Rattle.nwq_value.specs.Engine.{EngineTable}
use Rattle.ncs_code.specs.Plain.{PlainOp}
use Rattle.ncs_code.specs.Plain as ops
use Rattle.ncs_code.specs.File.{op_at}
use Rattle.stack_shape.specs.declared.shape.Slot.{Slot}
use Rattle.stack_shape.specs.declared.shape.Entry.{Entry}
use Rattle.stack_shape.specs.Stored.{TopShape}
use Rattle.stack_shape.specs.Laws.{deeper, Reaches, RuleLooksFromTop, RuleLooksNoDeeper, RuleReaches}
use Rattle.stack_shape.specs.Reach.{reach}
use Rattle.stack_shape.specs.Rule.{IsOneStep, rule}
use Rattle.machine_rules.specs.Act.{next_place}
use Rattle.stack_rules.specs.Tables.{ShapeTable}
use Rattle.stack_rules.specs.Rules.{Leads, AsksFurther, Follows, Obeys, MeetsRules, WellStacked}
use Rattle.stack_lists.specs.declared.held.Held.{Held}
use Rattle.stack_lists.specs.declared.held.Heap.{Heap}
use Rattle.stack_check.specs.declared.facts.Trial.{Trial}
use Rattle.stack_check.specs.declared.facts.Facts.{Facts}
use Rattle.stack_check.specs.declared.leads.Lead.{Lead}
use Rattle.stack_lists.specs.Held.{HeapGrows, IsIn, shape_of}
use Rattle.stack_lists.specs.Rows.{row_in}
use Rattle.stack_check.specs.Facts.{trial_table, unseen_cells, unseen_under}
use Rattle.stack_check.specs.Inference.{RowFits, Keeps, Owed, IsLed, AllLed, RowsKept, IsOver, IsStep, IsThere, LooksOwed, Within, Sound, AsksFurtherOf, leads_of}
use Rattle.stack_lists.specs.Growth.{still_shape}
use Rattle.stack_check.proofs.Keeping.{over_still}
use Rattle.stack_check.proofs.Tables.{led_at, own_is}

some_is : {A : Type 0} (a b : A) → Some a ≡ Some b → a ≡ b
some_is a b h = cc

none_some : {A : Type 0} (a : A) → None ≡ Some a → ⊥
none_some a h = absurd cc

-- ---- by instruction

pub follows_of : (header : EngineTable) (table : ShapeTable) (entry : Entry) (place : ℕ) (op : PlainOp) (shape : TopShape) → IsOneStep op
    → Obeys header table entry place op shape → Follows header table entry place op shape
follows_of header table entry place (ops.Jsr offset) shape one h = absurd one
follows_of header table entry place ops.Retn shape one h = absurd one
follows_of header table entry place op shape one h = h

pub obeys_of : (header : EngineTable) (table : ShapeTable) (entry : Entry) (place : ℕ) (op : PlainOp) (shape : TopShape) → IsOneStep op
    → Follows header table entry place op shape → Obeys header table entry place op shape
obeys_of header table entry place (ops.Jsr offset) shape one h = absurd one
obeys_of header table entry place ops.Retn shape one h = absurd one
obeys_of header table entry place op shape one h = h

at_one : (table : ShapeTable) (entry : Entry) (a : ℕ) (shape : TopShape) → table.at entry a ≡ Some shape → (t : ℕ) → t ≡ a → table.at entry t ≡ Some shape
at_one table entry a shape h t e = ap (table.at entry) e ∙ h

at_two : (table : ShapeTable) (entry : Entry) (a b : ℕ) (shape : TopShape) → (table.at entry a ≡ Some shape) × (table.at entry b ≡ Some shape) → (t : ℕ)
    → (t ≡ a) ⊎ (t ≡ b) → table.at entry t ≡ Some shape
at_two table entry a b shape h t (inl e) = ap (table.at entry) e ∙ h.0
at_two table entry a b shape h t (inr e) = ap (table.at entry) e ∙ h.1

-- where the table's shape after an instruction stands, it stands at each place to which the
-- instruction leads
pub leads_led : (table : ShapeTable) (entry : Entry) (place : ℕ) (op : PlainOp) (after : TopShape) → Leads table entry place op after → (t : ℕ)
    → IsLed (leads_of place (next_place place op) op) t → table.at entry t ≡ Some after
unfolding leads_of
leads_led table entry place (ops.Jmp offset) after h t led = at_one table entry _ after h t led
leads_led table entry place (ops.Jz offset) after h t led = at_two table entry _ _ after h t led
leads_led table entry place (ops.Jnz offset) after h t led = at_two table entry _ _ after h t led
leads_led table entry place op after h t led = at_one table entry _ after h t led

pub leads_from : (table : ShapeTable) (entry : Entry) (place : ℕ) (op : PlainOp) (after : TopShape)
    → ((t : ℕ) → IsLed (leads_of place (next_place place op) op) t → table.at entry t ≡ Some after) → Leads table entry place op after
unfolding leads_of
leads_from table entry place (ops.Jmp offset) after h = h _ refl
leads_from table entry place (ops.Jz offset) after h = (h _ (inl refl), h _ (inr refl))
leads_from table entry place (ops.Jnz offset) after h = (h _ (inl refl), h _ (inr refl))
leads_from table entry place op after h = h _ refl

-- ---- in every table

-- the shape after the instruction, in a table that has the shape before it
pub record StepFits (table : ShapeTable) (entry : Entry) (place : ℕ) (op : PlainOp) (before after : TopShape) (x y : List Slot) : Type 0 where
  pub own_before : TopShape
  pub before_is : before ≡ deeper x y own_before
  pub own : TopShape
  pub is : after ≡ deeper x y own
  pub leads : Leads table entry place op own
  pub further : AsksFurther table place op own_before

same_op : (code : List PlainOp) (place : ℕ) (a b : PlainOp) → op_at code place ≡ Some a → op_at code place ≡ Some b → a ≡ b
same_op code place a b e f = some_is a b (sym e ∙ f)

-- the table's instruction at a place follows the rules
pub table_follows : (header : EngineTable) (code : List PlainOp) (table : ShapeTable) (entry : Entry) (place : ℕ) (op : PlainOp) (own : TopShape)
    → MeetsRules header code table → op_at code place ≡ Some op → IsOneStep op → table.at entry place ≡ Some own → Follows header table entry place op own
table_follows header code table entry place op own meets stands one known =
    let s = meets.each entry place own known in
    follows_of header table entry place op own one
    (subst (λ o. Obeys header table entry place o own) (same_op code place s.op op s.stands stands) s.obeys)

pub step_fits : RuleLooksFromTop → (header : EngineTable) (code : List PlainOp) (table : ShapeTable) (entry : Entry) (place : ℕ) (op : PlainOp)
    (before after : TopShape) (x y : List Slot) → MeetsRules header code table → op_at code place ≡ Some op → IsOneStep op
    → RowFits table entry place before x y → rule header op before ≡ Some after → StepFits table entry place op before after x y
step_fits law header code table entry place op before after x y meets stands one f has =
    let t = table_follows header code table entry place op f.own meets stands one f.known in
    record {
      own_before = f.own;
      before_is = f.is;
      own = t.after;
      is = some_is after (deeper x y t.after) (sym has ∙ ap (rule header op) f.is ∙ law header op f.own t.after x y t.has_rule);
      leads = t.leads;
      further = t.further;
    }

step_there : RuleLooksFromTop → (header : EngineTable) (code : List PlainOp) (table : ShapeTable) (entry : Entry) (place : ℕ) (op : PlainOp)
    (before : TopShape) (x y : List Slot) → MeetsRules header code table → op_at code place ≡ Some op → IsOneStep op
    → RowFits table entry place before x y → rule header op before ≡ None → ⊥
step_there law header code table entry place op before x y meets stands one f none =
    let t = table_follows header code table entry place op f.own meets stands one f.known in
    none_some (deeper x y t.after) (sym none ∙ ap (rule header op) f.is ∙ law header op f.own t.after x y t.has_rule)

-- ---- of what was found

pub trial_there : {A : Type 0} (xs : List A) (n : ℕ) → n < length xs → (x : A) × (slice_get xs n ≡ Some x)
trial_there [] n h = absurd (omega (arith, h))
trial_there (x ∷ xs) zero h = (x, refl)
trial_there (x ∷ xs) (suc n) h = trial_there xs n (omega (arith, h))

pub row_trial : (header : EngineTable) (code : List PlainOp) (heap : Heap) (facts : Facts) (n p : ℕ) (held : Held) → Keeps header code heap facts
    → row_in facts.rows n p ≡ Some held → (trial : Trial) × (slice_get facts.trials n ≡ Some trial)
row_trial header code heap facts n p held k r = trial_there facts.trials n (k.formed.owned n p held r)

-- no table has a shape on which the instruction has no rule
pub no_rule : RuleLooksFromTop → (header : EngineTable) (code : List PlainOp) (heap : Heap) (facts : Facts) (n p : ℕ) (held : Held) (op : PlainOp)
    → Keeps header code heap facts → row_in facts.rows n p ≡ Some held → op_at code p ≡ Some op → IsOneStep op
    → rule header op (shape_of heap held) ≡ None → WellStacked header code → ⊥
no_rule law header code heap facts n p held op k r stands one none w =
    let t = row_trial header code heap facts n p held k r in
    let f = (k.compares w.0 w.1).by n t.0 t.1 in
    step_there law header code w.0 t.0.entry p op (shape_of heap held) f.x f.y w.1 stands one (f.rows p held r) none

-- no table has a shape where no instruction begins
pub no_op : (header : EngineTable) (code : List PlainOp) (heap : Heap) (facts : Facts) (n p : ℕ) (held : Held) → Keeps header code heap facts
    → row_in facts.rows n p ≡ Some held → op_at code p ≡ None → WellStacked header code → ⊥
no_op header code heap facts n p held k r none w =
    let t = row_trial header code heap facts n p held k r in
    let f = (k.compares w.0 w.1).by n t.0 t.1 in
    let a = f.rows p held r in
    let s = w.1.each t.0.entry p a.own a.known in
    none_some s.op (sym none ∙ s.stands)

-- every table has the shape after the instruction at each place to which it leads
pub led_owed : RuleLooksFromTop → (header : EngineTable) (code : List PlainOp) (heap : Heap) (facts : Facts) (n p : ℕ) (held : Held) (op : PlainOp) (after : Held)
    (lead : Lead) (t : ℕ) → Keeps header code heap facts → IsStep header code heap facts n p held op after → lead ≡ leads_of p (next_place p op) op → IsLed lead t
    → Owed header code heap facts n t after
led_owed law header code heap facts n p held op after lead t k s e led =
    let i = row_trial header code heap facts n p held k s.row in
    record {
      trial = i.0;
      has = i.1;
      by = λ table meets f.
          let g = step_fits law header code table i.0.entry p op (shape_of heap held) (shape_of heap after) f.x f.y meets s.stands s.one (f.rows p held s.row) s.has_rule in
          record { own = g.own; known = leads_led table i.0.entry p op g.own g.leads t (subst (λ l. IsLed l t) e led); is = g.is };
      over = subst (λ t. IsOver heap t (shape_of heap after)) (some_is s.over.trial i.0 (sym s.over.has ∙ i.1)) s.over.over;
    }

pub step_kept : (header : EngineTable) (code : List PlainOp) (heap : Heap) (facts facts' : Facts) (n p : ℕ) (held : Held) (op : PlainOp) (after : Held)
    → IsStep header code heap facts n p held op after → RowsKept facts facts' → IsStep header code heap facts' n p held op after
step_kept header code heap facts facts' n p held op after s k =
    record {
      row = k.by n p held s.row;
      stands = s.stands;
      one = s.one;
      has_rule = s.has_rule;
      inside = s.inside;
      over = record { trial = s.over.trial; has = ap (λ ts. slice_get ts n) k.trials ∙ s.over.has; over = s.over.over };
    }

-- ---- the shape above what was not looked at

-- The rule on a shape is one on the part of it above what the trial hasn't looked at.
pub record OwnStep (header : EngineTable) (op : PlainOp) (after own : TopShape) (x y : List Slot) : Type 0 where
  pub next : TopShape
  pub has_rule : rule header op own ≡ Some next
  pub is : after ≡ deeper x y next

own_found : RuleLooksFromTop → RuleLooksNoDeeper → (header : EngineTable) (op : PlainOp) (s after own : TopShape) (x y : List Slot) (o : Option TopShape)
    → rule header op own ≡ o → rule header op s ≡ Some after → s ≡ deeper x y own → Reaches header op own → OwnStep header op after own x y
own_found law deep header op s after own x y None e has is r =
    absurd (none_some after (sym (deep header op own x y r e) ∙ ap (rule header op) (sym is) ∙ has))
own_found law deep header op s after own x y (Some next) e has is r = record {
  next = next;
  has_rule = e;
  is = some_is after (deeper x y next) (sym has ∙ ap (rule header op) is ∙ law header op own next x y e);
}

pub own_step : RuleLooksFromTop → RuleLooksNoDeeper → (header : EngineTable) (op : PlainOp) (s after own : TopShape) (x y : List Slot)
    → rule header op s ≡ Some after → s ≡ deeper x y own → IsThere own (reach header op) → OwnStep header op after own x y
own_step law deep header op s after own x y has is t =
    own_found law deep header op s after own x y (rule header op own) refl has is (record { cells = t.cells; under = t.under })

-- what an instruction with a rule looks at is there, and so it is in every table
pub rule_there : RuleReaches → (header : EngineTable) (op : PlainOp) (s after : TopShape) → rule header op s ≡ Some after → IsThere s (reach header op)
rule_there law header op s after has = let r = law header op s after has in record { cells = r.cells; under = r.under }

pub looks_owed : RuleReaches → (header : EngineTable) (code : List PlainOp) (heap : Heap) (facts : Facts) (n p : ℕ) (op : PlainOp)
    → op_at code p ≡ Some op → IsOneStep op → LooksOwed header code heap facts n p (reach header op)
looks_owed law header code heap facts n p op stands one = record {
  by = λ table meets trial has own known.
      let t = table_follows header code table trial.entry p op own meets stands one known in rule_there law header op own t.after t.has_rule;
}

-- a step that was made
pub step_made : RuleLooksFromTop → RuleLooksNoDeeper → (header : EngineTable) (code : List PlainOp) (heap heap' : Heap) (facts : Facts) (n p : ℕ) (held : Held)
    (op : PlainOp) (after : Held) → Keeps header code heap facts → row_in facts.rows n p ≡ Some held → op_at code p ≡ Some op → IsOneStep op
    → HeapGrows heap heap' → IsIn heap' after → rule header op (shape_of heap held) ≡ Some (shape_of heap' after)
    → Within heap' facts n (shape_of heap' held) (reach header op) → IsStep header code heap' facts n p held op after
step_made law deep header code heap heap' facts n p held op after k r stands one g i has w =
    let there = ap (rule header op) (still_shape heap heap' held g (k.inside.rows n p held r)) ∙ has in
    let o = own_step law deep header op (shape_of heap' held) (shape_of heap' after) w.own _ _ there w.is w.there in
    record {
      row = r;
      stands = stands;
      one = one;
      has_rule = there;
      inside = i;
      over = record { trial = w.trial; has = w.has; over = record { own = o.next; is = o.is } };
    }

-- ---- the table that was found

pub step_sound : RuleLooksFromTop → RuleLooksNoDeeper → (header : EngineTable) (code : List PlainOp) (a b : Heap) (facts : Facts) (n p : ℕ) (held : Held)
    (op : PlainOp) (after : Held) (lead : Lead) → Keeps header code a facts → row_in facts.rows n p ≡ Some held → HeapGrows a b → op_at code p ≡ Some op → IsOneStep op
    → rule header op (shape_of a held) ≡ Some (shape_of b after) → lead ≡ leads_of p (next_place p op) op → AllLed b facts n lead (shape_of b after)
    → Within b facts n (shape_of b held) (reach header op) → AsksFurtherOf header a facts n p op held → Sound header code a facts n p held
step_sound law deep header code a b facts n p held op after lead k r g stands one has e led w further = record {
  by = λ entry c trial h over.
      let i = k.inside.trials n trial h in
      let still = still_shape a b held g (k.inside.rows n p held r) in
      let over_b = over_still a b trial (shape_of a held) (shape_of b held) g i still over in
      let w_own = own_is b trial (shape_of b held) over_b w.own
      (w.is ∙ ap (λ t. deeper (unseen_cells b t) (unseen_under b t) w.own) (some_is w.trial trial (sym w.has ∙ h))) in
      let o = own_step law deep header op (shape_of a held) (shape_of b after) over.own _ _ has over.is
      (subst (λ s. IsThere s (reach header op)) w_own w.there) in
      record {
        op = op;
        stands = stands;
        obeys = obeys_of header (trial_table a facts) entry p op over.own one (record {
          after = o.next;
          has_rule = o.has_rule;
          leads = leads_from (trial_table a facts) entry p op o.next (λ t l.
              led_at header code a b facts entry n t (shape_of b after) o.next trial k g c h (led.by t (subst (λ x. IsLed x t) (sym e) l)) o.is);
          further = further trial h over o.next o.has_rule;
        });
      };
}
