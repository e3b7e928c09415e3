-- What the visit of an instruction with a rule of one shape owes.
use Rattle.std.proofs.Common.{◌≡◌, ℕ, List, Option, None, Some, ◌∙◌, ap}
use Rattle.nwq_value.specs.Engine.{EngineTable}
use Rattle.ncs_code.specs.Plain.{PlainOp}
use Rattle.ncs_code.specs.Plain as ops
use Rattle.ncs_code.specs.File.{op_at}
use Rattle.stack_shape.specs.Stored.{TopShape}
use Rattle.stack_shape.specs.Laws.{RuleLooksFromTop, RuleLooksNoDeeper, RuleReaches}
use Rattle.stack_shape.specs.Reach.{reach}
use Rattle.stack_shape.specs.Rule.{IsOneStep, rule}
use Rattle.machine_rules.specs.Act.{next_place}
use Rattle.stack_rules.specs.Tables.{ShapeTable}
use Rattle.stack_rules.specs.Rules.{AsksFurther}
use Rattle.stack_lists.specs.declared.held.Held.{Held}
use Rattle.stack_lists.specs.declared.held.Heap.{Heap}
use Rattle.stack_check.specs.declared.facts.Facts.{Facts}
use Rattle.stack_check.specs.declared.seen.Seen.{Seen}
use Rattle.stack_check.specs.declared.seen.Seen.TheVariants.{Quiet, Changed, Bad}
use Rattle.stack_check.specs.declared.leads.Lead.{Lead}
use Rattle.stack_lists.specs.Held.{AfterStep, shape_of}
use Rattle.stack_lists.specs.Rows.{row_in}
use Rattle.stack_check.specs.Facts.{FindsMore, trial_table}
use Rattle.stack_check.specs.Inference.{AllLed, Keeps, Visited, WhereQuiet, IsStep, IsThere, Within, AsksFurtherOf, Takes, Sound, Sees, SeesStep, IsPlain, leads_of}
use Rattle.stack_lists.specs.Growth.{still_shape}
use Rattle.stack_check.proofs.Keeping.{keeps_grows}
use Rattle.stack_check.proofs.Steps.{looks_owed, no_rule, rule_there, step_made, step_sound}

further_plain : (table : ShapeTable) (site : ℕ) (op : PlainOp) (shape : TopShape) → IsPlain op → AsksFurther table site op shape
further_plain table site (ops.StoreState globals locals) shape h = absurd h
further_plain table site op shape h = tt

pub step_none : RuleLooksFromTop → (header : EngineTable) (code : List PlainOp) (a b : Heap) (facts : Facts) (n p : ℕ) (held : Held) (op : PlainOp)
    → Keeps header code a facts → row_in facts.rows n p ≡ Some held → op_at code p ≡ Some op → IsOneStep op
    → AfterStep a b None (rule header op (shape_of a held)) → SeesStep header code a b facts facts n p held op Bad
step_none law header code a b facts n p held op k r stands one s =
    record { grows = s.0; keeps = no_rule law header code a facts n p held op k r stands one s.1; quiet = tt; takes = tt }

pub step_is : RuleLooksFromTop → RuleLooksNoDeeper → (header : EngineTable) (code : List PlainOp) (a b : Heap) (facts : Facts) (n p : ℕ) (held after : Held)
    (op : PlainOp) → Keeps header code a facts → row_in facts.rows n p ≡ Some held → op_at code p ≡ Some op → IsOneStep op
    → AfterStep a b (Some after) (rule header op (shape_of a held)) → Within b facts n (shape_of b held) (reach header op)
    → IsStep header code b facts n p held op after
step_is law deep header code a b facts n p held after op k r stands one s w =
    step_made law deep header code a b facts n p held op after k r stands one s.0 s.1 s.2 w

-- what the instruction looks at is there, in the larger heap
pub step_there : RuleReaches → (header : EngineTable) (code : List PlainOp) (a b : Heap) (facts : Facts) (n p : ℕ) (held after : Held) (op : PlainOp)
    → Keeps header code a facts → row_in facts.rows n p ≡ Some held → AfterStep a b (Some after) (rule header op (shape_of a held))
    → IsThere (shape_of b held) (reach header op)
step_there law header code a b facts n p held after op k r s =
    rule_there law header op (shape_of b held) (shape_of b after) (ap (rule header op) (still_shape a b held s.0 (k.inside.rows n p held r)) ∙ s.2)

pub step_keeps : (header : EngineTable) (code : List PlainOp) (a b : Heap) (facts : Facts) (after : Held) (shape : Option TopShape)
    → Keeps header code a facts → AfterStep a b (Some after) shape → Keeps header code b facts
step_keeps header code a b facts after shape k s = keeps_grows header code a b facts s.0 k

pub step_sees : RuleLooksFromTop → RuleLooksNoDeeper → (header : EngineTable) (code : List PlainOp) (a b : Heap) (facts facts' : Facts) (n p : ℕ)
    (held after : Held) (op : PlainOp) (lead : Lead) (seen : Seen) → Keeps header code a facts → row_in facts.rows n p ≡ Some held → op_at code p ≡ Some op
    → IsOneStep op → AfterStep a b (Some after) (rule header op (shape_of a held)) → lead ≡ leads_of p (next_place p op) op
    → Within b facts n (shape_of b held) (reach header op) → Visited header code b facts' seen
    → WhereQuiet seen ((facts' ≡ facts) × AllLed b facts n lead (shape_of b after)) → Takes facts facts' seen
    → SeesStep header code a b facts facts' n p held op seen
step_sees law deep header code a b facts facts' n p held after op lead seen k r stands one s e w v q t =
    record { grows = s.0; keeps = v; quiet = quiet seen q; takes = t }
  where
    quiet : (seen : Seen) → WhereQuiet seen ((facts' ≡ facts) × AllLed b facts n lead (shape_of b after))
        → WhereQuiet seen ((facts' ≡ facts) × (AsksFurtherOf header a facts n p op held → Sound header code a facts n p held))
    quiet Quiet q = (q.0, λ f. step_sound law deep header code a b facts n p held op after lead k r s.0 stands one s.2 e q.1 w f)
    quiet Changed q = tt
    quiet Bad q = tt

-- more was looked at
pub step_more : (header : EngineTable) (code : List PlainOp) (a b : Heap) (facts facts' : Facts) (n p : ℕ) (held after : Held) (op : PlainOp) (shape : Option TopShape)
    → AfterStep a b (Some after) shape → Keeps header code b facts' → FindsMore facts facts' → SeesStep header code a b facts facts' n p held op Changed
step_more header code a b facts facts' n p held after op shape s k l = record { grows = s.0; keeps = k; quiet = tt; takes = l }

-- an instruction that stores no state
pub plain_sees : (header : EngineTable) (code : List PlainOp) (a b : Heap) (facts facts' : Facts) (n p : ℕ) (held : Held) (op : PlainOp)
    (seen : Seen) → IsPlain op → SeesStep header code a b facts facts' n p held op seen → Sees header code a b facts facts' n p held seen
plain_sees header code a b facts facts' n p held op seen plain s = record { grows = s.grows; keeps = s.keeps; quiet = quiet seen s.quiet; takes = s.takes }
  where
    quiet : (seen : Seen) → WhereQuiet seen ((facts' ≡ facts) × (AsksFurtherOf header a facts n p op held → Sound header code a facts n p held))
        → WhereQuiet seen ((facts' ≡ facts) × Sound header code a facts n p held)
    quiet Quiet q = (q.0, q.1 (λ trial h over after r. further_plain (trial_table a facts) p op over.own plain))
    quiet Changed q = tt
    quiet Bad q = tt

pub ruleset steps = (step_none, step_keeps, step_more, looks_owed)
