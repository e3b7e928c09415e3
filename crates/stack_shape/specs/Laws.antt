-- What holds of every rule: it takes no more than is there, and it looks from the top.
use Rattle.std.specs.Prelude.{◌≡◌, ℕ, ◌+◌, ◌-◌, ◌*◌, ◌<◌, ◌≤◌, pos, neg_ℤ, ℤ, List, [], ◌∷◌, ◌++◌, length, None, Some}
use Rattle.nwq_value.specs.declared.value.Ty.{Ty}
use Rattle.nwq_value.specs.declared.engine.Routine.{Routine}
use Rattle.nwq_value.specs.Engine.{EngineTable}
use Rattle.ncs_code.specs.Plain.{PlainOp}
use Rattle.stack_shape.specs.declared.range.CellRange.{CellRange}
use Rattle.stack_shape.specs.declared.shape.Slot.{Slot}
use Rattle.stack_shape.specs.declared.effect.StackEffect.{StackEffect}
use Rattle.stack_shape.specs.Ranges.{cell_count, depth_of, range_at}
use Rattle.stack_shape.specs.TopFirst.{types_on}
use Rattle.stack_shape.specs.StackEffects.{stack_effect}
use Rattle.stack_shape.specs.Calls.{call_effect}
use Rattle.stack_shape.specs.declared.store.StoredTypes.{StoredTypes}
use Rattle.stack_shape.specs.Stored.{TopShape, stored_types}
use Rattle.stack_shape.specs.Rule.{rule}
use Rattle.stack_shape.specs.Reach.{reach}

-- ---- numbers of bytes

abbrev pub CellsOfBytes : Type 0
CellsOfBytes = (n : ℕ) → cell_count (4 * n) ≡ Some n

-- an offset of four bytes down for each cell
abbrev pub offset_to : ℕ → ℤ
offset_to depth = neg_ℤ (pos (4 * depth))

abbrev pub DepthOfOffset : Type 0
DepthOfOffset = (depth : ℕ) → depth_of (offset_to depth) ≡ Some depth

-- a positive number of cells that begins at a depth, and ends at or below the end from which the
-- depth counts
abbrev pub RangeOfNumbers : Type 0
RangeOfNumbers = (depth count : ℕ) → 0 < count → count ≤ depth
    → range_at (offset_to depth) (4 * count)
    ≡ Some (record { above = depth - count; count = count })

-- nothing else is a range
abbrev pub NumbersOfRange : Type 0
NumbersOfRange = (offset : ℤ) (size : ℕ) (r : CellRange) → range_at offset size ≡ Some r
    → (offset ≡ offset_to (r.above + r.count)) × (size ≡ 4 * r.count) × (0 < r.count)

-- ---- what an effect pops is there

-- so many cells are on top, and none of them is a base
abbrev pub AreValues : ℕ → List Slot → Type 0
AreValues n cells = (types : List Ty) × (types_on n cells ≡ Some types)

abbrev pub EffectsPopValues : Type 0
EffectsPopValues = (op : PlainOp) (under cells : List Slot) (e : StackEffect)
    → stack_effect op under cells ≡ Some e → AreValues e.pops cells

abbrev pub CallsPopValues : Type 0
CallsPopValues = (r : Routine) (count pending : ℕ) (cells : List Slot) (e : StackEffect)
    → call_effect r count pending cells ≡ Some e
    → AreValues e.pops cells

-- as many types as slots, so the slots are there
abbrev pub ValuesAreThere : Type 0
ValuesAreThere = (n : ℕ) (cells : List Slot) (types : List Ty) → types_on n cells ≡ Some types
    → (length types ≡ n) × (n ≤ length cells)

-- ---- the rule looks from the top

-- what lies beneath the list beneath BP: that of the routine's caller, or once a list was saved,
-- the routine's own cells go on
abbrev pub beneath_under : List Slot → List Slot → List (List Slot) → List Slot
beneath_under x y [] = y
beneath_under x y (u ∷ us) = x

abbrev pub deeper_saved : List Slot → List Slot → List (List Slot) → List (List Slot)
deeper_saved x y [] = []
deeper_saved x y (u ∷ us) = (u ++ beneath_under x y us) ∷ deeper_saved x y us

-- The same shape where more is known: the cells go on with x, and what was beneath BP as the
-- routine began goes on with y.
abbrev pub deeper : List Slot → List Slot → TopShape → TopShape
deeper x y s = record {
  cells = s.cells ++ x;
  under = s.under ++ beneath_under x y s.saved;
  saved = deeper_saved x y s.saved;
  pending = s.pending;
}

abbrev pub EffectsLookFromTop : Type 0
EffectsLookFromTop = (op : PlainOp) (under cells x y : List Slot) (e : StackEffect)
    → stack_effect op under cells ≡ Some e
    → stack_effect op (under ++ y) (cells ++ x) ≡ Some e

abbrev pub CallsLookFromTop : Type 0
CallsLookFromTop = (r : Routine) (count pending : ℕ) (cells x : List Slot) (e : StackEffect)
    → call_effect r count pending cells ≡ Some e
    → call_effect r count pending (cells ++ x) ≡ Some e

abbrev pub StoresLookFromTop : Type 0
StoresLookFromTop = (globals locals : ℕ) (under cells x y : List Slot) (t : StoredTypes)
    → stored_types globals locals under cells ≡ Some t
    → stored_types globals locals (under ++ y) (cells ++ x) ≡ Some t

abbrev pub RuleLooksFromTop : Type 0
RuleLooksFromTop = (table : EngineTable) (op : PlainOp) (before after : TopShape) (x y : List Slot)
    → rule table op before ≡ Some after
    → rule table op (deeper x y before) ≡ Some (deeper x y after)

-- ---- how deep the rule looks

-- the slots that an instruction looks at are there
pub record Reaches (table : EngineTable) (op : PlainOp) (s : TopShape) : Type 0 where
  pub cells : (reach table op).cells ≤ length s.cells
  pub under : (reach table op).under ≤ length s.under

abbrev pub RuleReaches : Type 0
RuleReaches = (table : EngineTable) (op : PlainOp) (before after : TopShape)
    → rule table op before ≡ Some after → Reaches table op before

-- where they are and there is no rule, there is none with further cells beneath
abbrev pub RuleLooksNoDeeper : Type 0
RuleLooksNoDeeper = (table : EngineTable) (op : PlainOp) (s : TopShape) (x y : List Slot)
    → Reaches table op s → rule table op s ≡ None
    → rule table op (deeper x y s) ≡ None
