-- Why no table of shapes meets the rules: a run over shapes that can't go on, or two that disagree.
use Rattle.std.specs.Prelude.{◌≡◌, ◌≢◌, ℕ, List, None, Some}
use Rattle.nwq_value.specs.Engine.{EngineTable}
use Rattle.ncs_code.specs.Plain.{PlainOp}
use Rattle.ncs_code.specs.Plain as ops
use Rattle.ncs_code.specs.File.{op_at}
use Rattle.stack_shape.specs.declared.shape.Entry.{Entry}
use Rattle.stack_shape.specs.declared.shape.Entry.TheVariants.{Start, Called, Stored}
use Rattle.stack_shape.specs.Stored.{TopShape}
use Rattle.stack_shape.specs.Rule.{IsOneStep, rule, top_first}
use Rattle.stack_rules.specs.Rules.{WellStacked}
use Rattle.stack_reasons.specs.Ways.{Way, Comes, IsEnded}
use Rattle.stack_reasons.specs.declared.reason.Trouble.{Trouble}
use Rattle.stack_reasons.specs.declared.reason.Trouble.TheVariants.{NothingThere, NoRule, NotEnded, OtherCells, OtherResult}
use Rattle.stack_reasons.specs.declared.reason.Reason.{Reason}

-- the instruction at the place has no rule on the shape
pub record HasNoRule (header : EngineTable) (code : List PlainOp) (place : ℕ)
    (shape : TopShape) : Type 0 where
  pub op : PlainOp
  pub stands : op_at code place ≡ Some op
  pub one : IsOneStep op
  pub none : rule header op shape ≡ None

abbrev pub IsCalled : Entry → Type 0
IsCalled Start = ⊥
IsCalled (Called target) = Unit {0}
IsCalled (Stored site) = ⊥

-- a RETN of a called routine
pub record IsReturn (code : List PlainOp) (entry : Entry) (place : ℕ) : Type 0 where
  pub called : IsCalled entry
  pub stands : op_at code place ≡ Some ops.Retn

-- with a base that no RESTOREBP has ended, or a state that no engine call has taken
pub record IsLeft (code : List PlainOp) (entry : Entry) (place : ℕ)
    (shape : TopShape) : Type 0 where
  pub return : IsReturn code entry place
  pub left : IsEnded shape → ⊥

-- the same run of the routine comes there with another shape too
pub record ComesOtherwise (header : EngineTable) (code : List PlainOp) (entry : Entry)
    (first : TopShape) (place : ℕ) (shape other : TopShape) : Type 0 where
  pub way : Way header code entry first place other
  pub differ : shape ≢ other

-- The same run of the routine comes to two RETNs, at the place and at another, and leaves other
-- cells there.
pub record LeavesOtherwise (header : EngineTable) (code : List PlainOp) (entry : Entry)
    (first : TopShape) (place : ℕ) (shape : TopShape) (second : ℕ) (other : TopShape) : Type 0 where
  pub return : IsReturn code entry place
  pub second_return : IsReturn code entry second
  pub way : Way header code entry first second other
  pub differ : shape.cells ≢ other.cells

-- what is wrong at a place to which a run comes
abbrev pub IsTrouble : EngineTable → List PlainOp → Entry → TopShape → ℕ → TopShape → Trouble
    → Type 0
IsTrouble header code entry first place shape NothingThere = op_at code place ≡ None
IsTrouble header code entry first place shape NoRule = HasNoRule header code place shape
IsTrouble header code entry first place shape NotEnded = IsLeft code entry place shape
IsTrouble header code entry first place shape
    (OtherCells other) = ComesOtherwise header code entry first place shape (top_first other)
IsTrouble header code entry first place shape
    (OtherResult second other) = LeavesOtherwise header code entry first place shape second
    (top_first other)

-- A run of the script comes to the routine, which comes to the place with these cells, and there
-- this is wrong.
pub record IsReason (header : EngineTable) (code : List PlainOp) (reason : Reason) : Type 0 where
  pub first : TopShape
  pub comes : Comes header code reason.entry reason.called_at first
  pub way : Way header code reason.entry first reason.place (top_first reason.shape)
  pub trouble : IsTrouble header code reason.entry first reason.place
      (top_first reason.shape) reason.trouble

-- where there is a reason, no table meets the rules
abbrev pub ReasonsRefute : Type 0
ReasonsRefute = (header : EngineTable) (code : List PlainOp) (reason : Reason)
    → IsReason header code reason → WellStacked header code → ⊥
