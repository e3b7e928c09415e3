-- What the walk keeps: places of a routine to which a run comes.
use Rattle.std.specs.Prelude.{◌≡◌, ℕ, ℤ, List, [], ◌∷◌, Option, None, Some}
use Rattle.nwq_value.specs.Engine.{EngineTable}
use Rattle.ncs_code.specs.Plain.{PlainOp}
use Rattle.ncs_code.specs.Plain as ops
use Rattle.ncs_code.specs.File.{jump_place, op_at}
use Rattle.machine_rules.specs.Act.{next_place}
use Rattle.stack_shape.specs.Stored.{TopShape}
use Rattle.stack_shape.specs.Rule.{IsOneStep, rule, top_first}
use Rattle.stack_reasons.specs.declared.home.Home.{Home}
use Rattle.stack_reasons.specs.declared.home.Spot.{Spot}
use Rattle.stack_reasons.specs.declared.leads.Lead.{Lead}
use Rattle.stack_reasons.specs.declared.leads.Lead.TheVariants.{One, Two}
use Rattle.stack_reasons.specs.declared.leads.Kind.{Kind}
use Rattle.stack_reasons.specs.declared.leads.Kind.TheVariants.{Call, Return, Store, Step}
use Rattle.stack_reasons.specs.declared.reason.Reason.{Reason}
use Rattle.stack_reasons.specs.declared.reason.Trouble.{Trouble}
use Rattle.stack_reasons.specs.declared.visit.Visited.{Visited}
use Rattle.stack_reasons.specs.declared.visit.Visited.TheVariants as visited
use Rattle.stack_reasons.specs.declared.trail.Trail.{Trail}
use Rattle.stack_reasons.specs.declared.trail.Walked.{Walked}
use Rattle.stack_reasons.specs.declared.trail.Walked.TheVariants as walked
use Rattle.stack_reasons.specs.declared.trail.Turned.{Turned}
use Rattle.stack_reasons.specs.declared.trail.Turned.TheVariants as turned
use Rattle.stack_shape.specs.declared.shape.Entry.TheVariants.{Called}
use Rattle.stack_reasons.specs.Ways.{LeadsTo, entered, first_place, IsEnded, Way, Comes}
use Rattle.stack_reasons.specs.Reasons.{IsReason, IsReturn, IsTrouble}

abbrev pub IsLead : ℕ → PlainOp → Lead → Type 0
IsLead place op (One next) = LeadsTo place op next
IsLead place op (Two first second) = LeadsTo place op first × LeadsTo place op second

-- a JSR that leads to this place
pub record IsCall (place : ℕ) (op : PlainOp) (target : ℕ) : Type 0 where
  pub offset : ℤ
  pub is : op ≡ ops.Jsr offset
  pub leads : target ≡ jump_place place offset

abbrev pub IsKind : ℕ → PlainOp → Kind → Type 0
IsKind place op (Call target) = IsCall place op target
IsKind place op Return = op ≡ ops.Retn
IsKind place op (Store globals locals) = op ≡ ops.StoreState globals locals
IsKind place op Step = IsOneStep op

-- a run comes to the routine
pub record IsHome (header : EngineTable) (code : List PlainOp) (home : Home) : Type 0 where
  pub comes : Comes header code home.entry home.called_at (top_first home.first)
  pub at : home.at ≡ first_place home.entry

-- and in it to the place
pub record IsThere (header : EngineTable) (code : List PlainOp) (home : Home)
    (spot : Spot) : Type 0 where
  pub way : Way header code home.entry (top_first home.first) spot.place (top_first spot.shape)

abbrev pub AllThere : EngineTable → List PlainOp → Home → List Spot → Type 0
AllThere header code home [] = Unit {0}
AllThere header code home (spot ∷ spots) = IsThere header code home spot
    × AllThere header code home spots

pub record AreThere (header : EngineTable) (code : List PlainOp) (home : Home)
    (spots : List Spot) : Type 0 where
  pub all : AllThere header code home spots

-- the routine ends there, and its caller goes on
pub record IsLast (header : EngineTable) (code : List PlainOp) (home : Home)
    (spot : Spot) : Type 0 where
  pub there : IsThere header code home spot
  pub return : IsReturn code home.entry spot.place
  pub ended : IsEnded (top_first spot.shape)

abbrev pub IsLastOf : EngineTable → List PlainOp → Home → Option Spot → Type 0
IsLastOf header code home None = Unit {0}
IsLastOf header code home (Some spot) = IsLast header code home spot

-- ---- calls

-- a JSR at the place calls the routine that begins at the target, and the next instruction begins there
pub record GoesInto (code : List PlainOp) (place target next : ℕ) : Type 0 where
  pub offset : ℤ
  pub stands : op_at code place ≡ Some (ops.Jsr offset)
  pub leads : target ≡ jump_place place offset
  pub behind : next ≡ next_place place (ops.Jsr offset)

-- the routine is the called one, on the stack that is there
pub record Enters (code : List PlainOp) (spot : Spot) (callee : Home) (next : ℕ) : Type 0 where
  pub offset : ℤ
  pub stands : op_at code spot.place ≡ Some (ops.Jsr offset)
  pub entry : callee.entry ≡ Called (jump_place spot.place offset)
  pub first : top_first callee.first ≡ entered (top_first spot.shape)
  pub behind : next ≡ next_place spot.place (ops.Jsr offset)

-- ---- one place

abbrev pub IsWrong : EngineTable → List PlainOp → Home → Spot → Trouble → Type 0
IsWrong header code home spot trouble = IsTrouble header code home.entry
    (top_first home.first) spot.place (top_first spot.shape) trouble

-- what one place of the routine came to
abbrev pub IsVisited : EngineTable → List PlainOp → Home → Spot → Visited → Type 0
IsVisited header code home spot visited.Nothing = Unit {0}
IsVisited header code home spot (visited.Wrong trouble) = IsWrong header code home spot trouble
IsVisited header code home spot (visited.Found reason) = IsReason header code reason
IsVisited header code home spot (visited.One next) = IsThere header code home next
IsVisited header code home spot (visited.Two first second) = IsThere header code home first
    × IsThere header code home second
IsVisited header code home spot visited.Returned = IsLast header code home spot

-- ---- a routine

pub record TrailFits (header : EngineTable) (code : List PlainOp) (home : Home)
    (trail : Trail) : Type 0 where
  pub work : AreThere header code home trail.work.items
  pub seen : AreThere header code home trail.seen.items
  pub last : IsLastOf header code home trail.last

abbrev pub IsTurned : EngineTable → List PlainOp → Home → Trail → Turned → Type 0
IsTurned header code home trail turned.On = TrailFits header code home trail
IsTurned header code home trail (turned.Found reason) = IsReason header code reason

abbrev pub IsWalked : EngineTable → List PlainOp → Home → Walked → Type 0
IsWalked header code home (walked.Found reason) = IsReason header code reason
IsWalked header code home (walked.Ended last) = IsLastOf header code home last
