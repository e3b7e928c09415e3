-- What is read at an index.
use Rattle.std.proofs.Common.{arith, ◌≡◌, ◌<◌, ℕ, zero, suc, List, [], ◌∷◌, length, Some, slice_get, sym, ap}
use Rattle.std.specs.Prelude.{get_or}
use Rattle.nwq_value.specs.Engine.{EngineTable}
use Rattle.ncs_code.specs.Plain.{PlainOp}
use Rattle.stack_reasons.specs.declared.home.Home.{Home}
use Rattle.stack_reasons.specs.declared.home.Spot.{Spot}
use Rattle.stack_reasons.specs.Walks.{IsThere, AreThere}
use Rattle.stack_reasons.proofs.Walking.{is_at}

read_at : (spots : List Spot) (k : ℕ) (spot : Spot) → k < length spots → spot ≡ get_or spots k spot → slice_get spots k ≡ Some spot
read_at [] k spot h e = absurd (omega (arith, h))
read_at (s ∷ spots) zero spot h e = ap Some (sym e)
read_at (s ∷ spots) (suc k) spot h e = read_at spots k spot (omega (arith, h)) e

pub is_read : (header : EngineTable) (code : List PlainOp) (home : Home) (spots : List Spot) (k : ℕ) (spot : Spot) → AreThere header code home spots
    → k < length spots → spot ≡ get_or spots k spot → IsThere header code home spot
is_read header code home spots k spot all h e = is_at header code home spots k spot all (read_at spots k spot h e)
