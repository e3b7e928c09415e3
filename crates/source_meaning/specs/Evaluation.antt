-- How an evaluation goes: what it changes, how it ends, and its steps.
use Rattle.std.specs.Prelude.{ℕ, zero, suc, Bool, true, false, ◌==◌, if◌then◌else◌, List, []}
use Rattle.nwq_value.specs.declared.value.Value.{Value}
use Rattle.typing_rules.specs.Typed.{TypedExpr}
use Rattle.world_rules.specs.World.{World}

-- the values of variables, by their numbers
abbrev pub Variables : Type 0
Variables = ℕ → List Value

abbrev pub no_variables : Variables
no_variables n = []

abbrev pub with_variable : Variables → ℕ → List Value → Variables
with_variable variables n parts = λ m. if m == n then parts else variables m

-- An action that was deferred: the call, as it stands in the source of its script, the variables of
-- the frame that were in sight there, and the values that the variables had then.
pub record Deferred : Type 0 where
  -- the script's number
  pub script : ℕ
  pub call : TypedExpr
  -- by their numbers, the newest first
  pub sight : List ℕ
  pub globals : Variables
  pub locals : Variables

-- How far an evaluation has come: how many steps it may still take, the values of the variables,
-- and the world.
pub record Progress : Type 0 where
  pub left : ℕ
  pub globals : Variables
  pub locals : Variables
  pub world : World Deferred

-- what an evaluation comes to
pub data Outcome (A : Type 0) : Type 0 where
  Gives : A → Progress → Outcome A
  -- a divisor is 0, in a script that runs as this object
  Divides : ℕ → Progress → Outcome A
  -- one step more was wanted than are left
  OutOfSteps : Progress → Outcome A

-- one evaluation after another
unfoldable pub bind : {A B : Type 0} → Outcome A → (A → Progress → Outcome B) → Outcome B
bind (Gives a p) go = go a p
bind (Divides self p) go = Divides self p
bind (OutOfSteps p) go = OutOfSteps p

abbrev pub spend_of : {A : Type 0} → ℕ → Progress → (Progress → Outcome A) → Outcome A
spend_of zero p go = OutOfSteps p
spend_of (suc left) p go = go (record p { left = left })

-- a step, and what is done in it: nothing of that where no step is left
unfoldable pub spend : {A : Type 0} → Progress → (Progress → Outcome A) → Outcome A
spend p go = spend_of p.left p go

-- one of two ways on
abbrev pub chosen : {A : Type 0} → Bool → (Progress → Outcome A) → (Progress → Outcome A) → Progress
    → Outcome A
chosen true go other p = go p
chosen false go other p = other p
