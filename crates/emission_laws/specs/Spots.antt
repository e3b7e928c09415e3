-- What is known of the stack in front of a line of labelled code, and lines in a row that go on
-- with what the line before them leaves.
use Rattle.std.specs.Prelude.{◌≡◌, ◌<◌, ℕ, ◌+◌, ℤ, List, [], ◌∷◌, ◌++◌, Option, Some}
use Rattle.nwq_value.specs.Engine.{EngineTable}
use Rattle.ncs_code.specs.Plain.{PlainOp}
use Rattle.ncs_code.specs.Plain as ops
use Rattle.ncs_code.specs.Spelling.{op_size}
use Rattle.ncs_emit.specs.declared.jump.Jump.{Jump}
use Rattle.ncs_emit.specs.declared.jump.Jump.TheVariants.{Jmp, Jsr, Jz, Jnz}
use Rattle.ncs_emit.specs.Labelled.{Line, Instruction, JumpTo, Label, jump_over}
use Rattle.stack_shape.specs.declared.shape.Slot.{Slot}
use Rattle.stack_shape.specs.declared.store.StoredTypes.{StoredTypes}
use Rattle.stack_shape.specs.Stored.{TopShape, stored_types, stored_shape}
use Rattle.stack_shape.specs.Rule.{rule}
use Rattle.stack_rules.specs.Tables.{Callee}

-- The routine that a line belongs to: the script's start, what is called at a label, or what the
-- STORE_STATE at a place stores.
pub data Way : Type 0 where
  Starts : Way
  Runs : ℕ → Way
  Resumes : ℕ → Way

pub record Spot : Type 0 where
  pub way : Way
  pub shape : TopShape

-- an instruction that leads to the next one and nowhere else, and stores no state
abbrev pub GoesStraight : PlainOp → Type 0
GoesStraight (ops.Jmp offset) = ⊥
GoesStraight (ops.Jz offset) = ⊥
GoesStraight (ops.Jnz offset) = ⊥
GoesStraight (ops.Jsr offset) = ⊥
GoesStraight ops.Retn = ⊥
GoesStraight (ops.StoreState globals locals) = ⊥
GoesStraight _ = Unit {0}

-- a jump that may be taken or not
abbrev pub IsTest : Jump → Type 0
IsTest Jmp = ⊥
IsTest Jsr = ⊥
IsTest Jz = Unit {0}
IsTest Jnz = Unit {0}

-- Where labels have these spots, and what is called at labels takes and gives this.
module _ (header : EngineTable) (total : ℕ) (callee_of : ℕ → Option Callee) where
  -- RETN in a routine that is called: the cells are those that it gives, each SAVEBP is ended, and
  -- no state is pending.
  pub record GivesBack (label : ℕ) (shape : TopShape) : Type 0 where
    pub callee : Callee
    pub known : callee_of label ≡ Some callee
    pub given : callee.given ≡ Some shape.cells
    pub saved : shape.saved ≡ []
    pub pending : shape.pending ≡ 0

  abbrev pub Ends : Way → TopShape → Type 0
  Ends Starts shape = Unit {0}
  Ends (Runs label) shape = GivesBack label shape
  Ends (Resumes site) shape = Unit {0}

  -- JSR: what is called takes what is on top, and leaves what it gives.
  pub record CallsAt (label : ℕ) (before after : TopShape) : Type 0 where
    pub callee : Callee
    pub known : callee_of label ≡ Some callee
    pub rest : List Slot
    pub cells : before.cells ≡ callee.taken ++ rest
    pub deeper : List Slot
    pub under : before.under ≡ callee.under ++ deeper
    pub given : List Slot
    pub gives : callee.given ≡ Some given
    pub left : after ≡ record before { cells = given ++ rest }

  -- Lines that begin at a place and, from the spot in front of them on, go by the rules up to the
  -- spot behind them. Behind RETN and behind a jump the next spot is free.
  pub data Flow (spot_of : ℕ → Spot) : ℕ → Option Spot → List Line → Option Spot → Type 0 where
    ends : (place : ℕ) (spot : Option Spot) → Flow spot_of place spot [] spot
    goes : (place : ℕ) (way : Way) (before after : TopShape) (op : PlainOp) (lines : List Line)
        (out : Option Spot)
        → GoesStraight op → rule header op before ≡ Some after
        → Flow spot_of (place + op_size op) (Some (record { way = way; shape = after })) lines out
        → Flow spot_of place (Some (record { way = way; shape = before }))
        (Instruction op ∷ lines) out
    returns : (place : ℕ) (way : Way) (before : TopShape) (next : Option Spot) (lines : List Line)
        (out : Option Spot)
        → Ends way before → Flow spot_of (place + 2) next lines out
        → Flow spot_of place (Some (record { way = way; shape = before }))
        (Instruction ops.Retn ∷ lines) out
    jumps : (place : ℕ) (spot : Spot) (next : Option Spot) (label : ℕ) (lines : List Line)
        (out : Option Spot)
        → spot_of label ≡ spot → label < total → Flow spot_of (place + 6) next lines out
        → Flow spot_of place (Some spot) (JumpTo Jmp label ∷ lines) out
    tests : (place : ℕ) (way : Way) (before after : TopShape) (kind : Jump) (label : ℕ)
        (lines : List Line) (out : Option Spot)
        → IsTest kind → ((offset : ℤ) → rule header (jump_over kind offset) before ≡ Some after)
        → spot_of label ≡ record { way = way; shape = after } → label < total
        → Flow spot_of (place + 6) (Some (record { way = way; shape = after })) lines out
        → Flow spot_of place (Some (record { way = way; shape = before }))
        (JumpTo kind label ∷ lines) out
    calls : (place : ℕ) (way : Way) (before after : TopShape) (label : ℕ) (lines : List Line)
        (out : Option Spot)
        → CallsAt label before after
        → Flow spot_of (place + 6) (Some (record { way = way; shape = after })) lines out
        → Flow spot_of place (Some (record { way = way; shape = before }))
        (JumpTo Jsr label ∷ lines) out
    marks : (place : ℕ) (spot : Spot) (label : ℕ) (lines : List Line) (out : Option Spot)
        → spot_of label ≡ spot → Flow spot_of (place + 0) (Some spot) lines out
        → Flow spot_of place (Some spot) (Label label ∷ lines) out
    -- A state is stored, with the code behind the jump over it.
    stores : (place : ℕ) (way : Way) (before : TopShape) (globals locals label : ℕ)
        (types : StoredTypes) (lines : List Line) (out : Option Spot)
        → stored_types globals locals before.under before.cells ≡ Some types
        → spot_of label ≡ record {
          way = way;
          shape = record before { pending = before.pending + 1 };
        } → label < total
        → Flow spot_of (place + 10 + 6)
        (Some (record { way = Resumes place; shape = stored_shape types })) lines out
        → Flow spot_of place (Some (record { way = way; shape = before }))
        (Instruction (ops.StoreState globals locals) ∷ JumpTo Jmp label ∷ lines) out
