-- Lines of one routine that flow: which types they take from the top and which they give.
use Rattle.std.proofs.Common.{◌≡◌, ◌<◌, ◌+◌, ℕ, List, [], ◌∷◌, ◌++◌, Option, Some, subst}
use Rattle.nwq_value.specs.declared.value.Ty.{Ty}
use Rattle.nwq_value.specs.declared.value.Ty.TheVariants.{Int}
use Rattle.nwq_value.specs.Engine.{EngineTable}
use Rattle.ncs_code.specs.Plain.{PlainOp}
use Rattle.ncs_code.specs.Plain as ops
use Rattle.ncs_emit.specs.declared.jump.Jump.{Jump}
use Rattle.ncs_emit.specs.declared.jump.Jump.TheVariants.{Jmp}
use Rattle.ncs_emit.specs.Labelled.{Line, Instruction, JumpTo, Label, lines_size}
use Rattle.stack_rules.specs.Tables.{Callee}
use Rattle.emission_laws.specs.Spots.{Spot, GoesStraight, IsTest, Ends}
use Rattle.emission_laws.proofs.Cells.{Ground, over, spot_over}
use Rattle.emission_laws.proofs.Ops.{Turns, test_turns}
use Rattle.emission_laws.proofs.Parts.{Flows, both, and_line, line_and, nothing, one, back, jump, test, mark, with_label, with_two, with_three}

-- Lines that take these types and give those, where so many states are pending before them and so
-- many behind them.
pub record Turn (header : EngineTable) (total : ℕ) (callee_of : ℕ → Option Callee) (P : (ℕ → Spot) → Type 0)
    (g : Ground) (p q n count place : ℕ) (before after : List Ty) (lines : List Line) : Type 0 where
  pub by : Flows header total callee_of P n count place (Some (spot_over g p before)) (Some (spot_over g q after)) lines

module _ {header : EngineTable} {total : ℕ} {callee_of : ℕ → Option Callee} where
  pub retyped : {P : (ℕ → Spot) → Type 0} {g : Ground} {p q n count place : ℕ} {ts us vs : List Ty} {lines : List Line} → Turn header total callee_of P g p q n count place ts us lines → us ≡ vs
      → Turn header total callee_of P g p q n count place ts vs lines
  retyped {P = P} {g = g} {p = p} {q = q} {n = n} {count = count} {place = place} {ts = ts} {lines = lines} f same =
      subst (λ (us : List Ty). Turn header total callee_of P g p q n count place ts us lines) same f

  pub recounted : {P : (ℕ → Spot) → Type 0} {g : Ground} {p q n count m place : ℕ} {ts us : List Ty} {lines : List Line} → Turn header total callee_of P g p q n count place ts us lines → count ≡ m
      → Turn header total callee_of P g p q n m place ts us lines
  recounted {P = P} {g = g} {p = p} {q = q} {n = n} {place = place} {ts = ts} {us = us} {lines = lines} f same =
      subst (λ c. Turn header total callee_of P g p q n c place ts us lines) same f

  pub seq : {P : (ℕ → Spot) → Type 0} {g : Ground} {p q r n k a b c place : ℕ} {ts us vs : List Ty} {xs ys : List Line}
      → Turn header total callee_of P g p q n a place ts us xs
      → Turn header total callee_of P g q r k b (place + lines_size xs) us vs ys → k ≡ n + a → c ≡ a + b
      → Turn header total callee_of P g p r n c place ts vs (xs ++ ys)
  seq f h is sum = record { by = both header total callee_of f.by h.by is sum }

  pub seq_line : {P : (ℕ → Spot) → Type 0} {g : Ground} {p q r n a place : ℕ} {ts us vs : List Ty} {xs ys : List Line}
      → Turn header total callee_of P g p q n a place ts us xs
      → Turn header total callee_of P g q r n 0 (place + lines_size xs) us vs ys
      → Turn header total callee_of P g p r n a place ts vs (xs ++ ys)
  seq_line f h = record { by = and_line header total callee_of f.by h.by }

  pub line_seq : {P : (ℕ → Spot) → Type 0} {g : Ground} {p q r n a place : ℕ} {ts us vs : List Ty} {xs ys : List Line}
      → Turn header total callee_of P g p q n 0 place ts us xs
      → Turn header total callee_of P g q r n a (place + lines_size xs) us vs ys
      → Turn header total callee_of P g p r n a place ts vs (xs ++ ys)
  line_seq f h = record { by = line_and header total callee_of f.by h.by }

  pub same_types : {P : (ℕ → Spot) → Type 0} {g : Ground} {p n place : ℕ} {ts : List Ty} → Turn header total callee_of P g p p n 0 place ts ts []
  same_types = record { by = nothing header total callee_of }

  pub turn : {P : (ℕ → Spot) → Type 0} {g : Ground} {p n place : ℕ} {before after : List Ty} (op : PlainOp) → GoesStraight op → Turns header g p op before after
      → Turn header total callee_of P g p p n 0 place before after (Instruction op ∷ [])
  turn op on rules = record { by = one header total callee_of op on rules }

  pub marked : {P : (ℕ → Spot) → Type 0} {g : Ground} {p n place : ℕ} {ts : List Ty} (label : ℕ) → ((spot_of : ℕ → Spot) → P spot_of → spot_of label ≡ spot_over g p ts)
      → Turn header total callee_of P g p p n 0 place ts ts (Label label ∷ [])
  marked label is = record { by = mark header total callee_of label is }

  -- what stands behind a jump may have any types
  pub jumped : {P : (ℕ → Spot) → Type 0} {g : Ground} {p q n place : ℕ} {ts us : List Ty} (label : ℕ) → ((spot_of : ℕ → Spot) → P spot_of → spot_of label ≡ spot_over g p ts)
      → label < total → Turn header total callee_of P g p q n 0 place ts us (JumpTo Jmp label ∷ [])
  jumped label is lt = record { by = jump header total callee_of label is lt }

  pub tested_by : {P : (ℕ → Spot) → Type 0} {g : Ground} {p n place : ℕ} {ts : List Ty} (kind : Jump) (label : ℕ) → IsTest kind
      → ((spot_of : ℕ → Spot) → P spot_of → spot_of label ≡ spot_over g p ts) → label < total → Turn header total callee_of P g p p n 0 place (Int ∷ ts) ts (JumpTo kind label ∷ [])
  tested_by {g = g} {p = p} {ts = ts} kind label t is lt = record { by = test header total callee_of kind label t (λ offset. test_turns header g p kind t offset ts) is lt }

  pub one_label : {P : (ℕ → Spot) → Type 0} {g : Ground} {p q n k a c place : ℕ} {ts us : List Ty} {lines : List Line} (own : Spot)
      → Turn header total callee_of (λ spot_of. P spot_of × (spot_of n ≡ own)) g p q k a place ts us lines → k ≡ n + 1 → c ≡ 1 + a → Turn header total callee_of P g p q n c place ts us lines
  one_label own f is sum = record { by = with_label header total callee_of own f.by is sum }

  pub two_labels : {P : (ℕ → Spot) → Type 0} {g : Ground} {p q n k a c place : ℕ} {ts us : List Ty} {lines : List Line} (first second : Spot)
      → Turn header total callee_of
      (λ spot_of. P spot_of × (spot_of n ≡ first) × (spot_of (n + 1) ≡ second)) g p q k a place ts us lines
      → k ≡ n + 2 → c ≡ 2 + a → Turn header total callee_of P g p q n c place ts us lines
  two_labels first second f is sum = record { by = with_two header total callee_of first second f.by is sum }

  pub three_labels : {P : (ℕ → Spot) → Type 0} {g : Ground} {p q n k a c place : ℕ} {ts us : List Ty} {lines : List Line} (first second third : Spot)
      → Turn header total callee_of (λ spot_of. P spot_of × (spot_of n ≡ first) × (spot_of (n + 1) ≡ second) × (spot_of (n + 2) ≡ third)) g p q k a place ts us lines → k ≡ n + 3 → c ≡ 3 + a
      → Turn header total callee_of P g p q n c place ts us lines
  three_labels first second third f is sum = record { by = with_three header total callee_of first second third f.by is sum }

  -- what stands behind RETN may have any types
  pub returned_back : {P : (ℕ → Spot) → Type 0} {g : Ground} {p q n place : ℕ} {ts us : List Ty} → Ends header total callee_of g.way (over g p ts)
      → Turn header total callee_of P g p q n 0 place ts us (Instruction ops.Retn ∷ [])
  returned_back e = record { by = back header total callee_of e }
