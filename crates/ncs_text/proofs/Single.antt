-- Lines stand for one list of instructions.
use Rattle.std.proofs.Common.{◌≡◌, ◌≢◌, ℕ, ◌+◌, ◌<◌, List, [], ◌∷◌, ◌++◌, length, get_or, refl, sym, ap, ◌∙◌, subst, arith, inl, inr}
use Rattle.ncs_code.specs.Plain.{PlainOp}
use Rattle.ncs_code.specs.Spelling.{spelling, op_size, opcode}
use Rattle.ncs_code.specs.Names.{name_of}
use Rattle.ncs_code.specs.File.{ops_size}
use Rattle.ncs_code.specs.Laws.{SpellingLaws}
use Rattle.ncs_text.specs.Assembly.{Writes, Assembles, none, remark, instruction, IsRemark}
use Rattle.ncs_text.proofs.Naming.{good}
use Rattle.ncs_text.proofs.Ops.{HasOpcode, behind_name, parted, writes_one}

starts : (name rest : List ℕ) → get_or name 0 0 ≢ 59 → get_or (name ++ 32 ∷ rest) 0 0 ≢ 59
starts [] rest h e = absurd (omega (arith, e))
starts (n ∷ ns) rest h e = h e

long : (a b : List ℕ) → 0 < length (a ++ 32 ∷ b)
long [] b = omega arith
long (x ∷ a) b = omega arith

pub speaks : HasOpcode → (at : ℕ) (line : List ℕ) (op : PlainOp) → Writes at line op → IsRemark line → ⊥
speaks known at line op w (inl empty) = absurd (omega (arith, ap length (sym (parted op w.text) ∙ sym w.written ∙ empty), long (name_of op) (behind_name op w.text)))
speaks known at line op w (inr note) =
    starts (name_of op) (behind_name op w.text) (good (opcode op) (known op)).speaks (ap (λ l. get_or l 0 0) (sym (parted op w.text) ∙ sym w.written ∙ note.1))

-- a line stands for one instruction
pub one_op : SpellingLaws → HasOpcode → (at : ℕ) (line : List ℕ) (a b : PlainOp) → Writes at line a → Writes at line b → a ≡ b
one_op spells known at line a b x y =
    let bytes : spelling a ≡ spelling b = writes_one known at line a b x y
    in spells.none a b [] [] x.is_op y.is_op (ap (λ s. s ++ []) bytes)

pub one_assembly : SpellingLaws → HasOpcode → (at : ℕ) (lines : List (List ℕ)) (a b : List PlainOp) → Assembles at lines a → Assembles at lines b → a ≡ b
one_assembly spells known at lines a b (none n) (none m) = refl
one_assembly spells known at lines a b (remark n line ls ops is on) (remark m other ms others also more) = one_assembly spells known n ls ops others on more
one_assembly spells known at lines a b (remark n line ls ops is on) (instruction m other op ms others w more) = absurd (speaks known n line op w is)
one_assembly spells known at lines a b (instruction n line op ls ops w on) (remark m other ms others is more) = absurd (speaks known n line op w is)
one_assembly spells known at lines a b (instruction n line op ls ops w on) (instruction m other second ms others v more) =
    let same : op ≡ second = one_op spells known n line op second w v
    in ap (λ o. o ∷ ops) same ∙ ap (λ os. second ∷ os) (one_assembly spells known (n + op_size second) ls ops others (subst (λ o. Assembles (n + op_size o) ls ops) same on) more)

-- what stands behind lines of which the instructions are known
pub record Behind (at : ℕ) (lines : List (List ℕ)) (first whole : List PlainOp) : Type 0 where
  pub others : List PlainOp
  pub both : whole ≡ first ++ others
  pub rest : Assembles (at + ops_size first) lines others

behind_none : (at : ℕ) (lines : List (List ℕ)) (whole : List PlainOp) → Assembles at lines whole → Behind at lines [] whole
behind_none at lines whole h = record { others = whole; both = refl; rest = let same : at ≡ at + 0 = omega arith in subst (λ n. Assembles n lines whole) same h }

behind_more : (at : ℕ) (lines : List (List ℕ)) (op : PlainOp) (first whole : List PlainOp) → Behind (at + op_size op) lines first whole → Behind at lines (op ∷ first) (op ∷ whole)
behind_more at lines op first whole h = record {
  others = h.others;
  both = ap (λ os. op ∷ os) h.both;
  rest = let same : (at + op_size op) + ops_size first ≡ at + (op_size op + ops_size first) = omega arith in subst (λ n. Assembles n lines h.others) same h.rest;
}

pub split_assembly : SpellingLaws → HasOpcode → (at : ℕ) (met left : List (List ℕ)) (first whole : List PlainOp) → Assembles at met first → Assembles at (met ++ left) whole
    → Behind at left first whole
split_assembly spells known at met left first whole (none n) h = behind_none n left whole h
split_assembly spells known at met left first whole (remark n line ls ops is on) (remark m other ms others also more) = split_assembly spells known n ls left ops others on more
split_assembly spells known at met left first whole (remark n line ls ops is on) (instruction m other op ms others w more) = absurd (speaks known n line op w is)
split_assembly spells known at met left first whole (instruction n line op ls ops w on) (remark m other ms others is more) = absurd (speaks known n line op w is)
split_assembly spells known at met left first whole (instruction n line op ls ops w on) (instruction m other second ms others v more) =
    let same : op ≡ second = one_op spells known n line op second w v
    in subst (λ o. Behind n left (op ∷ ops) (o ∷ others)) same
    (behind_more n left op ops others (split_assembly spells known (n + op_size op) ls left ops others on (subst (λ o. Assembles (n + op_size o) (ls ++ left) others) (sym same) more)))
