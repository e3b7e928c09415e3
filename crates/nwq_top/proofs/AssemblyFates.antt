-- What comes of an assembler text: it stands for a file, or a line or a jump is the first at fault.
use Rattle.std.proofs.Common.{◌≡◌, ◌≢◌, ◌⊎◌, inl, inr, ℕ, ◌+◌, ◌<◌, ◌≤◌, nat_lt, Bool, true, false, List, [], ◌∷◌, ◌++◌, length, Some, refl, sym, ap, subst, arith, ltb-true, ltb-false}
use Rattle.std.specs.List.{AllByRecursion}
use Rattle.nwq_value.specs.Limits.{file_limit}
use Rattle.nwq_text.specs.Lines.{lines_of}
use Rattle.ncs_code.specs.Plain.{PlainOp}
use Rattle.ncs_code.specs.Spelling.{op_size, IsOp}
use Rattle.ncs_code.specs.File.{header_size, ops_size, file_length, file_bytes, op_at, leads_well}
use Rattle.ncs_code.specs.Laws.{SpellingLaws, SizeLaws, PlaceLaws, StandsBehind}
use Rattle.ncs_text.specs.Assembly.{Writes, IsRemark, Assembles, none, remark, instruction, IsAssembled}
use Rattle.ncs_text.specs.declared.fault.AsmFault.{AsmFault}
use Rattle.ncs_text.specs.declared.fault.AsmFault.TheVariants as asm
use Rattle.ncs_text.specs.Assembly as assembly
use Rattle.nwq_top.proofs.Undeniable.{Least}
use Rattle.nwq_top.proofs.CodeFates.{LeadsBadly, well, search_bad}
use Rattle.nwq_top.proofs.AssemblyLines.{Known, Written, written_known, remark_known}

-- ---- lines

-- all lines stand for instructions, or one is the first that doesn't
data Lined (at : ℕ) (lines : List (List ℕ)) : Type 0 where
  all : (ops : List PlainOp) → Assembles at lines ops → Lined at lines
  stops : (before behind : List (List ℕ)) (line : List ℕ) (ops : List PlainOp) → lines ≡ before ++ line ∷ behind → Assembles at before ops → (IsRemark line → ⊥)
      → ((op : PlainOp) → Writes (at + ops_size ops) line op → ⊥) → Lined at lines

past_remark : (at : ℕ) (line : List ℕ) (lines : List (List ℕ)) → IsRemark line → Lined at lines → Lined at (line ∷ lines)
past_remark at line lines is (all ops a) = all ops (remark at line lines ops is a)
past_remark at line lines is (stops before behind bad ops e a speaks unwritten) =
    stops (line ∷ before) behind bad ops (ap (λ ls. line ∷ ls) e) (remark at line before ops is a) speaks unwritten

further : (at : ℕ) (op : PlainOp) (ops : List PlainOp) → at + op_size op + ops_size ops ≡ at + ops_size (op ∷ ops)
further at op ops = omega arith

past_op : (at : ℕ) (line : List ℕ) (lines : List (List ℕ)) (op : PlainOp) → Writes at line op → Lined (at + op_size op) lines → Lined at (line ∷ lines)
past_op at line lines op writes (all ops a) = all (op ∷ ops) (instruction at line op lines ops writes a)
past_op at line lines op writes (stops before behind bad ops e a speaks unwritten) =
    stops (line ∷ before) behind bad (op ∷ ops) (ap (λ ls. line ∷ ls) e) (instruction at line op before ops writes a) speaks
    (λ o w. unwritten o (subst (λ place. Writes place bad o) (sym (further at op ops)) w))

no_further : (at : ℕ) → at ≡ at + ops_size []
no_further at = omega arith

op_by : (at : ℕ) (line : List ℕ) (lines : List (List ℕ)) → (IsRemark line → ⊥) → ((place : ℕ) → Lined place lines) → Known (Written at line) → Lined at (line ∷ lines)
op_by at line lines speaks rest (inl (op, writes)) = past_op at line lines op writes (rest (at + op_size op))
op_by at line lines speaks rest (inr unwritten) =
    stops [] lines line [] refl (none at) speaks (λ op w. unwritten (op, subst (λ place. Writes place line op) (sym (no_further at)) w))

line_by : SpellingLaws → (at : ℕ) (line : List ℕ) (lines : List (List ℕ)) → ((place : ℕ) → Lined place lines) → Known (IsRemark line) → Lined at (line ∷ lines)
line_by spells at line lines rest (inl is) = past_remark at line lines is (rest at)
line_by spells at line lines rest (inr speaks) = op_by at line lines speaks rest (written_known spells at line)

lined : SpellingLaws → (lines : List (List ℕ)) (at : ℕ) → Lined at lines
lined spells [] at = all [] (none at)
lined spells (line ∷ lines) at = line_by spells at line lines (lined spells lines) (remark_known line)

each_is_op : (at : ℕ) (lines : List (List ℕ)) (ops : List PlainOp) → Assembles at lines ops → AllByRecursion IsOp ops
each_is_op _ _ _ (none at) = tt
each_is_op _ _ _ (remark at line lines ops is a) = each_is_op at lines ops a
each_is_op _ _ _ (instruction at line op lines ops writes a) = (writes.is_op, each_is_op (at + op_size op) lines ops a)

-- ---- the line of an instruction

-- one line stands for an instruction, and those before and behind it for the others
record SplitAt (at : ℕ) (lines : List (List ℕ)) (first : List PlainOp) (op : PlainOp) (others : List PlainOp) : Type 0 where
  before : List (List ℕ)
  line : List ℕ
  behind : List (List ℕ)
  parts : lines ≡ before ++ line ∷ behind
  begins : Assembles at before first
  writes : Writes (at + ops_size first) line op
  ends : Assembles (at + ops_size first + op_size op) behind others

-- with a line in front that stands for an instruction
split_behind : (at : ℕ) (line : List ℕ) (lines : List (List ℕ)) (x : PlainOp) (first : List PlainOp) (op : PlainOp) (others : List PlainOp) → Writes at line x
    → SplitAt (at + op_size x) lines first op others → SplitAt at (line ∷ lines) (x ∷ first) op others
split_behind at line lines x first op others writes s = record {
  before = line ∷ s.before;
  line = s.line;
  behind = s.behind;
  parts = ap (λ ls. line ∷ ls) s.parts;
  begins = instruction at line x s.before first writes s.begins;
  writes = subst (λ place. Writes place s.line op) (further at x first) s.writes;
  ends = subst (λ place. Assembles (place + op_size op) s.behind others) (further at x first) s.ends;
}

split : (at : ℕ) (lines : List (List ℕ)) (ops : List PlainOp) → Assembles at lines ops → (first : List PlainOp) (op : PlainOp) (others : List PlainOp) → ops ≡ first ++ op ∷ others
    → SplitAt at lines first op others
split _ _ _ (none at) [] op others e = absurd cc
split _ _ _ (none at) (x ∷ first) op others e = absurd cc
split _ _ _ (remark at line lines ops is a) first op others e =
    let s = split at lines ops a first op others e in
    record {
      before = line ∷ s.before;
      line = s.line;
      behind = s.behind;
      parts = ap (λ ls. line ∷ ls) s.parts;
      begins = remark at line s.before first is s.begins;
      writes = s.writes;
      ends = s.ends;
    }
split _ _ _ (instruction at line o lines ops w a) [] op others e =
    let same : o ≡ op = cc in
    let rest : ops ≡ others = cc in
    record {
      before = [];
      line = line;
      behind = lines;
      parts = refl;
      begins = none at;
      writes = subst (λ place. Writes place line op) (no_further at) (subst (Writes at line) same w);
      ends = subst (λ os. Assembles (at + ops_size [] + op_size op) lines os) rest
          (subst (λ x. Assembles (at + ops_size [] + op_size x) lines ops) same (subst (λ place. Assembles (place + op_size o) lines ops) (no_further at) a));
    }
split _ _ _ (instruction at line o lines ops w a) (x ∷ first) op others e =
    let same : o ≡ x = cc in
    let rest : ops ≡ first ++ op ∷ others = cc in
    split_behind at line lines x first op others (subst (Writes at line) same w)
    (split (at + op_size x) lines ops (subst (λ y. Assembles (at + op_size y) lines ops) same a) first op others rest)

-- ---- a text

-- the text stands for a file, or a test fails that isn't want of memory
pub data AssemblyComes (text : List ℕ) : Type 0 where
  file : (bytes : List ℕ) → IsAssembled text bytes → AssemblyComes text
  broken : (fails : AsmFault) → fails ≢ asm.NoMemory → assembly.AssemblyFails fails text → AssemblyComes text

module _ (spells : SpellingLaws) (sizes : SizeLaws) (places : PlaceLaws) (text : List ℕ) where
  astray_in : (ops : List PlainOp) → Assembles header_size (lines_of text) ops → file_length ops ≤ file_limit → (l : Least (LeadsBadly ops)) → StandsBehind ops l.number l.is.op
      → AssemblyComes text
  astray_in ops a small l stands =
      let s = split header_size (lines_of text) ops a stands.before l.is.op stands.behind stands.both in
      let place : l.number ≡ file_length stands.before = stands.place in
      broken (asm.Target (length s.before + 1)) (λ same. absurd cc) (record {
        before = s.before;
        line = s.line;
        behind = s.behind;
        first = stands.before;
        op = l.is.op;
        others = stands.behind;
        lines = s.parts;
        number = refl;
        begins = s.begins;
        writes = s.writes;
        ends = s.ends;
        bounded = subst (λ os. file_length os ≤ file_limit) stands.both small;
        astray = record {
          bad = subst (λ os. leads_well os (file_length stands.before) l.is.op ≡ false) stands.both (subst (λ p. leads_well ops p l.is.op ≡ false) place l.is.bad);
          before = subst (λ os. (at : ℕ) (other : PlainOp) → at < file_length stands.before → op_at os at ≡ Some other → leads_well os at other ≡ true) stands.both
              (subst (λ p. (at : ℕ) (other : PlainOp) → at < p → op_at ops at ≡ Some other → leads_well ops at other ≡ true) place
              (λ at other lt is. well ops at other (l.below at lt) is));
        };
      })

  leads_by : (ops : List PlainOp) → Assembles header_size (lines_of text) ops → file_length ops ≤ file_limit
      → ((place : ℕ) → place < file_length ops → LeadsBadly ops place → ⊥) ⊎ Least (LeadsBadly ops) → AssemblyComes text
  leads_by ops a small (inr l) = astray_in ops a small l (places.stands ops l.number l.is.op l.is.is)
  leads_by ops a small (inl fine) =
      file (file_bytes ops) (record {
        ops = ops;
        lines = a;
        code = record {
          each = each_is_op header_size (lines_of text) ops a;
          leads = λ at op h. well ops at op (fine at (omega (arith, (places.lies ops at op h).1, sizes.some op))) h;
          bounded = small;
        };
        is = refl;
      })

  size_by : (ops : List PlainOp) → Assembles header_size (lines_of text) ops → (b : Bool) → nat_lt file_limit (file_length ops) ≡ b → AssemblyComes text
  size_by ops a true e =
      broken (asm.Large (file_length ops)) (λ same. absurd cc) (record { ops = ops; lines = a; is = refl; large = ltb-true file_limit (file_length ops) e })
  size_by ops a false e = leads_by ops a (ltb-false file_limit (file_length ops) e) (search_bad ops (file_length ops))

  by_lines : Lined header_size (lines_of text) → AssemblyComes text
  by_lines (all ops a) = size_by ops a (nat_lt file_limit (file_length ops)) refl
  by_lines (stops before behind line ops e a speaks unwritten) =
      broken (asm.Line (length before + 1)) (λ same. absurd cc) (record {
        before = before;
        line = line;
        behind = behind;
        ops = ops;
        lines = e;
        number = refl;
        first = a;
        speaks = speaks;
        none = unwritten;
      })

  pub assembly_comes : AssemblyComes text
  assembly_comes = by_lines (lined spells (lines_of text) header_size)
