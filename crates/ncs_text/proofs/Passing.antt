-- Reading the lines one after another.
use Rattle.std.proofs.Common.{◌≡◌, ℕ, ◌+◌, ◌*◌, ◌^◌, ◌<◌, ◌≤◌, List, [], ◌∷◌, ◌++◌, length, refl, sym, ap, ◌∙◌, subst, arith, append_assoc, append-nil, length-append}
use Rattle.std.proofs.lemmas.Grind.{flat_map-append}
use Rattle.nwq_value.specs.Limits.{file_limit}
use Rattle.ncs_code.specs.Plain.{PlainOp}
use Rattle.ncs_code.specs.Spelling.{spelling, op_size}
use Rattle.ncs_code.specs.File.{header_size, spellings, ops_size, file_length}
use Rattle.ncs_code.specs.Laws.{SizeLaws}
use Rattle.nwq_text.specs.Lines.{lines_of}
use Rattle.ncs_text.specs.Assembly.{Writes, Assembles, IsRemark, none, remark, instruction, AssemblyStopsAt}
use Rattle.ncs_text.specs.Steps.{PutsLine, IsPassed, Passes}

-- ---- the instructions of two parts

size_next : (at a b : ℕ) → (at + a) + b ≡ at + (a + b)
size_next at a b = omega arith

pub assembles_add : (at : ℕ) (a b : List (List ℕ)) (x y : List PlainOp) → Assembles at a x → Assembles (at + ops_size x) b y → Assembles at (a ++ b) (x ++ y)
assembles_add at a b x y (none n) h = let same : n + 0 ≡ n = omega arith in subst (λ m. Assembles m b y) same h
assembles_add at a b x y (remark n line lines ops is on) h = remark n line (lines ++ b) (ops ++ y) is (assembles_add n lines b ops y on h)
assembles_add at a b x y (instruction n line op lines ops w on) h =
    instruction n line op (lines ++ b) (ops ++ y) w
    (assembles_add (n + op_size op) lines b ops y on (subst (λ m. Assembles m b y) (sym (size_next n (op_size op) (ops_size ops))) h))

-- ---- the loop

pub record SoFar (text : List ℕ) (read : ℕ) (left : List (List ℕ)) (stop : ℕ) (body : List ℕ) (size number : ℕ) : Type 0 where
  pub met : List (List ℕ)
  pub ops : List PlainOp
  pub lines : lines_of text ≡ met ++ left
  pub reads : Assembles header_size met ops
  pub counted : number ≡ length met
  pub same : number ≡ read
  pub size_is : size ≡ file_length ops
  pub kept : size ≤ file_limit → body ≡ spellings ops
  pub passes : header_size ≤ stop → stop < size → Passes stop met ops
  pub few : size + 2 ^ 18 * length left ≤ 13 + 2 ^ 18 * length text

pub so_far_begins : (text : List ℕ) (read : ℕ) (left : List (List ℕ)) (stop : ℕ) (body : List ℕ) → lines_of text ≡ left → length left ≤ length text → read ≡ 0
    → body ≡ [] → SoFar text read left stop body 13 0
so_far_begins text read left stop body all few none_read empty = record {
  met = [];
  ops = [];
  lines = all;
  reads = none 13;
  counted = refl;
  same = sym none_read;
  size_is = refl;
  kept = λ h. empty;
  passes = λ low high. absurd (omega arith);
  few = omega (arith, few);
}

module _ (text : List ℕ) (read : ℕ) (left : List (List ℕ)) (stop : ℕ) (body : List ℕ) (size number : ℕ) (so : SoFar text read left stop body size number) where
  module _ (line : List ℕ) (others : List (List ℕ)) (next : ℕ) (first : left ≡ line ∷ others) (is : next ≡ read + 1) where
    ahead : lines_of text ≡ so.met ++ line ∷ others
    ahead = so.lines ∙ ap (λ ls. so.met ++ ls) first

    pub goes_on : SizeLaws → (read_now : ℕ) (now kept_now : List ℕ) (added : ℕ) → read_now ≡ next → size ≤ stop → PutsLine size line body now added → added < 2 ^ 18
        → (size + added ≤ file_limit → kept_now ≡ now) → SoFar text read_now others stop kept_now (size + added) next
    goes_on sizes read_now now kept_now added read_is within puts small kept =
        let one : Assembles (size + added) [] [] = none (size + added)
        in let reads : Assembles header_size (so.met ++ line ∷ []) (so.ops ++ (puts.ops ++ []))
        = assembles_add header_size so.met (line ∷ []) so.ops (puts.ops ++ []) so.reads
        (subst (λ n. Assembles n (line ∷ []) (puts.ops ++ [])) so.size_is (puts.more [] [] one))
        in record {
          met = so.met ++ line ∷ [];
          ops = so.ops ++ puts.ops;
          lines = ahead ∙ sym (append_assoc so.met (line ∷ []) others);
          reads = subst (λ os. Assembles header_size (so.met ++ line ∷ []) (so.ops ++ os)) (append-nil puts.ops) reads;
          counted = omega (arith, is, so.same, so.counted, length-append so.met (line ∷ []));
          same = sym read_is;
          size_is = omega (arith, so.size_is, puts.size_is, sizes.add so.ops puts.ops);
          kept = λ fits. kept fits ∙ puts.appended ∙ ap (λ b. b ++ spellings puts.ops) (so.kept (omega (arith, fits))) ∙ sym (flat_map-append spelling so.ops puts.ops);
          passes = λ low high.
              let some : 0 < added = omega (arith, within, high)
              in let last = puts.last some
              in record {
                before = so.met;
                line = line;
                first = so.ops;
                op = last.0;
                lines_are = refl;
                ops_are = ap (λ os. so.ops ++ os) last.1;
                begins = so.reads;
                writes = subst (λ n. Writes n line last.0) so.size_is last.2;
                within = omega (arith, so.size_is, within);
              };
          few = omega (arith, so.few, small, ap length first);
        }

    pub stops : (IsRemark line → ⊥) → ((op : PlainOp) → Writes size line op → ⊥) → AssemblyStopsAt next text
    stops speaks empty = record {
      before = so.met;
      line = line;
      behind = others;
      ops = so.ops;
      lines = ahead;
      number = omega (arith, is, so.same, so.counted);
      first = so.reads;
      speaks = speaks;
      none = λ op w. empty op (subst (λ n. Writes n line op) (sym so.size_is) w);
    }

  pub passed : stop < size → IsPassed text stop body size number
  passed high = record {
    met = so.met;
    left = left;
    ops = so.ops;
    lines = so.lines;
    reads = so.reads;
    counted = so.counted;
    size_is = so.size_is;
    kept = so.kept;
    all = λ low. absurd (omega (arith, low, high));
    passes = so.passes;
  }

  pub ended : left ≡ [] → IsPassed text stop body size number
  ended nothing = record {
    met = so.met;
    left = left;
    ops = so.ops;
    lines = so.lines;
    reads = so.reads;
    counted = so.counted;
    size_is = so.size_is;
    kept = so.kept;
    all = λ low. nothing;
    passes = so.passes;
  }
