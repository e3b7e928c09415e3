-- What loading the file of a text tells of it.
use Rattle.std.proofs.Common.{◌≡◌, ◌≢◌, ℕ, ◌+◌, ◌<◌, ◌≤◌, List, [], ◌∷◌, ◌++◌, length, take, drop, Some, None, refl, sym, ap, ◌∙◌, subst, arith, append_assoc, append-nil, length-append}
use Rattle.std.proofs.Common.{length-drop, inl, inr}
use Rattle.std.specs.List.{AllByRecursion}
use Rattle.std.proofs.lemmas.List.{drop_at}
use Rattle.std.proofs.lemmas.Bool.{cases_lt}
use Rattle.ncs_code.specs.declared.fault.CodeFault.{CodeFault}
use Rattle.ncs_code.specs.Plain.{PlainOp}
use Rattle.ncs_code.specs.Spelling.{spelling, op_size, four, fault_of, IsOp}
use Rattle.ncs_code.specs.Reading.{ops_of}
use Rattle.ncs_code.specs.File.{magic, header_size, spellings, ops_size, file_length, file_bytes, op_at, IsCode, IsFirstBad}
use Rattle.ncs_code.specs.Laws.{SpellingLaws, SizeLaws, PlaceLaws}
use Rattle.ncs_file.specs.Loading as loading
use Rattle.nwq_text.specs.Lines.{lines_of}
use Rattle.ncs_text.specs.Assembly.{Writes, Assembles, none, remark, instruction, LeadsAstray, IsFirstAstray}
use Rattle.ncs_text.specs.Steps.{IsPassed, IsWhole, HasCode, Passes}
use Rattle.ncs_text.proofs.Ops.{HasOpcode}
use Rattle.ncs_text.proofs.Single.{one_op, one_assembly, split_assembly, speaks}

pub each_is_op : (at : ℕ) (lines : List (List ℕ)) (ops : List PlainOp) → Assembles at lines ops → AllByRecursion IsOp ops
each_is_op at lines ops (none n) = tt
each_is_op at lines ops (remark n line ls os is on) = each_is_op n ls os on
each_is_op at lines ops (instruction n line op ls os w on) = (w.is_op, each_is_op (n + op_size op) ls os on)

drop_header : (ops : List PlainOp) → drop 13 (file_bytes ops) ≡ spellings ops
unfolding four
drop_header ops = refl

header_is : (ops : List PlainOp) → take 13 (file_bytes ops) ≡ magic ++ four (file_length ops)
unfolding four
header_is ops = refl

-- what was put together of the parts of a whole text is its file
pub file_is : (text body file : List ℕ) (size : ℕ) (w : IsWhole text body size) → file ≡ magic ++ (four size ++ body) → file ≡ file_bytes w.ops
file_is text body file size w is = is ∙ ap (λ n. magic ++ (four n ++ body)) w.size_is ∙ ap (λ b. magic ++ (four (file_length w.ops) ++ b)) w.kept

pub same_ops : SpellingLaws → (a b : List PlainOp) → AllByRecursion IsOp a → AllByRecursion IsOp b → file_bytes a ≡ file_bytes b → a ≡ b
same_ops spells a b f g same =
    let bytes : spellings a ≡ spellings b = sym (drop_header a) ∙ ap (drop 13) same ∙ drop_header b
    in sym (spells.listed (length (spellings a)) a f (omega arith)) ∙ ap (ops_of (length (spellings a))) bytes
    ∙ spells.listed (length (spellings a)) b g (omega (arith, ap length bytes))

-- ---- a file

pub has_code : SpellingLaws → (text body file : List ℕ) (size : ℕ) (code : List PlainOp) → IsWhole text body size → file ≡ magic ++ (four size ++ body)
    → IsCode code × (file ≡ file_bytes code) → HasCode text body size
has_code spells text body file size code w is loaded =
    let each = each_is_op header_size (lines_of text) w.ops w.lines
    in let same : code ≡ w.ops = same_ops spells code w.ops loaded.0.each each (sym loaded.1 ∙ file_is text body file size w is)
    in record { ops = w.ops; lines = w.lines; code = subst IsCode same loaded.0; kept = w.kept; size_is = w.size_is }

-- ---- the faults that there are not

pub has_length : SizeLaws → (text body file : List ℕ) (size : ℕ) → IsWhole text body size → file ≡ magic ++ (four size ++ body) → take 13 file ≢ magic ++ four (length file) → ⊥
has_length sizes text body file size w is other =
    let whole = file_is text body file size w is
    in let long : file_length w.ops ≡ length file = sym (sizes.file w.ops) ∙ ap length (sym whole)
    in other (ap (take 13) whole ∙ header_is w.ops ∙ ap (λ n. magic ++ four n) long)

record Left (rest : List ℕ) : Type 0 where
  ops : List PlainOp
  each : AllByRecursion IsOp ops
  is : rest ≡ spellings ops

left : SpellingLaws → SizeLaws → (xs ys : List PlainOp) (rest : List ℕ) → AllByRecursion IsOp xs → AllByRecursion IsOp ys → spellings xs ++ rest ≡ spellings ys → Left rest
left spells sizes [] ys rest f g same = record { ops = ys; each = g; is = same }
left spells sizes (x ∷ xs) [] rest f g same =
    absurd (omega (arith, ap length same, length-append (spellings (x ∷ xs)) rest, length-append (spelling x) (spellings xs), sizes.op x, sizes.some x))
left spells sizes (x ∷ xs) (y ∷ ys) rest f g same =
    let whole : spelling x ++ (spellings xs ++ rest) ≡ spelling y ++ spellings ys = sym (append_assoc (spelling x) (spellings xs) rest) ∙ same
    in let is : x ≡ y = spells.none x y (spellings xs ++ rest) (spellings ys) f.0 g.0 whole
    in let n : ℕ = length (spelling x)
    in let others : spellings xs ++ rest ≡ spellings ys
    = sym (drop_at (spelling x) (spellings xs ++ rest) n refl) ∙ ap (drop n) whole ∙ drop_at (spelling y) (spellings ys) n (ap (λ o. length (spelling o)) (sym is))
    in left spells sizes xs ys rest f.1 g.1 others

no_fault : SpellingLaws → (rest : List ℕ) (ops : List PlainOp) → AllByRecursion IsOp ops → rest ≡ spellings ops → 1 ≤ length rest → fault_of rest ≡ None
no_fault spells rest [] each is some = absurd (omega (arith, ap length is, some))
no_fault spells rest (op ∷ ops) each is some = ap fault_of is ∙ spells.sound op (spellings ops) each.0

pub stops_nowhere : SpellingLaws → SizeLaws → (text body file : List ℕ) (size place : ℕ) (why : CodeFault) → IsWhole text body size → file ≡ magic ++ (four size ++ body)
    → loading.LoadStopsAt place why file → ⊥
stops_nowhere spells sizes text body file size place why w is stops =
    let same : spellings stops.ops ++ drop place file ≡ spellings w.ops = sym stops.before ∙ ap (drop 13) (file_is text body file size w is) ∙ drop_header w.ops
    in let l = left spells sizes stops.ops w.ops (drop place file) stops.each (each_is_op header_size (lines_of text) w.ops w.lines) same
    in let empty = no_fault spells (drop place file) l.ops l.each l.is (omega (arith, length-drop place file, stops.inside))
    in let none_some : None ≡ Some why = sym empty ∙ stops.reason
    in absurd cc

-- ---- the line that leads astray

-- what the line stands for whose instruction passes the place is what begins there
record Found (text : List ℕ) (ops : List PlainOp) (place number : ℕ) : Type 0 where
  before : List (List ℕ)
  line : List ℕ
  behind : List (List ℕ)
  first : List PlainOp
  op : PlainOp
  pub others : List PlainOp
  lines : lines_of text ≡ before ++ line ∷ behind
  counted : number ≡ length before + 1
  begins : Assembles header_size before first
  writes : Writes (file_length first) line op
  ends : Assembles (file_length first + op_size op) behind others
  both : ops ≡ first ++ op ∷ others
  stands : place ≡ file_length first

same_some : (a b : PlainOp) → Some a ≡ Some b → a ≡ b
same_some a b e = cc

-- a line that is known to stand for an instruction
pub record Heads (at : ℕ) (op : PlainOp) (lines : List (List ℕ)) (ops : List PlainOp) : Type 0 where
  pub others : List PlainOp
  pub is : ops ≡ op ∷ others
  pub rest : Assembles (at + op_size op) lines others

pub heads : SpellingLaws → HasOpcode
    → (at : ℕ) (line : List ℕ) (op : PlainOp) (lines : List (List ℕ)) (ops : List PlainOp) → Writes at line op
    → Assembles at (line ∷ lines) ops → Heads at op lines ops
heads spells known at line op lines ops w (remark n other ls os is on) = absurd (speaks known n line op w is)
heads spells known at line op lines ops w (instruction n other second ls os v on) =
    let same : second ≡ op = one_op spells known n line second op v w
    in record { others = os; is = ap (λ o. o ∷ os) same; rest = subst (λ o. Assembles (n + op_size o) ls os) same on }

passes_found : SpellingLaws → SizeLaws → PlaceLaws → HasOpcode → (text : List ℕ) (ops met : List PlainOp) (place number size : ℕ) (o : PlainOp) (lines left : List (List ℕ))
    → Assembles header_size (lines_of text) ops → op_at ops place ≡ Some o → lines_of text ≡ lines ++ left → number ≡ length lines → size ≡ file_length met → place < size
    → Passes place lines met → Found text ops place number
passes_found spells sizes places known text ops met place number size o lines left whole there parts counted size_is high p =
    let both : lines_of text ≡ p.before ++ p.line ∷ left = parts ∙ ap (λ ls. ls ++ left) p.lines_are ∙ append_assoc p.before (p.line ∷ []) left
    in let split = split_assembly spells known header_size p.before (p.line ∷ left) p.first ops p.begins (subst (λ ls. Assembles header_size ls ops) both whole)
    in let h = heads spells known (file_length p.first) p.line p.op left split.others p.writes split.rest
    in let ops_are : ops ≡ p.first ++ p.op ∷ h.others = split.both ∙ ap (λ os. p.first ++ os) h.is
    in let here : op_at ops (file_length p.first) ≡ Some p.op = ap (λ os. op_at os (file_length p.first)) ops_are ∙ places.begins p.first h.others p.op
    in let long : size ≡ file_length p.first + op_size p.op = omega (arith, size_is, ap ops_size p.ops_are, sizes.add p.first (p.op ∷ []))
    in record {
      before = p.before;
      line = p.line;
      behind = left;
      first = p.first;
      op = p.op;
      others = h.others;
      lines = both;
      counted = omega (arith, counted, ap length p.lines_are, length-append p.before (p.line ∷ []));
      begins = p.begins;
      writes = p.writes;
      ends = h.rest;
      both = ops_are;
      stands = elim (cases_lt (file_length p.first) place) [
        | inl lt ↦ absurd (omega (arith, places.apart ops (file_length p.first) place p.op o here there lt, long, high))
        | inr le ↦ omega (arith, le, p.within)
      ];
    }

found : SpellingLaws → SizeLaws → PlaceLaws → HasOpcode → (text body : List ℕ) (ops : List PlainOp) (place size number : ℕ) (o : PlainOp) → Assembles header_size (lines_of text) ops
    → op_at ops place ≡ Some o → IsPassed text place body size number → Found text ops place number
found spells sizes places known text body ops place size number o whole there p =
    elim (cases_lt place size) [
      | inl lt ↦ passes_found spells sizes places known text ops p.ops place number size o p.met p.left whole there p.lines p.counted p.size_is lt
          (p.passes (places.lies ops place o there).0 lt)
      | inr le ↦
          let all : lines_of text ≡ p.met = p.lines ∙ ap (λ ls. p.met ++ ls) (p.all le) ∙ append-nil p.met
          in let same : p.ops ≡ ops = one_assembly spells known header_size p.met p.ops ops p.reads (subst (λ ls. Assembles header_size ls ops) all whole)
          in absurd (omega (arith, (places.lies ops place o there).1, sizes.some o, p.size_is, ap ops_size same, le))
    ]

pub leads_astray : SpellingLaws → SizeLaws → PlaceLaws → HasOpcode → (text body file met : List ℕ) (size place stop number : ℕ) → IsWhole text body size
    → file ≡ magic ++ (four size ++ body) → loading.LeadsAstray place file → IsPassed text place met stop number → LeadsAstray number text
leads_astray spells sizes places known text body file met size place stop number w is astray p =
    let same : astray.ops ≡ w.ops
    = same_ops spells astray.ops w.ops astray.each (each_is_op header_size (lines_of text) w.ops w.lines) (sym astray.spelled ∙ file_is text body file size w is)
    in let first : IsFirstBad w.ops astray.index place = subst (λ os. IsFirstBad os astray.index place) same astray.first
    in let there = places.placed w.ops astray.index place first.op first.stands
    in let f = found spells sizes places known text met w.ops place stop number first.op w.lines there p
    in let here : op_at w.ops place ≡ Some f.op = ap (op_at w.ops) f.stands ∙ ap (λ os. op_at os (file_length f.first)) f.both ∙ places.begins f.first f.others f.op
    in let op_is : first.op ≡ f.op = same_some first.op f.op (sym there ∙ here)
    in let bad : IsFirstAstray w.ops place first.op = record { bad = first.bad; before = first.before }
    in record {
      before = f.before;
      line = f.line;
      behind = f.behind;
      first = f.first;
      op = f.op;
      others = f.others;
      lines = f.lines;
      number = f.counted;
      begins = f.begins;
      writes = f.writes;
      ends = f.ends;
      bounded = omega (arith, w.size_is, w.bounded, ap ops_size f.both);
      astray = subst (λ os. IsFirstAstray os (file_length f.first) f.op) f.both
          (subst (λ n. IsFirstAstray w.ops n f.op) f.stands (subst (λ o. IsFirstAstray w.ops place o) op_is bad));
    }
