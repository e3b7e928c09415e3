-- A text has one answer.
use Rattle.std.proofs.Common.{◌≡◌, ◌≢◌, ℕ, ◌<◌, true, false, List, [], ◌∷◌, ◌++◌, length, Some, Result, Ok, Err, refl, sym, ap, ◌∙◌, subst, arith}
use Rattle.ncs_code.specs.Plain.{PlainOp}
use Rattle.ncs_code.specs.File.{header_size, file_bytes, file_length, ops_size, op_at, leads_well}
use Rattle.ncs_code.specs.Laws.{SpellingLaws, SizeLaws, PlaceLaws}
use Rattle.ncs_text.specs.declared.fault.AsmFault.{AsmFault}
use Rattle.ncs_text.specs.declared.fault.AsmFault.TheVariants.{Line, Large, Target, NoMemory}
use Rattle.nwq_text.specs.Lines.{lines_of}
use Rattle.ncs_text.specs.Assembly.{Writes, Assembles, remark, instruction, IsAssembled, AssemblyStopsAt, IsLarge, LeadsAstray, IsFirstAstray, Answers, IsRemark}
use Rattle.ncs_text.proofs.Ops.{HasOpcode}
use Rattle.ncs_text.proofs.Passing.{assembles_add}
use Rattle.ncs_text.proofs.Single.{one_assembly, split_assembly}
use Rattle.ncs_text.proofs.Targets.{heads}

-- ---- two ways to part a list

-- the second part begins further on
record Further (a : List (List ℕ)) (x : List ℕ) (b : List (List ℕ)) : Type 0 where
  between : List (List ℕ)
  is : b ≡ a ++ x ∷ between

data Order (a : List (List ℕ)) (x : List ℕ) (b : List (List ℕ)) (y : List ℕ) : Type 0 where
  level : length a ≡ length b → Order a x b y
  after : Further a x b → Order a x b y
  before : Further b y a → Order a x b y

deeper : (z : List ℕ) (a b : List (List ℕ)) (x y : List ℕ) → Order a x b y → Order (z ∷ a) x (z ∷ b) y
deeper z a b x y (level same) = level (omega (arith, same))
deeper z a b x y (after f) = after (record { between = f.between; is = ap (λ ls. z ∷ ls) f.is })
deeper z a b x y (before f) = before (record { between = f.between; is = ap (λ ls. z ∷ ls) f.is })

heads_same : (z w : List ℕ) (a b : List (List ℕ)) → z ∷ a ≡ w ∷ b → (z ≡ w) × (a ≡ b)
heads_same z w a b e = (cc, cc)

order : (a b c d : List (List ℕ)) (x y : List ℕ) → a ++ x ∷ c ≡ b ++ y ∷ d → Order a x b y
order [] [] c d x y e = level refl
order [] (w ∷ b) c d x y e = let h = heads_same x w c (b ++ y ∷ d) e in after (record { between = b; is = ap (λ l. l ∷ b) (sym h.0) })
order (z ∷ a) [] c d x y e = let h = heads_same z y (a ++ x ∷ c) d e in before (record { between = a; is = ap (λ l. l ∷ a) h.0 })
order (z ∷ a) (w ∷ b) c d x y e =
    let h = heads_same z w (a ++ x ∷ c) (b ++ y ∷ d) e
    in subst (λ l. Order (z ∷ a) x (l ∷ b) y) h.0 (deeper z a b x y (order a b c d x y h.1))

-- ---- a line that stops

stuck : (at : ℕ) (line : List ℕ) (lines : List (List ℕ)) (ops : List PlainOp) → (IsRemark line → ⊥) → ((op : PlainOp) → Writes at line op → ⊥) → Assembles at (line ∷ lines) ops → ⊥
stuck at line lines ops speaks empty (remark n l ls os is on) = speaks is
stuck at line lines ops speaks empty (instruction n l op ls os w on) = empty op w

module _ (spells : SpellingLaws) (sizes : SizeLaws) (places : PlaceLaws) (known : HasOpcode) where
  no_further : (n : ℕ) (text : List ℕ) (s : AssemblyStopsAt n text) (more : List (List ℕ)) (ops : List PlainOp) → Assembles header_size (s.before ++ s.line ∷ more) ops → ⊥
  no_further n text s more ops h =
      let split = split_assembly spells known header_size s.before (s.line ∷ more) s.ops ops s.first h
      in stuck (file_length s.ops) s.line more split.others s.speaks s.none split.rest

  no_whole : (n : ℕ) (text : List ℕ) → AssemblyStopsAt n text → (ops : List PlainOp) → Assembles header_size (lines_of text) ops → ⊥
  no_whole n text s ops h = no_further n text s s.behind ops (subst (λ ls. Assembles header_size ls ops) s.lines h)

  one_stop : (n m : ℕ) (text : List ℕ) → AssemblyStopsAt n text → AssemblyStopsAt m text → n ≡ m
  one_stop n m text s t =
      elim (order s.before t.before s.behind t.behind s.line t.line (sym s.lines ∙ t.lines)) [
        | level same ↦ omega (arith, same, s.number, t.number)
        | after f ↦ absurd (no_further n text s f.between t.ops (subst (λ ls. Assembles header_size ls t.ops) f.is t.first))
        | before f ↦ absurd (no_further m text t f.between s.ops (subst (λ ls. Assembles header_size ls s.ops) f.is s.first))
      ]

  -- ---- lines that all stand for instructions

  whole : (n : ℕ) (text : List ℕ) (l : LeadsAstray n text) → Assembles header_size (lines_of text) (l.first ++ l.op ∷ l.others)
  whole n text l =
      subst (λ ls. Assembles header_size ls (l.first ++ l.op ∷ l.others)) (sym l.lines)
      (assembles_add header_size l.before (l.line ∷ l.behind) l.first (l.op ∷ l.others) l.begins
      (instruction (file_length l.first) l.line l.op l.behind l.others l.writes l.ends))

  same : (text : List ℕ) (a b : List PlainOp) → Assembles header_size (lines_of text) a → Assembles header_size (lines_of text) b → a ≡ b
  same text a b x y = one_assembly spells known header_size (lines_of text) a b x y

  begun : (n : ℕ) (text : List ℕ) (l : LeadsAstray n text) → op_at (l.first ++ l.op ∷ l.others) (file_length l.first) ≡ Some l.op
  begun n text l = places.begins l.first l.others l.op

  not_bad : (ops : List PlainOp) (place : ℕ) (op : PlainOp) → leads_well ops place op ≡ true → IsFirstAstray ops place op → ⊥
  not_bad ops place op well astray = let wrong : true ≡ false = sym well ∙ astray.bad in absurd cc

  no_earlier : (n m : ℕ) (text : List ℕ) (l : LeadsAstray n text) (k : LeadsAstray m text) → file_length l.first < file_length k.first → ⊥
  no_earlier n m text l k lt =
      let alike : l.first ++ l.op ∷ l.others ≡ k.first ++ k.op ∷ k.others
      = same text (l.first ++ l.op ∷ l.others) (k.first ++ k.op ∷ k.others) (whole n text l) (whole m text k)
      in let there : op_at (k.first ++ k.op ∷ k.others) (file_length l.first) ≡ Some l.op = ap (λ os. op_at os (file_length l.first)) (sym alike) ∙ begun n text l
      in not_bad (k.first ++ k.op ∷ k.others) (file_length l.first) l.op (k.astray.before (file_length l.first) l.op lt there)
      (subst (λ os. IsFirstAstray os (file_length l.first) l.op) alike l.astray)

  further_on : (n m : ℕ) (text : List ℕ) (l : LeadsAstray n text) (k : LeadsAstray m text) → Further l.before l.line k.before → file_length l.first < file_length k.first
  further_on n m text l k f =
      let split = split_assembly spells known header_size l.before (l.line ∷ f.between) l.first k.first l.begins (subst (λ ls. Assembles header_size ls k.first) f.is k.begins)
      in let h = heads spells known (file_length l.first) l.line l.op f.between split.others l.writes split.rest
      in omega (arith, ap ops_size (split.both ∙ ap (λ os. l.first ++ os) h.is), sizes.add l.first (l.op ∷ h.others), sizes.some l.op)

  one_target : (n m : ℕ) (text : List ℕ) → LeadsAstray n text → LeadsAstray m text → n ≡ m
  one_target n m text l k =
      elim (order l.before k.before l.behind k.behind l.line k.line (sym l.lines ∙ k.lines)) [
        | level alike ↦ omega (arith, alike, l.number, k.number)
        | after f ↦ absurd (no_earlier n m text l k (further_on n m text l k f))
        | before f ↦ absurd (no_earlier m n text k l (further_on m n text k l f))
      ]

  file_no_large : (size : ℕ) (text file : List ℕ) → IsAssembled text file → IsLarge size text → ⊥
  file_no_large size text file a l = omega (arith, a.code.bounded, ap ops_size (same text a.ops l.ops a.lines l.lines), l.is, l.large)

  file_no_target : (n : ℕ) (text file : List ℕ) → IsAssembled text file → LeadsAstray n text → ⊥
  file_no_target n text file a l =
      let alike : a.ops ≡ l.first ++ l.op ∷ l.others = same text a.ops (l.first ++ l.op ∷ l.others) a.lines (whole n text l)
      in let there : op_at a.ops (file_length l.first) ≡ Some l.op = ap (λ os. op_at os (file_length l.first)) alike ∙ begun n text l
      in not_bad a.ops (file_length l.first) l.op (a.code.leads (file_length l.first) l.op there)
      (subst (λ os. IsFirstAstray os (file_length l.first) l.op) (sym alike) l.astray)

  large_no_target : (size n : ℕ) (text : List ℕ) → IsLarge size text → LeadsAstray n text → ⊥
  large_no_target size n text a l =
      omega (arith, ap ops_size (same text a.ops (l.first ++ l.op ∷ l.others) a.lines (whole n text l)), a.is, a.large, l.bounded)

  pub one_answer : (text : List ℕ) (a b : Result (List ℕ) AsmFault) → Answers text a → Answers text b → a ≢ Err NoMemory → b ≢ Err NoMemory → a ≡ b
  one_answer text (Ok f) (Ok g) x y p q = ap Ok (x.is ∙ ap file_bytes (same text x.ops y.ops x.lines y.lines) ∙ sym y.is)
  one_answer text (Ok f) (Err (Line n)) x y p q = absurd (no_whole n text y x.ops x.lines)
  one_answer text (Ok f) (Err (Large size)) x y p q = absurd (file_no_large size text f x y)
  one_answer text (Ok f) (Err (Target n)) x y p q = absurd (file_no_target n text f x y)
  one_answer text (Ok f) (Err NoMemory) x y p q = absurd (q refl)
  one_answer text (Err (Line n)) (Ok f) x y p q = absurd (no_whole n text x y.ops y.lines)
  one_answer text (Err (Line n)) (Err (Line m)) x y p q = ap (λ k. Err (Line k)) (one_stop n m text x y)
  one_answer text (Err (Line n)) (Err (Large size)) x y p q = absurd (no_whole n text x y.ops y.lines)
  one_answer text (Err (Line n)) (Err (Target m)) x y p q = absurd (no_whole n text x (y.first ++ y.op ∷ y.others) (whole m text y))
  one_answer text (Err (Line n)) (Err NoMemory) x y p q = absurd (q refl)
  one_answer text (Err (Large size)) (Ok f) x y p q = absurd (file_no_large size text f y x)
  one_answer text (Err (Large size)) (Err (Line n)) x y p q = absurd (no_whole n text y x.ops x.lines)
  one_answer text (Err (Large size)) (Err (Large other)) x y p q =
      ap (λ k. Err (Large k)) (x.is ∙ ap file_length (same text x.ops y.ops x.lines y.lines) ∙ sym y.is)
  one_answer text (Err (Large size)) (Err (Target n)) x y p q = absurd (large_no_target size n text x y)
  one_answer text (Err (Large size)) (Err NoMemory) x y p q = absurd (q refl)
  one_answer text (Err (Target n)) (Ok f) x y p q = absurd (file_no_target n text f y x)
  one_answer text (Err (Target n)) (Err (Line m)) x y p q = absurd (no_whole m text y (x.first ++ x.op ∷ x.others) (whole n text x))
  one_answer text (Err (Target n)) (Err (Large size)) x y p q = absurd (large_no_target size n text y x)
  one_answer text (Err (Target n)) (Err (Target m)) x y p q = ap (λ k. Err (Target k)) (one_target n m text x y)
  one_answer text (Err (Target n)) (Err NoMemory) x y p q = absurd (q refl)
  one_answer text (Err NoMemory) b x y p q = absurd (p refl)
