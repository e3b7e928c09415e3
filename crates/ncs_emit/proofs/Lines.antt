-- The lines that an emitter keeps, when one more comes.
use Rattle.std.proofs.Common.{◌≡◌, ◌<◌, ◌≤◌, ◌+◌, ◌++◌, ◌∷◌, [], ℕ, List, length, drop, sym, ◌∙◌, ap, arith, refl, subst, Bool, true, false, append_assoc, cond, eqb}
use Rattle.std.specs.List.{AllByRecursion}
use Rattle.std.proofs.lemmas.Bool.{ne_eqb}
use Rattle.std.proofs.lemmas.List.{drop_at, append-nil}
use Rattle.ncs_code.specs.Plain.{PlainOp}
use Rattle.ncs_code.specs.Spelling.{spelling, op_size, IsOp, Spells}
use Rattle.ncs_code.specs.Reading.{op_of}
use Rattle.ncs_code.specs.Laws.{ReadAgain, SizeIsLength}
use Rattle.ncs_emit.specs.declared.jump.Jump.{Jump}
use Rattle.ncs_emit.specs.declared.line.Kept.{Kept}
use Rattle.ncs_emit.specs.declared.line.Kept.TheVariants as kept
use Rattle.ncs_emit.specs.Labelled.{Line, Instruction, JumpTo, Label, placements}
use Rattle.ncs_emit.specs.Leading.{LineFits}
use Rattle.ncs_emit.specs.Emitting.{lines_of, KeptFits, HasLabels}

-- ---- an instruction more

-- what is spelled at the beginning stays so when bytes follow
record StaysSpelled (bytes more : List ℕ) (size : ℕ) : Type 0 where
  op : op_of (bytes ++ more) ≡ op_of bytes
  spells : Spells (op_of (bytes ++ more)) size (bytes ++ more)
  rest : drop size (bytes ++ more) ≡ drop size bytes ++ more

module _ (again : ReadAgain) (sized : SizeIsLength) where
  alone : (op : PlainOp) → IsOp op → op_of (spelling op) ≡ op
  alone op is_op = ap op_of (sym (append-nil (spelling op))) ∙ again op [] is_op

  stays_spelled : (bytes more : List ℕ) (size : ℕ) → Spells (op_of bytes) size bytes → StaysSpelled bytes more size
  stays_spelled bytes more size spells =
      let text : List ℕ = spelling (op_of bytes) in
      let long : length text ≡ size = sym (spells.size ∙ sized (op_of bytes)) in
      let begun : bytes ++ more ≡ text ++ (drop size bytes ++ more) = ap (λ (b : List ℕ). b ++ more) spells.prefix ∙ append_assoc text (drop size bytes) more in
      let same : op_of (bytes ++ more) ≡ op_of bytes = ap op_of begun ∙ again (op_of bytes) (drop size bytes ++ more) spells.is_op in
      let rest : drop size (bytes ++ more) ≡ drop size bytes ++ more = ap (drop size) begun ∙ drop_at text (drop size bytes ++ more) size long in
      record {
        op = same;
        spells = subst (λ o. Spells o size (bytes ++ more)) (sym same) (record {
          is_op = spells.is_op;
          prefix = begun ∙ ap (λ (r : List ℕ). text ++ r) (sym rest);
          size = spells.size;
        });
        rest = rest;
      }

  pub lines_and_op : (labels : ℕ) (bytes : List ℕ) (all : List Kept) (op : PlainOp) (size : ℕ) → KeptFits labels bytes all → IsOp op
      → lines_of (bytes ++ spelling op) (all ++ kept.Instruction size ∷ []) ≡ lines_of bytes all ++ Instruction op ∷ []
  lines_and_op labels bytes [] op size fits is_op =
      ap (λ o. Instruction o ∷ []) (ap (λ (b : List ℕ). op_of (b ++ spelling op)) fits ∙ alone op is_op)
  lines_and_op labels bytes (kept.Instruction s ∷ all) op size fits is_op =
      let stays = stays_spelled bytes (spelling op) s fits.0 in
      ap (λ o. Instruction o ∷ lines_of (drop s (bytes ++ spelling op)) (all ++ kept.Instruction size ∷ [])) stays.op
      ∙ ap (λ (ls : List Line). Instruction (op_of bytes) ∷ ls)
      (ap (λ (b : List ℕ). lines_of b (all ++ kept.Instruction size ∷ [])) stays.rest
      ∙ lines_and_op labels (drop s bytes) all op size fits.1 is_op)
  lines_and_op labels bytes (kept.Jump kind label ∷ all) op size fits is_op = ap (λ (ls : List Line). JumpTo kind label ∷ ls) (lines_and_op labels bytes all op size fits.1 is_op)
  lines_and_op labels bytes (kept.Label label ∷ all) op size fits is_op = ap (λ (ls : List Line). Label label ∷ ls) (lines_and_op labels bytes all op size fits.1 is_op)

  last_spelled : (bytes : List ℕ) (op : PlainOp) (size : ℕ) → IsOp op → size ≡ op_size op → bytes ≡ spelling op → Spells (op_of bytes) size bytes × (drop size bytes ≡ [])
  last_spelled bytes op size is_op size_is is =
      let long : length (spelling op) ≡ size = sym (size_is ∙ sized op) in
      let none : drop size (spelling op) ≡ [] = ap (drop size) (sym (append-nil (spelling op))) ∙ drop_at (spelling op) [] size long in
      let S : List ℕ → Type 0 = λ b. Spells (op_of b) size b × (drop size b ≡ []) in
      subst S (sym is) (
        subst (λ o. Spells o size (spelling op)) (sym (alone op is_op))
            (record {
              is_op = is_op;
              prefix = sym (append-nil (spelling op))
                  ∙ ap (λ (r : List ℕ). spelling op ++ r) (sym none);
              size = size_is;
            }),
        none,
      )

  pub fits_and_op : (labels : ℕ) (bytes : List ℕ) (all : List Kept) (op : PlainOp) (size : ℕ) → KeptFits labels bytes all → IsOp op → size ≡ op_size op
      → KeptFits labels (bytes ++ spelling op) (all ++ kept.Instruction size ∷ [])
  fits_and_op labels bytes [] op size fits is_op size_is = last_spelled (bytes ++ spelling op) op size is_op size_is (ap (λ (b : List ℕ). b ++ spelling op) fits)
  fits_and_op labels bytes (kept.Instruction s ∷ all) op size fits is_op size_is =
      let stays = stays_spelled bytes (spelling op) s fits.0 in
      (stays.spells, subst (λ (b : List ℕ). KeptFits labels b (all ++ kept.Instruction size ∷ [])) (sym stays.rest) (fits_and_op labels (drop s bytes) all op size fits.1 is_op size_is))
  fits_and_op labels bytes (kept.Jump kind label ∷ all) op size fits is_op size_is = (fits.0, fits_and_op labels bytes all op size fits.1 is_op size_is)
  fits_and_op labels bytes (kept.Label label ∷ all) op size fits is_op size_is = (fits.0, fits_and_op labels bytes all op size fits.1 is_op size_is)

-- ---- a jump or a label more

pub lines_and_jump : (bytes : List ℕ) (all : List Kept) (kind : Jump) (label : ℕ) → lines_of bytes (all ++ kept.Jump kind label ∷ []) ≡ lines_of bytes all ++ JumpTo kind label ∷ []
lines_and_jump bytes [] kind label = refl
lines_and_jump bytes (kept.Instruction s ∷ all) kind label = ap (λ (ls : List Line). Instruction (op_of bytes) ∷ ls) (lines_and_jump (drop s bytes) all kind label)
lines_and_jump bytes (kept.Jump j l ∷ all) kind label = ap (λ (ls : List Line). JumpTo j l ∷ ls) (lines_and_jump bytes all kind label)
lines_and_jump bytes (kept.Label l ∷ all) kind label = ap (λ (ls : List Line). Label l ∷ ls) (lines_and_jump bytes all kind label)

pub lines_and_label : (bytes : List ℕ) (all : List Kept) (label : ℕ) → lines_of bytes (all ++ kept.Label label ∷ []) ≡ lines_of bytes all ++ Label label ∷ []
lines_and_label bytes [] label = refl
lines_and_label bytes (kept.Instruction s ∷ all) label = ap (λ (ls : List Line). Instruction (op_of bytes) ∷ ls) (lines_and_label (drop s bytes) all label)
lines_and_label bytes (kept.Jump j l ∷ all) label = ap (λ (ls : List Line). JumpTo j l ∷ ls) (lines_and_label bytes all label)
lines_and_label bytes (kept.Label l ∷ all) label = ap (λ (ls : List Line). Label l ∷ ls) (lines_and_label bytes all label)

pub fits_and_jump : (labels : ℕ) (bytes : List ℕ) (all : List Kept) (kind : Jump) (label : ℕ) → KeptFits labels bytes all → label < labels → KeptFits labels bytes (all ++ kept.Jump kind label ∷ [])
fits_and_jump labels bytes [] kind label fits made = (made, fits)
fits_and_jump labels bytes (kept.Instruction s ∷ all) kind label fits made = (fits.0, fits_and_jump labels (drop s bytes) all kind label fits.1 made)
fits_and_jump labels bytes (kept.Jump j l ∷ all) kind label fits made = (fits.0, fits_and_jump labels bytes all kind label fits.1 made)
fits_and_jump labels bytes (kept.Label l ∷ all) kind label fits made = (fits.0, fits_and_jump labels bytes all kind label fits.1 made)

pub fits_and_placed : (labels : ℕ) (bytes : List ℕ) (all : List Kept) (label : ℕ) → KeptFits labels bytes all → label < labels → KeptFits labels bytes (all ++ kept.Label label ∷ [])
fits_and_placed labels bytes [] label fits made = (made, fits)
fits_and_placed labels bytes (kept.Instruction s ∷ all) label fits made = (fits.0, fits_and_placed labels (drop s bytes) all label fits.1 made)
fits_and_placed labels bytes (kept.Jump j l ∷ all) label fits made = (fits.0, fits_and_placed labels bytes all label fits.1 made)
fits_and_placed labels bytes (kept.Label l ∷ all) label fits made = (fits.0, fits_and_placed labels bytes all label fits.1 made)

-- a label that is made and stands nowhere
pub fits_and_made : (labels : ℕ) (bytes : List ℕ) (all : List Kept) → KeptFits labels bytes all → KeptFits (labels + 1) bytes all
fits_and_made labels bytes [] fits = fits
fits_and_made labels bytes (kept.Instruction s ∷ all) fits = (fits.0, fits_and_made labels (drop s bytes) all fits.1)
fits_and_made labels bytes (kept.Jump j l ∷ all) fits = (omega (arith, fits.0), fits_and_made labels bytes all fits.1)
fits_and_made labels bytes (kept.Label l ∷ all) fits = (omega (arith, fits.0), fits_and_made labels bytes all fits.1)

-- ---- placements

pub placements_add : (before behind : List Line) (label : ℕ) → placements (before ++ behind) label ≡ placements before label + placements behind label
placements_add [] behind label = omega arith
placements_add (Instruction op ∷ before) behind label = placements_add before behind label
placements_add (JumpTo kind other ∷ before) behind label = placements_add before behind label
placements_add (Label other ∷ before) behind label = omega (arith, placements_add before behind label)

no_more : (test : Bool) (count : ℕ) → test ≡ false → count ≡ 0 → cond test 1 0 + count ≡ 0
no_more true count apart none = absurd cc
no_more false count apart none = omega (arith, none)

-- no label that was not made is placed
pub unplaced : (labels : ℕ) (lines : List Line) (label : ℕ) → AllByRecursion (LineFits labels) lines → labels ≤ label → placements lines label ≡ 0
unplaced labels [] label fit h = refl
unplaced labels (Instruction op ∷ lines) label fit h = unplaced labels lines label fit.1 h
unplaced labels (JumpTo kind l ∷ lines) label fit h = unplaced labels lines label fit.1 h
unplaced labels (Label l ∷ lines) label fit h =
    let apart : eqb l label ≡ false = ne_eqb l label (λ same. omega (arith, same, fit.0, h)) in
    no_more (eqb l label) (placements lines label) apart (unplaced labels lines label fit.1 h)

-- ---- what is known of all lines

pub fit_and : (labels : ℕ) (lines : List Line) (line : Line) → AllByRecursion (LineFits labels) lines → LineFits labels line → AllByRecursion (LineFits labels) (lines ++ line ∷ [])
fit_and labels [] line fit last = (last, tt)
fit_and labels (first ∷ lines) line fit last = (fit.0, fit_and labels lines line fit.1 last)

-- a label that is made and stands nowhere
pub fit_and_made : (labels : ℕ) (lines : List Line) → AllByRecursion (LineFits labels) lines → AllByRecursion (LineFits (labels + 1)) lines
fit_and_made labels [] fit = tt
fit_and_made labels (Instruction op ∷ lines) fit = (fit.0, fit_and_made labels lines fit.1)
fit_and_made labels (JumpTo kind l ∷ lines) fit = (omega (arith, fit.0), fit_and_made labels lines fit.1)
fit_and_made labels (Label l ∷ lines) fit = (omega (arith, fit.0), fit_and_made labels lines fit.1)

pub labels_made : (labels : ℕ) (bytes : List ℕ) (all : List Kept) → KeptFits labels bytes all → AllByRecursion (HasLabels labels) all
labels_made labels bytes [] fits = tt
labels_made labels bytes (kept.Instruction s ∷ all) fits = (tt, labels_made labels (drop s bytes) all fits.1)
labels_made labels bytes (kept.Jump j l ∷ all) fits = (fits.0, labels_made labels bytes all fits.1)
labels_made labels bytes (kept.Label l ∷ all) fits = (fits.0, labels_made labels bytes all fits.1)
