-- The parts of an emitter agree after each call.
use Rattle.std.proofs.Common.{◌≡◌, ◌<◌, ◌≤◌, ◌+◌, ◌++◌, ◌^◌, ◌∷◌, [], ℕ, suc, zero, List, length, get_or, set, sym, ◌∙◌, ap, arith, refl, subst, true, false, cond, Bool, eqb, inl, inr}
use Rattle.std.specs.List.{AllByRecursion}
use Rattle.std.proofs.lemmas.Bool.{eqb-true, eqb-false, cases_lt}
use Rattle.std.proofs.lemmas.List.{length-append, get_or_push, get_or_append_left, get_or-set_same, get_or-set_other, length-set}
use Rattle.ncs_code.specs.Plain.{PlainOp}
use Rattle.ncs_code.specs.Spelling.{spelling, op_size, Fits, HasRow, IsOp}
use Rattle.nwq_value.specs.Limits.{file_limit}
use Rattle.ncs_code.specs.File.{header_size}
use Rattle.ncs_code.specs.Laws.{ReadAgain, SizeIsLength}
use Rattle.ncs_emit.specs.declared.jump.Jump.{Jump}
use Rattle.ncs_emit.specs.declared.line.Kept.{Kept}
use Rattle.ncs_emit.specs.declared.line.Kept.TheVariants as kept
use Rattle.ncs_emit.specs.Labelled.{Line, Instruction, JumpTo, Label, placements, line_size, lines_size}
use Rattle.ncs_emit.specs.Leading.{IsPlacedOnce, LineFits}
use Rattle.ncs_emit.specs.Emitting.{count_open, placed_count, IsKept, IsWhole, KeptFits}
use Rattle.ncs_emit.proofs.Lines.{lines_and_op, fits_and_op, lines_and_jump, fits_and_jump, lines_and_label, fits_and_placed, fits_and_made, placements_add, unplaced, fit_and, fit_and_made}
use Rattle.ncs_emit.proofs.Standing.{lines_size_adds}

abbrev bytes_of : List Line → ℕ
bytes_of lines = header_size + lines_size lines

-- a file is no smaller with a line more
more_of : (lines : List Line) (line : Line) → bytes_of (lines ++ line ∷ []) ≡ bytes_of lines + line_size line
more_of lines line = omega (arith, lines_size_adds lines (line ∷ []))

count_open_more : (placed : List Bool) → count_open (placed ++ false ∷ []) ≡ count_open placed + 1
count_open_more [] = refl
count_open_more (true ∷ placed) = count_open_more placed
count_open_more (false ∷ placed) = ap (λ n. n + 1) (count_open_more placed)

-- a label that was open is so no more
count_open_set : (placed : List Bool) (label : ℕ) → label < length placed → get_or placed label false ≡ false → count_open (set placed label true) + 1 ≡ count_open placed
count_open_set [] label lt unset = absurd (omega arith)
count_open_set (true ∷ placed) zero lt unset = absurd cc
count_open_set (false ∷ placed) zero lt unset = refl
count_open_set (true ∷ placed) (suc label) lt unset = count_open_set placed label (omega arith) unset
count_open_set (false ∷ placed) (suc label) lt unset = ap (λ n. n + 1) (count_open_set placed label (omega arith) unset)

whole_room : (lines : List Line) (bytes : List ℕ) (all : List Kept) (capacity more labels missing : ℕ) → IsWhole lines bytes all capacity labels missing → capacity ≤ more
    → IsWhole lines bytes all more labels missing
whole_room lines bytes all capacity more labels missing h le = record { fits = h.fits; same = h.same; room = omega (arith, h.room, le) }

pub kept_room : (lines : List Line) (bytes : List ℕ) (all : List Kept) (capacity more : ℕ) (placed : List Bool) (missing : ℕ) → IsKept lines bytes all capacity placed missing → capacity ≤ more
    → IsKept lines bytes all more placed missing
kept_room lines bytes all capacity more placed missing h le = record {
  whole = λ few. whole_room lines bytes all capacity more (length placed) missing (h.whole few) le;
  fit = h.fit;
  table = h.table;
  left = h.left;
  few = h.few;
}

-- ---- a line that places no label

-- a line that is kept or is counted alone: `now` says what is kept then
line_more : (lines : List Line) (bytes later : List ℕ) (all more : List Kept) (capacity room : ℕ) (placed : List Bool) (missing : ℕ) (line : Line)
    → IsKept lines bytes all capacity placed missing → LineFits (length placed) line → ((label : ℕ) → placements (line ∷ []) label ≡ 0)
    → (bytes_of (lines ++ line ∷ []) ≤ file_limit → IsWhole (lines ++ line ∷ []) later more room (length placed) missing)
    → IsKept (lines ++ line ∷ []) later more room placed missing
line_more lines bytes later all more capacity room placed missing line h fit none now = record {
  whole = now;
  fit = fit_and (length placed) lines line h.fit fit;
  table = λ label lt. placements_add lines (line ∷ []) label ∙ omega (arith, h.table label lt, none label);
  left = h.left;
  few = h.few;
}

-- a line that the file is too large to keep
pub kept_counted : (lines : List Line) (bytes : List ℕ) (all : List Kept) (capacity : ℕ) (placed : List Bool) (missing : ℕ) (line : Line)
    → IsKept lines bytes all capacity placed missing → LineFits (length placed) line → ((label : ℕ) → placements (line ∷ []) label ≡ 0)
    → file_limit < bytes_of lines + line_size line → IsKept (lines ++ line ∷ []) bytes all capacity placed missing
kept_counted lines bytes all capacity placed missing line h fit none large =
    line_more lines bytes bytes all all capacity capacity placed missing line h fit none (λ few. absurd (omega (arith, few, large, more_of lines line)))

whole_op : ReadAgain → SizeIsLength → (lines : List Line) (bytes : List ℕ) (all : List Kept) (capacity room labels missing : ℕ) (op : PlainOp) (size : ℕ)
    → IsWhole lines bytes all capacity labels missing → IsOp op → size ≡ op_size op → length all + (missing + 1) ≤ room
    → IsWhole (lines ++ Instruction op ∷ []) (bytes ++ spelling op) (all ++ kept.Instruction size ∷ []) room labels missing
whole_op again sized lines bytes all capacity room labels missing op size h is_op size_is le = record {
  fits = fits_and_op again sized labels bytes all op size h.fits is_op size_is;
  same = lines_and_op again sized labels bytes all op size h.fits is_op ∙ ap (λ (ls : List Line). ls ++ Instruction op ∷ []) h.same;
  room = omega (arith, le, length-append all (kept.Instruction size ∷ []));
}

pub kept_op : ReadAgain → SizeIsLength → (lines : List Line) (bytes : List ℕ) (all : List Kept) (capacity room : ℕ) (placed : List Bool) (missing : ℕ) (op : PlainOp) (size : ℕ)
    → IsKept lines bytes all capacity placed missing → HasRow op → Fits op → size ≡ op_size op → bytes_of lines + op_size op ≤ file_limit → length all + (missing + 1) ≤ room
    → IsKept (lines ++ Instruction op ∷ []) (bytes ++ spelling op) (all ++ kept.Instruction size ∷ []) room placed missing
kept_op again sized lines bytes all capacity room placed missing op size h row fit size_is few le =
    let is_op : IsOp op = record { row = row; fits = fit } in
    line_more lines bytes (bytes ++ spelling op) all (all ++ kept.Instruction size ∷ []) capacity room placed missing (Instruction op) h is_op (λ label. refl)
    (λ _. whole_op again sized lines bytes all capacity room (length placed) missing op size (h.whole (omega (arith, few))) is_op size_is le)

pub kept_jump : (lines : List Line) (bytes : List ℕ) (all : List Kept) (capacity room : ℕ) (placed : List Bool) (missing : ℕ) (kind : Jump) (label : ℕ)
    → IsKept lines bytes all capacity placed missing → label < length placed → bytes_of lines + 6 ≤ file_limit → length all + (missing + 1) ≤ room
    → IsKept (lines ++ JumpTo kind label ∷ []) bytes (all ++ kept.Jump kind label ∷ []) room placed missing
kept_jump lines bytes all capacity room placed missing kind label h made few le =
    let was : IsWhole lines bytes all capacity (length placed) missing = h.whole (omega (arith, few)) in
    line_more lines bytes bytes all (all ++ kept.Jump kind label ∷ []) capacity room placed missing (JumpTo kind label) h made (λ l. refl) (λ _. record {
      fits = fits_and_jump (length placed) bytes all kind label was.fits made;
      same = lines_and_jump bytes all kind label ∙ ap (λ (ls : List Line). ls ++ JumpTo kind label ∷ []) was.same;
      room = omega (arith, le, length-append all (kept.Jump kind label ∷ []));
    })

-- ---- a label that is made

pub kept_made : (lines : List Line) (bytes : List ℕ) (all : List Kept) (capacity room : ℕ) (placed : List Bool) (missing : ℕ) → IsKept lines bytes all capacity placed missing
    → length placed + 1 < 2 ^ 32 → (bytes_of lines ≤ file_limit → length all + (missing + 1) ≤ room) → IsKept lines bytes all room (placed ++ false ∷ []) (missing + 1)
kept_made lines bytes all capacity room placed missing h few le =
    let len : length (placed ++ false ∷ []) ≡ length placed + 1 = length-append placed (false ∷ []) in
    record {
      whole = λ small. let was : IsWhole lines bytes all capacity (length placed) missing = h.whole small in record {
        fits = subst (λ n. KeptFits n bytes all) (sym len) (fits_and_made (length placed) bytes all was.fits);
        same = was.same;
        room = le small;
      };
      fit = subst (λ n. AllByRecursion (LineFits n) lines) (sym len) (fit_and_made (length placed) lines h.fit);
      table = λ label lt. elim (cases_lt label (length placed)) [
        | inl below ↦ h.table label below ∙ ap placed_count (sym (get_or_append_left placed (false ∷ []) false label below))
        | inr above ↦
            let last : length placed ≡ label = omega (arith, lt, len, above) in
            unplaced (length placed) lines label h.fit (omega arith) ∙ ap placed_count (sym (get_or_push placed false false label last))
      ];
      left = ap (λ n. n + 1) h.left ∙ sym (count_open_more placed);
      few = omega (arith, len, few);
    }

-- a label that is made is placed nowhere
pub made_unplaced : (lines : List Line) (bytes : List ℕ) (all : List Kept) (capacity : ℕ) (placed : List Bool)
    (missing label : ℕ) → IsKept lines bytes all capacity placed missing → length placed ≤ label
    → placements lines label ≡ 0
made_unplaced lines bytes all capacity placed missing label h above = unplaced (length placed) lines label h.fit above

-- ---- a label that is placed

-- a count of no placements is that of an open label
open_label : (b : Bool) → placed_count b ≡ 0 → b ≡ false
open_label true h = absurd (omega arith)
open_label false h = refl

was_open : (lines : List Line) (placed : List Bool) (label : ℕ) → placements lines label ≡ placed_count (get_or placed label false) → placements lines label ≡ 0 → get_or placed label false ≡ false
was_open lines placed label is none = open_label (get_or placed label false) (sym is ∙ none)

placed_case : (lines : List Line) (placed : List Bool) (label l : ℕ) → label < length placed → placements lines label ≡ 0
    → placements lines l ≡ placed_count (get_or placed l false) → (test : Bool) → eqb label l ≡ test
    → placements lines l + (cond test 1 0 + 0) ≡ placed_count (get_or (set placed label true) l false)
placed_case lines placed label l made none is true test =
    let same : label ≡ l = eqb-true label l test in
    let none' : placements lines l ≡ 0 = ap (placements lines) (sym same) ∙ none in
    let now : get_or (set placed label true) l false ≡ true = ap (λ k. get_or (set placed label true) k false) (sym same) ∙ get_or-set_same placed label true false made in
    omega (arith, none', ap placed_count now)
placed_case lines placed label l made none is false test =
    let now : get_or (set placed label true) l false ≡ get_or placed l false = get_or-set_other placed label l true false (λ same. eqb-false label l test (sym same)) in
    omega (arith, is, ap placed_count now)

-- a label that is kept or is counted alone: `now` says what is kept then
label_more : (lines : List Line) (bytes : List ℕ) (all more : List Kept) (capacity room : ℕ) (placed : List Bool) (missing left label : ℕ)
    → IsKept lines bytes all capacity placed missing → label < length placed → placements lines label ≡ 0 → left + 1 ≡ missing
    → (bytes_of lines ≤ file_limit → IsWhole (lines ++ Label label ∷ []) bytes more room (length placed) left)
    → IsKept (lines ++ Label label ∷ []) bytes more room (set placed label true) left
label_more lines bytes all more capacity room placed missing left label h made none less now =
    let len : length (set placed label true) ≡ length placed = length-set placed label true in
    let was : get_or placed label false ≡ false = was_open lines placed label (h.table label made) none in
    record {
      whole = λ small. subst (λ n. IsWhole (lines ++ Label label ∷ []) bytes more room n left) (sym len) (now (omega (arith, small, more_of lines (Label label))));
      fit = subst (λ n. AllByRecursion (LineFits n) (lines ++ Label label ∷ [])) (sym len) (fit_and (length placed) lines (Label label) h.fit made);
      table = λ l lt. placements_add lines (Label label ∷ []) l ∙ placed_case lines placed label l made none (h.table l (omega (arith, len, lt))) (eqb label l) refl;
      left = omega (arith, h.left, less, count_open_set placed label made was);
      few = omega (arith, len, h.few);
    }

pub kept_placed : (lines : List Line) (bytes : List ℕ) (all : List Kept) (capacity room : ℕ) (placed : List Bool) (missing left label : ℕ)
    → IsKept lines bytes all capacity placed missing → label < length placed → placements lines label ≡ 0 → left + 1 ≡ missing → capacity ≤ room
    → bytes_of lines ≤ file_limit → IsKept (lines ++ Label label ∷ []) bytes (all ++ kept.Label label ∷ []) room (set placed label true) left
kept_placed lines bytes all capacity room placed missing left label h made none less le few =
    let was : IsWhole lines bytes all capacity (length placed) missing = h.whole few in
    label_more lines bytes all (all ++ kept.Label label ∷ []) capacity room placed missing left label h made none less (λ _. record {
      fits = fits_and_placed (length placed) bytes all label was.fits made;
      same = lines_and_label bytes all label ∙ ap (λ (ls : List Line). ls ++ Label label ∷ []) was.same;
      room = omega (arith, was.room, less, le, length-append all (kept.Label label ∷ []));
    })

pub counted_placed : (lines : List Line) (bytes : List ℕ) (all : List Kept) (capacity : ℕ) (placed : List Bool) (missing left label : ℕ)
    → IsKept lines bytes all capacity placed missing → label < length placed → placements lines label ≡ 0 → left + 1 ≡ missing
    → file_limit < bytes_of lines → IsKept (lines ++ Label label ∷ []) bytes all capacity (set placed label true) left
counted_placed lines bytes all capacity placed missing left label h made none less large =
    label_more lines bytes all all capacity capacity placed missing left label h made none less (λ small. absurd (omega (arith, small, large)))

-- a label that is open is one of those that are counted
pub missing_some : (lines : List Line) (bytes : List ℕ) (all : List Kept) (capacity : ℕ) (placed : List Bool) (missing label : ℕ) → IsKept lines bytes all capacity placed missing
    → label < length placed → placements lines label ≡ 0 → 1 ≤ missing
missing_some lines bytes all capacity placed missing label h made none = omega (arith, h.left, count_open_set placed label made (was_open lines placed label (h.table label made) none))

count_open_few : (placed : List Bool) → count_open placed ≤ length placed
count_open_few [] = omega arith
count_open_few (true ∷ placed) = omega (arith, count_open_few placed)
count_open_few (false ∷ placed) = omega (arith, count_open_few placed)

pub missing_few : (lines : List Line) (bytes : List ℕ) (all : List Kept) (capacity : ℕ) (placed : List Bool) (missing : ℕ) → IsKept lines bytes all capacity placed missing → missing ≤ length placed
missing_few lines bytes all capacity placed missing h = omega (arith, h.left, count_open_few placed)

-- there is room for a label that is open
pub label_fits : (lines : List Line) (bytes : List ℕ) (all : List Kept) (capacity : ℕ) (placed : List Bool) (missing label : ℕ) → IsKept lines bytes all capacity placed missing
    → bytes_of lines ≤ file_limit → label < length placed → placements lines label ≡ 0 → length all < capacity
label_fits lines bytes all capacity placed missing label h few made none =
    omega (arith, (h.whole few).room, missing_some lines bytes all capacity placed missing label h made none)

-- ---- no label is placed twice

count_once : (b : Bool) → placed_count b ≤ 1
count_once true = omega arith
count_once false = omega arith

pub placed_once : (lines : List Line) (bytes : List ℕ) (all : List Kept) (capacity : ℕ) (placed : List Bool) (missing : ℕ) → IsKept lines bytes all capacity placed missing → IsPlacedOnce lines
placed_once lines bytes all capacity placed missing h label =
    elim (cases_lt label (length placed)) [
      | inl below ↦ omega (arith, h.table label below, count_once (get_or placed label false))
      | inr above ↦ omega (arith, unplaced (length placed) lines label h.fit above)
    ]

-- what each call's proof uses
pub ruleset label_lemmas = (kept_made, kept_room, missing_few)

pub ruleset place_lemmas = (kept_placed, counted_placed, missing_some)

pub ruleset op_lemmas = (kept_op, kept_counted, kept_room)

pub ruleset jump_lemmas = (kept_jump, kept_counted, kept_room)
