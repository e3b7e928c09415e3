-- Writing the lines out.
use Rattle.std.proofs.Common.{◌≡◌, ◌<◌, ◌≤◌, ◌+◌, ◌*◌, ◌++◌, ◌∷◌, [], ℕ, ℤ, List, length, get_or, take, drop, sym, ◌∙◌, ap, arith, refl, subst, append_assoc, Option, None}
use Rattle.std.specs.Prelude.{unwrap_or}
use Rattle.std.proofs.lemmas.List.{length-append, take_at, drop_more}
use Rattle.ncs_code.specs.Plain.{PlainOp}
use Rattle.ncs_code.specs.Spelling.{spelling, op_size, four}
use Rattle.ncs_code.specs.Reading.{op_of}
use Rattle.ncs_code.specs.File.{magic, spellings, ops_size, file_length, file_bytes, distance}
use Rattle.ncs_code.specs.Laws.{SizeIsLength}
use Rattle.ncs_emit.specs.declared.jump.Jump.{Jump}
use Rattle.ncs_emit.specs.declared.jump.Jump.TheVariants.{Jmp, Jsr, Jz, Jnz}
use Rattle.ncs_emit.specs.declared.line.Kept.{Kept}
use Rattle.ncs_emit.specs.declared.line.Kept.TheVariants as kept
use Rattle.ncs_emit.specs.Labelled.{Line, jump_over, ops_from, place_of_label, program}
use Rattle.ncs_emit.specs.Emitting.{lines_of, KeptFits, kept_place, kept_total}
use Rattle.ncs_emit.proofs.Placing.{kept_place_is, kept_place_below}

pub size_jump : (kind : Jump) (offset : ℤ) → op_size (jump_over kind offset) ≡ 6
size_jump Jmp offset = refl
size_jump Jsr offset = refl
size_jump Jz offset = refl
size_jump Jnz offset = refl

-- what is written, and then what is left, gives the whole
pub record PutSoFar (whole : List ℕ) (lines : List Line) (labels size : ℕ) (file rest : List ℕ) (left : List Kept) : Type 0 where
  pub same : file ++ spellings (ops_from (place_of_label lines) (length file) (lines_of rest left)) ≡ whole
  pub fits : KeptFits labels rest left
  pub total : length file + kept_total left ≡ size

pub put_begins : (file bytes : List ℕ) (all : List Kept) (labels size : ℕ) → length file ≡ 13 → KeptFits labels bytes all → size ≡ 13 + kept_total all
    → PutSoFar (file ++ spellings (program (lines_of bytes all))) (lines_of bytes all) labels size file bytes all
unfolding program
put_begins file bytes all labels size begun fits is = record {
  same = ap (λ n. file ++ spellings (ops_from (place_of_label (lines_of bytes all)) n (lines_of bytes all))) begun;
  fits = fits;
  total = omega (arith, begun, is);
}

pub put_op : SizeIsLength → (whole : List ℕ) (lines : List Line) (labels size : ℕ) (file rest : List ℕ) (left others : List Kept) (count : ℕ) → PutSoFar whole lines labels size file rest left
    → left ≡ kept.Instruction count ∷ others → PutSoFar whole lines labels size (file ++ take count rest) (drop count rest) others
put_op sized whole lines labels size file rest left others count h is =
    let fits = subst (KeptFits labels rest) is h.fits in
    let same = subst (λ ks. file ++ spellings (ops_from (place_of_label lines) (length file) (lines_of rest ks)) ≡ whole) is h.same in
    let text : List ℕ = spelling (op_of rest) in
    let long : length text ≡ count = sym (fits.0.size ∙ sized (op_of rest)) in
    let taken : take count rest ≡ text = ap (take count) fits.0.prefix ∙ take_at text (drop count rest) count long in
    let place : length (file ++ text) ≡ length file + op_size (op_of rest) = omega (arith, length-append file text, long, fits.0.size) in
    let tail : ℕ → List ℕ = λ n. spellings (ops_from (place_of_label lines) n (lines_of (drop count rest) others)) in
    record {
      same = ap (λ (t : List ℕ). (file ++ t) ++ spellings (ops_from (place_of_label lines) (length (file ++ t)) (lines_of (drop count rest) others))) taken
          ∙ ap (λ n. (file ++ text) ++ tail n) place ∙ append_assoc file text (tail (length file + op_size (op_of rest))) ∙ same;
      fits = fits.1;
      total = omega (arith, ap length taken, length-append file (take count rest), long, h.total, ap kept_total is);
    }

pub put_jump_line : SizeIsLength
    → (whole : List ℕ) (lines : List Line) (labels size : ℕ) (file rest : List ℕ) (left others : List Kept)
    (kind : Jump) (label place : ℕ) → PutSoFar whole lines labels size file rest left
    → left ≡ kept.Jump kind label ∷ others → place ≡ place_of_label lines label → PutSoFar whole lines labels size (file ++ spelling (jump_over kind (distance (length file) place))) rest others
put_jump_line sized whole lines labels size file rest left others kind label place h is at =
    let fits = subst (KeptFits labels rest) is h.fits in
    let same = subst (λ ks. file ++ spellings (ops_from (place_of_label lines) (length file) (lines_of rest ks)) ≡ whole) is h.same in
    let op : PlainOp = jump_over kind (distance (length file) (place_of_label lines label)) in
    let long : length (spelling op) ≡ 6 = sym (sized op) ∙ size_jump kind _ in
    let count : length (file ++ spelling op) ≡ length file + 6 = omega (arith, length-append file (spelling op), long) in
    let tail : ℕ → List ℕ = λ n. spellings (ops_from (place_of_label lines) n (lines_of rest others)) in
    let P : ℕ → Type 0 = λ p. PutSoFar whole lines labels size (file ++ spelling (jump_over kind (distance (length file) p))) rest others in
    subst P (sym at) (record {
      same = ap (λ n. (file ++ spelling op) ++ tail n) count ∙ append_assoc file (spelling op) (tail (length file + 6)) ∙ same;
      fits = fits.1;
      total = omega (arith, count, h.total, ap kept_total is);
    })

pub put_label : (whole : List ℕ) (lines : List Line) (labels size : ℕ) (file rest : List ℕ) (left others : List Kept) (label : ℕ) → PutSoFar whole lines labels size file rest left
    → left ≡ kept.Label label ∷ others → PutSoFar whole lines labels size file rest others
put_label whole lines labels size file rest left others label h is =
    let fits = subst (KeptFits labels rest) is h.fits in
    record {
      same = subst (λ ks. file ++ spellings (ops_from (place_of_label lines) (length file) (lines_of rest ks)) ≡ whole) is h.same;
      fits = fits.1;
      total = omega (arith, h.total, ap kept_total is);
    }

pub place_known : (labels size : ℕ) (bytes : List ℕ) (all : List Kept) (places : List (Option ℕ)) (label : ℕ) → KeptFits labels bytes all
    → ((l : ℕ) → unwrap_or (get_or places l None) size ≡ kept_place 13 all l) → unwrap_or (get_or places label None) size ≡ place_of_label (lines_of bytes all) label
place_known labels size bytes all places label fits placed = placed label ∙ kept_place_is labels bytes all 13 label fits

pub place_inside : (size : ℕ) (all : List Kept) (places : List (Option ℕ)) (label : ℕ) → size ≡ 13 + kept_total all
    → ((l : ℕ) → unwrap_or (get_or places l None) size ≡ kept_place 13 all l) → unwrap_or (get_or places label None) size ≤ size
place_inside size all places label whole placed = omega (arith, placed label, kept_place_below all 13 label, whole)

-- the next line in view
pub met : (all : List Kept) (i : ℕ) (line other : Kept) → get_or all i other ≡ line → i < length all → drop i all ≡ line ∷ drop (i + 1) all
met all i line other is lt = drop_more all i other lt ∙ ap (λ k. k ∷ drop (i + 1) all) is

pub moved : (whole : List ℕ) (lines : List Line) (labels size : ℕ) (file later rest other : List ℕ) (left : List Kept) → PutSoFar whole lines labels size file rest left
    → later ≡ file → other ≡ rest → PutSoFar whole lines labels size later other left
moved whole lines labels size file later rest other left h is same =
    let F : List ℕ → Type 0 = λ f. PutSoFar whole lines labels size f other left in
    let R : List ℕ → Type 0 = λ r. PutSoFar whole lines labels size file r left in
    subst F (sym is) (subst R (sym same) h)

-- ---- sizes

pub ops_size_is : (places : ℕ → ℕ) (labels at : ℕ) (bytes : List ℕ) (all : List Kept) → KeptFits labels bytes all → ops_size (ops_from places at (lines_of bytes all)) ≡ kept_total all
ops_size_is places labels at bytes [] fits = refl
ops_size_is places labels at bytes (kept.Instruction size ∷ all) fits =
    omega (arith, ops_size_is places labels (at + op_size (op_of bytes)) (drop size bytes) all fits.1, fits.0.size)
ops_size_is places labels at bytes (kept.Jump kind label ∷ all) fits =
    omega (arith, size_jump kind (distance at (places label)), ops_size_is places labels (at + 6) bytes all fits.1)
ops_size_is places labels at bytes (kept.Label label ∷ all) fits = omega (arith, ops_size_is places labels at bytes all fits.1)

pub total_few : SizeIsLength → (labels : ℕ) (bytes : List ℕ) (all : List Kept) → KeptFits labels bytes all → kept_total all ≤ length bytes + 6 * length all
total_few sized labels bytes [] fits = omega arith
total_few sized labels bytes (kept.Instruction size ∷ all) fits =
    omega (
      arith,
      total_few sized labels (drop size bytes) all fits.1,
      ap length fits.0.prefix,
      length-append (spelling (op_of bytes)) (drop size bytes),
      fits.0.size,
      sized (op_of bytes),
    )
total_few sized labels bytes (kept.Jump kind label ∷ all) fits = omega (arith, total_few sized labels bytes all fits.1)
total_few sized labels bytes (kept.Label label ∷ all) fits = omega (arith, total_few sized labels bytes all fits.1)

pub length_program : (labels : ℕ) (bytes : List ℕ) (all : List Kept) (lines : List Line) → KeptFits labels bytes all → lines_of bytes all ≡ lines → 13 + kept_total all ≡ file_length (program lines)
unfolding program
length_program labels bytes all lines fits is =
    let here : 13 + kept_total all ≡ file_length (program (lines_of bytes all)) = omega (arith, ops_size_is (place_of_label (lines_of bytes all)) labels 13 bytes all fits) in
    here ∙ ap (λ ls. file_length (program ls)) is

-- the header and the lines are the file
pub file_is : (file header : List ℕ) (size : ℕ) (lines view : List Line) → file ≡ header ++ spellings (program lines) → header ≡ magic ++ four size
    → lines ≡ view → size ≡ file_length (program view) → file ≡ file_bytes (program view)
file_is file header size lines view is header_is same size_is =
    is ∙ ap (λ (h : List ℕ). h ++ spellings (program lines)) (header_is ∙ ap (λ n. magic ++ four n) size_is)
    ∙ append_assoc magic (four (file_length (program view))) (spellings (program lines))
    ∙ ap (λ ls. magic ++ (four (file_length (program view)) ++ spellings (program ls))) same
