-- The fields of a line.
use Rattle.std.proofs.Common.{◌≡◌, ◌≢◌, ℕ, zero, suc, ◌+◌, ◌-◌, ◌<◌, ◌≤◌, ◌==◌, min, Bool, true, false, cond, List, [], ◌∷◌, length, drop, get_or, Result, Ok, Err, OnOk, refl, sym, ap, ◌∙◌, subst}
use Rattle.std.proofs.Common.{arith}
use Rattle.std.proofs.lemmas.List.{drop_more, drop_all}
use Rattle.std.proofs.lemmas.Bool.Decides.{nat_tests}
use Rattle.nwq_text.specs.Cuts.{IsFree}
use Rattle.plan_text.specs.Fields.{parted}
use Rattle.message_text.specs.Shown.{Appends}
use Rattle.message_sentences.specs.Form.{ShowsNoteAt}
use Rattle.message_notes.specs.declared.lacks.Lack.{Lack}
use Rattle.message_notes.specs.declared.lacks.Lack.TheVariants as lack
use Rattle.message_notes.specs.Under.{field_place, IsUnder, ShowsLack}

equal : (b : ℕ) → (b == b) ≡ true
equal b = grind (arith, nat_tests)

other : (b at : ℕ) → b ≢ at → (b == at) ≡ false
other b at h = grind (arith, nat_tests)

drop_one : (n : ℕ) (x : ℕ) (xs : List ℕ) → drop (1 + n) (x ∷ xs) ≡ drop n xs
drop_one n x xs = let on : 1 + n ≡ suc n = omega arith in ap (λ k. drop k (x ∷ xs)) on

-- a field is passed
past : (n : ℕ) (field rest : List ℕ) → IsFree 32 field
    → drop (field_place (suc n) (parted field rest)) (parted field rest) ≡ drop (field_place n rest) rest
past n [] rest free =
    ap (λ k. drop (1 + k) (32 ∷ rest)) (ap (λ t. cond t (field_place n rest) (field_place (suc n) rest)) (equal 32))
    ∙ drop_one (field_place n rest) 32 rest
past n (b ∷ bs) rest free =
    ap (λ k. drop (1 + k) (b ∷ parted bs rest))
    (ap (λ t. cond t (field_place n (parted bs rest)) (field_place (suc n) (parted bs rest))) (other b 32 free.0))
    ∙ drop_one (field_place (suc n) (parted bs rest)) b (parted bs rest) ∙ past n bs rest free.1

-- what asks in vain by its field's number: after two fields, three or four
under_two : (word due rest : List ℕ) → IsFree 32 word → IsFree 32 due
    → drop (field_place 2 (parted word (parted due rest))) (parted word (parted due rest)) ≡ rest
under_two word due rest w d = past 1 word (parted due rest) w ∙ past 0 due rest d

under_three : (word due nth rest : List ℕ) → IsFree 32 word → IsFree 32 due → IsFree 32 nth
    → drop (field_place 3 (parted word (parted due (parted nth rest)))) (parted word (parted due (parted nth rest))) ≡ rest
under_three word due nth rest w d n = past 2 word (parted due (parted nth rest)) w ∙ under_two due nth rest d n

under_four : (word due nth label rest : List ℕ) → IsFree 32 word → IsFree 32 due → IsFree 32 nth → IsFree 32 label
    → drop (field_place 4 (parted word (parted due (parted nth (parted label rest))))) (parted word (parted due (parted nth (parted label rest)))) ≡ rest
under_four word due nth label rest w d n l =
    past 3 word (parted due (parted nth (parted label rest))) w ∙ under_three due nth label rest d n l

tag_at : (line : List ℕ) (at : ℕ) → at ≡ field_place 4 line → IsUnder lack.Tag line at
tag_at line at is word due nth label tag w d n l spells =
    ap (λ k. drop k line) is ∙ ap (λ xs. drop (field_place 4 xs) xs) spells ∙ under_four word due nth label tag w d n l

number_at : (line : List ℕ) (at : ℕ) → at ≡ field_place 2 line → IsUnder lack.Number line at
number_at line at is word due nth label tag w d n l spells =
    ap (λ k. drop k line) is ∙ ap (λ xs. drop (field_place 2 xs) xs) spells ∙ under_two word due (parted nth (parted label tag)) w d

label_at : (line : List ℕ) (at : ℕ) → at ≡ field_place 3 line → IsUnder lack.Label line at
label_at line at is word due nth label tag w d n l spells =
    ap (λ k. drop k line) is ∙ ap (λ xs. drop (field_place 3 xs) xs) spells ∙ under_three word due nth (parted label tag) w d n

pub tag_under : (what : Lack) (line : List ℕ) (at : ℕ) → what ≡ lack.Tag → at ≡ field_place 4 line → IsUnder what line at
tag_under what line at same is = subst (λ w. IsUnder w line at) (sym same) (tag_at line at is)

pub number_under : (what : Lack) (line : List ℕ) (at : ℕ) → what ≡ lack.Number → at ≡ field_place 2 line → IsUnder what line at
number_under what line at same is = subst (λ w. IsUnder w line at) (sym same) (number_at line at is)

pub label_under : (what : Lack) (line : List ℕ) (at : ℕ) → what ≡ lack.Label → at ≡ field_place 3 line → IsUnder what line at
label_under what line at same is = subst (λ w. IsUnder w line at) (sym same) (label_at line at is)

-- ---- the walk over a line: what is passed and what is left come to the place

suc_of : (field passed n : ℕ) → field - passed ≡ suc n → field - (passed + 1) ≡ n
suc_of field passed n is = omega (arith, is)

by_left : (k : ℕ) (b : ℕ) (bs : List ℕ) (t : Bool) → (b == 32) ≡ t → 0 < k
    → field_place k (b ∷ bs) ≡ 1 + cond t (field_place (k - 1) bs) (field_place k bs)
by_left zero b bs t is some = absurd (omega arith)
by_left (suc n) b bs t is some =
    let less : n ≡ suc n - 1 = omega arith in
    ap (λ s. 1 + cond s (field_place n bs) (field_place (suc n) bs)) is ∙ ap (λ m. 1 + cond t (field_place m bs) (field_place (suc n) bs)) less

pub blank_passed : (line : List ℕ) (i field passed now b : ℕ) → i < length line → b ≡ get_or line i 0 → passed < field → b ≡ 32
    → now ≡ passed + 1 → i + field_place (field - passed) (drop i line) ≡ field_place field line
    → (i + 1) + field_place (field - now) (drop (i + 1) line) ≡ field_place field line
blank_passed line i field passed now b inside is less blank more so =
    let test : (b == 32) ≡ true = grind (arith, nat_tests) in
    let some : 0 < field - passed = omega (arith, less) in
    let here : field_place (field - passed) (drop i line) ≡ 1 + field_place (field - passed - 1) (drop (i + 1) line)
    = ap (field_place (field - passed)) (drop_more line i 0 inside ∙ ap (λ x. x ∷ drop (i + 1) line) (sym is))
    ∙ by_left (field - passed) b (drop (i + 1) line) true test some in
    let left : field - now ≡ field - passed - 1 = omega (arith, more) in
    let same : field_place (field - now) (drop (i + 1) line) ≡ field_place (field - passed - 1) (drop (i + 1) line)
    = ap (λ k. field_place k (drop (i + 1) line)) left in
    omega (arith, here, same, so)

pub other_passed : (line : List ℕ) (i field passed b : ℕ) → i < length line → b ≡ get_or line i 0 → passed < field → b ≢ 32
    → i + field_place (field - passed) (drop i line) ≡ field_place field line
    → (i + 1) + field_place (field - passed) (drop (i + 1) line) ≡ field_place field line
other_passed line i field passed b inside is less unlike so =
    let some : 0 < field - passed = omega (arith, less) in
    let here : field_place (field - passed) (drop i line) ≡ 1 + field_place (field - passed) (drop (i + 1) line)
    = ap (field_place (field - passed)) (drop_more line i 0 inside ∙ ap (λ x. x ∷ drop (i + 1) line) (sym is))
    ∙ by_left (field - passed) b (drop (i + 1) line) false (other b 32 unlike) some in
    omega (arith, here, so)

pub field_here : (line : List ℕ) (i field passed : ℕ) → passed ≡ field → i + field_place (field - passed) (drop i line) ≡ field_place field line
    → i ≡ field_place field line
field_here line i field passed all so =
    let none : field - passed ≡ 0 = omega (arith, all) in
    let here : field_place (field - passed) (drop i line) ≡ 0 = ap (λ k. field_place k (drop i line)) none in
    omega (arith, here, so)

nothing : (k : ℕ) → field_place k [] ≡ 0
nothing zero = refl
nothing (suc n) = refl

pub field_end : (line : List ℕ) (i field passed : ℕ) → i ≡ length line → i + field_place (field - passed) (drop i line) ≡ field_place field line
    → length line ≡ field_place field line
field_end line i field passed end so =
    let past_it : length line ≤ i = omega (arith, end) in
    let here : field_place (field - passed) (drop i line) ≡ 0 = ap (field_place (field - passed)) (drop_all i line past_it) ∙ nothing (field - passed) in
    omega (arith, here, so, end)

pub lack_shown : {T E : Type 0} (result : Result T E) (name bytes : List ℕ) (place : ℕ) (line : List ℕ) (what : Lack) (at spot : ℕ)
    (sentence piece before after : List ℕ) → IsUnder what line at → spot ≡ min (place + at) (length bytes)
    → OnOk result (Appends (ShowsNoteAt name bytes spot sentence piece) before after)
    → OnOk result (Appends (ShowsLack name bytes place line what) before after)
lack_shown (Err e) name bytes place line what at spot sentence piece before after under is shown = tt
lack_shown (Ok x) name bytes place line what at spot sentence piece before after under is shown =
    record {
      text = shown.text;
      is =
          record {
            at = at;
            under = under;
            sentence = sentence;
            piece = piece;
            note = subst (λ s. ShowsNoteAt name bytes s sentence piece shown.text) is shown.is;
          };
      appended = shown.appended;
    }
