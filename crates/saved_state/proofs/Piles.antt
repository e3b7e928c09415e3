-- Two lists of cells in a row: the lower ones, and those on top.
use Rattle.std.proofs.Common.{◌≡◌, ◌<◌, ◌≤◌, ◌+◌, ◌-◌, ◌++◌, ◌∷◌, [], ℕ, zero, suc, List, length, take, drop, set, slice_get, get_or, Some, refl, sym, ap, ◌∙◌, arith, append_assoc}
use Rattle.std.proofs.lemmas.List.{length-append, length-drop, append-nil, drop_at, drop-drop, drop-take, take-append-le, take_at, set-append_left, set-append_right, length-take-le, take_all}
use Rattle.std.proofs.lemmas.List.{take_more, take-take}
use Rattle.std.proofs.lemmas.Option.{slice_get-get_or}
use Rattle.std.proofs.Math.Seq.{take-append-add}
use Rattle.saved_state.proofs.Lists.{get_dropped, get_front, get_behind}
use Rattle.saved_state.specs.declared.cell.Cell.{Cell}

pub size_is : (low top : List Cell) → length (low ++ top) ≡ length low + length top
size_is low top = length-append low top

pub pushed_is : (low top : List Cell) (cell : Cell) → low ++ (top ++ cell ∷ []) ≡ (low ++ top) ++ cell ∷ []
pushed_is low top cell = sym (append_assoc low top (cell ∷ []))

pub got_top : (low top : List Cell) (place : ℕ) → length low ≤ place → slice_get (low ++ top) place ≡ slice_get top (place - length low)
got_top low top place over =
    let whole : place ≡ length low + (place - length low) = omega (arith, over) in
    ap (slice_get (low ++ top)) whole ∙ get_behind low top (place - length low)

pub got_item : (low top : List Cell) (place k : ℕ) (cell : Cell) → length low ≤ place → k ≡ place - length low
    → k < length top → cell ≡ get_or top k cell → slice_get (low ++ top) place ≡ Some cell
got_item low top place k cell over at less is =
    got_top low top place over ∙ ap (slice_get top) (sym at) ∙ slice_get-get_or top k cell less ∙ ap Some (sym is)

pub got_low : (low top : List Cell) (place : ℕ) → place < length low → slice_get (low ++ top) place ≡ slice_get low place
got_low low top place less = get_front low top place less

pub set_top : (low top : List Cell) (place : ℕ) (cell : Cell) → length low ≤ place
    → set (low ++ top) place cell ≡ low ++ set top (place - length low) cell
set_top low top place cell over = set-append_right low top (length low) place cell refl over

pub set_low : (low top : List Cell) (place : ℕ) (cell : Cell) → place < length low → set (low ++ top) place cell ≡ set low place cell ++ top
set_low low top place cell less = set-append_left low top place cell less

pub kept_top : (low top : List Cell) (n : ℕ) → length low ≤ n → take n (low ++ top) ≡ low ++ take (n - length low) top
kept_top low top n over =
    let whole : n ≡ length low + (n - length low) = omega (arith, over) in
    ap (λ (k : ℕ). take k (low ++ top)) whole ∙ take-append-add low top (n - length low)

pub kept_low : (low top : List Cell) (n : ℕ) → n ≤ length low → take n (low ++ top) ≡ take n low ++ []
kept_low low top n less = take-append-le n low top less ∙ sym (append-nil (take n low))

-- the lower ones by themselves
pub alone : (low : List Cell) → low ++ [] ≡ low
alone low = append-nil low

pub copied_back : (old put now : List Cell) (n : ℕ) → take (length old) now ≡ old → n ≡ length old → take n now ≡ old
copied_back old put now n kept is = ap (λ (k : ℕ). take k now) is ∙ kept

pub one_more : (old top now : List Cell) (k : ℕ) (cell : Cell) → now ≡ old ++ take k top → k < length top → cell ≡ get_or top k cell
    → now ++ cell ∷ [] ≡ old ++ take (k + 1) top
one_more old top now k cell is less here =
    ap (λ (t : List Cell). t ++ cell ∷ []) is ∙ append_assoc old (take k top) (cell ∷ [])
    ∙ ap (λ (t : List Cell). old ++ t)
    (ap (λ (c : Cell). take k top ++ c ∷ []) here ∙ sym (take_more top k cell less))

pub front : (old more : List Cell) → take (length old) (old ++ more) ≡ old
front old more = take_at old more (length old) refl

-- cells that are moved on top
pub moved_is : (low top cells : List Cell) → low ++ (top ++ cells) ≡ (low ++ top) ++ cells
moved_is low top cells = sym (append_assoc low top cells)

-- the first cells, which are left where the last ones go one by one
pub one_less : (old top now : List Cell) (n left : ℕ) → top ≡ take (n + left) old → n + left ≤ length old → 0 < left → now ≡ take (length top - 1) top
    → now ≡ take (n + (left - 1)) old
one_less old top now n left is inside some next =
    let size : length top ≡ n + left = ap length is ∙ length-take-le (n + left) old inside in
    let less : length top - 1 ≡ n + (left - 1) = omega (arith, size, some) in
    next ∙ ap (λ (k : ℕ). take k top) less ∙ ap (take (n + (left - 1))) is ∙ take-take (n + (left - 1)) (n + left) old (omega (arith, some))

pub all_left : (old : List Cell) (n left : ℕ) → n ≤ length old → left ≡ length old - n → old ≡ take (n + left) old
all_left old n left inside is = sym (take_all (n + left) old (omega (arith, inside, is)))

pub none_left : (old top : List Cell) (n left : ℕ) → top ≡ take (n + left) old → left ≤ 0 → top ≡ take n old
none_left old top n left is none = is ∙ ap (λ (k : ℕ). take k old) (omega (arith, none))

pub some_left : (old top : List Cell) (n left : ℕ) → top ≡ take (n + left) old → n + left ≤ length old → 0 < left → 0 < length top
some_left old top n left is inside some =
    let size : length top ≡ n + left = ap length is ∙ length-take-le (n + left) old inside in
    omega (arith, size, some)

pub ruleset first_lemmas = (one_less, all_left, none_left, some_left)

pub ruleset got_lemmas = (got_item, got_low, size_is)

pub ruleset set_lemmas = (set_top, set_low, size_is)

-- a cell by how many lie over it
pub down_top : (low top : List Cell) (depth k : ℕ) (cell : Cell) → depth < length top → k ≡ length top - 1 - depth
    → cell ≡ get_or top k cell → slice_get (low ++ top) (length (low ++ top) - 1 - depth) ≡ Some cell
down_top low top depth k cell less at is =
    let size = length-append low top in
    got_item low top (length (low ++ top) - 1 - depth) k cell (omega (arith, size, less)) (omega (arith, size, less, at)) (omega (arith, less, at)) is

pub down_low : (low top : List Cell) (depth k : ℕ) (cell : Cell) → length top ≤ depth → depth < length (low ++ top)
    → k ≡ length low - 1 - (depth - length top) → slice_get low k ≡ Some cell → slice_get (low ++ top) (length (low ++ top) - 1 - depth) ≡ Some cell
down_low low top depth k cell over less at is =
    let size = length-append low top in
    let same : length (low ++ top) - 1 - depth ≡ k = omega (arith, size, less, over, at) in
    ap (slice_get (low ++ top)) same ∙ got_low low top k (omega (arith, size, less, over, at)) ∙ is

pub set_down_top : (low top : List Cell) (depth k : ℕ) (cell : Cell) → depth < length top → k ≡ length top - 1 - depth
    → set (low ++ top) (length (low ++ top) - 1 - depth) cell ≡ low ++ set top k cell
set_down_top low top depth k cell less at =
    let size = length-append low top in
    let same : length (low ++ top) - 1 - depth - length low ≡ k = omega (arith, size, less, at) in
    set_top low top (length (low ++ top) - 1 - depth) cell (omega (arith, size, less))
    ∙ ap (λ (i : ℕ). low ++ set top i cell) same

pub set_down_low : (low top : List Cell) (depth k : ℕ) (cell : Cell) → length top ≤ depth → depth < length (low ++ top)
    → k ≡ length low - 1 - (depth - length top) → set (low ++ top) (length (low ++ top) - 1 - depth) cell ≡ set low k cell ++ top
set_down_low low top depth k cell over less at =
    let size = length-append low top in
    let same : length (low ++ top) - 1 - depth ≡ k = omega (arith, size, less, over, at) in
    ap (λ (i : ℕ). set (low ++ top) i cell) same ∙ set_low low top k cell (omega (arith, size, less, over, at))

-- fewer cells, by how many go
pub less_top : (low top : List Cell) (n k : ℕ) → n ≤ length top → k ≡ length top - n
    → take (length (low ++ top) - n) (low ++ top) ≡ low ++ take k top
less_top low top n k less is =
    let size = length-append low top in
    let same : length (low ++ top) - n - length low ≡ k = omega (arith, size, less, is) in
    kept_top low top (length (low ++ top) - n) (omega (arith, size, less)) ∙ ap (λ (i : ℕ). low ++ take i top) same

pub less_low : (low top : List Cell) (n k : ℕ) → length top ≤ n → n ≤ length (low ++ top) → k ≡ length low - (n - length top)
    → take (length (low ++ top) - n) (low ++ top) ≡ take k low ++ []
less_low low top n k over inside is =
    let size = length-append low top in
    let same : length (low ++ top) - n ≡ k = omega (arith, size, over, inside, is) in
    ap (λ (i : ℕ). take i (low ++ top)) same ∙ kept_low low top k (omega (arith, size, over, inside, is))

none : (top : List Cell) → length top ≡ 0 → top ≡ []
none [] is = refl
none (c ∷ top) is = absurd (omega arith)

-- where none are on top
pub one_less_low : (low top : List Cell) (k : ℕ) → length top ≡ 0 → 0 < length (low ++ top) → k ≡ length low - 1
    → take (length (low ++ top) - 1) (low ++ top) ≡ take k low ++ top
one_less_low low top k empty some is =
    less_low low top 1 k (omega (arith, empty)) some (omega (arith, empty, is)) ∙ ap (λ (t : List Cell). take k low ++ t) (sym (none top empty))

-- copies that are put last, of those from a place on
pub no_copies : (old : List Cell) (first place : ℕ) → place ≡ first → old ≡ old ++ take (place - first) (drop first old)
no_copies old first place is =
    let zero : 0 ≡ place - first = omega (arith, is) in
    sym (append-nil old) ∙ ap (λ (k : ℕ). old ++ take k (drop first old)) zero

pub one_copy : (old now : List Cell) (first place : ℕ) (cell : Cell) → now ≡ old ++ take (place - first) (drop first old)
    → first ≤ place → place < length old → slice_get now place ≡ Some cell
    → now ++ cell ∷ [] ≡ old ++ take (place + 1 - first) (drop first old)
one_copy old now first place cell is over inside here =
    let k = place - first in
    let at : first + k ≡ place = omega (arith, over) in
    let next : k + 1 ≡ place + 1 - first = omega (arith, over) in
    let size : length (drop first old) ≡ length old - first = length-drop first old in
    let less : k < length (drop first old) = omega (arith, size, over, inside) in
    let found : slice_get (drop first old) k ≡ Some cell =
    get_dropped first old k ∙ ap (slice_get old) at ∙ sym (got_low old (take k (drop first old)) place inside)
    ∙ ap (λ (t : List Cell). slice_get t place) (sym is) ∙ here in
    let item : cell ≡ get_or (drop first old) k cell = same (sym (slice_get-get_or (drop first old) k cell less) ∙ found) in
    ap (λ (t : List Cell). t ++ cell ∷ []) is
    ∙ append_assoc old (take k (drop first old)) (cell ∷ [])
    ∙ ap (λ (t : List Cell). old ++ t) (ap (λ (c : Cell). take k (drop first old) ++ c ∷ []) item ∙ sym (take_more (drop first old) k cell less))
    ∙ ap (λ (n : ℕ). old ++ take n (drop first old)) next
  where
    same : {c d : Cell} → Some c ≡ Some d → d ≡ c
    same e = cc

pub copies_longer : (old now : List Cell) (first place : ℕ) → now ≡ old ++ take (place - first) (drop first old) → place < length old → place < length now
copies_longer old now first place is inside =
    let size = ap length is ∙ length-append old (take (place - first) (drop first old)) in
    omega (arith, size, inside)

pub last_copy : (now : List Cell) (index : ℕ) (cell : Cell) → index < length now → cell ≡ get_or now index cell → now ++ cell ∷ [] ≡ now ++ take 1 (drop index now)
last_copy now index cell inside here = ap (λ (t : List Cell). now ++ t) (sym (first_of index now cell inside here))
  where
    first_of : (k : ℕ) (xs : List Cell) (x : Cell) → k < length xs → x ≡ get_or xs k x → take 1 (drop k xs) ≡ x ∷ []
    first_of k [] x inside here = absurd (omega arith)
    first_of zero (y ∷ ys) x inside here = ap (λ (c : Cell). c ∷ []) (sym here)
    first_of (suc k) (y ∷ ys) x inside here = first_of k ys x (omega arith) here

pub one_taken : (old now after : List Cell) (first place : ℕ) → now ≡ old ++ take (place - first) (drop first old)
    → first ≤ place → place < length old → after ≡ now ++ take 1 (drop place now)
    → after ≡ old ++ take (place + 1 - first) (drop first old)
one_taken old now after first place is over inside last =
    let longer = copies_longer old now first place is inside in
    let found = some_in now place longer in
    last ∙ ap (λ (t : List Cell). now ++ t) (one_of now place found.0 found.1) ∙ one_copy old now first place found.0 is over inside found.1
  where
    some_in : (xs : List Cell) (i : ℕ) → i < length xs → (x : Cell) × (slice_get xs i ≡ Some x)
    some_in [] i less = absurd (omega arith)
    some_in (x ∷ xs) zero less = (x, refl)
    some_in (x ∷ xs) (suc i) less = some_in xs i (omega arith)

    one_of : (xs : List Cell) (k : ℕ) (x : Cell) → slice_get xs k ≡ Some x → take 1 (drop k xs) ≡ x ∷ []
    one_of [] k x here = absurd cc
    one_of (y ∷ ys) zero x here = cc
    one_of (y ∷ ys) (suc k) x here = one_of ys k x here

pub all_copies : (old now : List Cell) (first place count : ℕ) → now ≡ old ++ take (place - first) (drop first old)
    → place ≡ first + count → now ≡ old ++ take count (drop first old)
all_copies old now first place count is end =
    let same : place - first ≡ count = omega (arith, end) in
    is ∙ ap (λ (k : ℕ). old ++ take k (drop first old)) same

pub run_on_top : (low top : List Cell) (above count k : ℕ) → above + count ≤ length top → k ≡ length top - (above + count)
    → low ++ (top ++ take count (drop k top)) ≡ (low ++ top) ++ take count (drop (length (low ++ top) - (above + count)) (low ++ top))
run_on_top low top above count k inside is =
    let size = length-append low top in
    let from : length (low ++ top) - (above + count) ≡ length low + k = omega (arith, size, inside, is) in
    let behind : drop (length (low ++ top) - (above + count)) (low ++ top) ≡ drop k top =
    ap (λ (n : ℕ). drop n (low ++ top)) from ∙ sym (drop-drop k (length low) (low ++ top)) ∙ ap (drop k) (drop_at low top (length low) refl) in
    sym (append_assoc low top (take count (drop k top))) ∙ ap (λ (t : List Cell). (low ++ top) ++ take count t) (sym behind)

pub ruleset each_lemmas = (no_copies, one_copy, copies_longer, all_copies)

pub ruleset copy_lemmas = (no_copies, one_taken, copies_longer, all_copies)

pub ruleset run_lemmas = (run_on_top, size_is)

pub ruleset down_lemmas = (down_top, down_low, size_is)

pub ruleset set_down_lemmas = (set_down_top, set_down_low, size_is)

pub ruleset less_lemmas = (less_top, less_low, one_less_low, size_is)

-- what stands on top, or among the lower ones alone
part_on_top : (low top : List Cell) (from to : ℕ) → length low ≤ from → from ≤ to
    → drop (from - length low) (take (to - length low) top) ≡ drop from (take to (low ++ top))
part_on_top low top from to over order =
    let whole : length low + (from - length low) ≡ from = omega (arith, over) in
    ap (drop (from - length low)) (sym (drop_at low (take (to - length low) top) (length low) refl))
    ∙ drop-drop (from - length low) (length low) (low ++ take (to - length low) top)
    ∙ ap (λ (k : ℕ). drop k (low ++ take (to - length low) top)) whole
    ∙ ap (drop from) (sym (kept_top low top to (omega (arith, over, order))))

pub part_of_top : (low top : List Cell) (from to l : ℕ) → l ≡ length low → l ≤ from → from ≤ to
    → take (to - l - (from - l)) (drop (from - l) top) ≡ drop from (take to (low ++ top))
part_of_top low top from to l is over order =
    let whole : from - l + (to - l - (from - l)) ≡ to - l = omega (arith, over, order) in
    let inside : length low ≤ from = omega (arith, is, over) in
    sym (drop-take (from - l) (to - l - (from - l)) top)
    ∙ ap (λ (k : ℕ). drop (from - l) (take k top)) whole
    ∙ ap (λ (k : ℕ). drop (from - k) (take (to - k) top)) is
    ∙ part_on_top low top from to inside order

pub part_of_low : (low top : List Cell) (from to : ℕ) → to ≤ length low → drop from (take to low) ≡ drop from (take to (low ++ top))
part_of_low low top from to less = ap (drop from) (sym (take-append-le to low top less))

pub ruleset part_lemmas = (alone, size_is, part_of_top, part_of_low)

pub ruleset settled_lemmas = (alone, size_is)
