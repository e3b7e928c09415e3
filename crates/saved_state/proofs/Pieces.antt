-- The cells of a piece whose page is cut, written or copied.
use Rattle.std.proofs.Common.{◌≡◌, ◌<◌, ◌≤◌, ◌+◌, ◌-◌, ◌++◌, ◌∷◌, [], ℕ, List, length, take, drop, set, sym, ap, ◌∙◌, arith}
use Rattle.std.proofs.lemmas.List.{length-take-le, length-drop, length-append, take-take, take_all, drop-take, drop-drop, drop-append-le, drop-set-add}
use Rattle.std.proofs.Math.Seq.{take-set-lt}
use Rattle.saved_state.specs.declared.cell.Cell.{Cell}

-- the cells that are used, as many as are counted
used_length : (first count : ℕ) (page : List Cell) → first + count ≤ length page → length (take count (drop first page)) ≡ count
used_length first count page within =
    let size = length-drop first page in
    length-take-le count (drop first page) (omega (arith, size))

pub part_is : (first count from to : ℕ) (page cells : List Cell) → take count (drop first page) ≡ cells → first + count ≤ length page
    → from ≤ to → to ≤ length cells → take (to - from) (drop (first + from) page) ≡ drop from (take to cells)
part_is first count from to page cells is within order inside =
    let size : length cells ≡ count = ap length (sym is) ∙ used_length first count page within in
    let whole : from + (to - from) ≡ to = omega arith in
    ap (take (to - from)) (sym (drop-drop from first page))
    ∙ sym (drop-take from (to - from) (drop first page))
    ∙ ap (λ k. drop from (take k (drop first page))) whole
    ∙ ap (drop from) (sym (take-take to count (drop first page) (omega (arith, size))))
    ∙ ap (λ (t : List Cell). drop from (take to t)) is

pub set_is : (first count i : ℕ) (page cells : List Cell) (new : Cell) → take count (drop first page) ≡ cells
    → first + count ≤ length page → i < length cells → take count (drop first (set page (first + i) new)) ≡ set cells i new
set_is first count i page cells new is within less =
    let size : length cells ≡ count = ap length (sym is) ∙ used_length first count page within in
    ap (take count) (drop-set-add first page i new)
    ∙ take-set-lt count (drop first page) i new (omega (arith, size))
    ∙ ap (λ (t : List Cell). set t i new) is

-- the used cells and one more, on a page that ends with them
pub push_is : (first count : ℕ) (page : List Cell) (new : Cell) → first + count ≤ length page
    → take (count + 1) (drop first (take (first + count) page ++ new ∷ [])) ≡ take count (drop first page) ++ new ∷ []
push_is first count page new within =
    let cut : length (take (first + count) page) ≡ first + count = length-take-le (first + count) page within in
    let used = used_length first count page within in
    let size : length (take count (drop first page) ++ new ∷ []) ≡ length (take count (drop first page)) + 1 =
    length-append (take count (drop first page)) (new ∷ []) in
    ap (take (count + 1)) (drop-append-le first (take (first + count) page) (new ∷ []) (omega (arith, cut)) ∙ ap (λ (t : List Cell). t ++ new ∷ []) (drop-take first count page))
    ∙ take_all (count + 1) (take count (drop first page) ++ new ∷ []) (omega (arith, used, size))

-- the used cells on a page that ends with them
pub cut_is : (first count : ℕ) (page : List Cell) → take count (drop first (take (first + count) page)) ≡ take count (drop first page)
cut_is first count page = ap (take count) (drop-take first count page) ∙ take-take count count (drop first page) (omega arith)

-- a copy of the used cells and one more
pub copy_is : (first count end : ℕ) (page : List Cell) (new : Cell) → first + count ≡ end → first + count ≤ length page
    → take (count + 1) (take (end - first) (drop first page) ++ new ∷ []) ≡ take count (drop first page) ++ new ∷ []
copy_is first count end page new ends within =
    let counted : end - first ≡ count = omega (arith, ends) in
    let used = used_length first count page within in
    let size : length (take count (drop first page) ++ new ∷ []) ≡ length (take count (drop first page)) + 1 =
    length-append (take count (drop first page)) (new ∷ []) in
    ap (λ k. take (count + 1) (take k (drop first page) ++ new ∷ [])) counted
    ∙ take_all (count + 1) (take count (drop first page) ++ new ∷ []) (omega (arith, used, size))

-- what a push needs
pub ruleset push_steps = (push_is, cut_is, copy_is)
