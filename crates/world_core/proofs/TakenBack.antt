use Rattle.std.proofs.Common.{◌≡◌, ◌≤◌, ℕ, List, ◌++◌, length, take, refl, sym, ap, ◌∙◌, arith, length-append}
use Rattle.std.proofs.lemmas.List.{take_at, take-take}

-- what was appended is taken back
pub taken_back : (before more after : List ℕ) → after ≡ before ++ more → take (length before) after ≡ before
taken_back before more after is = rw is (take_at before more (length before) refl)

-- also where more was appended behind it and then some part of something else
pub taken_back_after : (before more between after : List ℕ) → between ≡ before ++ more → take (length between) after ≡ between
    → take (length before) after ≡ before
taken_back_after before more between after is kept =
    let longer : length before ≤ length between = rw (is, length-append) (omega arith)
    in sym (take-take (length before) (length between) after longer) ∙ ap (take (length before)) kept ∙ taken_back before more between is

pub ruleset takes_back = (taken_back, taken_back_after)
