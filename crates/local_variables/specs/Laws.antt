-- Laws of variables by type and name.
use Rattle.std.specs.Prelude.{◌≡◌, Bool, ◌||◌, List, if◌then◌else◌, not, filter, None, Some}
use Rattle.std.specs.List.{list_any, IsDistinct}
use Rattle.std.specs.Cmp.{IsEquivalence}
use Rattle.local_variables.specs.Variables.{Variable, same_variable, matching, put}

-- A variable that is put is found from then on, and every other is found as before.
abbrev pub PutIsFound : Type 0
PutIsFound = (v w : Variable) (vars : List Variable)
    → matching w (put v vars) ≡ (if same_variable w v then Some v else matching w vars)

-- A variable that is taken out is found no more, and every other is found as before.
abbrev pub DroppedIsGone : Type 0
DroppedIsGone = (v w : Variable) (vars : List Variable) →
    matching w (filter (λ x. not (same_variable v x)) vars)
    ≡ (if same_variable w v then None else matching w vars)

-- To have one type and name is an equivalence.
abbrev pub SameIsEquivalence : Type 0
SameIsEquivalence = IsEquivalence same_variable

-- After a variable is put there is one of its type and name, and of every other where there was.
abbrev pub PutIsThere : Type 0
PutIsThere = (v w : Variable) (vars : List Variable)
    → list_any (same_variable w) (put v vars)
    ≡ (same_variable w v || list_any (same_variable w) vars)

-- Where no two variables have one type and name, none have after one is put.
abbrev pub PutKeepsDistinct : Type 0
PutKeepsDistinct = (v : Variable) (vars : List Variable) → IsDistinct same_variable vars
    → IsDistinct same_variable (put v vars)

-- Nor after those that fail a test are taken out.
abbrev pub FilterKeepsDistinct : Type 0
FilterKeepsDistinct = (test : Variable → Bool) (vars : List Variable)
    → IsDistinct same_variable vars → IsDistinct same_variable (filter test vars)
