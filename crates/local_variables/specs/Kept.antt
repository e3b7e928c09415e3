-- An object's variables as code keeps them: each under a stamp, and the stamps by name.
use Rattle.std.specs.Prelude.{◌≡◌, ℕ, ◌==◌, if◌then◌else◌, List, [], ◌∷◌, Bool, Option, None, Some, Box}
use Rattle.std.specs.declared.alloc.Global.{Global}
use Rattle.std.specs.List.{IsDistinct}
use Rattle.stamped_slots.specs.Stamps.{at, AreUnder}
use Rattle.nwq_value.specs.Index.{number_under}
use Rattle.local_variables.specs.declared.held.Held.{Held}
use Rattle.local_variables.specs.declared.held.Content.{Content}
use Rattle.local_variables.specs.declared.held.Content.TheVariants.{Int, Text}
use Rattle.local_variables.specs.Variables.{Variable, IntVar, TextVar, same_variable}

abbrev pub named : List ℕ → Content → Variable
named name (Int n) = IntVar name n
named name (Text text) = TextVar name text

abbrev pub variable_in : Held → Variable
variable_in h = named h.name h.content

-- the variables that stand under these stamps
abbrev pub seen : List (ℕ × Held) → List Variable
seen [] = []
seen (e ∷ es) = variable_in e.1 ∷ seen es

-- those of an object that may have none
abbrev pub boxed : Option (Box (List Variable) Global) → List Variable
boxed None = []
boxed (Some all) = all.value

-- those that a walk has left
abbrev pub walked : Option (List (ℕ × Held)) → List Variable
walked None = []
walked (Some es) = seen es

-- what stands under a stamp, if there is one
abbrev pub held_at : Option ℕ → List (ℕ × Held) → Option Held
held_at None es = None
held_at (Some stamp) es = at stamp es

-- with another content under a stamp
abbrev pub rewritten : Content → ℕ → List (ℕ × Held) → List (ℕ × Held)
rewritten content stamp [] = []
rewritten content stamp (e ∷ es) = if e.0 == stamp
    then (e.0, record { name = e.1.name; content = content }) ∷ es
    else e ∷ rewritten content stamp es

-- the stamp of the first variable that passes a test
abbrev pub stamp_of : (Variable → Bool) → List (ℕ × Held) → Option ℕ
stamp_of test [] = None
stamp_of test (e ∷ es) = if test (variable_in e.1) then Some e.0 else stamp_of test es

-- under each name the stamp of the variable that the test finds by it
abbrev pub Leads : (List ℕ → Variable → Bool) → List (ℕ × Held) → List (List ℕ × ℕ) → Type 0
Leads is es stamps = (name : List ℕ) → number_under name stamps ≡ stamp_of (is name) es

-- what is kept of an object's variables: all stamps are below the next one, and the stamps by name
-- lead to the variables that one test finds, and to those that the other finds
pub record AreKept (is other : List ℕ → Variable → Bool) (next : ℕ) (es : List (ℕ × Held))
    (stamps others : List (List ℕ × ℕ)) : Type 0 where
  pub under : AreUnder next es
  pub leads : Leads is es stamps
  pub leads_other : Leads other es others
  pub distinct : IsDistinct same_variable (seen es)
