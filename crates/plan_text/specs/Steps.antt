-- What single steps of the reading answer. Private clauses and proofs alone need this.
use Rattle.std.specs.Prelude.{◌≢◌, ℕ, Bool, true, false, List, [], ◌∷◌, codes, bytes_eq, if◌then◌else◌, Option, None, Some, Ok, Err, MatchOption}
use Rattle.std.specs.Option.{option_map}
use Rattle.plan_text.specs.declared.fault.PlanFault.{PlanFault}
use Rattle.plan_text.specs.declared.fault.PlanFault.TheVariants.{Line, NoMemory}
use Rattle.nwq_value.specs.Limits.{time_limit}
use Rattle.nwq_text.specs.Cuts.{cut_at}
use Rattle.plan_text.specs.Fields.{number_between, greatest_nth}
use Rattle.plan_text.specs.Plans.{Draft, Comes, nothing, heading}

-- a step goes on by the relation, or says that nothing does
abbrev pub Took : {A : Type 0} → (A → Type 0) → Bool → A → Type 0
Took P true new = P new
Took {A} P false new = (a : A) → P a → ⊥

-- what is read has the property, or nothing has it
abbrev pub Found : {A : Type 0} → (A → Type 0) → Option A → Type 0
Found {A} P read = MatchOption read ((a : A) → P a → ⊥) P

abbrev pub numbered : ℕ → Option (List ℕ × List ℕ) → Option (ℕ × List ℕ)
numbered high None = None
numbered high (Some p) = option_map (λ n. (n, p.1)) (number_between 0 high p.0)

-- the number up to this in the first field, and what follows the space
unfoldable pub number_field : ℕ → List ℕ → Option (ℕ × List ℕ)
number_field high bytes = numbered high (cut_at 32 bytes)

abbrev pub with_name : ℕ → ℕ → Option (List ℕ × List ℕ) → Option (ℕ × ℕ × List ℕ × List ℕ)
with_name due nth None = None
with_name due nth (Some p) = Some (due, nth, p.0, p.1)

abbrev pub with_nth : ℕ → Option (ℕ × List ℕ) → Option (ℕ × ℕ × List ℕ × List ℕ)
with_nth due None = None
with_nth due (Some p) = with_name due p.0 (cut_at 32 p.1)

abbrev pub with_due : Option (ℕ × List ℕ) → Option (ℕ × ℕ × List ℕ × List ℕ)
with_due None = None
with_due (Some p) = with_nth p.0 (number_field greatest_nth p.1)

-- the time, the number, the name and the tag's spelling of a line with four fields
unfoldable pub four_fields : List ℕ → Option (ℕ × ℕ × List ℕ × List ℕ)
four_fields rest = with_due (number_field time_limit rest)

abbrev pub behind_dash : ℕ → Option (List ℕ × List ℕ) → Option (ℕ × List ℕ)
behind_dash due None = None
behind_dash due (Some p) = if bytes_eq p.0 (codes "-") then Some (due, p.1) else None

abbrev pub dashed : Option (ℕ × List ℕ) → Option (ℕ × List ℕ)
dashed None = None
dashed (Some p) = behind_dash p.0 (cut_at 32 p.1)

-- the time and what follows a dash in the second field
unfoldable pub dash_fields : List ℕ → Option (ℕ × List ℕ)
dash_fields rest = dashed (number_field time_limit rest)

-- the version whose heading this is
unfoldable pub version_in : List ℕ → Option ℕ
version_in line = if bytes_eq line (heading 1) then Some 1 else if bytes_eq line
    (heading 2) then Some 2 else None

-- the lines behind the first, of a plan of this version, give this
abbrev pub ReadsOn : ℕ → List (List ℕ) → Draft → Type 0
ReadsOn version lines d = Comes 2 (nothing version) lines (Ok d)

-- one of these lines behind the first is the first without a reading
abbrev pub PlanStopsAt : ℕ → List (List ℕ) → PlanFault → Type 0
PlanStopsAt version lines (Line n) = Comes 2 (nothing version) lines (Err n)
PlanStopsAt version lines NoMemory = Unit {0}

-- a line that is not passed over
pub record IsWorded (line : List ℕ) : Type 0 where
  pub some : line ≢ []
  pub plain : (text : List ℕ) → line ≢ 59 ∷ text
