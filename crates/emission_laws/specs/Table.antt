-- The table of shapes that says of each place which spot it has.
use Rattle.std.specs.Prelude.{ℕ, Bool, true, false, ◌==◌, Option, None, Some, if◌then◌else◌}
use Rattle.stack_shape.specs.declared.shape.Entry.{Entry}
use Rattle.stack_shape.specs.declared.shape.Entry.TheVariants.{Start, Called, Stored}
use Rattle.stack_shape.specs.Stored.{TopShape}
use Rattle.stack_rules.specs.Tables.{Callee, ShapeTable, first_shape}
use Rattle.emission_laws.specs.Spots.{Way, Starts, Runs, Resumes, Spot}

-- how control comes to a routine, where labels have these places
abbrev pub entry_of : (ℕ → ℕ) → Way → Entry
entry_of places Starts = Start
entry_of places (Runs label) = Called (places label)
entry_of places (Resumes site) = Stored site

abbrev pub same_entry : Entry → Entry → Bool
same_entry Start Start = true
same_entry (Called a) (Called b) = a == b
same_entry (Stored a) (Stored b) = a == b
same_entry _ _ = false

abbrev pub shape_there : (ℕ → ℕ) → Entry → Option Spot → Option TopShape
shape_there places entry None = None
shape_there places entry (Some s) = if same_entry entry
    (entry_of places s.way) then Some s.shape else None

abbrev pub callee_by : (ℕ → ℕ) → (ℕ → Option Callee) → ℕ → Way → Option Callee
callee_by places callee_of target Starts = None
callee_by places callee_of target
    (Runs label) = if places label == target then callee_of label else None
callee_by places callee_of target (Resumes site) = None

abbrev pub callee_there : (ℕ → ℕ) → (ℕ → Option Callee) → ℕ → Option Spot → Option Callee
callee_there places callee_of target None = None
callee_there places callee_of target (Some s) = callee_by places callee_of target s.way

abbrev pub emitted_table : (ℕ → ℕ) → (ℕ → Option Callee) → (ℕ → Option Spot) → ShapeTable
emitted_table places callee_of spot_at = record {
  at = λ entry place. shape_there places entry (spot_at place);
  called = λ target. callee_there places callee_of target (spot_at target);
}

-- the spot with which what is called at a label begins
abbrev pub first_spot : ℕ → Callee → Spot
first_spot label callee = record { way = Runs label; shape = first_shape callee }
