-- The function whose code a byte of a unit's file lies in.
use Rattle.std.specs.Prelude.{◌≡◌, ℕ, ◌+◌, ◌-◌, nat_lt, List, [], ◌∷◌, Option, None, Some, slice_get, if◌then◌else◌}
use Rattle.nss_tree.specs.Units.{function}
use Rattle.nwq_value.specs.declared.value.Ty.{Ty}
use Rattle.ncs_code.specs.File.{header_size}
use Rattle.ncs_emit.specs.Labelled.{Line}
use Rattle.typing_rules.specs.Typed.{TypedItem, TypedParameter, TypedStmts, TypedUnit}
use Rattle.emission_rules.specs.Layout.{Layout, layout_of}
use Rattle.emission_rules.specs.Units.{emit_function, has_globals, unit_code}
use Rattle.code_places.specs.declared.seek.Seek.{Seek}
use Rattle.code_places.specs.declared.seek.Seek.TheVariants.{Ahead}
use Rattle.code_places.specs.Numbers.{Number, behind_item}
use Rattle.code_places.specs.Marks.{item_marks, start_marks}
use Rattle.code_places.specs.Seeking.{is_found, sought}
use Rattle.code_places.specs.Laws.{LiesIn, StandsIn}

-- of items, of which the first has the number j and its node the number k
abbrev pub function_among : Layout → Number → ℕ → List TypedItem → Seek → Option ℕ
function_among l k j [] seek = None
function_among l k j (i ∷ is) seek = if is_found (sought (item_marks l k i) seek) then Some j
    else function_among l (behind_item k i) (j + 1) is (sought (item_marks l k i) seek)

abbrev pub function_behind : Layout → List TypedItem → Seek → Option ℕ
function_behind l is seek = if is_found seek then None else function_among l (Some 0) 0 is seek

-- the number, among the items, of the function whose code the byte at this place of the file lies
-- in
abbrev pub function_at : TypedUnit → ℕ → Option ℕ
function_at u place = if nat_lt place header_size then None else function_behind (layout_of u) u.items
    (sought (start_marks (layout_of u) (has_globals u.items) u.items u.entry) (Ahead (place - header_size)))

-- The lines are the whole code of the item of this number, which is a function.
pub record IsFunctionCode (l : Layout) (items : List TypedItem) (number : ℕ) (code : List Line)
    : Type 0 where
  pub token : ℕ
  pub result : Ty
  pub name : List ℕ
  pub parameters : List TypedParameter
  pub body : TypedStmts
  pub item : slice_get items number ≡ Some (function token result name parameters (Some body))
  pub n : ℕ
  pub f : ℕ
  pub is : code ≡ emit_function l n f parameters body

-- The byte at a place for which a function is told lies in an instruction that stands in that
-- function's code.
abbrev pub FunctionsHold : Type 0
FunctionsHold = (u : TypedUnit) (place number : ℕ) → function_at u place ≡ Some number
    → (i : ℕ) × (LiesIn (unit_code u).lines place i
    × StandsIn (IsFunctionCode (layout_of u) u.items) (unit_code u).lines i number)
