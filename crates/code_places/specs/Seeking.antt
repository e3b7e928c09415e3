-- Going over instructions to the one that a byte of the code lies in.
use Rattle.std.specs.Prelude.{ℕ, ◌-◌, Bool, true, false, nat_lt, List, [], ◌∷◌, Option, None, slice_get, if◌then◌else◌}
use Rattle.std.specs.Option.{option_and_then}
use Rattle.nss_tree.specs.Places.{places}
use Rattle.nss_tree.specs.Source.{SourceTree}
use Rattle.ncs_code.specs.File.{header_size}
use Rattle.typing_rules.specs.Typed.{TypedUnit}
use Rattle.code_places.specs.declared.seek.Seek.{Seek}
use Rattle.code_places.specs.declared.seek.Seek.TheVariants.{Ahead, Found}
use Rattle.code_places.specs.Numbers.{Number}
use Rattle.code_places.specs.Marks.{Mark, unit_marks}

abbrev pub passed : Mark → Seek → Seek
passed m (Found node) = Found node
passed m (Ahead left) = if nat_lt left m.size then Found m.node else Ahead (left - m.size)

unfoldable pub sought : List Mark → Seek → Seek
sought [] seek = seek
sought (m ∷ ms) seek = sought ms (passed m seek)

abbrev pub node_found : Seek → Number
node_found (Ahead left) = None
node_found (Found node) = node

abbrev pub is_found : Seek → Bool
is_found (Ahead _) = false
is_found (Found _) = true

-- the number of the node whose code the byte at this place of the file lies in: None in the header,
-- at the start, and behind the code
abbrev pub node_at : TypedUnit → ℕ → Number
node_at u place = if nat_lt place header_size then None else node_found (sought (unit_marks u) (Ahead (place - header_size)))

-- the token of that node, where the unit is the typed one of this tree
abbrev pub token_at : SourceTree → TypedUnit → ℕ → Option ℕ
token_at tree u place = option_and_then (λ n. slice_get (places tree) n) (node_at u place)
