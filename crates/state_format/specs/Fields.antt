-- How the parts are laid out: fields in a row. Each is a number, a byte, or a blob with its length,
-- and is there whole or not at all.
use Rattle.std.specs.Prelude.{ℕ, ℤ, Bool, true, false, List, [], ◌∷◌, ◌++◌, length, Option, None, Some}
use Rattle.std.specs.List.{flat_map}
use Rattle.std.specs.Int.{w32, cast_unsigned}
use Rattle.byteorder.specs.Endian.{little_bytes}
use Rattle.state_format.specs.declared.parts.Effect.{Effect}
use Rattle.state_format.specs.declared.parts.Cell.{Cell}
use Rattle.state_format.specs.declared.parts.Cell.TheVariants as cell
use Rattle.state_format.specs.declared.parts.Captured.{Captured}
use Rattle.state_format.specs.declared.parts.Variable.{Variable}
use Rattle.state_format.specs.declared.parts.Variable.TheVariants as variable
use Rattle.state_format.specs.declared.parts.Standing.{Standing}
use Rattle.state_format.specs.declared.parts.Item.{Item}
use Rattle.state_format.specs.declared.parts.Item.TheVariants as item
use Rattle.state_format.specs.declared.parts.Object.{Object}
use Rattle.state_format.specs.declared.parts.KindPart.{KindPart}
use Rattle.state_format.specs.declared.parts.KindPart.TheVariants as kind
use Rattle.state_format.specs.declared.parts.Entry.{Entry}
use Rattle.state_format.specs.declared.parts.Script.{Script}
use Rattle.state_format.specs.declared.parts.Parts.{Parts}

-- the bytes of each field
abbrev pub Fields : Type 0
Fields = List (List ℕ)

-- the bytes of fields in a row
abbrev pub joined : Fields → List ℕ
joined [] = []
joined (field ∷ fields) = field ++ joined fields

-- ---- single fields

-- a number of so many bytes, the lowest byte first
unfoldable pub number : ℕ → ℕ → List ℕ
number bytes n = little_bytes bytes n

-- a signed number of four bytes, in two's complement
abbrev pub signed : ℤ → List ℕ
signed n = number 4 (cast_unsigned w32 n)

-- a blob: its length, and its bytes
abbrev pub blob : List ℕ → List ℕ
blob bytes = number 4 (length bytes) ++ bytes

-- the byte that tells which form follows
abbrev pub tag : ℕ → List ℕ
tag n = n ∷ []

-- a list: the count of its members, and the fields of each
abbrev pub list_of : {A : Type 0} → (A → Fields) → List A → Fields
list_of fields items = number 4 (length items) ∷ flat_map fields items

-- ---- cells, captured states, objects, entries

abbrev pub signed_fields : ℤ → Fields
signed_fields n = signed n ∷ []

abbrev pub number_fields : ℕ → ℕ → Fields
number_fields bytes n = number bytes n ∷ []

abbrev pub blob_fields : List ℕ → Fields
blob_fields bytes = blob bytes ∷ []

abbrev pub effect_fields : Effect → Fields
effect_fields e = number 2 e.routine ∷ list_of signed_fields e.ints

-- a value behind the byte of its type
abbrev pub cell_fields : Cell → Fields
cell_fields (cell.Int n) = tag 0x03 ∷ signed n ∷ []
cell_fields (cell.Text text) = tag 0x05 ∷ blob text ∷ []
cell_fields (cell.Object o) = tag 0x06 ∷ number 4 o ∷ []
cell_fields (cell.Effect e) = tag 0x10 ∷ effect_fields e
cell_fields (cell.Event n) = tag 0x11 ∷ signed n ∷ []

abbrev pub captured_fields : Captured → Fields
captured_fields s = number 4 s.script ∷ number 4 s.place ∷
    (list_of cell_fields s.globals ++ list_of cell_fields s.locals)

abbrev pub variable_fields : Variable → Fields
variable_fields (variable.Int name n) = tag 1 ∷ blob name ∷ signed n ∷ []
variable_fields (variable.Text name text) = tag 3 ∷ blob name ∷ blob text ∷ []

-- what may be absent: the byte 0, or the byte 1 and what is there
abbrev pub maybe_fields : {A : Type 0} → (A → Fields) → Option A → Fields
maybe_fields fields None = tag 0 ∷ []
maybe_fields fields (Some x) = tag 1 ∷ fields x

abbrev pub standing_fields : Standing → Fields
standing_fields s = maybe_fields (number_fields 8) s.number ++ effect_fields s.effect

abbrev pub item_fields : Item → Fields
item_fields (item.Do s) = tag 0 ∷ captured_fields s
item_fields (item.Wait ms) = tag 1 ∷ signed ms ∷ []
item_fields (item.Speak text) = tag 2 ∷ blob text ∷ []

abbrev pub busy_fields : Bool → Fields
busy_fields false = tag 0 ∷ []
busy_fields true = tag 1 ∷ []

abbrev pub object_fields : Object → Fields
object_fields o =
    busy_fields o.busy ++ (list_of variable_fields o.variables
    ++ (list_of standing_fields o.effects ++ list_of item_fields o.items))

abbrev pub kind_fields : KindPart → Fields
kind_fields (kind.Event object script user) = tag 0 ∷ number 4 object ∷ blob script ∷ signed user ∷ []
kind_fields (kind.Stored object state) = tag 1 ∷ number 4 object ∷ captured_fields state
kind_fields (kind.Turn object) = tag 2 ∷ number 4 object ∷ []
kind_fields (kind.Unapply object) = tag 3 ∷ number 4 object ∷ []

abbrev pub entry_fields : Entry → Fields
entry_fields e = number 8 e.due ∷ number 8 e.number ∷ kind_fields e.kind

-- ---- the whole

-- "NWQSAVE1"
abbrev pub magic : List ℕ
magic = 0x4E ∷ 0x57 ∷ 0x51 ∷ 0x53 ∷ 0x41 ∷ 0x56 ∷ 0x45 ∷ 0x31 ∷ []

abbrev pub script_fields : Script → Fields
script_fields s = blob s.name ∷ blob s.code ∷ []

-- the version, and limits and counts in a row
abbrev pub count_fields : Parts → Fields
count_fields s =
    number 1 s.version ∷ number 8 s.limit ∷ number 8 s.entries ∷ number 8 s.until ∷ number 8 s.clock ∷ number 8 s.taken ∷ number 8 s.done ∷ number 8 s.next ∷ []

-- what stands in front of the random numbers, and the rest
abbrev pub first_fields : Parts → Fields
first_fields s = magic ∷ (maybe_fields blob_fields s.header
    ++ (list_of script_fields s.scripts ++ (blob_fields s.area ++ count_fields s)))

abbrev pub last_fields : Parts → Fields
last_fields s = list_of (number_fields 4) s.random
    ++ (list_of object_fields s.objects ++ list_of entry_fields s.agenda)

unfoldable pub parts_fields : Parts → Fields
parts_fields s = first_fields s ++ last_fields s

-- the one list of bytes of a state's parts
unfoldable pub parts_bytes : Parts → List ℕ
parts_bytes s = joined (parts_fields s)
