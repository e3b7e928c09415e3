-- A worked example, computed: the state of a small play, byte by byte, and three bytes that are
-- none.
use Rattle.std.proofs.Common.{◌≡◌, pos, negsuc, true, [], ◌∷◌, None, Some, refl, lit<}
use Rattle.state_format.specs.declared.parts.Parts.{Parts}
use Rattle.state_format.specs.declared.parts.Cell.TheVariants as cell
use Rattle.state_format.specs.declared.parts.Variable.TheVariants as variable
use Rattle.state_format.specs.declared.parts.Item.TheVariants as item
use Rattle.state_format.specs.declared.parts.KindPart.TheVariants as kind
use Rattle.state_format.specs.Fields.{number, parts_fields, parts_bytes}
use Rattle.state_format.specs.Place.{StateStopsAt}
use Rattle.state_format.specs.Reading.{magic_at, parts_at, state_at}
use Rattle.state_format.proofs.StateLaws.{state_stops}

-- one script "p" of two bytes, an area of three, and one object that will run the stored rest of it
small : Parts
small = record {
  header = None;
  scripts = record { name = 112 ∷ []; code = 1 ∷ 2 ∷ [] } ∷ [];
  area = 65 ∷ 82 ∷ 69 ∷ [];
  version = 2;
  limit = 131072;
  entries = 10000;
  until = 60000;
  clock = 0;
  taken = 1;
  done = 9;
  next = 2;
  random = 7 ∷ [];
  objects = record {
    busy = true;
    variables = variable.Int (110 ∷ []) (negsuc 0) ∷ [];
    effects = record { number = Some 1; effect = record { routine = 3; ints = [] } } ∷ [];
    items = item.Wait (pos 500) ∷ [];
  } ∷ [];
  agenda = record { due = 1000; number = 0; kind = kind.Stored 1 (record { script = 0; place = 21; globals = []; locals = cell.Object 1 ∷ [] }) } ∷ [];
}

small_is : parts_bytes small ≡
    0x4E ∷ 0x57 ∷ 0x51 ∷ 0x53 ∷ 0x41 ∷ 0x56 ∷ 0x45 ∷ 0x31
    ∷ 0
    ∷ 1 ∷ 0 ∷ 0 ∷ 0 ∷ 1 ∷ 0 ∷ 0 ∷ 0 ∷ 112 ∷ 2 ∷ 0 ∷ 0 ∷ 0 ∷ 1 ∷ 2
    ∷ 3 ∷ 0 ∷ 0 ∷ 0 ∷ 65 ∷ 82 ∷ 69
    ∷ 2
    ∷ 0 ∷ 0 ∷ 2 ∷ 0 ∷ 0 ∷ 0 ∷ 0 ∷ 0
    ∷ 0x10 ∷ 0x27 ∷ 0 ∷ 0 ∷ 0 ∷ 0 ∷ 0 ∷ 0
    ∷ 0x60 ∷ 0xEA ∷ 0 ∷ 0 ∷ 0 ∷ 0 ∷ 0 ∷ 0
    ∷ 0 ∷ 0 ∷ 0 ∷ 0 ∷ 0 ∷ 0 ∷ 0 ∷ 0
    ∷ 1 ∷ 0 ∷ 0 ∷ 0 ∷ 0 ∷ 0 ∷ 0 ∷ 0
    ∷ 9 ∷ 0 ∷ 0 ∷ 0 ∷ 0 ∷ 0 ∷ 0 ∷ 0
    ∷ 2 ∷ 0 ∷ 0 ∷ 0 ∷ 0 ∷ 0 ∷ 0 ∷ 0
    ∷ 1 ∷ 0 ∷ 0 ∷ 0 ∷ 7 ∷ 0 ∷ 0 ∷ 0
    ∷ 1 ∷ 0 ∷ 0 ∷ 0
    ∷ 1
    ∷ 1 ∷ 0 ∷ 0 ∷ 0 ∷ 1 ∷ 1 ∷ 0 ∷ 0 ∷ 0 ∷ 110 ∷ 0xFF ∷ 0xFF ∷ 0xFF ∷ 0xFF
    ∷ 1 ∷ 0 ∷ 0 ∷ 0 ∷ 1 ∷ 1 ∷ 0 ∷ 0 ∷ 0 ∷ 0 ∷ 0 ∷ 0 ∷ 0 ∷ 3 ∷ 0 ∷ 0 ∷ 0 ∷ 0 ∷ 0
    ∷ 1 ∷ 0 ∷ 0 ∷ 0 ∷ 1 ∷ 0xF4 ∷ 1 ∷ 0 ∷ 0
    ∷ 1 ∷ 0 ∷ 0 ∷ 0
    ∷ 0xE8 ∷ 3 ∷ 0 ∷ 0 ∷ 0 ∷ 0 ∷ 0 ∷ 0
    ∷ 0 ∷ 0 ∷ 0 ∷ 0 ∷ 0 ∷ 0 ∷ 0 ∷ 0
    ∷ 1 ∷ 1 ∷ 0 ∷ 0 ∷ 0
    ∷ 0 ∷ 0 ∷ 0 ∷ 0 ∷ 21 ∷ 0 ∷ 0 ∷ 0 ∷ 0 ∷ 0 ∷ 0 ∷ 0 ∷ 1 ∷ 0 ∷ 0 ∷ 0 ∷ 0x06 ∷ 1 ∷ 0 ∷ 0 ∷ 0
    ∷ []
unfolding small number parts_fields parts_bytes
small_is = refl

three : StateStopsAt (0x4E ∷ 0x57 ∷ 0x51 ∷ []) 0
unfolding magic_at parts_at state_at
three = state_stops (0x4E ∷ 0x57 ∷ 0x51 ∷ []) 3 (lit< tt, (lit< tt, (lit< tt, tt))) refl
