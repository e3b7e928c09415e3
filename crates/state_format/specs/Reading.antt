-- What is read from bytes, field by field. No public clause speaks of it.
use Rattle.std.specs.Prelude.{◌≡◌, ◌==◌, ◌⊎◌, ℕ, zero, suc, ℤ, Bool, true, false, nat_lt, if◌then◌else◌, List, [], ◌∷◌, length, take, drop, Option, None, Some, Result, Ok, Err}
use Rattle.std.proofs.Common.{inl, inr}
use Rattle.std.specs.Int.{w32, cast_signed}
use Rattle.std.specs.Str.{bytes_eq}
use Rattle.byteorder.specs.Endian.{little_number}
use Rattle.state_format.specs.declared.fault.Stop.{Stop}
use Rattle.state_format.specs.declared.fault.Stop.TheVariants as stop
use Rattle.state_format.specs.declared.counts.Counts.{Counts}
use Rattle.state_format.specs.declared.parts.Effect.{Effect}
use Rattle.state_format.specs.declared.parts.Cell.{Cell}
use Rattle.state_format.specs.declared.parts.Cell.TheVariants as cell
use Rattle.state_format.specs.declared.parts.Captured.{Captured}
use Rattle.state_format.specs.declared.parts.Variable.{Variable}
use Rattle.state_format.specs.declared.parts.Variable.TheVariants as variable
use Rattle.state_format.specs.declared.parts.Standing.{Standing}
use Rattle.state_format.specs.declared.parts.Item.{Item}
use Rattle.state_format.specs.declared.parts.Item.TheVariants as item
use Rattle.state_format.specs.declared.parts.Object.{Object}
use Rattle.state_format.specs.declared.parts.KindPart.{KindPart}
use Rattle.state_format.specs.declared.parts.KindPart.TheVariants as kind
use Rattle.state_format.specs.declared.parts.Entry.{Entry}
use Rattle.state_format.specs.declared.parts.Script.{Script}
use Rattle.state_format.specs.declared.parts.Parts.{Parts}
use Rattle.state_format.specs.Fields.{magic}

-- a value and the bytes behind it, or how many bytes are left where no such field stands
abbrev pub Reader : Type 0 → Type 0
Reader A = List ℕ → Result (A × List ℕ) ℕ

infixl 10 ◌>>=◌
abbrev pub ◌>>=◌ : {A B : Type 0} → Result A ℕ → (A → Result B ℕ) → Result B ℕ
(Ok x) >>= f = f x
(Err left) >>= f = Err left

-- what a call returned, seen by `view`, is what the reading gives, unless memory ran out
abbrev pub StateFails : {Y : Type 0} → Stop → Result Y ℕ → Type 0
StateFails stop.NoMemory read = Unit {0}
StateFails (stop.Left left) read = read ≡ Err left

abbrev pub Gives : {X Y : Type 0} → (X → Y) → Result X Stop → Result Y ℕ → Type 0
Gives view (Ok x) read = read ≡ Ok (view x)
Gives view (Err e) read = StateFails e read

-- ---- ways to make a reader

abbrev pub mapped : {A B : Type 0} → (A → B) → Result (A × List ℕ) ℕ → Result (B × List ℕ) ℕ
mapped f (Ok x) = Ok (f x.0, x.1)
mapped f (Err left) = Err left

-- one after the other, where the second may depend on what the first gave
abbrev pub followed : {A B : Type 0} → Reader A → (A → Reader B) → Reader (A × B)
followed p q bytes = p bytes >>= λ x. mapped (λ y. (x.0, y)) (q x.0 x.1)

abbrev pub both : {A B : Type 0} → Reader A → Reader B → Reader (A × B)
both p q bytes = followed p (λ x. q) bytes

-- so many, one after the other
abbrev pub many : {A : Type 0} → ℕ → Reader A → Reader (List A)
many zero p bytes = Ok ([], bytes)
many (suc n) p bytes = mapped (λ x. x.0 ∷ x.1) (both p (many n p) bytes)

abbrev pub byte_at : Reader ℕ
byte_at [] = Err 0
byte_at (b ∷ rest) = Ok (b, rest)

-- what stands behind one byte, or what begins with another byte
abbrev pub only : {A : Type 0} → ℕ → Reader A → Reader A
only byte p bytes = byte_at bytes >>= λ b. (if b.0 == byte then p b.1 else Err (length bytes))

abbrev pub choose : {A B : Type 0} → ℕ → Reader A → Reader B → Reader (A ⊎ B)
choose byte p q bytes = byte_at bytes >>= λ b.
    (if b.0 == byte then mapped inl (p b.1) else mapped inr (q bytes))

-- nothing
abbrev pub nothing_at : Reader (Unit {0})
nothing_at bytes = Ok (tt, bytes)

-- ---- fields

unfoldable pub number_at : ℕ → Reader ℕ
number_at size bytes = if nat_lt (length bytes) size then Err (length bytes) else Ok
    (little_number size bytes, drop size bytes)

abbrev pub signed_at : Reader ℤ
signed_at bytes = mapped (cast_signed w32) (number_at 4 bytes)

unfoldable pub blob_at : Reader (List ℕ)
blob_at bytes = number_at 4 bytes >>= λ n.
    (if nat_lt (length n.1) n.0 then Err (length bytes) else Ok (take n.0 n.1, drop n.0 n.1))

unfoldable pub magic_at : Reader (Unit {0})
magic_at bytes =
    if nat_lt (length bytes) 8 then Err (length bytes)
    else (if bytes_eq (take 8 bytes) magic then Ok (tt, drop 8 bytes) else Err (length bytes))

unfoldable pub list_at : {A : Type 0} → Reader A → Reader (List A)
list_at p bytes = mapped (λ x. x.1) (followed (number_at 4) (λ n. many n p) bytes)

-- ---- cells, captured states, objects, entries

abbrev pub effect_of : ℕ × List ℤ → Effect
effect_of x = record { routine = x.0; ints = x.1 }

unfoldable pub effect_at : Reader Effect
effect_at bytes = mapped effect_of (both (number_at 2) (list_at signed_at) bytes)

abbrev pub cell_of : ℤ ⊎ (List ℕ ⊎ (ℕ ⊎ (Effect ⊎ ℤ))) → Cell
cell_of (inl n) = cell.Int n
cell_of (inr (inl text)) = cell.Text text
cell_of (inr (inr (inl o))) = cell.Object o
cell_of (inr (inr (inr (inl e)))) = cell.Effect e
cell_of (inr (inr (inr (inr n)))) = cell.Event n

unfoldable pub cell_at : Reader Cell
cell_at bytes = mapped cell_of
    (choose 0x03 signed_at (choose 0x05 blob_at
    (choose 0x06 (number_at 4) (choose 0x10 effect_at (only 0x11 signed_at)))) bytes)

abbrev pub captured_of : ℕ × (ℕ × (List Cell × List Cell)) → Captured
captured_of x = record { script = x.0; place = x.1.0; globals = x.1.1.0; locals = x.1.1.1 }

unfoldable pub captured_at : Reader Captured
captured_at bytes = mapped captured_of
    (both (number_at 4) (both (number_at 4) (both (list_at cell_at) (list_at cell_at))) bytes)

abbrev pub variable_of : (List ℕ × ℤ) ⊎ (List ℕ × List ℕ) → Variable
variable_of (inl x) = variable.Int x.0 x.1
variable_of (inr x) = variable.Text x.0 x.1

unfoldable pub variable_at : Reader Variable
variable_at bytes = mapped variable_of
    (choose 1 (both blob_at signed_at) (only 3 (both blob_at blob_at)) bytes)

abbrev pub maybe_of : {A : Type 0} → Unit {0} ⊎ A → Option A
maybe_of (inl x) = None
maybe_of (inr x) = Some x

unfoldable pub maybe_at : {A : Type 0} → Reader A → Reader (Option A)
maybe_at p bytes = mapped maybe_of (choose 0 nothing_at (only 1 p) bytes)

abbrev pub standing_of : Option ℕ × Effect → Standing
standing_of x = record { number = x.0; effect = x.1 }

unfoldable pub standing_at : Reader Standing
standing_at bytes = mapped standing_of (both (maybe_at (number_at 8)) effect_at bytes)

abbrev pub item_of : Captured ⊎ (ℤ ⊎ List ℕ) → Item
item_of (inl s) = item.Do s
item_of (inr (inl ms)) = item.Wait ms
item_of (inr (inr text)) = item.Speak text

unfoldable pub item_at : Reader Item
item_at bytes = mapped item_of (choose 0 captured_at (choose 1 signed_at (only 2 blob_at)) bytes)

abbrev pub busy_of : Unit {0} ⊎ Unit {0} → Bool
busy_of (inl x) = false
busy_of (inr x) = true

unfoldable pub busy_at : Reader Bool
busy_at bytes = mapped busy_of (choose 0 nothing_at (only 1 nothing_at) bytes)

abbrev pub object_of : Bool × (List Variable × (List Standing × List Item)) → Object
object_of x = record { busy = x.0; variables = x.1.0; effects = x.1.1.0; items = x.1.1.1 }

unfoldable pub object_at : Reader Object
object_at bytes = mapped object_of
    (both busy_at (both (list_at variable_at) (both (list_at standing_at) (list_at item_at))) bytes)

abbrev pub kind_of : (ℕ × (List ℕ × ℤ)) ⊎ ((ℕ × Captured) ⊎ (ℕ ⊎ ℕ)) → KindPart
kind_of (inl x) = kind.Event x.0 x.1.0 x.1.1
kind_of (inr (inl x)) = kind.Stored x.0 x.1
kind_of (inr (inr (inl o))) = kind.Turn o
kind_of (inr (inr (inr o))) = kind.Unapply o

unfoldable pub kind_at : Reader KindPart
kind_at bytes =
    mapped kind_of (choose 0 (both (number_at 4) (both blob_at signed_at))
    (choose 1 (both (number_at 4) captured_at)
    (choose 2 (number_at 4) (only 3 (number_at 4)))) bytes)

abbrev pub entry_of : ℕ × (ℕ × KindPart) → Entry
entry_of x = record { due = x.0; number = x.1.0; kind = x.1.1 }

unfoldable pub entry_at : Reader Entry
entry_at bytes = mapped entry_of (both (number_at 8) (both (number_at 8) kind_at) bytes)

-- ---- the whole

abbrev pub script_of : List ℕ × List ℕ → Script
script_of x = record { name = x.0; code = x.1 }

unfoldable pub script_at : Reader Script
script_at bytes = mapped script_of (both blob_at blob_at bytes)

abbrev pub counts_of : ℕ × (ℕ × (ℕ × (ℕ × (ℕ × (ℕ × (ℕ × ℕ)))))) → Counts
counts_of x = record {
  version = x.0;
  limit = x.1.0;
  entries = x.1.1.0;
  until = x.1.1.1.0;
  clock = x.1.1.1.1.0;
  taken = x.1.1.1.1.1.0;
  done = x.1.1.1.1.1.1.0;
  next = x.1.1.1.1.1.1.1;
}

unfoldable pub counts_at : Reader Counts
counts_at bytes =
    mapped counts_of (both (number_at 1)
    (both (number_at 8) (both (number_at 8)
    (both (number_at 8) (both (number_at 8)
    (both (number_at 8) (both (number_at 8) (number_at 8))))))) bytes)

abbrev pub parts_of : Unit {0}
    × (Option (List ℕ) × (List Script
    × (List ℕ × (Counts × (List ℕ × (List Object × List Entry)))))) → Parts
parts_of x =
    let c = x.1.1.1.1.0 in
    record {
      header = x.1.0;
      scripts = x.1.1.0;
      area = x.1.1.1.0;
      version = c.version;
      limit = c.limit;
      entries = c.entries;
      until = c.until;
      clock = c.clock;
      taken = c.taken;
      done = c.done;
      next = c.next;
      random = x.1.1.1.1.1.0;
      objects = x.1.1.1.1.1.1.0;
      agenda = x.1.1.1.1.1.1.1;
    }

unfoldable pub parts_at : Reader Parts
parts_at bytes =
    mapped parts_of
    (both magic_at
    (both (maybe_at blob_at)
    (both (list_at script_at)
    (both blob_at
    (both counts_at
    (both (list_at (number_at 4))
    (both (list_at object_at) (list_at entry_at))))))) bytes)

-- the parts of all the bytes
abbrev pub whole : Parts × List ℕ → Result Parts ℕ
whole (s, []) = Ok s
whole (s, b ∷ rest) = Err (length (b ∷ rest))

unfoldable pub state_at : List ℕ → Result Parts ℕ
state_at bytes = parts_at bytes >>= whole
