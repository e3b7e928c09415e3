-- What is no larger than a file may be can be written: its lists have few members, since each
-- member has a byte at least.
use Rattle.std.proofs.Common.{◌≡◌, ◌≤◌, ℕ, zero, suc, ◌+◌, Bool, true, false, List, [], ◌∷◌, ◌++◌, length, length-append, arith}
use Rattle.std.specs.Prelude.{ℤ, Option, None, Some}
use Rattle.std.specs.List.{AllByRecursion, flat_map}
use Rattle.std.specs.Int.{w32, cast_unsigned}
use Rattle.nwq_value.specs.Limits.{file_limit}
use Rattle.state_format.specs.declared.parts.Effect.{Effect}
use Rattle.state_format.specs.declared.parts.Cell.TheVariants as cell
use Rattle.state_format.specs.declared.parts.Captured.{Captured}
use Rattle.state_format.specs.declared.parts.Variable.TheVariants as variable
use Rattle.state_format.specs.declared.parts.Standing.{Standing}
use Rattle.state_format.specs.declared.parts.Item.TheVariants as item
use Rattle.state_format.specs.declared.parts.Object.{Object}
use Rattle.state_format.specs.declared.parts.Parts.{Parts}
use Rattle.state_format.specs.Parts.{AreStateBytes, IsBlob, IsCaptured, IsCell, IsEffect, IsEntry, IsItem, IsList, IsMaybe, IsNumber, IsObject, IsSigned, IsStanding, IsVariable}
use Rattle.state_format.specs.Fields.{Fields, joined, number, signed, blob, tag, list_of, signed_fields, number_fields, effect_fields, cell_fields, captured_fields, variable_fields, maybe_fields}
use Rattle.state_format.specs.Fields.{standing_fields, item_fields, busy_fields, object_fields, entry_fields, first_fields, last_fields, kind_fields, parts_fields, parts_bytes}

-- the fields are no more bytes than a file may have
abbrev pub AreSmall : Fields → Type 0
AreSmall fields = length (joined fields) ≤ file_limit

-- what is so is of this kind
abbrev pub IfSmall : {B : Type 0} → (B → Fields) → (B → Type 0) → B → Type 0
IfSmall fields Is p = AreSmall (fields p) → Is p

-- ---- fields in a row

row_size : (x y : Fields) → length (joined (x ++ y)) ≡ length (joined x) + length (joined y)
row_size [] y = omega arith
row_size (field ∷ x) y =
    let rest = row_size x y in
    let whole = length-append field (joined (x ++ y)) in
    let front = length-append field (joined x) in
    omega (arith, rest, whole, front)

small_front : (x y : Fields) → AreSmall (x ++ y) → AreSmall x
small_front x y small = let size = row_size x y in omega (arith, size, small)

small_back : (x y : Fields) → AreSmall (x ++ y) → AreSmall y
small_back x y small = let size = row_size x y in omega (arith, size, small)

small_first : (field : List ℕ) (y : Fields) → AreSmall (field ∷ y) → length field ≤ file_limit
small_first field y small = let size = length-append field (joined y) in omega (arith, size, small)

pub small_rest : (field : List ℕ) (y : Fields) → AreSmall (field ∷ y) → AreSmall y
small_rest field y small = let size = length-append field (joined y) in omega (arith, size, small)

-- ---- lists

number_some : (bytes n : ℕ) → 1 ≤ bytes → 1 ≤ length (number bytes n)
unfolding number
number_some zero n some = absurd (omega (arith, some))
number_some (suc bytes) n some = omega arith

-- members are a byte at least
abbrev HaveBytes : {B : Type 0} → (B → Fields) → Type 0
HaveBytes {B = B} fields = (p : B) → 1 ≤ length (joined (fields p))

few_members : {B : Type 0} (fields : B → Fields) → HaveBytes fields → (ps : List B) → length ps ≤ length (joined (flat_map fields ps))
few_members fields some [] = omega arith
few_members fields some (p ∷ ps) =
    let rest = few_members fields some ps in
    let size = row_size (fields p) (flat_map fields ps) in
    let one = some p in
    omega (arith, rest, size, one)

each_is : {B : Type 0} (fields : B → Fields) (Is : B → Type 0) (ps : List B) → AllByRecursion (IfSmall fields Is) ps → AreSmall (flat_map fields ps) → AllByRecursion Is ps
each_is fields Is [] all small = tt
each_is fields Is (p ∷ ps) all small =
    (all.0 (small_front (fields p) (flat_map fields ps) small), each_is fields Is ps all.1 (small_back (fields p) (flat_map fields ps) small))

list_form : {B : Type 0} (fields : B → Fields) (Is : B → Type 0) → HaveBytes fields → (ps : List B) → AllByRecursion (IfSmall fields Is) ps → AreSmall (list_of fields ps)
    → IsList Is ps
list_form fields Is some ps all small =
    let rest : AreSmall (flat_map fields ps) = small_rest (number 4 (length ps)) (flat_map fields ps) small in
    let few = few_members fields some ps in
    (omega (arith, rest, few), each_is fields Is ps all rest)

anyway : {B : Type 0} (fields : B → Fields) (Is : B → Type 0) (ps : List B) → AllByRecursion Is ps → AllByRecursion (IfSmall fields Is) ps
anyway fields Is [] all = tt
anyway fields Is (p ∷ ps) all = (λ small. all.0, anyway fields Is ps all.1)

-- ---- values

blob_form : (bytes : List ℕ) → AreStateBytes bytes → length (blob bytes) ≤ file_limit → IsBlob bytes
blob_form bytes are small = let size = length-append (number 4 (length bytes)) bytes in (omega (arith, size, small), are)

one_signed : HaveBytes signed_fields
one_signed n =
    let some = number_some 4 (cast_unsigned w32 n) (omega arith) in
    let size = length-append (signed n) [] in
    omega (arith, some, size)

pub effect_form : (e : Effect) → IsNumber 2 e.routine → AllByRecursion IsSigned e.ints → AreSmall (effect_fields e) → IsEffect e
effect_form e routine ints small =
    (routine, list_form signed_fields IsSigned one_signed e.ints (anyway signed_fields IsSigned e.ints ints) (small_rest (number 2 e.routine) (list_of signed_fields e.ints) small))

one_cell : HaveBytes cell_fields
one_cell (cell.Int n) = omega arith
one_cell (cell.Text text) = omega arith
one_cell (cell.Object o) = omega arith
one_cell (cell.Effect e) = omega arith
one_cell (cell.Event n) = omega arith

pub captured_form : (s : Captured) → IsNumber 4 s.script → IsNumber 4 s.place → AllByRecursion (IfSmall cell_fields IsCell) s.globals
    → AllByRecursion (IfSmall cell_fields IsCell) s.locals → AreSmall (captured_fields s) → IsCaptured s
captured_form s script place globals locals small =
    let cells : AreSmall (list_of cell_fields s.globals ++ list_of cell_fields s.locals) =
    small_rest (number 4 s.place) (list_of cell_fields s.globals ++ list_of cell_fields s.locals)
    (small_rest (number 4 s.script) (number 4 s.place ∷ (list_of cell_fields s.globals ++ list_of cell_fields s.locals)) small) in
    record {
      script = script;
      place = place;
      globals = list_form cell_fields IsCell one_cell s.globals globals (small_front (list_of cell_fields s.globals) (list_of cell_fields s.locals) cells);
      locals = list_form cell_fields IsCell one_cell s.locals locals (small_back (list_of cell_fields s.globals) (list_of cell_fields s.locals) cells);
    }

-- ---- objects

pub number_form : (name : List ℕ) (n : ℤ) → AreStateBytes name → IsSigned n → IfSmall variable_fields IsVariable (variable.Int name n)
number_form name n bytes is small = (blob_form name bytes (small_first (blob name) (signed n ∷ []) (small_rest (tag 1) (blob name ∷ signed n ∷ []) small)), is)

pub text_form : (name text : List ℕ) → AreStateBytes name → AreStateBytes text → IfSmall variable_fields IsVariable (variable.Text name text)
text_form name text bytes others small =
    let both : AreSmall (blob name ∷ blob text ∷ []) = small_rest (tag 3) (blob name ∷ blob text ∷ []) small in (
      blob_form name bytes (small_first (blob name) (blob text ∷ []) both),
      blob_form text others (small_first (blob text) [] (small_rest (blob name) (blob text ∷ []) both)),
    )

one_variable : HaveBytes variable_fields
one_variable (variable.Int name n) = omega arith
one_variable (variable.Text name text) = omega arith

pub standing_form : (s : Standing) → IsMaybe (IsNumber 8) s.number → IsNumber 2 s.effect.routine → AllByRecursion IsSigned s.effect.ints → IfSmall standing_fields IsStanding s
standing_form s number routine ints small =
    (number, effect_form s.effect routine ints (small_back (maybe_fields (number_fields 8) s.number) (effect_fields s.effect) small))

one_standing : HaveBytes standing_fields
one_standing s = by_number s.number
  where
    by_number : (o : Option ℕ) → 1 ≤ length (joined (maybe_fields (number_fields 8) o ++ effect_fields s.effect))
    by_number None = omega arith
    by_number (Some n) = omega arith

one_item : HaveBytes item_fields
one_item (item.Do s) = omega arith
one_item (item.Wait ms) = omega arith
one_item (item.Speak text) = omega arith

pub object_form : (o : Object) → AllByRecursion (IfSmall variable_fields IsVariable) o.variables → AllByRecursion (IfSmall standing_fields IsStanding) o.effects
    → AllByRecursion (IfSmall item_fields IsItem) o.items → IfSmall object_fields IsObject o
object_form o variables effects items small =
    let all : AreSmall (list_of variable_fields o.variables ++ (list_of standing_fields o.effects ++ list_of item_fields o.items)) =
    small_back (busy_fields o.busy) (list_of variable_fields o.variables ++ (list_of standing_fields o.effects ++ list_of item_fields o.items)) small in
    let others : AreSmall (list_of standing_fields o.effects ++ list_of item_fields o.items) =
    small_back (list_of variable_fields o.variables) (list_of standing_fields o.effects ++ list_of item_fields o.items) all in
    record {
      variables = list_form variable_fields IsVariable one_variable o.variables variables
          (small_front (list_of variable_fields o.variables) (list_of standing_fields o.effects ++ list_of item_fields o.items) all);
      effects = list_form standing_fields IsStanding one_standing o.effects effects (small_front (list_of standing_fields o.effects) (list_of item_fields o.items) others);
      items = list_form item_fields IsItem one_item o.items items (small_back (list_of standing_fields o.effects) (list_of item_fields o.items) others);
    }

one_object : HaveBytes object_fields
one_object o = by_busy o.busy
  where
    by_busy : (b : Bool) → 1 ≤ length (joined (busy_fields b ++ (list_of variable_fields o.variables ++ (list_of standing_fields o.effects ++ list_of item_fields o.items))))
    by_busy false = omega arith
    by_busy true = omega arith

-- ---- the whole

one_entry : HaveBytes entry_fields
one_entry e =
    let some = number_some 8 e.due (omega arith) in
    let size = length-append (number 8 e.due) (joined (number 8 e.number ∷ kind_fields e.kind)) in
    omega (arith, some, size)

record HaveSmall (s : Parts) : Type 0 where
  objects : AreSmall (list_of object_fields s.objects)
  agenda : AreSmall (list_of entry_fields s.agenda)

have_small : (s : Parts) → length (parts_bytes s) ≤ file_limit → HaveSmall s
unfolding parts_bytes parts_fields
have_small s small =
    let last : AreSmall (last_fields s) = small_back (first_fields s) (last_fields s) small in
    let both : AreSmall (list_of object_fields s.objects ++ list_of entry_fields s.agenda) =
    small_back (list_of (number_fields 4) s.random) (list_of object_fields s.objects ++ list_of entry_fields s.agenda) last in
    record {
      objects = small_front (list_of object_fields s.objects) (list_of entry_fields s.agenda) both;
      agenda = small_back (list_of object_fields s.objects) (list_of entry_fields s.agenda) both;
    }

pub objects_form : (s : Parts) → AllByRecursion (IfSmall object_fields IsObject) s.objects → length (parts_bytes s) ≤ file_limit → IsList IsObject s.objects
objects_form s all small = list_form object_fields IsObject one_object s.objects all (have_small s small).objects

pub agenda_form : (s : Parts) → AllByRecursion (IfSmall entry_fields IsEntry) s.agenda → length (parts_bytes s) ≤ file_limit → IsList IsEntry s.agenda
agenda_form s all small = list_form entry_fields IsEntry one_entry s.agenda all (have_small s small).agenda
