-- Readers of the parts of a state.
use Rattle.std.proofs.Common.{◌≡◌, ◌≢◌, ◌⊎◌, inl, inr, ℕ, ℤ, Bool, true, false, List, [], ◌∷◌, ◌++◌, Option, None, Some, refl, ap, ◌∙◌, append_assoc, arith}
use Rattle.state_format.specs.declared.counts.Counts.{Counts}
use Rattle.state_format.specs.declared.parts.Effect.{Effect}
use Rattle.state_format.specs.declared.parts.Cell.{Cell}
use Rattle.state_format.specs.declared.parts.Cell.TheVariants as cell
use Rattle.state_format.specs.declared.parts.Captured.{Captured}
use Rattle.state_format.specs.declared.parts.Variable.{Variable}
use Rattle.state_format.specs.declared.parts.Variable.TheVariants as variable
use Rattle.state_format.specs.declared.parts.Item.{Item}
use Rattle.state_format.specs.declared.parts.Item.TheVariants as item
use Rattle.state_format.specs.declared.parts.KindPart.{KindPart}
use Rattle.state_format.specs.declared.parts.KindPart.TheVariants as kind
use Rattle.state_format.specs.declared.parts.Parts.{Parts}
use Rattle.state_format.specs.Parts.{IsNumber, IsSigned, IsBlob, IsList, IsEffect, IsCell, IsCaptured, IsVariable, IsMaybe, IsStanding, IsItem, IsObject, IsKind, IsEntry, IsScript, HasForm}
use Rattle.state_format.specs.Fields.{Fields, tag, number, magic, list_of, number_fields, signed_fields, blob_fields, effect_fields, cell_fields, captured_fields, variable_fields, maybe_fields}
use Rattle.state_format.specs.Fields.{standing_fields, item_fields, busy_fields, object_fields, kind_fields, entry_fields, script_fields, count_fields, first_fields, last_fields, parts_fields}
use Rattle.state_format.specs.Reading.{Reader, both, choose, only, nothing_at, number_at, signed_at, blob_at, magic_at, list_at, effect_of, effect_at, cell_of, cell_at, captured_of, captured_at}
use Rattle.state_format.specs.Reading.{variable_of, variable_at, maybe_of, maybe_at, standing_of, standing_at, item_of, item_at, busy_of, busy_at, object_of, object_at, kind_of, kind_at}
use Rattle.state_format.specs.Reading.{entry_of, entry_at, script_of, script_at, counts_of, counts_at, parts_of, parts_at}
use Rattle.state_format.proofs.Readers.{IsReader, Either, either_fields, StartsOther, via-reader, followed-reader, only-reader, choose-reader, nothing-reader}
use Rattle.state_format.proofs.FieldReaders.{number-reader, signed-reader, blob-reader, magic-reader, list-reader}

both-reader : {A B : Type 0} (Has : A → Type 0) (HasB : B → Type 0) (f : A → Fields) (g : B → Fields) (p : Reader A) (q : Reader B)
    → IsReader Has f p → IsReader HasB g q → IsReader (λ (x : A × B). Has x.0 × HasB x.1) (λ x. f x.0 ++ g x.1) (both p q)
both-reader Has HasB f g p q rp rq = followed-reader Has (λ a. HasB) f (λ a. g) p (λ a. q) rp (λ a h. rq)

others-only : {A : Type 0} (f : A → Fields) (byte other : ℕ) → other ≢ byte → (a : A) → StartsOther byte (tag other ∷ f a)
others-only f byte other h a = (other, (refl, h))

others-either : {A B : Type 0} (f : A → Fields) (g : B → Fields) (byte other : ℕ) → other ≢ byte → ((b : B) → StartsOther byte (g b))
    → (x : A ⊎ B) → StartsOther byte (either_fields (λ a. tag other ∷ f a) g x)
others-either f g byte other h hs (inl a) = (other, (refl, h))
others-either f g byte other h hs (inr b) = hs b

pub effect-reader : IsReader IsEffect effect_fields effect_at
unfolding effect_at
effect-reader =
    via-reader _ _ IsEffect effect_fields effect_of (both (number_at 2) (list_at signed_at))
    (both-reader (IsNumber 2) (IsList IsSigned) (number_fields 2) (list_of signed_fields) (number_at 2)
    (list_at signed_at) (number-reader 2) (list-reader IsSigned signed_fields signed_at signed-reader))
    (λ x h. (h, refl))
    (λ e h. ((e.routine, e.ints), (h, refl)))

pub cell-reader : IsReader IsCell cell_fields cell_at
unfolding cell_at
cell-reader =
    via-reader _ _ IsCell cell_fields cell_of (choose 0x03 signed_at (choose 0x05 blob_at (choose 0x06 (number_at 4) (choose 0x10 effect_at (only 0x11 signed_at)))))
    (choose-reader _ _ _ _ 0x03 signed_at _ signed-reader
    (choose-reader _ _ _ _ 0x05 blob_at _ blob-reader
    (choose-reader _ _ _ _ 0x06 (number_at 4) _ (number-reader 4)
    (choose-reader _ _ _ _ 0x10 effect_at _ effect-reader
    (only-reader _ _ 0x11 signed_at signed-reader)
    (others-only signed_fields 0x10 0x11 (omega arith)))
    (others-either _ _ 0x06 0x10 (omega arith) (others-only signed_fields 0x06 0x11 (omega arith))))
    (others-either _ _ 0x05 0x06 (omega arith) (others-either _ _ 0x05 0x10 (omega arith) (others-only signed_fields 0x05 0x11 (omega arith)))))
    (others-either _ _ 0x03 0x05 (omega arith) (others-either _ _ 0x03 0x06 (omega arith) (others-either _ _ 0x03 0x10 (omega arith) (others-only signed_fields 0x03 0x11 (omega arith))))))
    makes onto
  where
    makes : (x : ℤ ⊎ (List ℕ ⊎ (ℕ ⊎ (Effect ⊎ ℤ)))) → Either IsSigned (Either IsBlob (Either (IsNumber 4) (Either IsEffect IsSigned))) x
        → IsCell (cell_of x) × (cell_fields (cell_of x)
        ≡ either_fields (λ a. tag 0x03 ∷ signed_fields a)
        (either_fields (λ a. tag 0x05 ∷ blob_fields a)
        (either_fields (λ a. tag 0x06 ∷ number_fields 4 a)
        (either_fields (λ a. tag 0x10 ∷ effect_fields a) (λ a. tag 0x11 ∷ signed_fields a)))) x)
    makes (inl n) h = (h, refl)
    makes (inr (inl text)) h = (h, refl)
    makes (inr (inr (inl o))) h = (h, refl)
    makes (inr (inr (inr (inl e)))) h = (h, refl)
    makes (inr (inr (inr (inr n)))) h = (h, refl)

    onto : (c : Cell) → IsCell c → (x : ℤ ⊎ (List ℕ ⊎ (ℕ ⊎ (Effect ⊎ ℤ)))) × (Either IsSigned (Either IsBlob (Either (IsNumber 4) (Either IsEffect IsSigned))) x × (cell_of x ≡ c))
    onto (cell.Int n) h = (inl n, (h, refl))
    onto (cell.Text text) h = (inr (inl text), (h, refl))
    onto (cell.Object o) h = (inr (inr (inl o)), (h, refl))
    onto (cell.Effect e) h = (inr (inr (inr (inl e))), (h, refl))
    onto (cell.Event n) h = (inr (inr (inr (inr n))), (h, refl))

pub captured-reader : IsReader IsCaptured captured_fields captured_at
unfolding captured_at
captured-reader =
    via-reader _ _ IsCaptured captured_fields captured_of (both (number_at 4) (both (number_at 4) (both (list_at cell_at) (list_at cell_at))))
    (both-reader _ _ _ _ (number_at 4) _ (number-reader 4)
    (both-reader _ _ _ _ (number_at 4) _ (number-reader 4)
    (both-reader _ _ _ _ (list_at cell_at) (list_at cell_at) cells cells)))
    (λ x h. (record { script = h.0; place = h.1.0; globals = h.1.1.0; locals = h.1.1.1 }, refl))
    (λ s h. ((s.script, (s.place, (s.globals, s.locals))), ((h.script, (h.place, (h.globals, h.locals))), refl)))
  where
    cells : IsReader (IsList IsCell) (list_of cell_fields) (list_at cell_at)
    cells = list-reader IsCell cell_fields cell_at cell-reader

pub variable-reader : IsReader IsVariable variable_fields variable_at
unfolding variable_at
variable-reader =
    via-reader _ _ IsVariable variable_fields variable_of (choose 1 (both blob_at signed_at) (only 3 (both blob_at blob_at)))
    (choose-reader _ _ _ _ 1 (both blob_at signed_at) _ (both-reader _ _ _ _ blob_at signed_at blob-reader signed-reader)
    (only-reader _ _ 3 (both blob_at blob_at) (both-reader _ _ _ _ blob_at blob_at blob-reader blob-reader))
    (others-only (λ (x : List ℕ × List ℕ). blob_fields x.0 ++ blob_fields x.1) 1 3 (omega arith)))
    makes onto
  where
    makes : (x : (List ℕ × ℤ) ⊎ (List ℕ × List ℕ)) → Either (λ (x : List ℕ × ℤ). IsBlob x.0 × IsSigned x.1) (λ (x : List ℕ × List ℕ). IsBlob x.0 × IsBlob x.1) x
        → IsVariable (variable_of x)
        × (variable_fields (variable_of x)
        ≡ either_fields (λ (x : List ℕ × ℤ). tag 1 ∷ (blob_fields x.0 ++ signed_fields x.1))
        (λ (x : List ℕ × List ℕ). tag 3 ∷ (blob_fields x.0 ++ blob_fields x.1)) x)
    makes (inl x) h = (h, refl)
    makes (inr x) h = (h, refl)

    onto : (v : Variable) → IsVariable v
        → (x : (List ℕ × ℤ) ⊎ (List ℕ × List ℕ))
        × (Either (λ (x : List ℕ × ℤ). IsBlob x.0 × IsSigned x.1) (λ (x : List ℕ × List ℕ). IsBlob x.0 × IsBlob x.1) x
        × (variable_of x ≡ v))
    onto (variable.Int name n) h = (inl (name, n), (h, refl))
    onto (variable.Text name text) h = (inr (name, text), (h, refl))

pub maybe-reader : {A : Type 0} (Has : A → Type 0) (f : A → Fields) (p : Reader A) → IsReader Has f p → IsReader (IsMaybe Has) (maybe_fields f) (maybe_at p)
unfolding maybe_at
maybe-reader {A = A} Has f p r =
    via-reader _ _ (IsMaybe Has) (maybe_fields f) maybe_of (choose 0 nothing_at (only 1 p))
    (choose-reader _ _ _ _ 0 nothing_at (only 1 p) nothing-reader (only-reader Has f 1 p r) (others-only f 0 1 (omega arith)))
    makes onto
  where
    makes : (x : Unit {0} ⊎ A) → Either (λ (u : Unit {0}). Unit {0}) Has x
        → IsMaybe Has (maybe_of x)
        × (maybe_fields f (maybe_of x) ≡ either_fields (λ (u : Unit {0}). tag 0 ∷ []) (λ a. tag 1 ∷ f a) x)
    makes (inl u) h = (tt, refl)
    makes (inr a) h = (h, refl)

    onto : (o : Option A) → IsMaybe Has o → (x : Unit {0} ⊎ A) × (Either (λ (u : Unit {0}). Unit {0}) Has x × (maybe_of x ≡ o))
    onto None h = (inl tt, (tt, refl))
    onto (Some a) h = (inr a, (h, refl))

pub standing-reader : IsReader IsStanding standing_fields standing_at
unfolding standing_at
standing-reader =
    via-reader _ _ IsStanding standing_fields standing_of (both (maybe_at (number_at 8)) effect_at)
    (both-reader _ _ _ _ (maybe_at (number_at 8)) effect_at (maybe-reader (IsNumber 8) (number_fields 8) (number_at 8) (number-reader 8)) effect-reader)
    (λ x h. (h, refl))
    (λ s h. ((s.number, s.effect), (h, refl)))

pub item-reader : IsReader IsItem item_fields item_at
unfolding item_at
item-reader =
    via-reader _ _ IsItem item_fields item_of (choose 0 captured_at (choose 1 signed_at (only 2 blob_at)))
    (choose-reader _ _ _ _ 0 captured_at _ captured-reader
    (choose-reader _ _ _ _ 1 signed_at _ signed-reader
    (only-reader _ _ 2 blob_at blob-reader)
    (others-only blob_fields 1 2 (omega arith)))
    (others-either _ _ 0 1 (omega arith) (others-only blob_fields 0 2 (omega arith))))
    makes onto
  where
    makes : (x : Captured ⊎ (ℤ ⊎ List ℕ)) → Either IsCaptured (Either IsSigned IsBlob) x
        → IsItem (item_of x) × (item_fields (item_of x) ≡ either_fields (λ a. tag 0 ∷ captured_fields a) (either_fields (λ a. tag 1 ∷ signed_fields a) (λ a. tag 2 ∷ blob_fields a)) x)
    makes (inl s) h = (h, refl)
    makes (inr (inl ms)) h = (h, refl)
    makes (inr (inr text)) h = (h, refl)

    onto : (i : Item) → IsItem i → (x : Captured ⊎ (ℤ ⊎ List ℕ)) × (Either IsCaptured (Either IsSigned IsBlob) x × (item_of x ≡ i))
    onto (item.Do s) h = (inl s, (h, refl))
    onto (item.Wait ms) h = (inr (inl ms), (h, refl))
    onto (item.Speak text) h = (inr (inr text), (h, refl))

abbrev IsAny : Bool → Type 0
IsAny b = Unit {0}

pub busy-reader : IsReader IsAny busy_fields busy_at
unfolding busy_at
busy-reader =
    via-reader _ _ IsAny busy_fields busy_of (choose 0 nothing_at (only 1 nothing_at))
    (choose-reader _ _ _ _ 0 nothing_at (only 1 nothing_at) nothing-reader (only-reader _ _ 1 nothing_at nothing-reader) (others-only (λ (x : Unit {0}). []) 0 1 (omega arith)))
    makes onto
  where
    makes : (x : Unit {0} ⊎ Unit {0}) → Either (λ (u : Unit {0}). Unit {0}) (λ (u : Unit {0}). Unit {0}) x
        → Unit {0} × (busy_fields (busy_of x) ≡ either_fields (λ (u : Unit {0}). tag 0 ∷ []) (λ (u : Unit {0}). tag 1 ∷ []) x)
    makes (inl u) h = (tt, refl)
    makes (inr u) h = (tt, refl)

    onto : (b : Bool) → Unit {0} → (x : Unit {0} ⊎ Unit {0}) × (Either (λ (u : Unit {0}). Unit {0}) (λ (u : Unit {0}). Unit {0}) x × (busy_of x ≡ b))
    onto false h = (inl tt, (tt, refl))
    onto true h = (inr tt, (tt, refl))

pub object-reader : IsReader IsObject object_fields object_at
unfolding object_at
object-reader =
    via-reader _ _ IsObject object_fields object_of (both busy_at (both (list_at variable_at) (both (list_at standing_at) (list_at item_at))))
    (both-reader _ _ _ _ busy_at _ busy-reader
    (both-reader _ _ _ _ (list_at variable_at) _ (list-reader IsVariable variable_fields variable_at variable-reader)
    (both-reader _ _ _ _ (list_at standing_at) (list_at item_at) (list-reader IsStanding standing_fields standing_at standing-reader) (list-reader IsItem item_fields item_at item-reader))))
    (λ x h. (record { variables = h.1.0; effects = h.1.1.0; items = h.1.1.1 }, refl))
    (λ o h. ((o.busy, (o.variables, (o.effects, o.items))), ((tt, (h.variables, (h.effects, h.items))), refl)))

pub kind-reader : IsReader IsKind kind_fields kind_at
unfolding kind_at
kind-reader =
    via-reader _ _ IsKind kind_fields kind_of (choose 0 (both (number_at 4) (both blob_at signed_at)) (choose 1 (both (number_at 4) captured_at) (choose 2 (number_at 4) (only 3 (number_at 4)))))
    (choose-reader _ _ _ _ 0 (both (number_at 4) (both blob_at signed_at)) _ (both-reader _ _ _ _ (number_at 4) _ (number-reader 4) (both-reader _ _ _ _ blob_at signed_at blob-reader signed-reader))
    (choose-reader _ _ _ _ 1 (both (number_at 4) captured_at) _ (both-reader _ _ _ _ (number_at 4) captured_at (number-reader 4) captured-reader)
    (choose-reader _ _ _ _ 2 (number_at 4) _ (number-reader 4)
    (only-reader _ _ 3 (number_at 4) (number-reader 4))
    (others-only (number_fields 4) 2 3 (omega arith)))
    (others-either _ _ 1 2 (omega arith) (others-only (number_fields 4) 1 3 (omega arith))))
    (others-either _ _ 0 1 (omega arith) (others-either _ _ 0 2 (omega arith) (others-only (number_fields 4) 0 3 (omega arith)))))
    makes onto
  where
    makes : (x : (ℕ × (List ℕ × ℤ)) ⊎ ((ℕ × Captured) ⊎ (ℕ ⊎ ℕ)))
        → Either (λ (x : ℕ × (List ℕ × ℤ)). IsNumber 4 x.0 × (IsBlob x.1.0 × IsSigned x.1.1)) (Either (λ (x : ℕ × Captured). IsNumber 4 x.0 × IsCaptured x.1) (Either (IsNumber 4) (IsNumber 4))) x
        → IsKind (kind_of x) × (kind_fields (kind_of x)
        ≡ either_fields (λ (x : ℕ × (List ℕ × ℤ)). tag 0 ∷
        (number_fields 4 x.0 ++ (blob_fields x.1.0 ++ signed_fields x.1.1)))
        (either_fields (λ (x : ℕ × Captured). tag 1 ∷ (number_fields 4 x.0 ++ captured_fields x.1))
        (either_fields (λ o. tag 2 ∷ number_fields 4 o) (λ o. tag 3 ∷ number_fields 4 o))) x)
    makes (inl x) h = (h, refl)
    makes (inr (inl x)) h = (h, refl)
    makes (inr (inr (inl o))) h = (h, refl)
    makes (inr (inr (inr o))) h = (h, refl)

    onto : (k : KindPart) → IsKind k → (x : (ℕ × (List ℕ × ℤ)) ⊎ ((ℕ × Captured) ⊎ (ℕ ⊎ ℕ)))
        × (Either (λ (x : ℕ × (List ℕ × ℤ)). IsNumber 4 x.0 × (IsBlob x.1.0 × IsSigned x.1.1))
        (Either (λ (x : ℕ × Captured). IsNumber 4 x.0 × IsCaptured x.1) (Either (IsNumber 4) (IsNumber 4))) x
        × (kind_of x ≡ k))
    onto (kind.Event o script user) h = (inl (o, (script, user)), (h, refl))
    onto (kind.Stored o s) h = (inr (inl (o, s)), (h, refl))
    onto (kind.Turn o) h = (inr (inr (inl o)), (h, refl))
    onto (kind.Unapply o) h = (inr (inr (inr o)), (h, refl))

pub entry-reader : IsReader IsEntry entry_fields entry_at
unfolding entry_at
entry-reader =
    via-reader _ _ IsEntry entry_fields entry_of (both (number_at 8) (both (number_at 8) kind_at))
    (both-reader _ _ _ _ (number_at 8) _ (number-reader 8) (both-reader _ _ _ _ (number_at 8) kind_at (number-reader 8) kind-reader))
    (λ x h. (record { due = h.0; number = h.1.0; kind = h.1.1 }, refl))
    (λ e h. ((e.due, (e.number, e.kind)), ((h.due, (h.number, h.kind)), refl)))

pub script-reader : IsReader IsScript script_fields script_at
unfolding script_at
script-reader =
    via-reader _ _ IsScript script_fields script_of (both blob_at blob_at) (both-reader _ _ _ _ blob_at blob_at blob-reader blob-reader) (λ x h. (h, refl)) (λ s h. ((s.name, s.code), (h, refl)))

-- the numbers in a row
record IsCounts (c : Counts) : Type 0 where
  version : IsNumber 1 c.version
  limit : IsNumber 8 c.limit
  entries : IsNumber 8 c.entries
  until : IsNumber 8 c.until
  clock : IsNumber 8 c.clock
  taken : IsNumber 8 c.taken
  done : IsNumber 8 c.done
  next : IsNumber 8 c.next

abbrev counted_fields : Counts → Fields
counted_fields c =
    number 1 c.version ∷ number 8 c.limit ∷ number 8 c.entries ∷ number 8 c.until ∷ number 8 c.clock ∷ number 8 c.taken ∷ number 8 c.done ∷ number 8 c.next ∷ []

counts-reader : IsReader IsCounts counted_fields counts_at
unfolding counts_at
counts-reader =
    via-reader _ _ IsCounts counted_fields counts_of
    (both (number_at 1) (both (number_at 8)
    (both (number_at 8) (both (number_at 8)
    (both (number_at 8) (both (number_at 8) (both (number_at 8) (number_at 8))))))))
    (both-reader _ _ _ _ (number_at 1) _ (number-reader 1)
    (both-reader _ _ _ _ (number_at 8) _ (number-reader 8)
    (both-reader _ _ _ _ (number_at 8) _ (number-reader 8)
    (both-reader _ _ _ _ (number_at 8) _ (number-reader 8)
    (both-reader _ _ _ _ (number_at 8) _ (number-reader 8)
    (both-reader _ _ _ _ (number_at 8) _ (number-reader 8)
    (both-reader _ _ _ _ (number_at 8) (number_at 8) (number-reader 8) (number-reader 8))))))))
    (λ x h. (record { version = h.0; limit = h.1.0; entries = h.1.1.0; until = h.1.1.1.0; clock = h.1.1.1.1.0; taken = h.1.1.1.1.1.0; done = h.1.1.1.1.1.1.0; next = h.1.1.1.1.1.1.1 }, refl))
    (λ c h. ((c.version, (c.limit, (c.entries, (c.until, (c.clock, (c.taken, (c.done, c.next))))))), ((h.version, (h.limit, (h.entries, (h.until, (h.clock, (h.taken, (h.done, h.next))))))), refl)))

-- the same fields, one part after the other
in_a_row : (s : Parts) → first_fields s ++ last_fields s
    ≡ magic ∷ (maybe_fields blob_fields s.header
    ++ (list_of script_fields s.scripts
    ++ (blob_fields s.area ++
    (count_fields s ++ (list_of (number_fields 4) s.random
    ++ (list_of object_fields s.objects ++ list_of entry_fields s.agenda))))))
in_a_row s =
    ap (λ (l : Fields). magic ∷ l) (append_assoc (maybe_fields blob_fields s.header) (list_of script_fields s.scripts ++ (blob_fields s.area ++ count_fields s)) (last_fields s)
    ∙ ap (λ (l : Fields). maybe_fields blob_fields s.header ++ l) (append_assoc (list_of script_fields s.scripts) (blob_fields s.area ++ count_fields s) (last_fields s)))

pub parts-reader : IsReader HasForm parts_fields parts_at
unfolding parts_at parts_fields
parts-reader =
    via-reader _ _ HasForm parts_fields parts_of
    (both magic_at (both (maybe_at blob_at)
    (both (list_at script_at)
    (both blob_at (both counts_at (both (list_at (number_at 4)) (both (list_at object_at) (list_at entry_at))))))))
    (both-reader _ _ _ _ magic_at _ magic-reader
    (both-reader _ _ _ _ (maybe_at blob_at) _ (maybe-reader IsBlob blob_fields blob_at blob-reader)
    (both-reader _ _ _ _ (list_at script_at) _ (list-reader IsScript script_fields script_at script-reader)
    (both-reader _ _ _ _ blob_at _ blob-reader
    (both-reader _ _ _ _ counts_at _ counts-reader
    (both-reader _ _ _ _ (list_at (number_at 4)) _ (list-reader (IsNumber 4) (number_fields 4) (number_at 4) (number-reader 4))
    (both-reader _ _ _ _ (list_at object_at) (list_at entry_at) (list-reader IsObject object_fields object_at object-reader) (list-reader IsEntry entry_fields entry_at entry-reader))))))))
    (λ x h. (
      record {
        header = h.1.0;
        scripts = h.1.1.0;
        area = h.1.1.1.0;
        version = h.1.1.1.1.0.version;
        limit = h.1.1.1.1.0.limit;
        entries = h.1.1.1.1.0.entries;
        until = h.1.1.1.1.0.until;
        clock = h.1.1.1.1.0.clock;
        taken = h.1.1.1.1.0.taken;
        done = h.1.1.1.1.0.done;
        next = h.1.1.1.1.0.next;
        random = h.1.1.1.1.1.0;
        objects = h.1.1.1.1.1.1.0;
        agenda = h.1.1.1.1.1.1.1;
      },
      in_a_row (parts_of x),
    ))
    (λ s h. (
      (
        tt,
        (
          s.header,
          (
            s.scripts,
            (
              s.area,
              (
                record {
                  version = s.version;
                  limit = s.limit;
                  entries = s.entries;
                  until = s.until;
                  clock = s.clock;
                  taken = s.taken;
                  done = s.done;
                  next = s.next;
                },
                (s.random, (s.objects, s.agenda)),
              ),
            ),
          ),
        ),
      ),
      (
        (
          tt,
          (
            h.header,
            (
              h.scripts,
              (
                h.area,
                (
                  record {
                    version = h.version;
                    limit = h.limit;
                    entries = h.entries;
                    until = h.until;
                    clock = h.clock;
                    taken = h.taken;
                    done = h.done;
                    next = h.next;
                  },
                  (h.random, (h.objects, h.agenda)),
                ),
              ),
            ),
          ),
        ),
        refl,
      ),
    ))
