-- What a state's parts tell tells the parts: no two states tell one world.
use Rattle.std.proofs.Common.{arith, ◌≡◌, List, [], ◌∷◌, length, map, refl, ap, sym, ◌∙◌}
use Rattle.nwq_value.specs.Effect.{Effect}
use Rattle.nwq_value.specs.declared.value.Value.{Value}
use Rattle.nwq_value.specs.declared.value.Value.TheVariants as value
use Rattle.saved_state.specs.declared.cell.Cell.{Cell}
use Rattle.saved_state.specs.declared.cell.Cell.TheVariants.{Value as Holds, Base}
use Rattle.saved_state.specs.declared.saved.Saved.{Saved}
use Rattle.local_variables.specs.Variables.{Variable, IntVar, TextVar}
use Rattle.action_queue.specs.declared.queue.Item.{Item}
use Rattle.action_queue.specs.declared.queue.Item.TheVariants.{Do, Wait, Speak}
use Rattle.delay_agenda.specs.declared.entry.Entry.{Entry}
use Rattle.delay_agenda.specs.declared.entry.Kind.{Kind}
use Rattle.delay_agenda.specs.declared.entry.Kind.TheVariants.{Event, Stored, Turn, Unapply}
use Rattle.gff_tree.specs.Whole.{PlainGff}
use Rattle.area_rules.specs.Objects.{AreaObject, objects_of}
use Rattle.world_rules.specs.declared.data.Stood.{Stood}
use Rattle.world_rules.specs.declared.data.Things.{Things}
use Rattle.world_rules.specs.World.{World}
use Rattle.state_format.specs.declared.parts.Effect.{Effect as EffectPart}
use Rattle.state_format.specs.declared.parts.Cell.{Cell as CellPart}
use Rattle.state_format.specs.declared.parts.Cell.TheVariants as cell
use Rattle.state_format.specs.declared.parts.Captured.{Captured}
use Rattle.state_format.specs.declared.parts.Variable.{Variable as VariablePart}
use Rattle.state_format.specs.declared.parts.Variable.TheVariants as variable
use Rattle.state_format.specs.declared.parts.Standing.{Standing}
use Rattle.state_format.specs.declared.parts.Item.{Item as ItemPart}
use Rattle.state_format.specs.declared.parts.Item.TheVariants as item
use Rattle.state_format.specs.declared.parts.Object.{Object}
use Rattle.state_format.specs.declared.parts.KindPart.{KindPart}
use Rattle.state_format.specs.declared.parts.KindPart.TheVariants as kind
use Rattle.state_format.specs.declared.parts.Entry.{Entry as EntryPart}
use Rattle.state_format.specs.declared.parts.Parts.{Parts}
use Rattle.state_parts.specs.World.{cell_of, saved_of, variable_of, variables_of, stood_of, item_of, things_of, with_variables, kind_of, entry_of, world_of}

-- ---- back

map_back : {A B : Type 0} (tells : B → A) (back : A → B) → ((b : B) → back (tells b) ≡ b) → (bs : List B) → map back (map tells bs) ≡ bs
map_back tells back again [] = refl
map_back tells back again (b ∷ bs) = ap (λ x. x ∷ map back (map tells bs)) (again b) ∙ ap (λ xs. b ∷ xs) (map_back tells back again bs)

abbrev effect_back : Effect → EffectPart
effect_back e = record { routine = e.routine; ints = e.ints }

abbrev value_back : Value → CellPart
value_back (value.Int n) = cell.Int n
value_back (value.Text text) = cell.Text text
value_back (value.Object o) = cell.Object o
value_back (value.Effect e) = cell.Effect (effect_back e)
value_back (value.Event n) = cell.Event n

abbrev cell_back : Cell → CellPart
cell_back (Holds v) = value_back v
cell_back (Base bp) = cell.Object bp

cell_again : (c : CellPart) → cell_back (cell_of c) ≡ c
cell_again (cell.Int n) = refl
cell_again (cell.Text text) = refl
cell_again (cell.Object o) = refl
cell_again (cell.Effect e) = refl
cell_again (cell.Event n) = refl

abbrev captured_back : Saved → Captured
captured_back s = record { script = s.script; place = s.place; globals = map cell_back s.globals; locals = map cell_back s.locals }

captured_again : (c : Captured) → captured_back (saved_of c) ≡ c
captured_again c =
    ap (λ (l : List CellPart). record (captured_back (saved_of c)) { globals = l }) (map_back cell_of cell_back cell_again c.globals)
    ∙ ap (λ (l : List CellPart). record c { locals = l }) (map_back cell_of cell_back cell_again c.locals)

abbrev variable_back : Variable → VariablePart
variable_back (IntVar name n) = variable.Int name n
variable_back (TextVar name text) = variable.Text name text

variable_again : (v : VariablePart) → variable_back (variable_of v) ≡ v
variable_again (variable.Int name n) = refl
variable_again (variable.Text name text) = refl

abbrev stood_back : Stood → Standing
stood_back s = record { number = s.number; effect = effect_back s.effect }

stood_again : (s : Standing) → stood_back (stood_of s) ≡ s
stood_again s = refl

abbrev item_back : Item Saved → ItemPart
item_back (Do s) = item.Do (captured_back s)
item_back (Wait ms) = item.Wait ms
item_back (Speak text) = item.Speak text

item_again : (i : ItemPart) → item_back (item_of i) ≡ i
item_again (item.Do c) = ap item.Do (captured_again c)
item_again (item.Wait ms) = refl
item_again (item.Speak text) = refl

abbrev kind_back : Kind Saved → KindPart
kind_back (Event o script user) = kind.Event o script user
kind_back (Stored o s) = kind.Stored o (captured_back s)
kind_back (Turn o) = kind.Turn o
kind_back (Unapply o) = kind.Unapply o

kind_again : (k : KindPart) → kind_back (kind_of k) ≡ k
kind_again (kind.Event o script user) = refl
kind_again (kind.Stored o c) = ap (kind.Stored o) (captured_again c)
kind_again (kind.Turn o) = refl
kind_again (kind.Unapply o) = refl

abbrev entry_back : Entry Saved → EntryPart
entry_back e = record { due = e.due; number = e.number; kind = kind_back e.kind }

entry_again : (e : EntryPart) → entry_back (entry_of e) ≡ e
entry_again e = ap (λ (k : KindPart). record e { kind = k }) (kind_again e.kind)

-- ---- objects

abbrev object_back : Things Saved → List Variable → Object
object_back t vars = record {
  busy = t.queue.busy;
  variables = map variable_back vars;
  effects = map stood_back t.effects;
  items = map item_back t.queue.actions;
}

object_again : (o : Object) → object_back (things_of o) (variables_of o) ≡ o
object_again o =
    ap (λ (l : List VariablePart). record (object_back (things_of o) (variables_of o)) { variables = l }) (map_back variable_of variable_back variable_again o.variables)
    ∙ ap (λ (l : List Standing). record o { effects = l; items = map item_back (map item_of o.items) }) (map_back stood_of stood_back stood_again o.effects)
    ∙ ap (λ (l : List ItemPart). record o { items = l }) (map_back item_of item_back item_again o.items)

objects_same : (xs ys : List Object) → map things_of xs ≡ map things_of ys → map variables_of xs ≡ map variables_of ys → xs ≡ ys
objects_same [] [] things vars = refl
objects_same [] (y ∷ ys) things vars = absurd cc
objects_same (x ∷ xs) [] things vars = absurd cc
objects_same (x ∷ xs) (y ∷ ys) things vars =
    let kept : things_of x ≡ things_of y = cc in
    let own : variables_of x ≡ variables_of y = cc in
    let others : map things_of xs ≡ map things_of ys = cc in
    let further : map variables_of xs ≡ map variables_of ys = cc in
    let here : x ≡ y = sym (object_again x) ∙ ap (λ t. object_back t (variables_of x)) kept ∙ ap (λ v. object_back (things_of y) v) own ∙ object_again y in
    ap (λ (o : Object). o ∷ xs) here ∙ ap (λ (l : List Object). y ∷ l) (objects_same xs ys others further)

-- the variables of an area's objects that were given by as many parts are the parts'
given_back : (os : List AreaObject) (ps : List Object) → length ps ≡ length os → map (λ (o : AreaObject). o.vars) (with_variables os ps) ≡ map variables_of ps
given_back [] [] many = refl
given_back [] (p ∷ ps) many = absurd (omega (arith, many))
given_back (o ∷ os) [] many = absurd (omega (arith, many))
given_back (o ∷ os) (p ∷ ps) many = ap (λ (l : List (List Variable)). variables_of p ∷ l) (given_back os ps (omega (arith, many)))

-- ---- the world

-- what a world tells of parts
pub record SameTold (s t : Parts) : Type 0 where
  pub clock : s.clock ≡ t.clock
  pub version : s.version ≡ t.version
  pub random : s.random ≡ t.random
  pub next : s.next ≡ t.next
  pub objects : s.objects ≡ t.objects
  pub agenda : s.agenda ≡ t.agenda

pub same_told : (first second : PlainGff) (s t : Parts) → length s.objects ≡ length (objects_of first.top) → length t.objects ≡ length (objects_of second.top)
    → world_of first s ≡ world_of second t → SameTold s t
same_told first second s t many as_many same =
    let vars : map variables_of s.objects ≡ map variables_of t.objects =
    sym (given_back (objects_of first.top) s.objects many) ∙ ap (λ (w : World Saved). map (λ (o : AreaObject). o.vars) w.area.objects) same
    ∙ given_back (objects_of second.top) t.objects as_many in
    record {
      clock = ap (λ (w : World Saved). w.clock) same;
      version = ap (λ (w : World Saved). w.version) same;
      random = ap (λ (w : World Saved). w.random) same;
      next = ap (λ (w : World Saved). w.agenda.next) same;
      objects = objects_same s.objects t.objects (ap (λ (w : World Saved). w.things) same) vars;
      agenda = sym (map_back entry_of entry_back entry_again s.agenda) ∙ ap (λ (w : World Saved). map entry_back w.agenda.entries) same
          ∙ map_back entry_of entry_back entry_again t.agenda;
    }
