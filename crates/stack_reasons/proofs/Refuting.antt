-- In each table the row at a place of a run is the run's shape, as far as the routine sees it. So a
-- run that can't go on refutes every table.
use Rattle.std.proofs.Common.{◌≡◌, ℕ, ℤ, List, [], ◌++◌, Option, None, Some, inl, inr, sym, subst, ◌∙◌, ap, refl}
use Rattle.std.proofs.lemmas.List.{append_assoc, append-nil}
use Rattle.nwq_value.specs.Engine.{EngineTable}
use Rattle.ncs_code.specs.Plain.{PlainOp}
use Rattle.ncs_code.specs.Plain as ops
use Rattle.ncs_code.specs.File.{jump_place, op_at, resume_place}
use Rattle.stack_shape.specs.declared.shape.Slot.{Slot}
use Rattle.stack_shape.specs.declared.shape.Entry.{Entry}
use Rattle.stack_shape.specs.declared.shape.Entry.TheVariants.{Start, Called, Stored}
use Rattle.stack_shape.specs.declared.store.StoredTypes.{StoredTypes}
use Rattle.stack_shape.specs.Stored.{TopShape, stored_types, stored_shape}
use Rattle.stack_shape.specs.Laws.{beneath_under, deeper, deeper_saved, RuleLooksFromTop, StoresLookFromTop}
use Rattle.stack_shape.specs.Rule.{IsOneStep, rule, top_first}
use Rattle.machine_rules.specs.Act.{next_place}
use Rattle.stack_rules.specs.Tables.{Callee, ShapeTable, empty_shape, first_shape}
use Rattle.stack_rules.specs.Rules.{Leads, Follows, GoesOnBehindCall, MayCall, MayReturn, MayStore, Obeys, MeetsRules}
use Rattle.stack_reasons.specs.declared.reason.Trouble.{Trouble}
use Rattle.stack_reasons.specs.declared.reason.Trouble.TheVariants.{NothingThere, NoRule, NotEnded, OtherCells, OtherResult}
use Rattle.stack_reasons.specs.Ways.{LeadsTo, first_place, entered, left_by, IsEnded, Way, Begins, Steps, Returns, Comes, Starts, Calls, Stores}
use Rattle.stack_reasons.specs.Reasons.{HasNoRule, IsLeft, LeavesOtherwise, IsTrouble, ReasonsRefute}

some_is : {A : Type 0} (a b : A) → Some a ≡ Some b → a ≡ b
some_is a b h = cc

none_some : {A : Type 0} (a : A) → None ≡ Some a → ⊥
none_some a h = absurd cc

same_shape : (cells under : List Slot) (saved : List (List Slot)) (pending : ℕ) (cells' under' : List Slot) (saved' : List (List Slot)) (pending' : ℕ)
    → cells ≡ cells' → under ≡ under' → saved ≡ saved' → pending ≡ pending'
    → (let a : TopShape = record { cells = cells; under = under; saved = saved; pending = pending } in a)
    ≡ record { cells = cells'; under = under'; saved = saved'; pending = pending' }
same_shape cells under saved pending cells' under' saved' pending' c u s p =
    ap (λ c. record { cells = c; under = under; saved = saved; pending = pending }) c
    ∙ ap (λ u. record { cells = cells'; under = u; saved = saved; pending = pending }) u
    ∙ ap (λ s. record { cells = cells'; under = under'; saved = s; pending = pending }) s
    ∙ ap (λ p. record { cells = cells'; under = under'; saved = saved'; pending = p }) p

-- ---- a row of a table

-- The table has a shape there, and with these slots beneath it is the run's.
record Row (table : ShapeTable) (entry : Entry) (place : ℕ) (shape : TopShape) (x y : List Slot) : Type 0 where
  own : TopShape
  known : table.at entry place ≡ Some own
  is : shape ≡ deeper x y own

record RowThere (table : ShapeTable) (entry : Entry) (place : ℕ) (shape : TopShape) : Type 0 where
  x : List Slot
  y : List Slot
  row : Row table entry place shape x y

follows_of : (header : EngineTable) (table : ShapeTable) (entry : Entry) (place : ℕ) (op : PlainOp) (shape : TopShape) → IsOneStep op
    → Obeys header table entry place op shape → Follows header table entry place op shape
follows_of header table entry place (ops.Jsr offset) shape one h = absurd one
follows_of header table entry place ops.Retn shape one h = absurd one
follows_of header table entry place op shape one h = h

-- what the table's shape owes to the instruction at its place
obeys_at : (header : EngineTable) (code : List PlainOp) (table : ShapeTable) (entry : Entry) (place : ℕ) (op : PlainOp) (own : TopShape)
    → MeetsRules header code table → op_at code place ≡ Some op → table.at entry place ≡ Some own → Obeys header table entry place op own
obeys_at header code table entry place op own meets stands known =
    let s = meets.each entry place own known in
    subst (λ o. Obeys header table entry place o own) (some_is s.op op (sym s.stands ∙ stands)) s.obeys

leads_there : (table : ShapeTable) (entry : Entry) (place : ℕ) (op : PlainOp) (after : TopShape) (next : ℕ) → Leads table entry place op after
    → LeadsTo place op next → table.at entry next ≡ Some after
leads_there table entry place (ops.Jmp offset) after next h e = ap (table.at entry) e ∙ h
leads_there table entry place (ops.Jz offset) after next h (inl e) = ap (table.at entry) e ∙ h.0
leads_there table entry place (ops.Jz offset) after next h (inr e) = ap (table.at entry) e ∙ h.1
leads_there table entry place (ops.Jnz offset) after next h (inl e) = ap (table.at entry) e ∙ h.0
leads_there table entry place (ops.Jnz offset) after next h (inr e) = ap (table.at entry) e ∙ h.1
leads_there table entry place op after next h e = ap (table.at entry) e ∙ h

-- the same instruction has the same rule on the run's shape
rule_there : (header : EngineTable) (op : PlainOp) (shape own after : TopShape) (x y : List Slot) → RuleLooksFromTop → shape ≡ deeper x y own
    → rule header op own ≡ Some after → rule header op shape ≡ Some (deeper x y after)
rule_there header op shape own after x y law is h = ap (rule header op) is ∙ law header op own after x y h

row_after : (header : EngineTable) (code : List PlainOp) (table : ShapeTable) (entry : Entry) (place : ℕ) (shape : TopShape) (x y : List Slot) (op : PlainOp)
    (after : TopShape) (next : ℕ) → RuleLooksFromTop → MeetsRules header code table → Row table entry place shape x y → op_at code place ≡ Some op
    → IsOneStep op → rule header op shape ≡ Some after → LeadsTo place op next → Row table entry next after x y
row_after header code table entry place shape x y op after next law meets r stands one h leads =
    let f = follows_of header table entry place op r.own one (obeys_at header code table entry place op r.own meets stands r.known) in
    record {
      own = f.after;
      known = leads_there table entry place op f.after next f.leads leads;
      is = some_is after (deeper x y f.after) (sym h ∙ rule_there header op shape r.own f.after x y law r.is f.has_rule);
    }

-- ---- calls

-- what a routine that is called from a row of the table begins with
record CallRow (table : ShapeTable) (entry : Entry) (target next : ℕ) (shape : TopShape) (x y : List Slot) (own : TopShape) : Type 0 where
  call : MayCall table entry target next own
  deep : List Slot
  under : shape.under ≡ call.callee.under ++ deep
  first : Row table (Called target) target (entered shape) (call.rest ++ x) deep

call_row : (header : EngineTable) (code : List PlainOp) (table : ShapeTable) (entry : Entry) (place : ℕ) (offset : ℤ) (shape : TopShape) (x y : List Slot)
    → MeetsRules header code table → op_at code place ≡ Some (ops.Jsr offset) → (r : Row table entry place shape x y)
    → CallRow table entry (jump_place place offset) (next_place place (ops.Jsr offset)) shape x y r.own
call_row header code table entry place offset shape x y meets stands r =
    let c : MayCall table entry (jump_place place offset) (next_place place (ops.Jsr offset)) r.own =
    obeys_at header code table entry place (ops.Jsr offset) r.own meets stands r.known in
    let cells : shape.cells ≡ c.callee.taken ++ (c.rest ++ x) =
    ap (λ (s : TopShape). s.cells) r.is ∙ ap (λ z. z ++ x) c.cells ∙ append_assoc c.callee.taken c.rest x in
    let under : shape.under ≡ c.callee.under ++ (c.deeper ++ beneath_under x y r.own.saved) =
    ap (λ (s : TopShape). s.under) r.is ∙ ap (λ z. z ++ beneath_under x y r.own.saved) c.under
    ∙ append_assoc c.callee.under c.deeper (beneath_under x y r.own.saved) in
    record {
      call = c;
      deep = c.deeper ++ beneath_under x y r.own.saved;
      under = under;
      first = record {
        own = first_shape c.callee;
        known = meets.entered (jump_place place offset) c.callee c.known;
        is = same_shape _ _ _ _ _ _ _ _ cells under refl refl;
      };
    }

-- behind a call
row_left : (table : ShapeTable) (entry : Entry) (next : ℕ) (shape own last : TopShape) (x y given rest : List Slot) → shape ≡ deeper x y own
    → last.cells ≡ given ++ (rest ++ x) → table.at entry next ≡ Some (record own { cells = given ++ rest })
    → Row table entry next (left_by last shape) x y
row_left table entry next shape own last x y given rest is cells known = record {
  own = record own { cells = given ++ rest };
  known = known;
  is = same_shape _ _ _ _ _ _ _ _ (cells ∙ sym (append_assoc given rest x)) (ap (λ (s : TopShape). s.under) is) (ap (λ (s : TopShape). s.saved) is)
      (ap (λ (s : TopShape). s.pending) is);
}

goes_on_there : (table : ShapeTable) (entry : Entry) (next : ℕ) (own : TopShape) (rest given : List Slot) (o : Option (List Slot))
    → GoesOnBehindCall table entry next own rest o → o ≡ Some given → table.at entry next ≡ Some (record own { cells = given ++ rest })
goes_on_there table entry next own rest given o h e = let g : GoesOnBehindCall table entry next own rest (Some given) =
    subst (λ o. GoesOnBehindCall table entry next own rest o) e h in g

row_behind : (header : EngineTable) (code : List PlainOp) (table : ShapeTable) (entry : Entry) (place : ℕ) (offset : ℤ) (shape : TopShape) (x y : List Slot)
    (end : ℕ) (last : TopShape) → MeetsRules header code table → op_at code end ≡ Some ops.Retn → (r : Row table entry place shape x y)
    → (c : CallRow table entry (jump_place place offset) (next_place place (ops.Jsr offset)) shape x y r.own)
    → Row table (Called (jump_place place offset)) end last (c.call.rest ++ x) c.deep
    → Row table entry (next_place place (ops.Jsr offset)) (left_by last shape) x y
row_behind header code table entry place offset shape x y end last meets ends r c e =
    let m : MayReturn table (jump_place place offset) e.own =
    obeys_at header code table (Called (jump_place place offset)) end ops.Retn e.own meets ends e.known in
    let callee : m.callee ≡ c.call.callee = some_is m.callee c.call.callee (sym m.known ∙ c.call.known) in
    let given : c.call.callee.given ≡ Some e.own.cells = ap (λ (k : Callee). k.given) (sym callee) ∙ m.given in
    row_left table entry (next_place place (ops.Jsr offset)) shape r.own last x y e.own.cells c.call.rest r.is (ap (λ (s : TopShape). s.cells) e.is)
    (goes_on_there table entry (next_place place (ops.Jsr offset)) r.own c.call.rest e.own.cells c.call.callee.given c.call.goes_on given)

-- ---- along a run

way_rows : (header : EngineTable) (code : List PlainOp) (table : ShapeTable) (entry : Entry) (first : TopShape) (place : ℕ) (shape : TopShape) (x y : List Slot)
    → RuleLooksFromTop → MeetsRules header code table → Row table entry (first_place entry) first x y → Way header code entry first place shape
    → Row table entry place shape x y
way_rows header code table entry first place shape x y law meets b (Begins e f) = b
way_rows header code table entry first next after x y law meets b (Steps e f place shape op s n way stands one h leads) =
    row_after header code table entry place shape x y op after next law meets (way_rows header code table entry first place shape x y law meets b way) stands
    one h leads
way_rows header code table entry first next after x y law meets b (Returns e f place shape offset end last way stands inner ends ended) =
    let r = way_rows header code table entry first place shape x y law meets b way in
    let c = call_row header code table entry place offset shape x y meets stands r in
    row_behind header code table entry place offset shape x y end last meets ends r c
    (way_rows header code table (Called (jump_place place offset)) (entered shape) end last (c.call.rest ++ x) c.deep law meets c.first inner)

stored_row : (table : ShapeTable) (site : ℕ) (types : StoredTypes) → table.at (Stored site) (resume_place site) ≡ Some (stored_shape types)
    → Row table (Stored site) (resume_place site) (stored_shape types) [] []
stored_row table site types h = record {
  own = stored_shape types;
  known = h;
  is = same_shape _ _ _ _ _ _ _ _ (sym (append-nil (stored_shape types).cells)) (sym (append-nil (stored_shape types).under)) refl refl;
}

-- what a STORE_STATE finds in the table's shape is what the run finds
types_there : (globals locals : ℕ) (shape own : TopShape) (x y : List Slot) (found types : StoredTypes) → StoresLookFromTop → shape ≡ deeper x y own
    → stored_types globals locals own.under own.cells ≡ Some found → stored_types globals locals shape.under shape.cells ≡ Some types → found ≡ types
types_there globals locals shape own x y found types law is f t =
    some_is found types (sym (law globals locals own.under own.cells x (beneath_under x y own.saved) found f)
    ∙ sym (ap (λ (s : TopShape). stored_types globals locals s.under s.cells) is) ∙ t)

stored_there : (header : EngineTable) (code : List PlainOp) (table : ShapeTable) (entry : Entry) (place : ℕ) (shape : TopShape) (x y : List Slot)
    (globals locals : ℕ) (types : StoredTypes) → StoresLookFromTop → MeetsRules header code table → Row table entry place shape x y
    → op_at code place ≡ Some (ops.StoreState globals locals) → stored_types globals locals shape.under shape.cells ≡ Some types
    → RowThere table (Stored place) (resume_place place) (stored_shape types)
stored_there header code table entry place shape x y globals locals types law meets r stands t =
    let f : Follows header table entry place (ops.StoreState globals locals) r.own =
    obeys_at header code table entry place (ops.StoreState globals locals) r.own meets stands r.known in
    let m : MayStore table place globals locals r.own = f.further in
    let e : m.types ≡ types = types_there globals locals shape r.own x y m.types types law r.is m.found t in
    record { x = []; y = []; row = stored_row table place types (m.resumes ∙ ap (λ t. Some (stored_shape t)) e) }

come_rows : (header : EngineTable) (code : List PlainOp) (table : ShapeTable) (entry : Entry) (from : Option ℕ) (first : TopShape)
    → RuleLooksFromTop → StoresLookFromTop → MeetsRules header code table → Comes header code entry from first
    → RowThere table entry (first_place entry) first
come_rows header code table entry from first law stores meets Starts =
    record { x = []; y = []; row = record { own = empty_shape; known = meets.start; is = refl } }
come_rows header code table entry from first law stores meets (Calls caller before begun place shape offset comes way stands) =
    let b = come_rows header code table caller before begun law stores meets comes in
    let r = way_rows header code table caller begun place shape b.x b.y law meets b.row way in
    let c = call_row header code table caller place offset shape b.x b.y meets stands r in
    record { x = c.call.rest ++ b.x; y = c.deep; row = c.first }
come_rows header code table entry from first law stores meets (Stores owner before begun place shape globals locals types comes way stands t) =
    let b = come_rows header code table owner before begun law stores meets comes in
    let r = way_rows header code table owner begun place shape b.x b.y law meets b.row way in
    stored_there header code table owner place shape b.x b.y globals locals types stores meets r stands t

-- ---- each trouble

nothing_there : (header : EngineTable) (code : List PlainOp) (table : ShapeTable) (entry : Entry) (place : ℕ) (shape : TopShape) (x y : List Slot)
    → MeetsRules header code table → Row table entry place shape x y → op_at code place ≡ None → ⊥
nothing_there header code table entry place shape x y meets r none =
    let s = meets.each entry place r.own r.known in none_some s.op (sym none ∙ s.stands)

no_rule : (header : EngineTable) (code : List PlainOp) (table : ShapeTable) (entry : Entry) (place : ℕ) (shape : TopShape) (x y : List Slot)
    → RuleLooksFromTop → MeetsRules header code table → Row table entry place shape x y → HasNoRule header code place shape → ⊥
no_rule header code table entry place shape x y law meets r h =
    let f = follows_of header table entry place h.op r.own h.one (obeys_at header code table entry place h.op r.own meets h.stands r.known) in
    none_some (deeper x y f.after) (sym h.none ∙ rule_there header h.op shape r.own f.after x y law r.is f.has_rule)

none_saved : (x y : List Slot) (us : List (List Slot)) → us ≡ [] → deeper_saved x y us ≡ []
none_saved x y us e = ap (deeper_saved x y) e

-- what a routine returns with is ended, and it gives the cells that every other RETN gives
record ReturnRow (table : ShapeTable) (target : ℕ) (shape : TopShape) (x : List Slot) : Type 0 where
  callee : Callee
  known : table.called target ≡ Some callee
  given : List Slot
  gives : callee.given ≡ Some given
  cells : shape.cells ≡ given ++ x
  ended : IsEnded shape

return_row : (header : EngineTable) (code : List PlainOp) (table : ShapeTable) (target : ℕ) (place : ℕ) (shape : TopShape) (x y : List Slot)
    → MeetsRules header code table → Row table (Called target) place shape x y → op_at code place ≡ Some ops.Retn → ReturnRow table target shape x
return_row header code table target place shape x y meets r stands =
    let m : MayReturn table target r.own = obeys_at header code table (Called target) place ops.Retn r.own meets stands r.known in
    record {
      callee = m.callee;
      known = m.known;
      given = r.own.cells;
      gives = m.given;
      cells = ap (λ (s : TopShape). s.cells) r.is;
      ended = record {
        saved = ap (λ (s : TopShape). s.saved) r.is ∙ none_saved x y r.own.saved m.saved;
        pending = ap (λ (s : TopShape). s.pending) r.is ∙ m.pending;
      };
    }

not_ended : (header : EngineTable) (code : List PlainOp) (table : ShapeTable) (entry : Entry) (place : ℕ) (shape : TopShape) (x y : List Slot)
    → MeetsRules header code table → Row table entry place shape x y → IsLeft code entry place shape → ⊥
not_ended header code table Start place shape x y meets r h = absurd h.return.called
not_ended header code table (Called target) place shape x y meets r h =
    h.left (return_row header code table target place shape x y meets r h.return.stands).ended
not_ended header code table (Stored site) place shape x y meets r h = absurd h.return.called

-- the table has one shape at a place
one_shape : (table : ShapeTable) (entry : Entry) (place : ℕ) (shape other : TopShape) (x y : List Slot) → Row table entry place shape x y
    → Row table entry place other x y → shape ≡ other
one_shape table entry place shape other x y r s =
    r.is ∙ ap (deeper x y) (some_is r.own s.own (sym r.known ∙ s.known)) ∙ sym s.is

one_result : (table : ShapeTable) (target : ℕ) (shape other : TopShape) (x : List Slot) → ReturnRow table target shape x → ReturnRow table target other x
    → shape.cells ≡ other.cells
one_result table target shape other x r s =
    let callee : r.callee ≡ s.callee = some_is r.callee s.callee (sym r.known ∙ s.known) in
    let given : r.given ≡ s.given = some_is r.given s.given (sym r.gives ∙ ap (λ (k : Callee). k.given) callee ∙ s.gives) in
    r.cells ∙ ap (λ z. z ++ x) given ∙ sym s.cells

leaves_otherwise : (header : EngineTable) (code : List PlainOp) (table : ShapeTable) (entry : Entry) (first : TopShape) (place : ℕ) (shape : TopShape)
    (second : ℕ) (other : TopShape) (x y : List Slot) → RuleLooksFromTop → MeetsRules header code table → Row table entry (first_place entry) first x y
    → Row table entry place shape x y → LeavesOtherwise header code entry first place shape second other → ⊥
leaves_otherwise header code table Start first place shape second other x y law meets b r h = absurd h.return.called
leaves_otherwise header code table (Called target) first place shape second other x y law meets b r h =
    let s = way_rows header code table (Called target) first second other x y law meets b h.way in
    h.differ (one_result table target shape other x (return_row header code table target place shape x y meets r h.return.stands)
    (return_row header code table target second other x y meets s h.second_return.stands))
leaves_otherwise header code table (Stored site) first place shape second other x y law meets b r h = absurd h.return.called

trouble_refutes : (header : EngineTable) (code : List PlainOp) (table : ShapeTable) (entry : Entry) (first : TopShape) (place : ℕ) (shape : TopShape)
    (trouble : Trouble) (x y : List Slot) → RuleLooksFromTop → MeetsRules header code table → Row table entry (first_place entry) first x y
    → Row table entry place shape x y → IsTrouble header code entry first place shape trouble → ⊥
trouble_refutes header code table entry first place shape NothingThere x y law meets b r h =
    nothing_there header code table entry place shape x y meets r h
trouble_refutes header code table entry first place shape NoRule x y law meets b r h = no_rule header code table entry place shape x y law meets r h
trouble_refutes header code table entry first place shape NotEnded x y law meets b r h = not_ended header code table entry place shape x y meets r h
trouble_refutes header code table entry first place shape (OtherCells other) x y law meets b r h =
    h.differ (one_shape table entry place shape (top_first other) x y r
    (way_rows header code table entry first place (top_first other) x y law meets b h.way))
trouble_refutes header code table entry first place shape (OtherResult second other) x y law meets b r h =
    leaves_otherwise header code table entry first place shape second (top_first other) x y law meets b r h

pub reason_refutes : RuleLooksFromTop → StoresLookFromTop → ReasonsRefute
reason_refutes law stores header code reason h w =
    let table = w.0 in
    let b = come_rows header code table reason.entry reason.called_at h.first law stores w.1 h.comes in
    let r = way_rows header code table reason.entry h.first reason.place (top_first reason.shape) b.x b.y law w.1 b.row h.way in
    trouble_refutes header code table reason.entry h.first reason.place (top_first reason.shape) reason.trouble b.x b.y law w.1 b.row r h.trouble
