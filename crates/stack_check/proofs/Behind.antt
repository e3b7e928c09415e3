-- Where captured states resume: a table keeps meeting the rules without the stored states that no
-- STORE_STATE of its code stores.
use Rattle.std.proofs.Common.{arith, ◌≡◌, ◌+◌, ◌*◌, ℕ, zero, suc, List, [], ◌∷◌, ◌++◌, length, map, reverse, Bool, true, false, Option, None, Some, sym, subst, ◌∙◌, ap, refl}
use Rattle.std.specs.Prelude.{◌==◌, ◌&&◌, ◌%◌, ◌/◌, if◌then◌else◌}
use Rattle.std.specs.Option.{option_and_then, option_map}
use Rattle.std.proofs.lemmas.Bool.{eq-eqb, eqb-true}
use Rattle.std.proofs.lemmas.List.{length-append, length-map, length-reverse}
use Rattle.nwq_value.specs.declared.value.Ty.{Ty}
use Rattle.nwq_value.specs.Engine.{EngineTable}
use Rattle.ncs_code.specs.Plain.{PlainOp}
use Rattle.ncs_code.specs.Plain as ops
use Rattle.ncs_code.specs.File.{op_at, resume_place}
use Rattle.saved_state.specs.declared.cell.Cell.{Cell}
use Rattle.stack_shape.specs.declared.shape.Slot.{Slot}
use Rattle.stack_shape.specs.declared.shape.Slot.TheVariants.{Of, Base}
use Rattle.stack_shape.specs.declared.shape.Entry.{Entry}
use Rattle.stack_shape.specs.declared.shape.Entry.TheVariants.{Start, Called, Stored}
use Rattle.stack_shape.specs.declared.store.StoredTypes.{StoredTypes}
use Rattle.stack_shape.specs.Ranges.{cell_count}
use Rattle.stack_shape.specs.TopFirst.{types_on}
use Rattle.stack_shape.specs.Stored.{TopShape, found_types, stored_shape, stored_types}
use Rattle.machine_rules.specs.Outlines.{slot, slots}
use Rattle.stack_rules.specs.Tables.{ShapeTable}
use Rattle.stack_rules.specs.Rules.{AsksFurther, GoesOnBehindCall, Leads, MayStore, MeetsRules, Obeys, Returns}
use Rattle.stack_check.specs.Checked.{FittingStandsBehind}

some_is : {A : Type 0} (a b : A) → Some a ≡ Some b → a ≡ b
some_is a b h = cc

-- ---- what a STORE_STATE stores has its sizes

types_count : (n : ℕ) (list : List Slot) (ts : List Ty) → types_on n list ≡ Some ts → length ts ≡ n
types_count zero list [] h = refl
types_count zero list (t ∷ ts) h = absurd cc
types_count (suc n) [] ts h = absurd cc
types_count (suc n) (Base ∷ list) ts h = absurd cc
types_count (suc n) (Of t ∷ list) ts h = more (types_on n list) (λ us e. types_count n list us e) h
  where
    more : (o : Option (List Ty)) → ((us : List Ty) → o ≡ Some us → length us ≡ n) → option_map (λ us. t ∷ us) o ≡ Some ts → length ts ≡ suc n
    more None k h = absurd cc
    more (Some us) k h = ap (λ (ts : List Ty). length ts) (sym (some_is (t ∷ us) ts h)) ∙ ap (λ k. suc k) (k us refl)

count_of : (bytes n : ℕ) → cell_count bytes ≡ Some n → bytes ≡ 4 * n
unfolding cell_count
count_of bytes n h = on (bytes % 4 == 0) refl h
  where
    on : (b : Bool) → (bytes % 4 == 0) ≡ b → (if b then Some (bytes / 4) else None) ≡ Some n → bytes ≡ 4 * n
    on false e h = absurd cc
    on true e h = let r : bytes % 4 ≡ 0 = eqb-true _ _ e in let q : bytes / 4 ≡ n = some_is (bytes / 4) n h in omega (arith, r, q)

record Sizes (globals locals : ℕ) (types : StoredTypes) : Type 0 where
  of_globals : globals ≡ 4 * length types.globals
  of_locals : locals ≡ 4 * length types.locals

sizes_of : (globals locals : ℕ) (under cells : List Slot) (types : StoredTypes) → stored_types globals locals under cells ≡ Some types → Sizes globals locals types
unfolding stored_types
sizes_of globals locals under cells types h = with_globals (cell_count globals) refl h
  where
    both : (g l : ℕ) → cell_count globals ≡ Some g → cell_count locals ≡ Some l → (u c : Option (List Ty)) → types_on g under ≡ u → types_on l cells ≡ c
        → option_and_then (λ g. option_map (λ l. record { globals = g; locals = l }) c) u ≡ Some types → Sizes globals locals types
    both g l eg el None c eu ec h = absurd cc
    both g l eg el (Some us) None eu ec h = absurd cc
    both g l eg el (Some us) (Some cs) eu ec h =
        subst (λ t. Sizes globals locals t) (some_is _ types h) (record {
          of_globals = count_of globals g eg ∙ ap (λ n. 4 * n) (sym (types_count g under us eu));
          of_locals = count_of locals l el ∙ ap (λ n. 4 * n) (sym (types_count l cells cs ec));
        })

    with_locals : (g : ℕ) → cell_count globals ≡ Some g → (o : Option ℕ) → cell_count locals ≡ o
        → option_and_then (λ l. found_types g l under cells) o ≡ Some types → Sizes globals locals types
    with_locals g eg None el h = absurd cc
    with_locals g eg (Some l) el h = both g l eg el (types_on g under) (types_on l cells) refl refl h

    with_globals : (o : Option ℕ) → cell_count globals ≡ o
        → option_and_then (λ g. option_and_then (λ l. found_types g l under cells) (cell_count locals)) o ≡ Some types
        → Sizes globals locals types
    with_globals None eg h = absurd cc
    with_globals (Some g) eg h = with_locals g eg (cell_count locals) refl h

-- ---- a table without what no STORE_STATE stores

-- the instruction stores as many cells as the shape has
abbrev sizes_agree : Option PlainOp → Option TopShape → Bool
sizes_agree (Some (ops.StoreState globals locals)) (Some s) = (globals == 4 * length s.under) && (globals + 4 + locals == 4 * length s.cells)
sizes_agree op shape = false

abbrev is_stored : List PlainOp → ShapeTable → ℕ → Bool
is_stored code table site = sizes_agree (op_at code site) (table.at (Stored site) (resume_place site))

abbrev at_stored : List PlainOp → ShapeTable → Entry → ℕ → Option TopShape
at_stored code table Start place = table.at Start place
at_stored code table (Called target) place = table.at (Called target) place
at_stored code table (Stored site) place = if is_stored code table site then table.at (Stored site) place else None

abbrev stored_only : List PlainOp → ShapeTable → ShapeTable
stored_only code table = record { at = at_stored code table; called = table.called }

-- where the entry has a shape, it has what the table has
record Same (code : List PlainOp) (table : ShapeTable) (entry : Entry) : Type 0 where
  by : (place : ℕ) → at_stored code table entry place ≡ table.at entry place

same_at : (code : List PlainOp) (table : ShapeTable) (entry : Entry) (place : ℕ) (shape : TopShape) → at_stored code table entry place ≡ Some shape
    → Same code table entry
same_at code table Start place shape h = record { by = λ p. refl }
same_at code table (Called target) place shape h = record { by = λ p. refl }
same_at code table (Stored site) place shape h = on (is_stored code table site) refl h
  where
    on : (b : Bool) → is_stored code table site ≡ b → (if b then table.at (Stored site) place else None) ≡ Some shape → Same code table (Stored site)
    on true e h = record { by = λ p. ap (λ b. if b then table.at (Stored site) p else None) e }
    on false e h = absurd cc

leads_still : (code : List PlainOp) (table : ShapeTable) (entry : Entry) (place : ℕ) (op : PlainOp) (after : TopShape) → Same code table entry
    → Leads table entry place op after → Leads (stored_only code table) entry place op after
leads_still code table entry place (ops.Jmp offset) after s h = s.by _ ∙ h
leads_still code table entry place (ops.Jz offset) after s h = (s.by _ ∙ h.0, s.by _ ∙ h.1)
leads_still code table entry place (ops.Jnz offset) after s h = (s.by _ ∙ h.0, s.by _ ∙ h.1)
leads_still code table entry place op after s h = s.by _ ∙ h

agrees : (globals locals : ℕ) (types : StoredTypes) → Sizes globals locals types
    → sizes_agree (Some (ops.StoreState globals locals)) (Some (stored_shape types)) ≡ true
agrees globals locals types z =
    let under : length (map Of types.globals) ≡ length types.globals = length-map types.globals Of in
    let upper : length (map Of types.locals) ≡ length types.locals = length-map types.locals Of in
    let all = length-append (map Of types.locals) (Base ∷ map Of types.globals) in
    let one : (globals == 4 * length (map Of types.globals)) ≡ true = eq-eqb _ _ (let h = z.of_globals in omega (arith, h, under)) in
    let two : (globals + 4 + locals == 4 * length (map Of types.locals ++ Base ∷ map Of types.globals)) ≡ true =
    eq-eqb _ _ (let g = z.of_globals in let l = z.of_locals in omega (arith, g, l, all, under, upper)) in
    ap (λ b. b && (globals + 4 + locals == 4 * length (map Of types.locals ++ Base ∷ map Of types.globals))) one ∙ two

stores_still : (code : List PlainOp) (table : ShapeTable) (site globals locals : ℕ) (shape : TopShape) → op_at code site ≡ Some (ops.StoreState globals locals)
    → MayStore table site globals locals shape → MayStore (stored_only code table) site globals locals shape
stores_still code table site globals locals shape stands m =
    let z = sizes_of globals locals shape.under shape.cells m.types m.found in
    let is : is_stored code table site ≡ true =
    ap (λ o. sizes_agree o (table.at (Stored site) (resume_place site))) stands
    ∙ ap (λ o. sizes_agree (Some (ops.StoreState globals locals)) o) m.resumes ∙ agrees globals locals m.types z in
    record {
      types = m.types;
      found = m.found;
      resumes = ap (λ b. if b then table.at (Stored site) (resume_place site) else None) is ∙ m.resumes;
    }

further_still : (code : List PlainOp) (table : ShapeTable) (place : ℕ) (op : PlainOp) (shape : TopShape) → op_at code place ≡ Some op
    → AsksFurther table place op shape → AsksFurther (stored_only code table) place op shape
further_still code table place (ops.StoreState globals locals) shape stands h = stores_still code table place globals locals shape stands h
further_still code table place op shape stands h = h

goes_still : (code : List PlainOp) (table : ShapeTable) (entry : Entry) (next : ℕ) (shape : TopShape) (rest : List Slot) (given : Option (List Slot))
    → Same code table entry → GoesOnBehindCall table entry next shape rest given → GoesOnBehindCall (stored_only code table) entry next shape rest given
goes_still code table entry next shape rest None s h = tt
goes_still code table entry next shape rest (Some given) s h = s.by next ∙ h

returns_still : (code : List PlainOp) (table : ShapeTable) (entry : Entry) (shape : TopShape) → Returns table entry shape
    → Returns (stored_only code table) entry shape
returns_still code table Start shape h = tt
returns_still code table (Called target) shape h =
    record { callee = h.callee; known = h.known; given = h.given; saved = h.saved; pending = h.pending }
returns_still code table (Stored site) shape h = tt

obeys_still : (header : EngineTable) (code : List PlainOp) (table : ShapeTable) (entry : Entry) (place : ℕ) (op : PlainOp) (shape : TopShape)
    → Same code table entry → op_at code place ≡ Some op → Obeys header table entry place op shape → Obeys header (stored_only code table) entry place op shape
obeys_still header code table entry place (ops.Jsr offset) shape s stands h = record {
  callee = h.callee;
  known = h.known;
  rest = h.rest;
  cells = h.cells;
  deeper = h.deeper;
  under = h.under;
  goes_on = goes_still code table entry _ shape h.rest h.callee.given s h.goes_on;
}
obeys_still header code table entry place ops.Retn shape s stands h = returns_still code table entry shape h
obeys_still header code table entry place op shape s stands h = record {
  after = h.after;
  has_rule = h.has_rule;
  leads = leads_still code table entry place op h.after s h.leads;
  further = further_still code table place op shape stands h.further;
}

meets_still : (header : EngineTable) (code : List PlainOp) (table : ShapeTable) → MeetsRules header code table → MeetsRules header code (stored_only code table)
meets_still header code table m = record {
  start = m.start;
  entered = λ target callee known. m.entered target callee known;
  each = λ entry place shape known.
      let s = same_at code table entry place shape known in
      let o = m.each entry place shape (sym (s.by place) ∙ known) in
      record { op = o.op; stands = o.stands; obeys = obeys_still header code table entry place o.op shape s o.stands o.obeys };
}

-- ---- so a state that fits was stored

and_true : (a b : Bool) → (a && b) ≡ true → (a ≡ true) × (b ≡ true)
and_true true true h = (refl, refl)
and_true true false h = absurd cc
and_true false b h = absurd cc

stored_op : (code : List PlainOp) (site : ℕ) (types : StoredTypes) (o : Option PlainOp) → op_at code site ≡ o → sizes_agree o (Some (stored_shape types)) ≡ true
    → op_at code site ≡ Some (ops.StoreState (4 * length types.globals) (4 * length types.locals))
stored_op code site types None e h = absurd cc
stored_op code site types (Some (ops.StoreState globals locals)) e h =
    let both = and_true _ _ h in
    let under : length (map Of types.globals) ≡ length types.globals = length-map types.globals Of in
    let upper : length (map Of types.locals) ≡ length types.locals = length-map types.locals Of in
    let all = length-append (map Of types.locals) (Base ∷ map Of types.globals) in
    let one : globals ≡ 4 * length (map Of types.globals) = eqb-true _ _ both.0 in
    let two : globals + 4 + locals ≡ 4 * length (map Of types.locals ++ Base ∷ map Of types.globals) = eqb-true _ _ both.1 in
    let g : globals ≡ 4 * length types.globals = omega (arith, one, under) in
    let l : locals ≡ 4 * length types.locals = omega (arith, one, two, all, under, upper) in
    e ∙ ap (λ g. Some (ops.StoreState g locals)) g ∙ ap (λ l. Some (ops.StoreState (4 * length types.globals) l)) l
stored_op code site types (Some op) e h = absurd cc

cells_count : (cells : List Cell) (types : List Ty) → slots (reverse cells) ≡ map Of types → length cells ≡ length types
cells_count cells types h =
    sym (length-reverse cells) ∙ sym (length-map (reverse cells) slot) ∙ ap (λ (ss : List Slot). length ss) h ∙ length-map types Of

pub fitting_stands : FittingStandsBehind
fitting_stands header code table saved k f =
    let known : table.at (Stored f.site) (resume_place f.site) ≡ Some (stored_shape f.types) = ap (table.at (Stored f.site)) (sym f.place) ∙ f.known in
    let other = (k.stored (stored_only code table) (meets_still header code table k.meets)).by f.site (resume_place f.site) (stored_shape f.types) known in
    let is = on f.site (stored_shape f.types) (is_stored code table f.site) refl other in
    let agree = sym (ap (sizes_agree (op_at code f.site)) known) ∙ is in
    let op = stored_op code f.site f.types (op_at code f.site) refl agree in
    record {
      site = f.site;
      place = f.place;
      stores = op ∙ ap (λ n. Some (ops.StoreState (4 * n) (4 * length f.types.locals))) (sym (cells_count saved.globals f.types.globals f.globals))
          ∙ ap (λ n. Some (ops.StoreState (4 * length saved.globals) (4 * n))) (sym (cells_count saved.locals f.types.locals f.locals));
    }
  where
    on : (site : ℕ) (shape : TopShape) (b : Bool) → is_stored code table site ≡ b
        → (if b then table.at (Stored site) (resume_place site) else None) ≡ Some shape → is_stored code table site ≡ true
    on site shape true e h = e
    on site shape false e h = absurd cc
