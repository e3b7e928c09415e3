-- Small files, with tables that meet the rules, or that none meets.
use Rattle.std.proofs.Common.{◌≡◌, ℕ, List, [], ◌∷◌, Option, Some, None, Bool, true, false, pos, negsuc, refl, sym, subst, ap}
use Rattle.std.specs.Prelude.{◌==◌, ◌&&◌, if◌then◌else◌}
use Rattle.std.proofs.lemmas.Bool.Decides.{Decides-eqb}
use Rattle.nwq_value.specs.declared.value.Ty.TheVariants.{Int}
use Rattle.nwq_value.specs.Engine.{EngineTable}
use Rattle.nwq_value.specs.Roles.{ty_eq, tys_eq}
use Rattle.ncs_code.specs.Plain.{PlainOp}
use Rattle.ncs_code.specs.Plain as ops
use Rattle.ncs_code.specs.File.{header_size, op_at}
use Rattle.stack_shape.specs.declared.shape.Slot.{Slot}
use Rattle.stack_shape.specs.declared.shape.Slot.TheVariants.{Of, Base}
use Rattle.stack_shape.specs.declared.shape.Entry.{Entry}
use Rattle.stack_shape.specs.declared.shape.Entry.TheVariants.{Start, Called, Stored}
use Rattle.stack_shape.specs.Ranges.{range_at, range_of, depth_of, cell_count}
use Rattle.stack_shape.specs.StackEffects.{stack_effect, exchange, type_of_one}
use Rattle.stack_shape.specs.Stored.{TopShape, stored_types}
use Rattle.stack_shape.specs.Rule.{rule}
use Rattle.stack_rules.specs.Tables.{Callee, ShapeTable, empty_shape, first_shape}
use Rattle.stack_rules.specs.Rules.{IsSound, WellStacked}

abbrev no_header : EngineTable
no_header = record { routines = []; constants = [] }

abbrev plain : List Slot → TopShape
plain cells = record { cells = cells; under = []; saved = []; pending = 0 }

-- ---- no table

no_instruction : (table : ShapeTable) → IsSound no_header [] table Start header_size empty_shape → ⊥
unfolding op_at
no_instruction table i = absurd (nothing i.op i.stands)
  where
    nothing : (op : PlainOp) → None ≡ Some op → ⊥
    nothing op h = absurd cc

-- the file without an instruction is not well stacked
empty_unstacked : WellStacked no_header [] → ⊥
empty_unstacked w = no_instruction w.0 (w.1.each Start header_size empty_shape w.1.start)

-- ---- tables that are lists of rows

record Row : Type 0 where
  entry : Entry
  place : ℕ
  shape : TopShape

abbrev entries_eq : Entry → Entry → Bool
entries_eq Start Start = true
entries_eq (Called m) (Called n) = m == n
entries_eq (Stored m) (Stored n) = m == n
entries_eq _ _ = false

abbrev shape_at : List Row → Entry → ℕ → Option TopShape
shape_at [] entry place = None
shape_at (r ∷ rows) entry place = if entries_eq r.entry entry && (r.place == place) then Some r.shape else shape_at rows entry place

abbrev all_sound : List PlainOp → ShapeTable → List Row → Type 0
all_sound code table [] = Unit {0}
all_sound code table (r ∷ rows) = IsSound no_header code table r.entry r.place r.shape × all_sound code table rows

same_entry : (a b : Entry) → entries_eq a b ≡ true → a ≡ b
same_entry Start Start h = refl
same_entry (Called m) (Called n) h = ap Called ((Decides-eqb m n).0 h)
same_entry (Stored m) (Stored n) h = ap Stored ((Decides-eqb m n).0 h)
same_entry a b h = absurd cc

both_true : (a b : Bool) → (a && b) ≡ true → (a ≡ true) × (b ≡ true)
both_true true b h = (refl, h)
both_true false b h = absurd cc

is_row : (code : List PlainOp) (table : ShapeTable) (r : Row) (entry : Entry) (place : ℕ) (shape : TopShape) (b : Bool) (next : Option TopShape)
    → entries_eq r.entry entry && (r.place == place) ≡ b → IsSound no_header code table r.entry r.place r.shape
    → (next ≡ Some shape → IsSound no_header code table entry place shape) → (if b then Some r.shape else next) ≡ Some shape
    → IsSound no_header code table entry place shape
is_row code table r entry place shape false next e sound others h = others h
is_row code table r entry place shape true next e sound others h =
    let t = both_true (entries_eq r.entry entry) (r.place == place) e in
    subst (λ (s : TopShape). IsSound no_header code table entry place s) (some r.shape shape h)
    (subst (λ (n : ℕ). IsSound no_header code table entry n r.shape) ((Decides-eqb r.place place).0 t.1)
    (subst (λ (x : Entry). IsSound no_header code table x r.place r.shape) (same_entry r.entry entry t.0) sound))
  where
    some : (x y : TopShape) → Some x ≡ Some y → x ≡ y
    some x y h = cc

each_row : (code : List PlainOp) (table : ShapeTable) (rows : List Row) → all_sound code table rows → (entry : Entry) (place : ℕ) (shape : TopShape)
    → shape_at rows entry place ≡ Some shape → IsSound no_header code table entry place shape
each_row code table [] all entry place shape h = absurd cc
each_row code table (r ∷ rows) all entry place shape h =
    is_row code table r entry place shape (entries_eq r.entry entry && (r.place == place)) (shape_at rows entry place) refl all.0
    (each_row code table rows all.1 entry place shape) h

-- ---- a RETN

abbrev return_rows : List Row
return_rows = record { entry = Start; place = 13; shape = empty_shape } ∷ []

abbrev return_table : ShapeTable
return_table = record { at = shape_at return_rows; called = λ target. None }

return_passes : WellStacked no_header (ops.Retn ∷ [])
unfolding op_at
return_passes = (
  return_table,
  record {
    start = refl;
    entered = λ target callee h. absurd cc;
    each = each_row (ops.Retn ∷ []) return_table return_rows (record { op = ops.Retn; stands = refl; obeys = tt }, tt);
  },
)

-- ---- a stored state: STORE_STATE, JMP over the stored code, RETN there, RETN

abbrev store_code : List PlainOp
store_code = ops.StoreState 0 0 ∷ ops.Jmp (pos 8) ∷ ops.Retn ∷ ops.Retn ∷ []

abbrev one_pending : TopShape
one_pending = record { cells = []; under = []; saved = []; pending = 1 }

abbrev store_rows : List Row
store_rows =
    record { entry = Start; place = 13; shape = empty_shape } ∷ record { entry = Start; place = 23; shape = one_pending }
    ∷ record { entry = Start; place = 31; shape = one_pending } ∷ record { entry = Stored 13; place = 29; shape = plain (Base ∷ []) } ∷ []

abbrev store_table : ShapeTable
store_table = record { at = shape_at store_rows; called = λ target. None }

store_passes : WellStacked no_header store_code
unfolding op_at rule stack_effect stored_types cell_count
store_passes = (
  store_table,
  record {
    start = refl;
    entered = λ target callee h. absurd cc;
    each = each_row store_code store_table store_rows (
      record {
        op = ops.StoreState 0 0;
        stands = refl;
        obeys = record { after = one_pending; has_rule = refl; leads = refl; further = record { types = record { globals = []; locals = [] }; found = refl; resumes = refl } };
      },
      (
        record {
          op = ops.Jmp (pos 8);
          stands = refl;
          obeys = record { after = one_pending; has_rule = refl; leads = refl; further = tt };
        },
        (
          record { op = ops.Retn; stands = refl; obeys = tt },
          (record { op = ops.Retn; stands = refl; obeys = tt }, tt),
        ),
      ),
    );
  },
)

-- ---- a recursion with a result: RSADD of an int, JSR, MOVSP, RETN; the routine copies the int,
-- returns if it is 0, or calls itself

abbrev ints : List Slot
ints = Of Int ∷ []

abbrev recursive_code : List PlainOp
recursive_code = ops.RsAdd 0x03 ∷ ops.Jsr (pos 14) ∷ ops.MovSp (negsuc 3) ∷ ops.Retn
    ∷ ops.CpTopSp (negsuc 3) 4 ∷ ops.Jz (pos 12) ∷ ops.Jsr (negsuc 13) ∷ ops.Retn ∷ []

abbrev recursive_rows : List Row
recursive_rows =
    record { entry = Start; place = 13; shape = empty_shape } ∷ record { entry = Start; place = 15; shape = plain ints }
    ∷ record { entry = Start; place = 21; shape = plain ints } ∷ record { entry = Start; place = 27; shape = empty_shape }
    ∷ record { entry = Called 29; place = 29; shape = plain ints } ∷ record { entry = Called 29; place = 37; shape = plain (Of Int ∷ ints) }
    ∷ record { entry = Called 29; place = 43; shape = plain ints } ∷ record { entry = Called 29; place = 49; shape = plain ints } ∷ []

abbrev routine : Callee
routine = record { taken = ints; under = []; given = Some ints }

abbrev routine_at : ℕ → Option Callee
routine_at target = if target == 29 then Some routine else None

abbrev recursive_table : ShapeTable
recursive_table = record { at = shape_at recursive_rows; called = routine_at }

begins_by : (target : ℕ) (callee : Callee) (b : Bool) → (target == 29) ≡ b → (if b then Some routine else None) ≡ Some callee
    → shape_at recursive_rows (Called target) target ≡ Some (first_shape callee)
begins_by target callee false e h = absurd cc
begins_by target callee true e h = subst (λ (n : ℕ). shape_at recursive_rows (Called n) n ≡ Some (first_shape callee)) (sym ((Decides-eqb target 29).0 e))
    (ap (λ (c : Callee). Some (first_shape c)) (some routine callee h))
  where
    some : (x y : Callee) → Some x ≡ Some y → x ≡ y
    some x y h = cc

recursive_passes : WellStacked no_header recursive_code
unfolding op_at rule stack_effect exchange type_of_one range_at range_of depth_of cell_count tys_eq ty_eq
recursive_passes = (
  recursive_table,
  record {
    start = refl;
    entered = λ target callee h. begins_by target callee (target == 29) refl h;
    each = each_row recursive_code recursive_table recursive_rows (
      record { op = ops.RsAdd 0x03; stands = refl; obeys = record { after = plain ints; has_rule = refl; leads = refl; further = tt } },
      (
        record {
          op = ops.Jsr (pos 14);
          stands = refl;
          obeys = record { callee = routine; known = refl; rest = []; cells = refl; deeper = []; under = refl; goes_on = refl };
        },
        (
          record { op = ops.MovSp (negsuc 3); stands = refl; obeys = record { after = empty_shape; has_rule = refl; leads = refl; further = tt } },
          (
            record { op = ops.Retn; stands = refl; obeys = tt },
            (
              record { op = ops.CpTopSp (negsuc 3) 4; stands = refl; obeys = record { after = plain (Of Int ∷ ints); has_rule = refl; leads = refl; further = tt } },
              (
                record { op = ops.Jz (pos 12); stands = refl; obeys = record { after = plain ints; has_rule = refl; leads = (refl, refl); further = tt } },
                (
                  record {
                    op = ops.Jsr (negsuc 13);
                    stands = refl;
                    obeys = record { callee = routine; known = refl; rest = []; cells = refl; deeper = []; under = refl; goes_on = refl };
                  },
                  (record { op = ops.Retn; stands = refl; obeys = record { callee = routine; known = refl; given = refl; saved = refl; pending = refl } }, tt),
                ),
              ),
            ),
          ),
        ),
      ),
    );
  },
)
