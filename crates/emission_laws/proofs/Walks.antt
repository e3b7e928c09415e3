-- Lines that flow give a table of shapes that meets the rules.
use Rattle.std.proofs.Common.{arith, ◌≡◌, ◌≤◌, ◌<◌, ℕ, ◌+◌, ◌⊎◌, inl, inr, ℤ, List, ◌++◌, Option, None, Some, Bool, true, false, cond, eqb, sym, ◌∙◌, ap, refl, subst}
use Rattle.std.proofs.lemmas.Bool.Decides.{Decides-eqb}
use Rattle.nwq_value.specs.Engine.{EngineTable}
use Rattle.ncs_code.specs.Plain.{PlainOp}
use Rattle.ncs_code.specs.Plain as ops
use Rattle.ncs_code.specs.Spelling.{op_size}
use Rattle.ncs_code.specs.File.{header_size, op_at, resume_place, distance}
use Rattle.ncs_code.specs.Laws.{SizeSome}
use Rattle.ncs_emit.specs.declared.jump.Jump.{Jump}
use Rattle.ncs_emit.specs.declared.jump.Jump.TheVariants.{Jmp, Jsr, Jz, Jnz}
use Rattle.ncs_emit.specs.Labelled.{Line, jump_over, placements, lines_size}
use Rattle.ncs_emit.specs.Standing.{JumpStands, LinesStand}
use Rattle.stack_shape.specs.declared.shape.Entry.{Entry}
use Rattle.stack_shape.specs.declared.shape.Entry.TheVariants.{Start, Called, Stored}
use Rattle.stack_shape.specs.declared.store.StoredTypes.{StoredTypes}
use Rattle.stack_shape.specs.Stored.{TopShape, stored_types, stored_shape}
use Rattle.stack_shape.specs.StackEffects.{stack_effect}
use Rattle.stack_shape.specs.Rule.{rule}
use Rattle.machine_rules.specs.Act.{next_place}
use Rattle.stack_rules.specs.Tables.{Callee, ShapeTable, empty_shape, first_shape}
use Rattle.stack_rules.specs.Rules.{GoesOnBehindCall as LeavesGiven, Obeys, IsSound, MeetsRules, Returns}
use Rattle.emission_laws.specs.Table.{entry_of, same_entry, shape_there, callee_by, callee_there, emitted_table, first_spot}
use Rattle.emission_laws.specs.Spots.{Way, Starts, Runs, Resumes, Spot, GoesStraight, IsTest, Ends, CallsAt, Flow}

module _ (header : EngineTable) (total : ℕ) (callee_of : ℕ → Option Callee) (spot_of : ℕ → Spot) where
  abbrev OneFlow : ℕ → Option Spot → List Line → Option Spot → Type 0
  OneFlow place spot lines out = Flow header total callee_of spot_of place spot lines out

  pub flow_then : (place next : ℕ) (spot middle out : Option Spot) (xs ys : List Line) → next ≡ place + lines_size xs
      → OneFlow place spot xs middle → OneFlow next middle ys out → OneFlow place spot (xs ++ ys) out
  flow_then place next spot middle out xs ys is (Flow.ends p s) g = subst (λ n. OneFlow n spot ys out) (omega arith) g
  flow_then place next spot middle out xs ys is (Flow.goes p way before after op lines o on rules f) g =
      Flow.goes place way before after op (lines ++ ys) out on rules (flow_then (place + op_size op) next _ middle out lines ys (omega arith) f g)
  flow_then place next spot middle out xs ys is (Flow.returns p way before free lines o e f) g =
      Flow.returns place way before free (lines ++ ys) out e (flow_then (place + 2) next free middle out lines ys (omega arith) f g)
  flow_then place next spot middle out xs ys is (Flow.jumps p s free label lines o h k f) g =
      Flow.jumps place s free label (lines ++ ys) out h k (flow_then (place + 6) next free middle out lines ys (omega arith) f g)
  flow_then place next spot middle out xs ys is (Flow.tests p way before after kind label lines o t r h k f) g =
      Flow.tests place way before after kind label (lines ++ ys) out t r h k (flow_then (place + 6) next _ middle out lines ys (omega arith) f g)
  flow_then place next spot middle out xs ys is (Flow.calls p way before after label lines o c f) g =
      Flow.calls place way before after label (lines ++ ys) out c (flow_then (place + 6) next _ middle out lines ys (omega arith) f g)
  flow_then place next spot middle out xs ys is (Flow.marks p s label lines o h f) g =
      Flow.marks place s label (lines ++ ys) out h (flow_then (place + 0) next _ middle out lines ys (omega arith) f g)
  flow_then place next spot middle out xs ys is (Flow.stores p way before globals locals label types lines o t h k f) g =
      Flow.stores place way before globals locals label types (lines ++ ys) out t h k (flow_then (place + 10 + 6) next _ middle out lines ys (omega arith) f g)

  -- ---- the spot at each place

  abbrev pub row : ℕ → Spot → Option Spot → ℕ → Option Spot
  row place spot rest p = cond (eqb p place) (Some spot) rest

  abbrev pub walk : {place : ℕ} {spot : Option Spot} {lines : List Line} {out : Option Spot} → OneFlow place spot lines out → ℕ → Option Spot
  walk (Flow.ends place spot) p = cond (eqb p place) spot None
  walk (Flow.goes place way before after op lines out on rules f) p = row place (record { way = way; shape = before }) (walk f p) p
  walk (Flow.returns place way before free lines out e f) p = row place (record { way = way; shape = before }) (walk f p) p
  walk (Flow.jumps place s free label lines out h k f) p = row place s (walk f p) p
  walk (Flow.tests place way before after kind label lines out t r h k f) p = row place (record { way = way; shape = before }) (walk f p) p
  walk (Flow.calls place way before after label lines out c f) p = row place (record { way = way; shape = before }) (walk f p) p
  walk (Flow.marks place s label lines out h f) p = walk f p
  walk (Flow.stores place way before globals locals label types lines out t h k f) p =
      row place (record { way = way; shape = before })
      (row (place + 10) (record { way = way; shape = record before { pending = before.pending + 1 } }) (walk f p) p) p

  test_same : (n : ℕ) → eqb n n ≡ true
  test_same n = (Decides-eqb n n).1 refl

  test_other : (b : Bool) (m n : ℕ) → eqb m n ≡ b → n < m → b ≡ false
  test_other true m n e lt = absurd (let same = (Decides-eqb m n).0 e in omega (arith, same))
  test_other false m n e lt = refl

  row_here : (place : ℕ) (spot : Spot) (rest : Option Spot) → row place spot rest place ≡ Some spot
  row_here place spot rest = ap (λ b. cond b (Some spot) rest) (test_same place)

  row_on : (place p : ℕ) (spot : Spot) (rest : Option Spot) → place < p → row place spot rest p ≡ rest
  row_on place p spot rest lt = ap (λ b. cond b (Some spot) rest) (test_other (eqb p place) p place refl lt)

  -- a row is the first one, or one of the others
  pub row_is : (place p : ℕ) (spot s : Spot) (rest : Option Spot) → row place spot rest p ≡ Some s → ((p ≡ place) × (spot ≡ s)) ⊎ (rest ≡ Some s)
  row_is place p spot s rest h = on (eqb p place) refl h
    where
      on : (b : Bool) → eqb p place ≡ b → cond b (Some spot) rest ≡ Some s → ((p ≡ place) × (spot ≡ s)) ⊎ (rest ≡ Some s)
      on true e h = inl ((Decides-eqb p place).0 e, cc)
      on false e h = inr h

  starts : {place : ℕ} {spot : Option Spot} {lines : List Line} {out : Option Spot} (f : OneFlow place spot lines out) → walk f place ≡ spot
  starts (Flow.ends place spot) = ap (λ b. cond b spot None) (test_same place)
  starts (Flow.goes place way before after op lines out on rules f) = row_here place _ (walk f place)
  starts (Flow.returns place way before free lines out e f) = row_here place _ (walk f place)
  starts (Flow.jumps place s free label lines out h k f) = row_here place _ (walk f place)
  starts (Flow.tests place way before after kind label lines out t r h k f) = row_here place _ (walk f place)
  starts (Flow.calls place way before after label lines out c f) = row_here place _ (walk f place)
  starts (Flow.marks place s label lines out h f) = let e : place ≡ place + 0 = omega arith in ap (walk f) e ∙ starts f
  starts (Flow.stores place way before globals locals label types lines out t h k f) = row_here place _ _

  -- ---- in a file

  module _ (size_some : SizeSome) (code : List PlainOp) (places : ℕ → ℕ) (spot_at : ℕ → Option Spot) where
    -- the spots at the places of these lines and behind them are those of the flow
    abbrev Agrees : {place : ℕ} {spot : Option Spot} {lines : List Line} {out : Option Spot} → OneFlow place spot lines out → Type 0
    Agrees {place = place} f = (p : ℕ) → place ≤ p → spot_at p ≡ walk f p

    on_from : (place next : ℕ) (spot : Spot) (rest : ℕ → Option Spot) → place < next → ((p : ℕ) → place ≤ p → spot_at p ≡ row place spot (rest p) p)
        → (p : ℕ) → next ≤ p → spot_at p ≡ rest p
    on_from place next spot rest lt all p le = all p (omega arith) ∙ row_on place p spot (rest p) (omega arith)

    next_is : {place : ℕ} {spot : Option Spot} {lines : List Line} {out : Option Spot} (f : OneFlow place spot lines out) → Agrees f → spot_at place ≡ spot
    next_is {place = place} f agrees = agrees place (omega arith) ∙ starts f

    -- the spot of each label that is placed among these lines stands at its place
    marked : {place : ℕ} {spot : Option Spot} {lines : List Line} {out : Option Spot} (f : OneFlow place spot lines out) → LinesStand code places place lines → Agrees f
        → (label : ℕ) → 1 ≤ placements lines label → spot_at (places label) ≡ Some (spot_of label)
    marked (Flow.ends place spot) stand agrees label some = absurd (omega arith)
    marked (Flow.goes place way before after op lines out on rules f) stand agrees label some =
        let size : 2 ≤ op_size op = size_some op in
        marked f stand.1 (on_from place (place + op_size op) _ (walk f) (omega arith) agrees) label some
    marked (Flow.returns place way before free lines out e f) stand agrees label some =
        marked f stand.1 (on_from place (place + 2) _ (walk f) (omega arith) agrees) label some
    marked (Flow.jumps place spot free other lines out is k f) stand agrees label some =
        marked f stand.1 (on_from place (place + 6) _ (walk f) (omega arith) agrees) label some
    marked (Flow.tests place way before after kind other lines out t r is k f) stand agrees label some =
        marked f stand.1 (on_from place (place + 6) _ (walk f) (omega arith) agrees) label some
    marked (Flow.calls place way before after other lines out c f) stand agrees label some =
        marked f stand.1 (on_from place (place + 6) _ (walk f) (omega arith) agrees) label some
    marked (Flow.marks place spot other lines out is f) stand agrees label some = on (marked f stand.1 (λ q le. agrees q (omega arith)) label) (eqb other label) refl some
      where
        on : (1 ≤ placements lines label → spot_at (places label) ≡ Some (spot_of label)) → (b : Bool) → eqb other label ≡ b → 1 ≤ cond b 1 0 + placements lines label
            → spot_at (places label) ≡ Some (spot_of label)
        on rest true e some =
            let same : other ≡ label = (Decides-eqb other label).0 e in
            subst (λ l. spot_at (places l) ≡ Some (spot_of l)) same
            (ap spot_at stand.0 ∙ next_is (Flow.marks place spot other lines out is f) agrees ∙ ap Some (sym is))
        on rest false e some = rest (omega arith)
    marked (Flow.stores place way before globals locals other types lines out found is k f) stand agrees label some =
        let first = on_from place (place + 10) _ (λ q. row (place + 10) _ (walk f q) q) (omega arith) agrees in
        marked f stand.1.1 (on_from (place + 10) (place + 10 + 6) _ (walk f) (omega arith) first) label some

    abbrev table : ShapeTable
    table = emitted_table places callee_of spot_at

    same_self : (e : Entry) → same_entry e e ≡ true
    same_self Start = refl
    same_self (Called a) = test_same a
    same_self (Stored a) = test_same a

    shape_is : (p : ℕ) (s : Spot) → spot_at p ≡ Some s → table.at (entry_of places s.way) p ≡ Some s.shape
    shape_is p s h = ap (shape_there places (entry_of places s.way)) h ∙ ap (λ b. cond b (Some s.shape) None) (same_self (entry_of places s.way))

    pub record SoundSpot (place : ℕ) (spot : Spot) : Type 0 where
      pub op : PlainOp
      pub stands : op_at code place ≡ Some op
      pub obeys : Obeys header table (entry_of places spot.way) place op spot.shape

    module _ (label_there : (label : ℕ) → label < total → spot_at (places label) ≡ Some (spot_of label))
        (known : (label : ℕ) (callee : Callee) → callee_of label ≡ Some callee → spot_at (places label) ≡ Some (first_spot label callee)) where
      called_there : (label : ℕ) (callee : Callee) → callee_of label ≡ Some callee → table.called (places label) ≡ Some callee
      called_there label callee h =
          ap (callee_there places callee_of (places label)) (known label callee h) ∙ ap (λ b. cond b (callee_of label) None) (test_same (places label)) ∙ h

      obeys_goes : (entry : Entry) (place : ℕ) (op : PlainOp) (before after : TopShape) → GoesStraight op → rule header op before ≡ Some after
          → table.at entry (next_place place op) ≡ Some after → Obeys header table entry place op before
      obeys_goes entry place (ops.Jmp offset) before after on rules leads = absurd on
      obeys_goes entry place (ops.Jz offset) before after on rules leads = absurd on
      obeys_goes entry place (ops.Jnz offset) before after on rules leads = absurd on
      obeys_goes entry place (ops.Jsr offset) before after on rules leads = absurd on
      obeys_goes entry place ops.Retn before after on rules leads = absurd on
      obeys_goes entry place (ops.StoreState globals locals) before after on rules leads = absurd on
      obeys_goes entry place op before after on rules leads = record { after = after; has_rule = rules; leads = leads; further = tt }

      returns_well : (way : Way) (before : TopShape) → Ends header total callee_of way before → Returns table (entry_of places way) before
      returns_well Starts before e = tt
      returns_well (Runs label) before e =
          record { callee = e.callee; known = called_there label e.callee e.known; given = e.given; saved = e.saved; pending = e.pending }
      returns_well (Resumes site) before e = tt

      jump_rule : (offset : ℤ) (shape : TopShape) → rule header (ops.Jmp offset) shape ≡ Some shape
      unfolding rule stack_effect
      jump_rule offset shape = refl

      jumps_well : (place label : ℕ) (s : Spot) → spot_of label ≡ s → label < total → JumpStands code place Jmp (places label) → SoundSpot place s
      jumps_well place label s is lt stands = record {
        op = ops.Jmp (distance place (places label));
        stands = stands.begins;
        obeys = record {
          after = s.shape;
          has_rule = jump_rule (distance place (places label)) s.shape;
          leads = ap (table.at (entry_of places s.way)) stands.leads ∙ shape_is (places label) s (label_there label lt ∙ ap Some is);
          further = tt;
        };
      }

      tests_well : (place label : ℕ) (way : Way) (before after : TopShape) (kind : Jump) → IsTest kind → ((offset : ℤ) → rule header (jump_over kind offset) before ≡ Some after)
          → spot_of label ≡ record { way = way; shape = after } → label < total → JumpStands code place kind (places label)
          → spot_at (place + 6) ≡ Some (record { way = way; shape = after }) → SoundSpot place (record { way = way; shape = before })
      tests_well place label way before after Jmp is r l lt stands next = absurd is
      tests_well place label way before after Jsr is r l lt stands next = absurd is
      tests_well place label way before after Jz is r l lt stands next = record {
        op = ops.Jz (distance place (places label));
        stands = stands.begins;
        obeys = record {
          after = after;
          has_rule = r (distance place (places label));
          leads = (ap (table.at (entry_of places way)) stands.leads ∙ shape_is (places label) _ (label_there label lt ∙ ap Some l), shape_is (place + 6) _ next);
          further = tt;
        };
      }
      tests_well place label way before after Jnz is r l lt stands next = record {
        op = ops.Jnz (distance place (places label));
        stands = stands.begins;
        obeys = record {
          after = after;
          has_rule = r (distance place (places label));
          leads = (ap (table.at (entry_of places way)) stands.leads ∙ shape_is (places label) _ (label_there label lt ∙ ap Some l), shape_is (place + 6) _ next);
          further = tt;
        };
      }

      calls_well : (place label : ℕ) (way : Way) (before after : TopShape) → CallsAt header total callee_of label before after → JumpStands code place Jsr (places label)
          → spot_at (place + 6) ≡ Some (record { way = way; shape = after }) → SoundSpot place (record { way = way; shape = before })
      calls_well place label way before after c stands next = record {
        op = ops.Jsr (distance place (places label));
        stands = stands.begins;
        obeys = record {
          callee = c.callee;
          known = ap table.called stands.leads ∙ called_there label c.callee c.known;
          rest = c.rest;
          cells = c.cells;
          deeper = c.deeper;
          under = c.under;
          goes_on = subst (λ given. LeavesGiven table (entry_of places way) (place + 6) before c.rest given) (sym c.gives)
              (shape_is (place + 6) _ next ∙ ap Some c.left);
        };
      }

      stores_well : (place : ℕ) (way : Way) (before : TopShape) (globals locals : ℕ) (types : StoredTypes) → op_at code place ≡ Some (ops.StoreState globals locals)
          → stored_types globals locals before.under before.cells ≡ Some types
          → spot_at (place + 10) ≡ Some (record { way = way; shape = record before { pending = before.pending + 1 } })
          → spot_at (place + 10 + 6) ≡ Some (record { way = Resumes place; shape = stored_shape types }) → SoundSpot place (record { way = way; shape = before })
      unfolding rule
      stores_well place way before globals locals types stands found next resumed =
          let e : resume_place place ≡ place + 10 + 6 = omega arith in
          record {
            op = ops.StoreState globals locals;
            stands = stands;
            obeys = record {
              after = record before { pending = before.pending + 1 };
              has_rule = rw found refl;
              leads = shape_is (place + 10) _ next;
              further = record { types = types; found = found; resumes = ap (table.at (Stored place)) e ∙ shape_is (place + 10 + 6) _ resumed };
            };
          }

      ends_nowhere : (b : Bool) (out : Option Spot) (s : Spot) → out ≡ None → cond b out None ≡ Some s → ⊥
      ends_nowhere true out s none h = absurd (cc (none, h))
      ends_nowhere false out s none h = absurd cc

      -- one of two rows
      either : (place p : ℕ) (spot s : Spot) (rest : Option Spot) → row place spot rest p ≡ Some s → SoundSpot place spot → (rest ≡ Some s → SoundSpot p s) → SoundSpot p s
      either place p spot s rest h here there = on (row_is place p spot s rest h)
        where
          on : ((p ≡ place) × (spot ≡ s)) ⊎ (rest ≡ Some s) → SoundSpot p s
          on (inl e) = subst (SoundSpot p) e.1 (subst (λ q. SoundSpot q spot) (sym e.0) here)
          on (inr h) = there h

      sound_at : {place : ℕ} {spot : Option Spot} {lines : List Line} {out : Option Spot} (f : OneFlow place spot lines out) → out ≡ None → LinesStand code places place lines
          → Agrees f → (p : ℕ) (s : Spot) → walk f p ≡ Some s → SoundSpot p s
      sound_at (Flow.ends place spot) none stand agrees p s h = absurd (ends_nowhere (eqb p place) spot s none h)
      sound_at (Flow.goes place way before after op lines out on rules f) none stand agrees p s h =
          let size : 2 ≤ op_size op = size_some op in
          let rest : Agrees f = on_from place (place + op_size op) _ (walk f) (omega arith) agrees in
          either place p _ s (walk f p) h
          (record { op = op; stands = stand.0; obeys = obeys_goes (entry_of places way) place op before after on rules (shape_is (place + op_size op) _ (next_is f rest)) })
          (sound_at f none stand.1 rest p s)
      sound_at (Flow.returns place way before free lines out e f) none stand agrees p s h =
          let rest : Agrees f = on_from place (place + 2) _ (walk f) (omega arith) agrees in
          either place p _ s (walk f p) h (record { op = ops.Retn; stands = stand.0; obeys = returns_well way before e }) (sound_at f none stand.1 rest p s)
      sound_at (Flow.jumps place spot free label lines out is k f) none stand agrees p s h =
          let rest : Agrees f = on_from place (place + 6) _ (walk f) (omega arith) agrees in
          either place p _ s (walk f p) h (jumps_well place label spot is k stand.0) (sound_at f none stand.1 rest p s)
      sound_at (Flow.tests place way before after kind label lines out t r is k f) none stand agrees p s h =
          let rest : Agrees f = on_from place (place + 6) _ (walk f) (omega arith) agrees in
          either place p _ s (walk f p) h (tests_well place label way before after kind t r is k stand.0 (next_is f rest)) (sound_at f none stand.1 rest p s)
      sound_at (Flow.calls place way before after label lines out c f) none stand agrees p s h =
          let rest : Agrees f = on_from place (place + 6) _ (walk f) (omega arith) agrees in
          either place p _ s (walk f p) h (calls_well place label way before after c stand.0 (next_is f rest)) (sound_at f none stand.1 rest p s)
      sound_at (Flow.marks place spot label lines out is f) none stand agrees p s h =
          sound_at f none stand.1 (λ q le. agrees q (omega arith)) p s h
      sound_at (Flow.stores place way before globals locals label types lines out found is k f) none stand agrees p s h =
          let here : Spot = record { way = way; shape = before } in
          let behind : Spot = record { way = way; shape = record before { pending = before.pending + 1 } } in
          let first = on_from place (place + 10) here (λ q. row (place + 10) behind (walk f q) q) (omega arith) agrees in
          let rest : Agrees f = on_from (place + 10) (place + 10 + 6) behind (walk f) (omega arith) first in
          let next = first (place + 10) (omega arith) ∙ row_here (place + 10) behind (walk f (place + 10)) in
          either place p here s (row (place + 10) behind (walk f p) p) h (stores_well place way before globals locals types stand.0 found next (next_is f rest))
          (λ h. either (place + 10) p behind s (walk f p) h (jumps_well (place + 10) label _ is k stand.1.0) (sound_at f none stand.1.1 rest p s))

-- ---- the whole

entry_is : (a b : Entry) → same_entry a b ≡ true → a ≡ b
entry_is Start Start h = refl
entry_is (Called a) (Called b) h = ap Called ((Decides-eqb a b).0 h)
entry_is (Stored a) (Stored b) h = ap Stored ((Decides-eqb a b).0 h)
entry_is Start (Called b) h = absurd cc
entry_is Start (Stored b) h = absurd cc
entry_is (Called a) Start h = absurd cc
entry_is (Called a) (Stored b) h = absurd cc
entry_is (Stored a) Start h = absurd cc
entry_is (Stored a) (Called b) h = absurd cc

-- what the table has at a place is the spot there
record HasSpot (places : ℕ → ℕ) (at : Option Spot) (entry : Entry) (shape : TopShape) : Type 0 where
  spot : Spot
  there : at ≡ Some spot
  way : entry ≡ entry_of places spot.way
  same : spot.shape ≡ shape

has_spot : (places : ℕ → ℕ) (at : Option Spot) (entry : Entry) (shape : TopShape) → shape_there places entry at ≡ Some shape → HasSpot places at entry shape
has_spot places None entry shape h = absurd cc
has_spot places (Some s) entry shape h = on (same_entry entry (entry_of places s.way)) refl h
  where
    on : (b : Bool) → same_entry entry (entry_of places s.way) ≡ b → cond b (Some s.shape) None ≡ Some shape → HasSpot places (Some s) entry shape
    on true e h = record { spot = s; there = refl; way = entry_is entry (entry_of places s.way) e; same = cc }
    on false e h = absurd cc

record HasCallee (places : ℕ → ℕ) (callee_of : ℕ → Option Callee) (target : ℕ) (callee : Callee) : Type 0 where
  label : ℕ
  is : places label ≡ target
  known : callee_of label ≡ Some callee

has_callee : (places : ℕ → ℕ) (callee_of : ℕ → Option Callee) (target : ℕ) (callee : Callee) (at : Option Spot) → callee_there places callee_of target at ≡ Some callee
    → HasCallee places callee_of target callee
has_callee places callee_of target callee None h = absurd cc
has_callee places callee_of target callee (Some s) h = by s.way h
  where
    by : (way : Way) → callee_by places callee_of target way ≡ Some callee → HasCallee places callee_of target callee
    by Starts h = absurd cc
    by (Resumes site) h = absurd cc
    by (Runs label) h = on (eqb (places label) target) refl h
      where
        on : (b : Bool) → eqb (places label) target ≡ b → cond b (callee_of label) None ≡ Some callee → HasCallee places callee_of target callee
        on true e h = record { label = label; is = (Decides-eqb (places label) target).0 e; known = h }
        on false e h = absurd cc

-- the script's start
abbrev pub begin : Spot
begin = record { way = Starts; shape = empty_shape }

pub flowing_meets : (header : EngineTable) (total : ℕ) (callee_of : ℕ → Option Callee) (spot_of : ℕ → Spot) (some : SizeSome) (code : List PlainOp) (places : ℕ → ℕ) (lines : List Line)
    (f : Flow header total callee_of spot_of header_size (Some begin) lines None) → LinesStand code places header_size lines
    → ((label : ℕ) → label < total → 1 ≤ placements lines label)
    → ((label : ℕ) (callee : Callee) → callee_of label ≡ Some callee → (label < total) × (spot_of label ≡ first_spot label callee))
    → MeetsRules header code (emitted_table places callee_of (walk header total callee_of spot_of f))
flowing_meets header total callee_of spot_of some code places lines f stand placed first =
    let spot_at : ℕ → Option Spot = walk header total callee_of spot_of f in
    let there : (label : ℕ) → label < total → spot_at (places label) ≡ Some (spot_of label) =
    λ label lt. marked header total callee_of spot_of some code places spot_at f stand (λ p le. refl) label (placed label lt) in
    let known : (label : ℕ) (callee : Callee) → callee_of label ≡ Some callee → spot_at (places label) ≡ Some (first_spot label callee) =
    λ label callee h. let g = first label callee h in there label g.0 ∙ ap Some g.1 in
    record {
      start = shape_is header total callee_of spot_of some code places spot_at header_size begin (starts header total callee_of spot_of f);
      entered = λ target callee h. (
          let g = has_callee places callee_of target callee (spot_at target) h in
          subst (λ t. (emitted_table places callee_of spot_at).at (Called t) t ≡ Some (first_shape callee)) g.is
          (shape_is header total callee_of spot_of some code places spot_at (places g.label) (first_spot g.label callee) (known g.label callee g.known)));
      each = λ entry place shape h. (
          let g = has_spot places (spot_at place) entry shape h in
          let sound = sound_at header total callee_of spot_of some code places spot_at there known f refl stand (λ p le. refl) place g.spot g.there in
          subst (IsSound header code (emitted_table places callee_of spot_at) entry place) g.same
          (subst (λ e. IsSound header code (emitted_table places callee_of spot_at) e place g.spot.shape) (sym g.way)
          (record { op = sound.op; stands = sound.stands; obeys = sound.obeys })));
    }
