-- The code of statements does what they mean, statement by statement; a `switch` stands in
-- Switches.
use Rattle.std.proofs.Common.{arith, ◌≡◌, ◌≤◌, ◌<◌, ◌+◌, ◌-◌, ◌*◌, ◌⊎◌, inl, inr, ℕ, zero, suc, List, [], ◌∷◌, ◌++◌, length, map, take, drop, reverse, Option, Some, None, Bool, true, false, sym}
use Rattle.std.proofs.Common.{subst, ◌∙◌, ap, refl, append_assoc}
use Rattle.std.specs.Prelude.{ℤ, pos, not, ◌==◌, if◌then◌else◌}
use Rattle.std.specs.List.{AllByRecursion}
use Rattle.std.proofs.lemmas.Bool.Decides.{Decides-eqb}
use Rattle.std.proofs.lemmas.List.{length-append, length-map, take-append-drop, length-take-le, length-drop, length-reverse, reverse-reverse}
use Rattle.nss_tree.specs.Statements.{block, empty, expression, if_only, if_else, while_loop, do_loop, for_loop, switch, break_off, continue_on, return_from, declaration, case_label, default_label}
use Rattle.nss_tree.specs.Statements.{no_stmt, more_stmts}
use Rattle.nwq_value.specs.declared.value.Ty.{Ty}
use Rattle.nwq_value.specs.declared.value.Ty.TheVariants.{Void, Int as IntTy, Text as TextTy, Object as ObjectTy, Effect as EffectTy, Event as EventTy, Action, Struct, Refused}
use Rattle.nwq_value.specs.declared.value.Value.{Value}
use Rattle.nwq_value.specs.declared.value.Value.TheVariants.{Int}
use Rattle.nwq_value.specs.declared.engine.Const.{Const}
use Rattle.nwq_value.specs.Values.{type_of as type_of_value}
use Rattle.nwq_value.specs.Operators.{is_zero}
use Rattle.ncs_code.specs.Plain as ops
use Rattle.ncs_code.specs.File.{op_at, jump_place}
use Rattle.ncs_emit.specs.declared.jump.Jump.TheVariants.{Jmp, Jz, Jnz}
use Rattle.ncs_emit.specs.Labelled.{Instruction, JumpTo, Label, lines_size}
use Rattle.ncs_emit.specs.Standing.{LinesStand}
use Rattle.typing_rules.specs.Typed.{TypedExpr, TypedName, TypedStmt, TypedStmts, type_of}
use Rattle.typing_rules.specs.Cells.{cell_types, cells}
use Rattle.saved_state.specs.declared.cell.Cell.{Cell}
use Rattle.saved_state.specs.declared.cell.Cell.TheVariants.{Value as Holds, Base}
use Rattle.saved_state.specs.declared.saved.Saved.{Saved}
use Rattle.stack_shape.specs.StackEffects.{type_of_one}
use Rattle.emission_rules.specs.Bounds.{IsCell}
use Rattle.emission_rules.specs.Layout.{position, names_cells, declared_cells, all_declared_cells}
use Rattle.emission_rules.specs.Operations.{beneath, bytes_of, dropped, int_constant, started, cell_kind}
use Rattle.emission_rules.specs.Expressions.{emit, labels}
use Rattle.emission_rules.specs.Statements.{Exits, in_loop, some_labels, evaluated, tested, stored, initial, emit_names, stmt_labels, emit_stmt, emit_stmts}
use Rattle.world_rules.specs.Pure.{CellLookup}
use Rattle.world_rules.specs.World.{World}
use Rattle.machine_rules.specs.Values.{starting_value}
use Rattle.machine_rules.specs.Cells.{value_types, value_pushed}
use Rattle.machine_rules.specs.Act.{act, cells_after, Moves}
use Rattle.machine_rules.specs.Machine.{Goes, step}
use Rattle.source_meaning.specs.Values.{start_part, start_parts, is_true}
use Rattle.source_meaning.specs.Evaluation.{Variables, with_variable, Deferred, Progress, Outcome, Gives, bind, spend, chosen}
use Rattle.source_meaning.specs.Expressions.{Running, Caller, made, eval}
use Rattle.source_meaning.specs.Statements.{Flow, Next, Broke, Continued, Returned, on_next, on_body, turns, looped, maybe, tested as tested_value, initial as initial_value, declared, exec, execs}
use Rattle.source_meaning.specs.Statements.{after_names, after_stmt}
use Rattle.source_meaning.specs.Scripts.{Function}
use Rattle.source_laws.specs.Ledger.{Machine, MachineHost, Took, Sim}
use Rattle.source_laws.specs.Kept.{pushed, Stands, AreHeld, Site, IsListed, at, In, part_types, Vars, Kept, spot_at}
use Rattle.source_laws.specs.Simulation.{Executor, running_at, HoldsValue, value_place, value_credits, ExprRuns}
use Rattle.source_laws.specs.FineStatements.{after_stmts, DeclaresNothing, IsFineValue, IsFineTest, IsFineMaybe, AreFineNames, IsFineStmt, AreFineStmts}
use Rattle.source_laws.specs.StatementsRun.{Exit, IsExit, AreExits, FlowHolds, flow_place, one_of, flow_credits, StmtRuns}
use Rattle.source_laws.proofs.Cells.{parted, held_over, pushed_alone, held_parts, held_pushed, pushed_over, pushed_length, pushed_append, stands_over, stands_length}
use Rattle.source_laws.proofs.Ledger.{took_none, took_cost, took_then, took_less, sim_after, sim_bind, sim_paid, sim_chosen, sim_map}
use Rattle.source_laws.proofs.Steps.{both_stand, sizes, moves, acted, jump_goes, zero_jumps, other_passes, dropped_goes, frame_written, int_goes}

-- ---- variables that come into sight and go out of it

differ : true ≡ false → ⊥
differ h = absurd cc

module _ (x : Site) where
  -- a variable of a frame lies inside of it
  pub within : (scope : List ℕ) (frame : List Cell) (variables : Variables) → Vars x scope frame variables → (n : ℕ) → In n scope → position x.layout n + length (part_types x n) ≤ length frame
  within scope frame variables v n i =
      let s = v.value n i in
      let a = stands_length frame (position x.layout n) (variables n) s in
      let b = length-map (variables n) type_of_value in
      let c = ap length (v.typed n i) in
      omega (arith, a, b, c)

  -- what is in sight of fewer cells stands on these
  pub lower_vars : (scope fewer : List ℕ) (more frame : List Cell) (variables : Variables) → Vars x scope (more ++ frame) variables → ((n : ℕ) → In n fewer → In n scope)
      → ((n : ℕ) → In n fewer → position x.layout n + length (part_types x n) ≤ length frame) → Vars x fewer frame variables
  lower_vars scope fewer more frame variables v seen beneath = record {
    value = λ n i. lower_value n i;
    typed = λ n i. v.typed n (seen n i);
    apart = λ m n i j. v.apart m n (seen m i) (seen n j);
  }
    where
      lower_value : (n : ℕ) → In n fewer → Stands frame (position x.layout n) (variables n)
      lower_value n i =
          let s = v.value n (seen n i) in
          let size = pushed_length (variables n) s.below in
          let typed = ap length (v.typed n (seen n i)) in
          let count = length-map (variables n) type_of_value in
          let deep = beneath n i in
          let p = parted s.above (pushed (variables n) s.below) more frame (sym s.is) (let at_is = s.at in omega (arith, size, typed, count, deep, at_is)) in
          record { above = p.between; below = s.below; is = p.right; at = s.at }

  new_value : (scope : List ℕ) (frame : List Cell) (variables : Variables) (n : ℕ) (v : List Value)
      → Vars x scope frame variables → length frame ≡ position x.layout n → (m : ℕ) → In m (n ∷ scope) → (t : Bool)
      → (m == n) ≡ t
      → Stands (pushed v frame) (position x.layout m) (if t then v else variables m)
  new_value scope frame variables n v vars size m i true e =
      let same : m ≡ n = (Decides-eqb m n).0 e in
      record { above = []; below = frame; is = refl; at = size ∙ ap (position x.layout) (sym same) }
  new_value scope frame variables n v vars size m (inl same) false e = absurd (differ (sym ((Decides-eqb m n).1 same) ∙ e))
  new_value scope frame variables n v vars size m (inr i) false e = stands_over frame (map Holds (reverse v)) (position x.layout m) (variables m) (vars.value m i)

  new_typed : (scope : List ℕ) (frame : List Cell) (variables : Variables) (n : ℕ) (v : List Value)
      → Vars x scope frame variables → value_types v ≡ part_types x n → (m : ℕ) → In m (n ∷ scope) → (t : Bool)
      → (m == n) ≡ t
      → value_types (if t then v else variables m) ≡ part_types x m
  new_typed scope frame variables n v vars typed m i true e = typed ∙ ap (part_types x) (sym ((Decides-eqb m n).0 e))
  new_typed scope frame variables n v vars typed m (inl same) false e = absurd (differ (sym ((Decides-eqb m n).1 same) ∙ e))
  new_typed scope frame variables n v vars typed m (inr i) false e = vars.typed m i

  -- the new one lies above all others
  above_all : (scope : List ℕ) (frame : List Cell) (variables : Variables) (n : ℕ) → Vars x scope frame variables
      → length frame ≡ position x.layout n → (m k : ℕ) → In m (n ∷ scope) → In k (n ∷ scope) → (m ≡ k → ⊥)
      → (position x.layout m + length (part_types x m) ≤ position x.layout k) ⊎ (position x.layout k + length (part_types x k) ≤ position x.layout m)
  above_all scope frame variables n vars size m k (inl a) (inl b) apart = absurd (apart (a ∙ sym b))
  above_all scope frame variables n vars size m k (inl a) (inr j) apart =
      let w = within scope frame variables vars k j in
      let p = ap (position x.layout) a in
      inr (omega (arith, w, p, size))
  above_all scope frame variables n vars size m k (inr i) (inl b) apart =
      let w = within scope frame variables vars m i in
      let p = ap (position x.layout) b in
      inl (omega (arith, w, p, size))
  above_all scope frame variables n vars size m k (inr i) (inr j) apart = vars.apart m k i j apart

  pub vars_new : (scope : List ℕ) (frame : List Cell) (variables : Variables) (n : ℕ) (v : List Value)
      → Vars x scope frame variables → length frame ≡ position x.layout n → value_types v ≡ part_types x n
      → Vars x (n ∷ scope) (pushed v frame) (with_variable variables n v)
  vars_new scope frame variables n v vars size typed = record {
    value = λ m i. new_value scope frame variables n v vars size m i (m == n) refl;
    typed = λ m i. new_typed scope frame variables n v vars typed m i (m == n) refl;
    apart = λ m k i j. above_all scope frame variables n vars size m k i j;
  }

-- what was in sight stays so behind declarations
pub seen_names : (ds : List TypedName) (scope : List ℕ) (n : ℕ) → In n scope → In n (after_names ds scope)
seen_names [] scope n i = i
seen_names (d ∷ ds) scope n i = seen_names ds (d.name.number ∷ scope) n (inr i)

pub seen_stmt : (s : TypedStmt) (scope : List ℕ) (n : ℕ) → In n scope → In n (after_stmt s scope)
seen_stmt (declaration m t ds) scope n i = seen_names ds scope n i
seen_stmt s scope n i = i

pub seen_stmts : (ss : TypedStmts) (scope : List ℕ) (n : ℕ) → In n scope → In n (after_stmts ss scope)
seen_stmts no_stmt scope n i = i
seen_stmts (more_stmts s ss) scope n i = seen_stmts ss (after_stmt s scope) n (seen_stmt s scope n i)

-- ---- credits

pub sum_of : (a b : ℕ) → one_of (a + b) ≤ one_of a + one_of b
sum_of a b = pays (a + b) a b refl
  where
    pays : (s a b : ℕ) → s ≡ a + b → one_of s ≤ one_of a + one_of b
    pays zero a b h = omega arith
    pays (suc s) zero zero h = absurd (omega arith)
    pays (suc s) (suc a) b h = omega arith
    pays (suc s) zero (suc b) h = omega arith

module _ (host : MachineHost) (R : Saved → Deferred → Type 0) (x : Site) (listed : IsListed host x)
    (tables : CellLookup) (execute : Executor) (functions : List Function) (caller : Caller) (most : ℕ) (result : Ty) where
  abbrev here : Running
  here = running_at host tables execute x

  abbrev Runs : TypedExpr → Type 0
  Runs e = ExprRuns host R x tables execute functions caller most e

  abbrev Does : TypedStmt → Type 0
  Does s = StmtRuns host R x tables execute functions caller most result s

  -- ---- the frame with fewer cells

  abbrev pub lower_kept : {scope : List ℕ} {size : ℕ} {globals locals : Variables} {world : World Deferred} (K : Kept R x scope size globals locals world) (fewer : List ℕ) (depth : ℕ) → depth ≤ size
      → ((n : ℕ) → In n fewer → In n scope) → ((n : ℕ) → In n fewer → position x.layout n + length (part_types x n) ≤ depth) → Kept R x fewer depth globals locals world
  lower_kept {scope = scope} {size = size} {locals = locals} K fewer depth less seen beneath = record {
    under = K.under;
    frame = drop (size - depth) K.frame;
    machine = K.machine;
    under_size = K.under_size;
    frame_size = let f = K.frame_size in length-drop (size - depth) K.frame ∙ omega (arith, f, less);
    under_held = K.under_held;
    frame_held = (held_parts (take (size - depth) K.frame) (drop (size - depth) K.frame) (subst AreHeld (sym (take-append-drop (size - depth) K.frame)) K.frame_held)).1;
    global_values = K.global_values;
    local_values = lower_vars x scope fewer (take (size - depth) K.frame) (drop (size - depth) K.frame) locals
        (subst (λ (t : List Cell). Vars x scope t locals) (sym (take-append-drop (size - depth) K.frame)) K.local_values)
        seen (λ n i. let b = beneath n i in let f = K.frame_size in let d = length-drop (size - depth) K.frame in omega (arith, b, f, d, less));
    alike = K.alike;
  }

  -- cells that hold values, as a value
  parts_in_cells : (cells : List Cell) → AreHeld cells → (v : List Value) × (cells ≡ map Holds v)
  parts_in_cells [] h = ([], refl)
  parts_in_cells (Holds w ∷ cells) h = let v = parts_in_cells cells h.1 in (w ∷ v.0, ap (λ t. Holds w ∷ t) v.1)
  parts_in_cells (Base bp ∷ cells) h = absurd h.0

  as_pushed : (cells : List Cell) (h : AreHeld cells) (rest : List Cell) → cells ++ rest ≡ pushed (reverse (parts_in_cells cells h).0) rest
  as_pushed cells h rest =
      let v = parts_in_cells cells h in
      ap (λ t. t ++ rest) (v.1 ∙ ap (map Holds) (sym (reverse-reverse v.0)))

  -- MOVSP takes the upper cells of the frame; where there are none, nothing is emitted
  pub lower_goes : {scope : List ℕ} {size : ℕ} {globals locals : Variables} {world : World Deferred} (K : Kept R x scope size globals locals world) (fewer : List ℕ) (depth : ℕ) (less : depth ≤ size)
      (seen : (n : ℕ) → In n fewer → In n scope)
      (beneath_it : (n : ℕ) → In n fewer → position x.layout n + length (part_types x n) ≤ depth) (n c : ℕ)
      (place : ℕ) (between : List Cell) (calls : List ℕ) (pending : List Saved) (gone : ℕ) → size - depth ≡ gone
      → LinesStand x.code x.places place (dropped gone)
      → Took host n (c + one_of gone) (spot_at R x place [] between calls pending K) n c
      (spot_at R x (place + lines_size (dropped gone)) [] between calls pending
      (lower_kept K fewer depth less seen beneath_it))
  lower_goes {size = size} K fewer depth less seen beneath_it n c place between calls pending zero is lines =
      let same : place ≡ place + 0 = omega arith in
      let whole : K.frame ≡ drop (size - depth) K.frame = ap (λ k. drop k K.frame) (sym is) in
      let enough : c + one_of zero ≡ c = omega arith in
      subst (λ k. Took host n k (spot_at R x place [] between calls pending K) n c (spot_at R x (place + 0) [] between calls pending (lower_kept K fewer depth less seen beneath_it))) (sym enough)
      (subst (λ k. Took host n c (spot_at R x place [] between calls pending K) n c (at x k (drop (size - depth) K.frame ++ (between ++ K.under)) calls pending K.machine)) same
      (subst (λ t. Took host n c (spot_at R x place [] between calls pending K) n c (at x place (t ++ (between ++ K.under)) calls pending K.machine)) whole
      (took_none host n c (spot_at R x place [] between calls pending K))))
  lower_goes {size = size} K fewer depth less seen beneath_it n c place between calls pending (suc gone) is lines =
      let rest = between ++ K.under in
      let upper = take (size - depth) K.frame in
      let lower = drop (size - depth) K.frame in
      let parts = held_parts upper lower (subst AreHeld (sym (take-append-drop (size - depth) K.frame)) K.frame_held) in
      let v = parts_in_cells upper parts.0 in
      let whole : K.frame ++ rest ≡ pushed (reverse v.0) (lower ++ rest) =
      ap (λ t. t ++ rest) (sym (take-append-drop (size - depth) K.frame)) ∙ append_assoc upper lower rest ∙ as_pushed upper parts.0 (lower ++ rest) in
      let f = K.frame_size in
      let count : length upper ≡ suc gone = length-take-le (size - depth) K.frame (omega (arith, f)) ∙ is in
      let long : length (reverse v.0) ≡ suc gone = length-reverse v.0 ∙ sym (length-map v.0 Holds) ∙ sym (ap length v.1) ∙ count in
      let next = place + lines_size (dropped (suc gone)) in
      let goes = ap (λ t. step host (at x place t calls pending K.machine)) whole
      ∙ dropped_goes host x listed place next (suc gone) (reverse v.0) (lower ++ rest) calls pending K.machine lines.0 (omega arith) long in
      took_cost host n (c + 1) c (spot_at R x place [] between calls pending K) (at x next (lower ++ rest) calls pending K.machine) (omega arith) goes

  -- ---- parts of statements

  abbrev pub Holds' : Exit → Exit → List ℕ → ℕ → Flow → Progress → Type 0
  Holds' breaks continues scope size f p = FlowHolds R x result breaks continues scope size f p

  abbrev pub place_of_flow : (breaks continues : Exit) (scope : List ℕ) (size : ℕ) → ℕ → List Value → List Cell → ℕ
      → List ℕ → List Saved → (f : Flow) (p : Progress) → Holds' breaks continues scope size f p → Machine
  place_of_flow breaks continues scope size next room lower back calls pending f p h = flow_place R x result breaks continues scope size next room lower back calls pending f p h

  -- a frame of so many cells and no more
  abbrev pub and_none : {scope : List ℕ} {size : ℕ} {globals locals : Variables} {world : World Deferred} → Kept R x scope size globals locals world → Kept R x scope (size + 0) globals locals world
  and_none {size = size} K = record {
    under = K.under;
    frame = K.frame;
    machine = K.machine;
    under_size = K.under_size;
    frame_size = let f = K.frame_size in omega (arith, f);
    under_held = K.under_held;
    frame_held = K.frame_held;
    global_values = K.global_values;
    local_values = K.local_values;
    alike = K.alike;
  }

  abbrev pub no_more : {scope : List ℕ} {size : ℕ} {globals locals : Variables} {world : World Deferred} → Kept R x scope (size + 0) globals locals world → Kept R x scope size globals locals world
  no_more {size = size} K = record {
    under = K.under;
    frame = K.frame;
    machine = K.machine;
    under_size = K.under_size;
    frame_size = let f = K.frame_size in omega (arith, f);
    under_held = K.under_held;
    frame_held = K.frame_held;
    global_values = K.global_values;
    local_values = K.local_values;
    alike = K.alike;
  }

  -- what is said of a statement that declares nothing
  abbrev Keeps : TypedStmt → Type 0
  Keeps s =
      (out : Exits) (breaks continues : Exit) (scope : List ℕ) (size n place c : ℕ) (p : Progress) (K : Kept R x scope size p.globals p.locals p.world)
      (room : List Value) (lower : List Cell) (back : ℕ) (calls : List ℕ) (pending : List Saved)
      → IsFineStmt host.table functions x result breaks.allowed continues.allowed size scope s → LinesStand x.code x.places place (emit_stmt x.layout out n size s)
      → AreExits out breaks continues → IsExit x scope size breaks → IsExit x scope size continues → value_types room ≡ cell_types x.layout.structs result → p.left ≤ most
      → Sim host R (Holds' breaks continues scope (size + 0)) (place_of_flow breaks continues scope (size + 0) (place + lines_size (emit_stmt x.layout out n size s)) room lower back calls pending)
      p.left c (spot_at R x place [] (pushed room lower) (back ∷ calls) pending K) (flow_credits c 0) (exec here caller scope s p)

  keeps : (s : TypedStmt) → DeclaresNothing s → Does s → Keeps s
  keeps (block m xs) h d = d
  keeps (empty m) h d = d
  keeps (expression m e) h d = d
  keeps (if_only m e a) h d = d
  keeps (if_else m e a b) h d = d
  keeps (while_loop m e a) h d = d
  keeps (do_loop m a e) h d = d
  keeps (for_loop m e y z a) h d = d
  keeps (switch m e xs) h d = d
  keeps (break_off m) h d = d
  keeps (continue_on m) h d = d
  keeps (return_from m e) h d = d
  keeps (declaration m t ds) h d = absurd h
  keeps (case_label m k) h d = d
  keeps (default_label m) h d = d

  -- the end of a statement by further instructions, with credits to spare; every other way to leave
  -- it stays
  flow_on : (breaks continues : Exit) (scope : List ℕ) (size first next n c d : ℕ) (s : Machine) (room : List Value)
      (lower : List Cell) (back : ℕ) (calls : List ℕ) (pending : List Saved) (r : Outcome Flow) → c + 1 ≤ d
      → ((p : Progress) (K : Kept R x scope (size + 0) p.globals p.locals p.world)
      → step host (spot_at R x first [] (pushed room lower) (back ∷ calls) pending K) ≡ Some (Goes (spot_at R x next [] (pushed room lower) (back ∷ calls) pending K)))
      → Sim host R (Holds' breaks continues scope (size + 0)) (place_of_flow breaks continues scope (size + 0) first room lower back calls pending) n d s (flow_credits d 0) r
      → Sim host R (Holds' breaks continues scope (size + 0)) (place_of_flow breaks continues scope (size + 0) next room lower back calls pending) n d s (flow_credits c 0) r
  flow_on breaks continues scope size first next n c d s room lower back calls pending r more jump h =
      sim_map host R (Holds' breaks continues scope (size + 0)) (place_of_flow breaks continues scope (size + 0) first room lower back calls pending)
      (Holds' breaks continues scope (size + 0)) (place_of_flow breaks continues scope (size + 0) next room lower back calls pending) n d s (flow_credits d 0) (flow_credits c 0) r h
      (λ f p g. on_flow f p g)
    where
      on_flow : (f : Flow) (p : Progress) (g : Holds' breaks continues scope (size + 0) f p) → (y : Holds' breaks continues scope (size + 0) f p)
          × Took host p.left (flow_credits d 0 f)
          (place_of_flow breaks continues scope (size + 0) first room lower back calls pending f p g) p.left
          (flow_credits c 0 f) (place_of_flow breaks continues scope
          (size + 0) next room lower back calls pending f p y)
      on_flow Next p g = (
        g,
        took_cost host p.left (d + 0) (c + 0)
            (spot_at R x first [] (pushed room lower) (back ∷ calls) pending g)
            (spot_at R x next [] (pushed room lower) (back ∷ calls) pending g) (omega arith) (jump p g),
      )
      on_flow Broke p g = (g, took_less host c (omega arith) (took_none host p.left d (spot_at R x (x.places breaks.label) [] (pushed room lower) (back ∷ calls) pending g.1)))
      on_flow Continued p g = (g, took_less host c (omega arith) (took_none host p.left d (spot_at R x (x.places continues.label) [] (pushed room lower) (back ∷ calls) pending g.1)))
      on_flow (Returned v) p g = (g, took_less host c (omega arith) (took_none host p.left d (spot_at R x back [] (pushed v lower) calls pending g.1)))

  -- the same end at an equal place, with credits to spare
  flow_same : (breaks continues : Exit) (scope : List ℕ) (size first next n c d : ℕ) (s : Machine) (room : List Value)
      (lower : List Cell) (back : ℕ) (calls : List ℕ) (pending : List Saved) (r : Outcome Flow) → c ≤ d → first ≡ next
      → Sim host R (Holds' breaks continues scope (size + 0)) (place_of_flow breaks continues scope (size + 0) first room lower back calls pending) n d s (flow_credits d 0) r
      → Sim host R (Holds' breaks continues scope (size + 0)) (place_of_flow breaks continues scope (size + 0) next room lower back calls pending) n d s (flow_credits c 0) r
  flow_same breaks continues scope size first next n c d s room lower back calls pending r less same h =
      subst (λ k. Sim host R (Holds' breaks continues scope (size + 0)) (place_of_flow breaks continues scope (size + 0) k room lower back calls pending) n d s (flow_credits c 0) r) same
      (sim_map host R (Holds' breaks continues scope (size + 0)) (place_of_flow breaks continues scope (size + 0) first room lower back calls pending)
      (Holds' breaks continues scope (size + 0)) (place_of_flow breaks continues scope (size + 0) first room lower back calls pending) n d s (flow_credits d 0) (flow_credits c 0) r h
      (λ f p g. (g, fewer f p g)))
    where
      fewer : (f : Flow) (p : Progress) (g : Holds' breaks continues scope (size + 0) f p)
          → Took host p.left (flow_credits d 0 f)
          (place_of_flow breaks continues scope (size + 0) first room lower back calls pending f p g) p.left
          (flow_credits c 0 f) (place_of_flow breaks continues scope
          (size + 0) first room lower back calls pending f p g)
      fewer Next p g = took_less host (c + 0) (omega arith) (took_none host p.left (d + 0) (spot_at R x first [] (pushed room lower) (back ∷ calls) pending g))
      fewer Broke p g = took_less host c less (took_none host p.left d (spot_at R x (x.places breaks.label) [] (pushed room lower) (back ∷ calls) pending g.1))
      fewer Continued p g = took_less host c less (took_none host p.left d (spot_at R x (x.places continues.label) [] (pushed room lower) (back ∷ calls) pending g.1))
      fewer (Returned v) p g = took_less host c less (took_none host p.left d (spot_at R x back [] (pushed v lower) calls pending g.1))

  -- ---- expressions as statements

  value_dropped : {scope : List ℕ} {size : ℕ} {globals locals : Variables} {world : World Deferred}
      (K : Kept R x scope size globals locals world) (n c place count : ℕ) (v : List Value) (between : List Cell)
      (calls : List ℕ) (pending : List Saved)
      → length v ≡ count → LinesStand x.code x.places place (dropped count)
      → Took host n (c + 1) (spot_at R x place (pushed v []) between calls pending K) n c (spot_at R x (place + lines_size (dropped count)) [] between calls pending K)
  value_dropped K n c place zero [] between calls pending long lines =
      let same : place ≡ place + 0 = omega arith in
      subst (λ k. Took host n (c + 1) (spot_at R x place [] between calls pending K) n c (spot_at R x k [] between calls pending K)) same
      (took_less host c (omega arith) (took_none host n (c + 1) (spot_at R x place [] between calls pending K)))
  value_dropped K n c place zero (w ∷ v) between calls pending long lines = absurd (omega arith)
  value_dropped K n c place (suc count) v between calls pending long lines =
      let rest = K.frame ++ (between ++ K.under) in
      took_cost host n (c + 1) c (spot_at R x place (pushed v []) between calls pending K) (spot_at R x (place + lines_size (dropped (suc count))) [] between calls pending K) (omega arith)
      (ap (λ t. step host (at x place t calls pending K.machine)) (pushed_over v [] rest)
      ∙ dropped_goes host x listed place (place + lines_size (dropped (suc count))) (suc count) v rest calls pending K.machine lines.0 (omega arith) long)

  pub expression_does : (m : ℕ) (e : TypedExpr) → Runs e → Does (expression m e)
  expression_does m e r out breaks continues scope size n place c p K room lower back calls pending fine stands exits ends starts typed le =
      let value = emit x.layout n size e in
      let count = length (cell_types x.layout.structs (type_of e)) in
      let b = both_stand x.code x.places place value (dropped count) stands in
      let middle = place + lines_size value in
      let next = place + lines_size (value ++ dropped count) in
      let goes : middle + lines_size (dropped count) ≡ next = let h = sizes value (dropped count) in omega (arith, h) in
      let between = pushed room lower in
      sim_bind host R (HoldsValue R x scope size (type_of e)) (value_place R x scope size (type_of e) middle [] between (back ∷ calls) pending)
      (Holds' breaks continues scope (size + 0)) (place_of_flow breaks continues scope (size + 0) next room lower back calls pending)
      p.left c (spot_at R x place [] between (back ∷ calls) pending K) (value_credits c) (flow_credits c 0) (eval here caller scope e p) (λ parts q. Gives Next q)
      (r scope size n size place c p K [] between (back ∷ calls) pending fine b.0 (omega arith) le tt)
      (λ v q h less.
      let long : length v ≡ count = sym (length-map v type_of_value) ∙ ap length h.0 in (
        and_none h.1,
        subst (λ k. Took host q.left (8 + c) (spot_at R x middle (pushed v []) between (back ∷ calls) pending h.1) q.left (c + 0) (spot_at R x k [] between (back ∷ calls) pending h.1)) goes
            (took_then host (took_less host ((c + 0) + 1) (omega arith) (took_none host q.left (8 + c) (spot_at R x middle (pushed v []) between (back ∷ calls) pending h.1)))
            (value_dropped h.1 q.left (c + 0) middle count v between (back ∷ calls) pending long b.1)),
      ))

  pub empty_does : (m : ℕ) → Does (empty m)
  empty_does m out breaks continues scope size n place c p K room lower back calls pending fine stands exits ends starts typed le =
      let same : place ≡ place + 0 = omega arith in
      let s = spot_at R x place [] (pushed room lower) (back ∷ calls) pending K in (
        and_none K,
        subst (λ k. Took host p.left c s p.left (c + 0)
            (spot_at R x k [] (pushed room lower) (back ∷ calls) pending K)) same
            (took_less host (c + 0) (omega arith) (took_none host p.left c s)),
      )

  -- ---- `if`

  pub an_int : (v : List Value) → value_types v ≡ IntTy ∷ [] → (k : ℤ) × (v ≡ Int k ∷ [])
  an_int (Int k ∷ []) h = (k, refl)
  an_int v h = absurd cc

  is_nonzero : (b : Bool) → not b ≡ true → b ≡ false
  is_nonzero false h = refl
  is_nonzero true h = absurd cc

  is_nought : (b : Bool) → not b ≡ false → b ≡ true
  is_nought true h = refl
  is_nought false h = absurd cc

  -- what follows a test at a jump
  tested_then : (breaks continues : Exit) (scope : List ℕ) (size n c at_jump : ℕ) (q : Progress)
      (K : Kept R x scope size q.globals q.locals q.world) (next : ℕ) (room : List Value) (lower : List Cell) (back : ℕ)
      (calls : List ℕ) (pending : List Saved)
      (v : List Value) (go other : Progress → Outcome Flow) → value_types v ≡ IntTy ∷ []
      → ((k : ℤ) → is_zero k ≡ false → Sim host R (Holds' breaks continues scope (size + 0)) (place_of_flow breaks continues scope (size + 0) next room lower back calls pending)
      q.left n (spot_at R x at_jump (Holds (Int k) ∷ []) (pushed room lower) (back ∷ calls) pending K) (flow_credits c 0) (go q))
      → ((k : ℤ) → is_zero k ≡ true → Sim host R (Holds' breaks continues scope (size + 0)) (place_of_flow breaks continues scope (size + 0) next room lower back calls pending)
      q.left n (spot_at R x at_jump (Holds (Int k) ∷ []) (pushed room lower) (back ∷ calls) pending K) (flow_credits c 0) (other q))
      → Sim host R (Holds' breaks continues scope (size + 0)) (place_of_flow breaks continues scope (size + 0) next room lower back calls pending)
      q.left n (spot_at R x at_jump (pushed v []) (pushed room lower) (back ∷ calls) pending K) (flow_credits c 0) (chosen (is_true v) go other q)
  tested_then breaks continues scope size n c at_jump q K next room lower back calls pending v go other typed h k =
      let value = an_int v typed in
      subst (λ u. Sim host R (Holds' breaks continues scope (size + 0)) (place_of_flow breaks continues scope (size + 0) next room lower back calls pending)
      q.left n (spot_at R x at_jump (pushed u []) (pushed room lower) (back ∷ calls) pending K) (flow_credits c 0) (chosen (is_true u) go other q)) (sym value.1)
      (sim_chosen host R (Holds' breaks continues scope (size + 0)) (place_of_flow breaks continues scope (size + 0) next room lower back calls pending)
      q.left n (spot_at R x at_jump (Holds (Int value.0) ∷ []) (pushed room lower) (back ∷ calls) pending K) (flow_credits c 0) (is_true (Int value.0 ∷ [])) go other q
      (λ yes. h value.0 (is_nonzero (is_zero value.0) yes)) (λ no. k value.0 (is_nought (is_zero value.0) no)))

  pub if_only_does : (m : ℕ) (e : TypedExpr) (a : TypedStmt) → Runs e → Does a → Does (if_only m e a)
  if_only_does m e a r da out breaks continues scope size n place c p K room lower back calls pending fine stands exits ends starts typed le =
      let value = emit x.layout (n + 1) size e in
      let body = emit_stmt x.layout out (n + 1 + labels e) size a in
      let behind = JumpTo Jz n ∷ (body ++ Label n ∷ []) in
      let b = both_stand x.code x.places place value behind stands in
      let middle = place + lines_size value in
      let d = both_stand x.code x.places (middle + 6) body (Label n ∷ []) b.1.1 in
      let next = place + lines_size (value ++ behind) in
      let ending : middle + 6 + lines_size body ≡ next = let h = sizes value behind in let k = sizes body (Label n ∷ []) in omega (arith, h, k) in
      let label : x.places n ≡ next = d.1.0 ∙ ending in
      let between = pushed room lower in
      sim_bind host R (HoldsValue R x scope size (type_of e)) (value_place R x scope size (type_of e) middle [] between (back ∷ calls) pending)
      (Holds' breaks continues scope (size + 0)) (place_of_flow breaks continues scope (size + 0) next room lower back calls pending)
      p.left c (spot_at R x place [] between (back ∷ calls) pending K) (value_credits c) (flow_credits c 0)
      (eval here caller scope e p)
      (λ v q. chosen (is_true v) (λ u. exec here caller scope a u) (λ u. Gives Next u) q)
      (r scope size (n + 1) size place c p K [] between (back ∷ calls) pending fine.0.0 b.0 (omega arith) le tt)
      (λ v q h less.
      let L = h.1 in
      let rest = L.frame ++ (between ++ L.under) in
      tested_then breaks continues scope size (8 + c) c middle q L next room lower back calls pending v
      (λ u. exec here caller scope a u) (λ u. Gives Next u) (h.0 ∙ ap (cell_types x.layout.structs) fine.0.1)
      (λ k nonzero.
      let s0 = spot_at R x middle (Holds (Int k) ∷ []) between (back ∷ calls) pending L in
      let s1 = spot_at R x (middle + 6) [] between (back ∷ calls) pending L in
      let jump = other_passes host x listed middle (middle + 6) _ k rest (back ∷ calls) pending L.machine b.1.0.begins nonzero refl in
      sim_after host R (Holds' breaks continues scope (size + 0)) (place_of_flow breaks continues scope (size + 0) next room lower back calls pending) (flow_credits c 0) (exec here caller scope a q)
      (took_cost host q.left (8 + c) (7 + c) s0 s1 (omega arith) jump)
      (flow_same breaks continues scope size (middle + 6 + lines_size body) next q.left c (7 + c) s1 room lower back calls pending (exec here caller scope a q) (omega arith) ending
      (keeps a fine.2 da out breaks continues scope size (n + 1 + labels e) (middle + 6) (7 + c) q L room lower back calls pending fine.1 d.0 exits ends starts typed (omega (arith, less, le)))))
      (λ k nought.
      let s0 = spot_at R x middle (Holds (Int k) ∷ []) between (back ∷ calls) pending L in
      let s1 = spot_at R x next [] between (back ∷ calls) pending L in
      let jump = zero_jumps host x listed middle next _ k rest (back ∷ calls) pending L.machine b.1.0.begins nought (b.1.0.leads ∙ label) in
      (and_none L, took_cost host q.left (8 + c) (c + 0) s0 s1 (omega arith) jump)))

  pub if_else_does : (m : ℕ) (e : TypedExpr) (a o : TypedStmt) → Runs e → Does a → Does o → Does (if_else m e a o)
  if_else_does m e a o r da db out breaks continues scope size n place c p K room lower back calls pending fine stands exits ends starts typed le =
      let value = emit x.layout (n + 2) size e in
      let first = emit_stmt x.layout out (n + 2 + labels e) size a in
      let second = emit_stmt x.layout out (n + 2 + labels e + stmt_labels a) size o in
      let last = JumpTo Jmp (n + 1) ∷ Label n ∷ (second ++ Label (n + 1) ∷ []) in
      let behind = JumpTo Jz n ∷ (first ++ last) in
      let b = both_stand x.code x.places place value behind stands in
      let middle = place + lines_size value in
      let d = both_stand x.code x.places (middle + 6) first last b.1.1 in
      let jumps = middle + 6 + lines_size first in
      let f = both_stand x.code x.places (jumps + 6 + 0) second (Label (n + 1) ∷ []) d.1.1.1 in
      let next = place + lines_size (value ++ behind) in
      let ending : jumps + 6 + 0 + lines_size second ≡ next = let h = sizes value behind in let k = sizes first last in let j = sizes second (Label (n + 1) ∷ []) in omega (arith, h, k, j) in
      let over : x.places (n + 1) ≡ next = f.1.0 ∙ ending in
      let otherwise : x.places n ≡ jumps + 6 + 0 = d.1.1.0 ∙ omega arith in
      let between = pushed room lower in
      sim_bind host R (HoldsValue R x scope size (type_of e)) (value_place R x scope size (type_of e) middle [] between (back ∷ calls) pending)
      (Holds' breaks continues scope (size + 0)) (place_of_flow breaks continues scope (size + 0) next room lower back calls pending)
      p.left c (spot_at R x place [] between (back ∷ calls) pending K) (value_credits c) (flow_credits c 0)
      (eval here caller scope e p)
      (λ v q. chosen (is_true v) (λ u. exec here caller scope a u) (λ u. exec here caller scope o u) q)
      (r scope size (n + 2) size place c p K [] between (back ∷ calls) pending fine.0.0 b.0 (omega arith) le tt)
      (λ v q h less.
      let L = h.1 in
      let rest = L.frame ++ (between ++ L.under) in
      tested_then breaks continues scope size (8 + c) c middle q L next room lower back calls pending v
      (λ u. exec here caller scope a u) (λ u. exec here caller scope o u)
      (h.0 ∙ ap (cell_types x.layout.structs) fine.0.1)
      (λ k nonzero.
      let s0 = spot_at R x middle (Holds (Int k) ∷ []) between (back ∷ calls) pending L in
      let s1 = spot_at R x (middle + 6) [] between (back ∷ calls) pending L in
      let jump = other_passes host x listed middle (middle + 6) _ k rest (back ∷ calls) pending L.machine b.1.0.begins nonzero refl in
      sim_after host R (Holds' breaks continues scope (size + 0)) (place_of_flow breaks continues scope (size + 0) next room lower back calls pending) (flow_credits c 0) (exec here caller scope a q)
      (took_cost host q.left (8 + c) (7 + c) s0 s1 (omega arith) jump)
      (flow_on breaks continues scope size jumps next q.left c (7 + c) s1 room lower back calls pending (exec here caller scope a q) (omega arith)
      (λ w M. jump_goes host x listed jumps next _ (M.frame ++ (between ++ M.under)) (back ∷ calls) pending M.machine d.1.0.begins (d.1.0.leads ∙ over))
      (keeps a fine.3 da out breaks continues scope size (n + 2 + labels e) (middle + 6) (7 + c) q L room lower back calls pending fine.1 d.0 exits ends starts typed (omega (arith, less, le)))))
      (λ k nought.
      let s0 = spot_at R x middle (Holds (Int k) ∷ []) between (back ∷ calls) pending L in
      let s1 = spot_at R x (jumps + 6 + 0) [] between (back ∷ calls) pending L in
      let jump = zero_jumps host x listed middle (jumps + 6 + 0) _ k rest (back ∷ calls) pending L.machine b.1.0.begins nought (b.1.0.leads ∙ otherwise) in
      sim_after host R (Holds' breaks continues scope (size + 0)) (place_of_flow breaks continues scope (size + 0) next room lower back calls pending) (flow_credits c 0) (exec here caller scope o q)
      (took_cost host q.left (8 + c) (7 + c) s0 s1 (omega arith) jump)
      (flow_same breaks continues scope size (jumps + 6 + 0 + lines_size second) next q.left c (7 + c) s1 room lower back calls pending (exec here caller scope o q) (omega arith) ending
      (keeps o fine.4 db out breaks continues scope size (n + 2 + labels e + stmt_labels a) (jumps + 6 + 0)
      (7 + c) q L room lower back calls pending fine.2 f.0 exits ends starts typed (omega (arith, less, le))))))

  -- ---- lists of statements

  abbrev sized : {scope : List ℕ} {size : ℕ} {globals locals : Variables} {world : World Deferred} (other : ℕ)
      → size ≡ other → Kept R x scope size globals locals world → Kept R x scope other globals locals world
  sized other same K = record {
    under = K.under;
    frame = K.frame;
    machine = K.machine;
    under_size = K.under_size;
    frame_size = K.frame_size ∙ same;
    under_held = K.under_held;
    frame_held = K.frame_held;
    global_values = K.global_values;
    local_values = K.local_values;
    alike = K.alike;
  }

  abbrev pub DoAll : TypedStmts → Type 0
  DoAll ss =
      (out : Exits) (breaks continues : Exit) (scope : List ℕ) (size n place c : ℕ) (p : Progress) (K : Kept R x scope size p.globals p.locals p.world)
      (room : List Value) (lower : List Cell) (back : ℕ) (calls : List ℕ) (pending : List Saved)
      → AreFineStmts host.table functions x result breaks.allowed continues.allowed size scope ss → LinesStand x.code x.places place (emit_stmts x.layout out n size None ss)
      → AreExits out breaks continues → IsExit x scope size breaks → IsExit x scope size continues → value_types room ≡ cell_types x.layout.structs result → p.left ≤ most
      → Sim host R (Holds' breaks continues (after_stmts ss scope) (size + all_declared_cells x.layout.structs ss))
      (place_of_flow breaks continues (after_stmts ss scope) (size + all_declared_cells x.layout.structs ss)
      (place + lines_size (emit_stmts x.layout out n size None ss)) room lower back calls pending)
      p.left c (spot_at R x place [] (pushed room lower) (back ∷ calls) pending K) (flow_credits c (all_declared_cells x.layout.structs ss)) (execs here caller scope ss p)

  pub none_do : DoAll no_stmt
  none_do out breaks continues scope size n place c p K room lower back calls pending fine stands exits ends starts typed le =
      let same : place ≡ place + 0 = omega arith in
      let s = spot_at R x place [] (pushed room lower) (back ∷ calls) pending K in (
        and_none K,
        subst (λ k. Took host p.left c s p.left (c + 0)
            (spot_at R x k [] (pushed room lower) (back ∷ calls) pending K)) same
            (took_less host (c + 0) (omega arith) (took_none host p.left c s)),
      )

  exit_later : (s : TypedStmt) (scope : List ℕ) (size : ℕ) (e : Exit) → IsExit x scope size e → IsExit x (after_stmt s scope) (size + declared_cells x.layout.structs s) e
  exit_later s scope size e h = record {
    within = λ a. let w = h.within a in omega (arith, w);
    seen = λ a n i. seen_stmt s scope n (h.seen a n i);
    beneath = h.beneath;
  }

  regrouped : (breaks continues : Exit) (scope : List ℕ) (size d e first next c : ℕ) (room : List Value)
      (lower : List Cell) (back : ℕ) (calls : List ℕ) (pending : List Saved) → first ≡ next
      → size + d + e ≡ size + (d + e) → one_of (d + e) ≤ one_of d + one_of e
      → (f : Flow) (r : Progress) (g : Holds' breaks continues scope (size + d + e) f r) → (y : Holds' breaks continues scope (size + (d + e)) f r)
      × Took host r.left (flow_credits (c + one_of d) e f)
      (place_of_flow breaks continues scope (size + d + e) first room lower back calls pending f r g) r.left
      (flow_credits c (d + e) f)
      (place_of_flow breaks continues scope (size + (d + e)) next room lower back calls pending f r y)
  regrouped breaks continues scope size d e first next c room lower back calls pending same whole enough Next r g = (
    sized (size + (d + e)) whole g,
    subst (λ k. Took host r.left (c + one_of d + one_of e)
        (spot_at R x first [] (pushed room lower) (back ∷ calls) pending g) r.left (c + one_of (d + e))
        (spot_at R x k [] (pushed room lower) (back ∷ calls) pending g)) same
        (took_less host (c + one_of (d + e)) (omega (arith, enough)) (took_none host r.left (c + one_of d + one_of e) (spot_at R x first [] (pushed room lower) (back ∷ calls) pending g))),
  )
  regrouped breaks continues scope size d e first next c room lower back calls pending same whole enough Broke r g =
      (g, took_less host c (omega arith) (took_none host r.left (c + one_of d) (spot_at R x (x.places breaks.label) [] (pushed room lower) (back ∷ calls) pending g.1)))
  regrouped breaks continues scope size d e first next c room lower back calls pending same whole enough Continued r g =
      (g, took_less host c (omega arith) (took_none host r.left (c + one_of d) (spot_at R x (x.places continues.label) [] (pushed room lower) (back ∷ calls) pending g.1)))
  regrouped breaks continues scope size d e first next c room lower back calls pending same whole enough (Returned v) r g =
      (g, took_less host c (omega arith) (took_none host r.left (c + one_of d) (spot_at R x back [] (pushed v lower) calls pending g.1)))

  pub more_do : (s : TypedStmt) (ss : TypedStmts) → Does s → DoAll ss → DoAll (more_stmts s ss)
  more_do s ss ds dss out breaks continues scope size n place c p K room lower back calls pending fine stands exits ends starts typed le =
      let structs = x.layout.structs in
      let first = emit_stmt x.layout out n size s in
      let one = declared_cells structs s in
      let many = all_declared_cells structs ss in
      let rest = emit_stmts x.layout out (n + stmt_labels s) (size + one) None ss in
      let b = both_stand x.code x.places place first rest stands in
      let middle = place + lines_size first in
      let next = place + lines_size (first ++ rest) in
      let ending : middle + lines_size rest ≡ next = let h = sizes first rest in omega (arith, h) in
      let between = pushed room lower in
      let last = after_stmts ss (after_stmt s scope) in
      let B = Holds' breaks continues last (size + (one + many)) in
      let there = place_of_flow breaks continues last (size + (one + many)) next room lower back calls pending in
      sim_bind host R (Holds' breaks continues (after_stmt s scope) (size + one)) (place_of_flow breaks continues (after_stmt s scope) (size + one) middle room lower back calls pending) B there
      p.left c (spot_at R x place [] between (back ∷ calls) pending K) (flow_credits c one)
      (flow_credits c (one + many)) (exec here caller scope s p)
      (λ f q. on_next f (λ r. execs here caller (after_stmt s scope) ss r) q)
      (ds out breaks continues scope size n place c p K room lower back calls pending fine.0 b.0 exits ends starts typed le)
      (λ f q h less. on_first s ss dss out breaks continues scope size n place c p.left room lower back calls pending fine.1 middle next b.1 ending exits ends starts typed le f q h less)
    where
      on_first : (s : TypedStmt) (ss : TypedStmts) (dss : DoAll ss) (out : Exits) (breaks continues : Exit)
          (scope : List ℕ) (size n place c left : ℕ) (room : List Value) (lower : List Cell) (back : ℕ) (calls : List ℕ)
          (pending : List Saved)
          → AreFineStmts host.table functions x result breaks.allowed continues.allowed (size + declared_cells x.layout.structs s) (after_stmt s scope) ss → (middle next : ℕ)
          → LinesStand x.code x.places middle (emit_stmts x.layout out (n + stmt_labels s) (size + declared_cells x.layout.structs s) None ss)
          → middle + lines_size (emit_stmts x.layout out (n + stmt_labels s) (size + declared_cells x.layout.structs s) None ss) ≡ next
          → AreExits out breaks continues → IsExit x scope size breaks → IsExit x scope size continues → value_types room ≡ cell_types x.layout.structs result → left ≤ most
          → (f : Flow) (q : Progress) (h : Holds' breaks continues (after_stmt s scope) (size + declared_cells x.layout.structs s) f q) → q.left ≤ left
          → Sim host R (Holds' breaks continues (after_stmts ss (after_stmt s scope)) (size + (declared_cells x.layout.structs s + all_declared_cells x.layout.structs ss)))
          (place_of_flow breaks continues (after_stmts ss (after_stmt s scope))
          (size + (declared_cells x.layout.structs s + all_declared_cells x.layout.structs ss)) next room lower back calls pending)
          q.left (flow_credits c (declared_cells x.layout.structs s) f)
          (place_of_flow breaks continues (after_stmt s scope)
          (size + declared_cells x.layout.structs s) middle room lower back calls pending f q h)
          (flow_credits c (declared_cells x.layout.structs s + all_declared_cells x.layout.structs ss)) (on_next f (λ r. execs here caller (after_stmt s scope) ss r) q)
      on_first s ss dss out breaks continues scope size n place c left room lower back calls pending fine middle next lines ending exits ends starts typed le Next q h less =
          let structs = x.layout.structs in
          let d = declared_cells structs s in
          let e = all_declared_cells structs ss in
          let rest = emit_stmts x.layout out (n + stmt_labels s) (size + d) None ss in
          let scope' = after_stmts ss (after_stmt s scope) in
          let whole : size + d + e ≡ size + (d + e) = omega arith in
          let enough = sum_of d e in
          sim_map host R (Holds' breaks continues scope' (size + d + e)) (place_of_flow breaks continues scope' (size + d + e) (middle + lines_size rest) room lower back calls pending)
          (Holds' breaks continues scope' (size + (d + e))) (place_of_flow breaks continues scope' (size + (d + e)) next room lower back calls pending)
          q.left (c + one_of d) (spot_at R x middle [] (pushed room lower) (back ∷ calls) pending h)
          (flow_credits (c + one_of d) e) (flow_credits c (d + e)) (execs here caller (after_stmt s scope) ss q)
          (dss out breaks continues (after_stmt s scope) (size + d) (n + stmt_labels s) middle
          (c + one_of d) q h room lower back calls pending fine lines exits (exit_later s scope size breaks ends)
          (exit_later s scope size continues starts) typed (omega (arith, less, le)))
          (λ f r g. regrouped breaks continues scope' size d e (middle + lines_size rest) next c room lower back calls pending ending whole enough f r g)
      on_first s ss dss out breaks continues scope size n place c left room lower back calls pending fine middle next lines ending exits ends starts typed le Broke q h less =
          (h, took_none host q.left c (spot_at R x (x.places breaks.label) [] (pushed room lower) (back ∷ calls) pending h.1))
      on_first s ss dss out breaks continues scope size n place c left room lower back calls pending fine middle next lines ending exits ends starts typed le Continued q h less =
          (h, took_none host q.left c (spot_at R x (x.places continues.label) [] (pushed room lower) (back ∷ calls) pending h.1))
      on_first s ss dss out breaks continues scope size n place c left room lower back calls pending fine middle next lines ending exits ends starts typed le (Returned v) q h less =
          (h, took_none host q.left c (spot_at R x back [] (pushed v lower) calls pending h.1))

  -- ---- blocks

  pub block_does : (m : ℕ) (ss : TypedStmts) → DoAll ss → Does (block m ss)
  block_does m ss dss out breaks continues scope size n place c p K room lower back calls pending fine stands exits ends starts typed le =
      let many = all_declared_cells x.layout.structs ss in
      let inner = emit_stmts x.layout out n size None ss in
      let b = both_stand x.code x.places place inner (dropped many) stands in
      let middle = place + lines_size inner in
      let next = place + lines_size (inner ++ dropped many) in
      let ending : middle + lines_size (dropped many) ≡ next = let h = sizes inner (dropped many) in omega (arith, h) in
      sim_map host R (Holds' breaks continues (after_stmts ss scope) (size + many)) (place_of_flow breaks continues (after_stmts ss scope) (size + many) middle room lower back calls pending)
      (Holds' breaks continues scope (size + 0)) (place_of_flow breaks continues scope (size + 0) next room lower back calls pending)
      p.left c (spot_at R x place [] (pushed room lower) (back ∷ calls) pending K) (flow_credits c many) (flow_credits c 0) (execs here caller scope ss p)
      (dss out breaks continues scope size n place c p K room lower back calls pending fine b.0 exits ends starts typed le)
      (λ f q g. on_end breaks continues ss scope size many middle next c room lower back calls pending b.1 ending
      (λ i j. fits (position x.layout i + length (part_types x i)) (length K.frame) size
      (within x scope K.frame p.locals K.local_values i j) K.frame_size) f q g)
    where
      fits : (a b c : ℕ) → a ≤ b → b ≡ c → a ≤ c
      fits a b c h k = omega arith

      on_end : (breaks continues : Exit) (ss : TypedStmts) (scope : List ℕ) (size many middle next c : ℕ) (room : List Value) (lower : List Cell) (back : ℕ) (calls : List ℕ) (pending : List Saved)
          → LinesStand x.code x.places middle (dropped many) → middle + lines_size (dropped many) ≡ next → ((i : ℕ) → In i scope → position x.layout i + length (part_types x i) ≤ size)
          → (f : Flow) (q : Progress) (g : Holds' breaks continues (after_stmts ss scope) (size + many) f q) → (y : Holds' breaks continues scope (size + 0) f q)
          × Took host q.left (flow_credits c many f)
          (place_of_flow breaks continues (after_stmts ss scope)
          (size + many) middle room lower back calls pending f q g) q.left (flow_credits c 0 f)
          (place_of_flow breaks continues scope (size + 0) next room lower back calls pending f q y)
      on_end breaks continues ss scope size many middle next c room lower back calls pending lines ending beneath_it Next q g =
          let less : size ≤ size + many = omega arith in
          let gone : size + many - size ≡ many = omega arith in
          let none : c ≡ c + 0 = omega arith in
          let K = lower_kept g scope size less (seen_stmts ss scope) beneath_it in (
            and_none K,
            subst (λ k. Took host q.left (c + one_of many)
                (spot_at R x middle [] (pushed room lower) (back ∷ calls) pending g) q.left (c + 0)
                (spot_at R x k [] (pushed room lower) (back ∷ calls) pending K)) ending
                (subst (λ d. Took host q.left (c + one_of many)
                (spot_at R x middle [] (pushed room lower) (back ∷ calls) pending g) q.left d
                (spot_at R x (middle + lines_size (dropped many)) [] (pushed room lower)
                (back ∷ calls) pending K)) none
                (lower_goes g scope size less (seen_stmts ss scope) beneath_it q.left c middle (pushed room lower) (back ∷ calls) pending many gone lines)),
          )
      on_end breaks continues ss scope size many middle next c room lower back calls pending lines ending beneath_it Broke q g =
          (g, took_none host q.left c (spot_at R x (x.places breaks.label) [] (pushed room lower) (back ∷ calls) pending g.1))
      on_end breaks continues ss scope size many middle next c room lower back calls pending lines ending beneath_it Continued q g =
          (g, took_none host q.left c (spot_at R x (x.places continues.label) [] (pushed room lower) (back ∷ calls) pending g.1))
      on_end breaks continues ss scope size many middle next c room lower back calls pending lines ending beneath_it
          (Returned v) q g = (g, took_none host q.left c (spot_at R x back [] (pushed v lower) calls pending g.1))

  -- ---- `break` and `continue`

  lower_step : {scope : List ℕ} {size : ℕ} {globals locals : Variables} {world : World Deferred} (K : Kept R x scope size globals locals world) (fewer : List ℕ) (depth : ℕ) (less : depth ≤ size)
      (seen : (n : ℕ) → In n fewer → In n scope)
      (beneath_it : (n : ℕ) → In n fewer → position x.layout n + length (part_types x n) ≤ depth) (place : ℕ)
      (between : List Cell) (calls : List ℕ) (pending : List Saved) (gone : ℕ) → size - depth ≡ suc gone
      → op_at x.code place ≡ Some (ops.MovSp (beneath (suc gone)))
      → step host (spot_at R x place [] between calls pending K) ≡ Some (Goes (spot_at R x (place + 6) [] between calls pending (lower_kept K fewer depth less seen beneath_it)))
  lower_step {size = size} K fewer depth less seen beneath_it place between calls pending gone is begins =
      let rest = between ++ K.under in
      let upper = take (size - depth) K.frame in
      let lower = drop (size - depth) K.frame in
      let parts = held_parts upper lower (subst AreHeld (sym (take-append-drop (size - depth) K.frame)) K.frame_held) in
      let v = parts_in_cells upper parts.0 in
      let whole : K.frame ++ rest ≡ pushed (reverse v.0) (lower ++ rest) =
      ap (λ t. t ++ rest) (sym (take-append-drop (size - depth) K.frame)) ∙ append_assoc upper lower rest ∙ as_pushed upper parts.0 (lower ++ rest) in
      let f = K.frame_size in
      let count : length upper ≡ suc gone = length-take-le (size - depth) K.frame (omega (arith, f)) ∙ is in
      let long : length (reverse v.0) ≡ suc gone = length-reverse v.0 ∙ sym (length-map v.0 Holds) ∙ sym (ap length v.1) ∙ count in
      ap (λ t. step host (at x place t calls pending K.machine)) whole
      ∙ dropped_goes host x listed place (place + 6) (suc gone) (reverse v.0) (lower ++ rest) calls pending K.machine begins refl long

  record Left (e : Exit) (scope : List ℕ) (size m c : ℕ) (globals locals : Variables) (world : World Deferred)
      (s : Machine) (between : List Cell) (calls : List ℕ) (pending : List Saved) : Type 0 where
    first : Machine
    goes : step host s ≡ Some (Goes first)
    kept : Kept R x e.scope e.depth globals locals world
    took : Took host m (15 + c) first m c (spot_at R x (x.places e.label) [] between calls pending kept)

  -- the frame is lowered to where the exit leads, and the jump follows
  leaves : {scope : List ℕ} {size : ℕ} {globals locals : Variables} {world : World Deferred}
      (K : Kept R x scope size globals locals world) (e : Exit) (label m c place : ℕ) (between : List Cell)
      (calls : List ℕ) (pending : List Saved) (gone : ℕ)
      → e.allowed ≡ true → IsExit x scope size e → label ≡ e.label → size - e.depth ≡ gone → LinesStand x.code x.places place (dropped gone ++ JumpTo Jmp label ∷ [])
      → Left e scope size m c globals locals world (spot_at R x place [] between calls pending K) between calls pending
  leaves {scope = scope} {size = size} K e label m c place between calls pending zero allowed ends same is lines =
      let L = lower_kept K e.scope e.depth (ends.within allowed) (ends.seen allowed) (ends.beneath allowed) in
      let rest = between ++ K.under in
      let whole : K.frame ≡ drop (size - e.depth) K.frame = ap (λ k. drop k K.frame) (sym is) in
      let goes = jump_goes host x listed place (x.places e.label) _ (K.frame ++ rest) calls pending K.machine lines.0.begins (lines.0.leads ∙ ap x.places same)
      ∙ ap (λ t. Some (Goes (at x (x.places e.label) (t ++ rest) calls pending K.machine))) whole in
      record {
        first = spot_at R x (x.places e.label) [] between calls pending L;
        goes = goes;
        kept = L;
        took = took_less host c (omega arith) (took_none host m (15 + c) (spot_at R x (x.places e.label) [] between calls pending L));
      }
  leaves {scope = scope} {size = size} K e label m c place between calls pending (suc gone) allowed ends same is lines =
      let L = lower_kept K e.scope e.depth (ends.within allowed) (ends.seen allowed) (ends.beneath allowed) in
      let rest = L.frame ++ (between ++ L.under) in
      let second = jump_goes host x listed (place + 6) (x.places e.label) _ rest calls pending L.machine lines.1.0.begins (lines.1.0.leads ∙ ap x.places same) in
      record {
        first = spot_at R x (place + 6) [] between calls pending L;
        goes = lower_step K e.scope e.depth (ends.within allowed) (ends.seen allowed) (ends.beneath allowed) place between calls pending gone is lines.0;
        kept = L;
        took = took_cost host m (15 + c) c (spot_at R x (place + 6) [] between calls pending L) (spot_at R x (x.places e.label) [] between calls pending L) (omega arith) second;
      }

  pub break_does : (m : ℕ) → Does (break_off m)
  break_does m out breaks continues scope size n place c p K room lower back calls pending fine stands exits ends starts typed le =
      let between = pushed room lower in
      let s = spot_at R x place [] between (back ∷ calls) pending K in
      let next = place + lines_size (dropped (size - out.break_depth) ++ JumpTo Jmp out.break_to ∷ []) in
      sim_paid host R (Holds' breaks continues scope (size + 0))
      (place_of_flow breaks continues scope (size + 0) next room lower back calls pending) c s (flow_credits c 0) p
      (λ q. Gives Broke q) K.alike
      (λ k left.
      let l = leaves K breaks out.break_to k c place between (back ∷ calls) pending (size - out.break_depth) fine ends exits.break_label (ap (λ d. size - d) (sym exits.break_depth)) stands in
      (l.first, l.goes, ((fine, l.kept), l.took)))

  pub continue_does : (m : ℕ) → Does (continue_on m)
  continue_does m out breaks continues scope size n place c p K room lower back calls pending fine stands exits ends starts typed le =
      let between = pushed room lower in
      let s = spot_at R x place [] between (back ∷ calls) pending K in
      let next = place + lines_size (dropped (size - out.continue_depth) ++ JumpTo Jmp out.continue_to ∷ []) in
      sim_paid host R (Holds' breaks continues scope (size + 0))
      (place_of_flow breaks continues scope (size + 0) next room lower back calls pending) c s (flow_credits c 0) p
      (λ q. Gives Continued q) K.alike
      (λ k left.
      let l = leaves K continues out.continue_to k c place between (back ∷ calls) pending
      (size - out.continue_depth) fine starts exits.continue_label
      (ap (λ d. size - d) (sym exits.continue_depth)) stands in
      (l.first, l.goes, ((fine, l.kept), l.took)))

  -- ---- `return`

  abbrev empty_kept : {scope : List ℕ} {size : ℕ} {globals locals : Variables} {world : World Deferred} → Kept R x scope size globals locals world → Kept R x [] 0 globals locals world
  empty_kept K = record {
    under = K.under;
    frame = [];
    machine = K.machine;
    under_size = K.under_size;
    frame_size = refl;
    under_held = K.under_held;
    frame_held = tt;
    global_values = K.global_values;
    local_values = record { value = λ n i. absurd i; typed = λ n i. absurd i; apart = λ n k i j. absurd i };
    alike = K.alike;
  }

  pub goes_back : (place back : ℕ) (cells : List Cell) (calls : List ℕ) (pending : List Saved) (world : World Saved) → op_at x.code place ≡ Some ops.Retn
      → step host (at x place cells (back ∷ calls) pending world) ≡ Some (Goes (at x back cells calls pending world))
  unfolding act
  goes_back place back cells calls pending world begins = acted host x listed place ops.Retn cells (back ∷ calls) pending world (Moves (at x back cells calls pending world).running) begins refl

  pub return_value_does : (m : ℕ) (e : TypedExpr) → Runs e → Does (return_from m (Some e))
  return_value_does m e r out breaks continues scope size n place c p K room lower back calls pending fine stands exits ends starts typed le =
      let value = emit x.layout n size e in
      let count = length (cell_types x.layout.structs (type_of e)) in
      let behind = Instruction (ops.CpDownSp (beneath (size + 2 * count)) (bytes_of count)) ∷ (dropped (size + count) ++ Instruction ops.Retn ∷ []) in
      let regroup : (value ++ stored x.layout size count) ++ Instruction ops.Retn ∷ [] ≡ value ++ behind = append_assoc value (stored x.layout size count) (Instruction ops.Retn ∷ []) in
      let lines = subst (LinesStand x.code x.places place) regroup stands in
      let b = both_stand x.code x.places place value behind lines in
      let middle = place + lines_size value in
      let d = both_stand x.code x.places (middle + 8) (dropped (size + count)) (Instruction ops.Retn ∷ []) b.1.1 in
      let next = place + lines_size (emit_stmt x.layout out n size (return_from m (Some e))) in
      let between = pushed room lower in
      let B = Holds' breaks continues scope (size + 0) in
      let there = place_of_flow breaks continues scope (size + 0) next room lower back calls pending in
      sim_bind host R (HoldsValue R x scope size (type_of e)) (value_place R x scope size (type_of e) middle [] between (back ∷ calls) pending) B there
      p.left c (spot_at R x place [] between (back ∷ calls) pending K) (value_credits c) (flow_credits c 0) (eval here caller scope e p) (λ parts q. spend q (λ u. Gives (Returned parts) u))
      (r scope size n size place c p K [] between (back ∷ calls) pending fine.0 b.0 (omega arith) le tt)
      (λ v q h less.
      let L = h.1 in
      let of_result : value_types v ≡ cell_types x.layout.structs result = h.0 ∙ ap (cell_types x.layout.structs) fine.1 in
      let long : length v ≡ count = sym (length-map v type_of_value) ∙ ap length h.0 in
      let some : 1 ≤ count = subst (λ (u : Ty). 1 ≤ length (cell_types x.layout.structs u)) (sym fine.1) fine.2 in
      let over = pushed v [] ++ L.frame in
      let under = lower ++ L.under in
      let cells = pushed v [] ++ (L.frame ++ (between ++ L.under)) in
      let whole : cells ≡ over ++ pushed room under = ap (λ t. pushed v [] ++ (L.frame ++ t)) (pushed_over room lower L.under) ∙ sym (append_assoc (pushed v []) L.frame (pushed room under)) in
      let top : cells ≡ pushed v (L.frame ++ (between ++ L.under)) = pushed_over v [] (L.frame ++ (between ++ L.under)) in
      let frame = L.frame_size in
      let first_size = length-append (pushed v []) L.frame in
      let value_size = pushed_length v [] in
      let deep : length over + (count + 0) ≡ size + 2 * count = omega (arith, frame, first_size, value_size, long) in
      let zero_less : size + 2 * count ≡ size + 2 * count - 0 = omega arith in
      let begins = subst (λ k. op_at x.code middle ≡ Some (ops.CpDownSp (beneath k) (bytes_of count))) zero_less b.1.0 in
      let first = frame_written host x listed middle (middle + 8) (size + 2 * count) 0 count cells over v room under
      (L.frame ++ (between ++ L.under)) (back ∷ calls) pending L.machine begins refl whole top long
      (of_result ∙ sym typed) some deep in
      let held = held_over (pushed v []) L.frame (held_pushed v [] tt) L.frame_held in
      let u = parts_in_cells over held in
      let rest = pushed v under in
      let as_one : over ++ rest ≡ pushed (reverse u.0) rest = as_pushed over held rest in
      let count_over : length (reverse u.0) ≡ size + count = length-reverse u.0 ∙ sym (length-map u.0 Holds) ∙ sym (ap length u.1) ∙ omega (arith, frame, first_size, value_size, long) in
      let s1 = at x (middle + 8) (over ++ rest) (back ∷ calls) pending L.machine in
      let last = spot_at R x back [] (pushed v lower) calls pending (empty_kept L) in
      let ending : rest ≡ pushed v lower ++ L.under = sym (pushed_over v lower L.under) in
      sim_paid host R B there (8 + c) (spot_at R x middle (pushed v []) between (back ∷ calls) pending L) (flow_credits c 0) q (λ w. Gives (Returned v) w) L.alike
      (λ k left. (
        s1,
        first,
        (
          (of_result, empty_kept L),
          drops_and_returns k c (size + count) (middle + 8) over (reverse u.0) rest back calls pending L.machine as_one count_over d.0 d.1.0 (pushed v lower ++ L.under) ending (omega (arith, some)),
        ),
      )))
    where
      drops_and_returns : (k c count place : ℕ) (over : List Cell) (v : List Value) (rest : List Cell) (back : ℕ)
          (calls : List ℕ) (pending : List Saved) (world : World Saved) → over ++ rest ≡ pushed v rest
          → length v ≡ count
          → LinesStand x.code x.places place (dropped count) → op_at x.code (place + lines_size (dropped count)) ≡ Some ops.Retn → (final : List Cell) → rest ≡ final → 1 ≤ count
          → Took host k (15 + (8 + c)) (at x place (over ++ rest) (back ∷ calls) pending world) k c (at x back final calls pending world)
      drops_and_returns k c zero place over v rest back calls pending world as_one long drops returns final same some = absurd (omega arith)
      drops_and_returns k c (suc count) place over v rest back calls pending world as_one long drops returns final same some =
          let s1 = at x place (over ++ rest) (back ∷ calls) pending world in
          let s2 = at x (place + lines_size (dropped (suc count))) rest (back ∷ calls) pending world in
          let s3 = at x back rest calls pending world in
          let first = ap (λ t. step host (at x place t (back ∷ calls) pending world)) as_one
          ∙ dropped_goes host x listed place (place + lines_size (dropped (suc count))) (suc count) v rest (back ∷ calls) pending world drops.0 (omega arith) long in
          let second = goes_back (place + lines_size (dropped (suc count))) back rest calls pending world returns in
          subst (λ t. Took host k (15 + (8 + c)) s1 k c (at x back t calls pending world)) same
          (took_then host (took_cost host k (15 + (8 + c)) (9 + c) s1 s2 (omega arith) first) (took_cost host k (9 + c) c s2 s3 (omega arith) second))

  -- ---- declarations

  start_is : (t : Ty) → IsCell t → starting_value (cell_kind t) ≡ Some (start_part t)
  unfolding type_of_one
  start_is IntTy h = refl
  start_is TextTy h = refl
  start_is ObjectTy h = refl
  start_is EffectTy h = refl
  start_is EventTy h = refl
  start_is Void h = absurd h
  start_is Action h = absurd h
  start_is (Struct n) h = absurd h
  start_is Refused h = absurd h

  start_typed : (t : Ty) → IsCell t → type_of_value (start_part t) ≡ t
  start_typed IntTy h = refl
  start_typed TextTy h = refl
  start_typed ObjectTy h = refl
  start_typed EffectTy h = refl
  start_typed EventTy h = refl
  start_typed Void h = absurd h
  start_typed Action h = absurd h
  start_typed (Struct n) h = absurd h
  start_typed Refused h = absurd h

  pub start_goes : (place : ℕ) (t : Ty) (cells : List Cell) (calls : List ℕ) (pending : List Saved) (world : World Saved) → IsCell t → op_at x.code place ≡ Some (ops.RsAdd (cell_kind t))
      → step host (at x place cells calls pending world) ≡ Some (Goes (at x (place + 2) (Holds (start_part t) ∷ cells) calls pending world))
  unfolding act cells_after
  start_goes place t cells calls pending world cell begins =
      moves host x listed place (place + 2) (ops.RsAdd (cell_kind t)) cells (Holds (start_part t) ∷ cells) calls pending world begins refl (ap (λ v. value_pushed v cells) (start_is t cell)) refl refl

  abbrev pub HasParts : List ℕ → ℕ → List Ty → List Value → Progress → Type 0
  HasParts scope size ts v p = (v ≡ start_parts ts) × (value_types v ≡ ts) × Kept R x scope size p.globals p.locals p.world

  abbrev pub parts_place : (scope : List ℕ) (size : ℕ) (ts : List Ty) → ℕ → List Cell → List Cell → List ℕ → List Saved → (v : List Value) (p : Progress) → HasParts scope size ts v p → Machine
  parts_place scope size ts next base between calls pending v p h = spot_at R x next (pushed v base) between calls pending h.2

  pub made_runs : (ts : List Ty) → AllByRecursion IsCell ts
      → (scope : List ℕ) (size place c : ℕ) (p : Progress) (K : Kept R x scope size p.globals p.locals p.world)
      (base between : List Cell) (calls : List ℕ) (pending : List Saved)
      → LinesStand x.code x.places place (started ts)
      → Sim host R (HasParts scope size ts)
      (parts_place scope size ts (place + lines_size (started ts)) base between calls pending) p.left c
      (spot_at R x place base between calls pending K) (λ v. c + one_of (length ts)) (made ts p)
  made_runs [] cells scope size place c p K base between calls pending lines =
      let same : place ≡ place + 0 = omega arith in
      let s = spot_at R x place base between calls pending K in
      ((refl, refl, K), subst (λ k. Took host p.left c s p.left (c + 0) (spot_at R x k base between calls pending K)) same (took_less host (c + 0) (omega arith) (took_none host p.left c s)))
  made_runs (t ∷ ts) cells scope size place c p K base between calls pending lines =
      let next = place + lines_size (started (t ∷ ts)) in
      let ending : place + 2 + lines_size (started ts) ≡ next = omega arith in
      let one : one_of (length (t ∷ ts)) ≡ 1 = refl in
      let s = spot_at R x place base between calls pending K in
      let s1 = spot_at R x (place + 2) (Holds (start_part t) ∷ base) between calls pending K in
      sim_paid host R (HasParts scope size (t ∷ ts)) (parts_place scope size (t ∷ ts) next base between calls pending) c s (λ v. c + one_of (length (t ∷ ts))) p
      (λ q. bind (made ts q) (λ parts r. Gives (start_part t ∷ parts) r)) K.alike
      (λ m left.
      let q = record p { left = m } in (
        s1,
        start_goes place t (base ++ (K.frame ++ (between ++ K.under))) calls pending K.machine cells.0 lines.0,
        sim_bind host R (HasParts scope size ts) (parts_place scope size ts (place + 2 + lines_size (started ts)) (Holds (start_part t) ∷ base) between calls pending)
            (HasParts scope size (t ∷ ts)) (parts_place scope size (t ∷ ts) next base between calls pending) m
            (15 + c) s1 (λ v. 15 + c + one_of (length ts)) (λ v. c + one_of (length (t ∷ ts))) (made ts q)
            (λ parts r. Gives (start_part t ∷ parts) r)
            (made_runs ts cells.1 scope size (place + 2) (15 + c) q K (Holds (start_part t) ∷ base) between calls pending lines.1)
            (λ v r h less.
            let whole : pushed v (Holds (start_part t) ∷ base) ≡ pushed (start_part t ∷ v) base = sym (pushed_append (start_part t ∷ []) v base) in
            let s2 = spot_at R x (place + 2 + lines_size (started ts)) (pushed v (Holds (start_part t) ∷ base)) between calls pending h.2 in (
              (ap (λ u. start_part t ∷ u) h.0, ap (λ u. u ∷ value_types v) (start_typed t cells.0) ∙ ap (λ us. t ∷ us) h.1, h.2),
              subst (λ k. Took host r.left (15 + c + one_of (length ts)) s2 r.left (c + 1) (spot_at R x k (pushed (start_part t ∷ v) base) between calls pending h.2)) ending
                  (subst (λ (b : List Cell). Took host r.left (15 + c + one_of (length ts)) s2 r.left (c + 1) (spot_at R x (place + 2 + lines_size (started ts)) b between calls pending h.2)) whole
                  (took_less host (c + 1) (omega arith) (took_none host r.left (15 + c + one_of (length ts)) s2))),
            )),
      ))

  -- ---- values of declarations

  abbrev pub MaybeRuns : Option TypedExpr → Type 0
  MaybeRuns None = Unit {0}
  MaybeRuns (Some e) = Runs e

  few_ones : (n : ℕ) → one_of n ≤ 1
  few_ones zero = omega arith
  few_ones (suc n) = omega arith

  initial_runs : (t : Ty) (o : Option TypedExpr) → MaybeRuns o
      → (scope : List ℕ) (size n place c : ℕ) (p : Progress) (K : Kept R x scope size p.globals p.locals p.world)
      (between : List Cell) (calls : List ℕ) (pending : List Saved)
      → IsFineValue host.table functions x result scope t o → LinesStand x.code x.places place (initial x.layout n size t o) → p.left ≤ most
      → Sim host R (HoldsValue R x scope size t)
      (value_place R x scope size t
      (place + lines_size (initial x.layout n size t o)) [] between calls pending) p.left c
      (spot_at R x place [] between calls pending K)
      (λ v. c + one_of (length (cell_types x.layout.structs t))) (initial_value here caller scope t o p)
  initial_runs t None r scope size n place c p K between calls pending fine lines le =
      let ts = cell_types x.layout.structs t in
      let next = place + lines_size (started ts) in
      sim_map host R (HasParts scope size ts) (parts_place scope size ts next [] between calls pending)
      (HoldsValue R x scope size t) (value_place R x scope size t next [] between calls pending) p.left c
      (spot_at R x place [] between calls pending K) (λ v. c + one_of (length ts)) (λ v. c + one_of (length ts))
      (made ts p)
      (made_runs ts fine scope size place c p K [] between calls pending lines)
      (λ v q h. ((h.1, h.2), took_none host q.left (c + one_of (length ts)) (spot_at R x next (pushed v []) between calls pending h.2)))
  initial_runs t (Some e) r scope size n place c p K between calls pending fine lines le =
      let next = place + lines_size (emit x.layout n size e) in
      let few = few_ones (length (cell_types x.layout.structs t)) in
      sim_map host R (HoldsValue R x scope size (type_of e)) (value_place R x scope size (type_of e) next [] between calls pending)
      (HoldsValue R x scope size t) (value_place R x scope size t next [] between calls pending) p.left c
      (spot_at R x place [] between calls pending K) (value_credits c)
      (λ v. c + one_of (length (cell_types x.layout.structs t))) (eval here caller scope e p)
      (r scope size n size place c p K [] between calls pending fine.0 lines (omega arith) le tt)
      (λ v q h. (
        (h.0 ∙ ap (cell_types x.layout.structs) fine.1, h.1),
        took_less host
            (c + one_of (length (cell_types x.layout.structs t))) (omega (arith, few))
            (took_none host q.left (8 + c) (spot_at R x next (pushed v []) between calls pending h.1)),
      ))

  abbrev pub EachName : List TypedName → Type 0
  EachName [] = Unit {0}
  EachName (d ∷ ds) = MaybeRuns d.value × EachName ds

  -- the frame with a variable more
  abbrev declared_kept : {scope : List ℕ} {size : ℕ} {globals locals : Variables} {world : World Deferred}
      (K : Kept R x scope size globals locals world) (n wide : ℕ) (v : List Value) → position x.layout n ≡ size
      → value_types v ≡ part_types x n → length v ≡ wide
      → Kept R x (n ∷ scope) (size + wide) globals (with_variable locals n v) world
  declared_kept {scope = scope} {size = size} {locals = locals} K n wide v place typed long = record {
    under = K.under;
    frame = pushed v K.frame;
    machine = K.machine;
    under_size = K.under_size;
    frame_size = let f = K.frame_size in pushed_length v K.frame ∙ omega (arith, f, long);
    under_held = K.under_held;
    frame_held = held_pushed v K.frame K.frame_held;
    global_values = K.global_values;
    local_values = vars_new x scope K.frame locals n v K.local_values (K.frame_size ∙ sym place) typed;
    alike = K.alike;
  }

  NamesDo : List TypedName → Type 0
  NamesDo ds =
      (breaks continues : Exit) (scope : List ℕ) (size n place c : ℕ) (p : Progress)
      (K : Kept R x scope size p.globals p.locals p.world) (room : List Value) (lower : List Cell) (back : ℕ)
      (calls : List ℕ) (pending : List Saved)
      → AreFineNames host.table functions x result size scope ds → LinesStand x.code x.places place (emit_names x.layout n size ds) → p.left ≤ most
      → Sim host R (Holds' breaks continues (after_names ds scope) (size + names_cells x.layout.structs ds))
      (place_of_flow breaks continues (after_names ds scope) (size + names_cells x.layout.structs ds) (place + lines_size (emit_names x.layout n size ds)) room lower back calls pending)
      p.left c (spot_at R x place [] (pushed room lower) (back ∷ calls) pending K) (flow_credits c (names_cells x.layout.structs ds)) (declared here caller scope ds p)

  names_do : (ds : List TypedName) → EachName ds → NamesDo ds
  unfolding NamesDo
  names_do [] each breaks continues scope size n place c p K room lower back calls pending fine lines le =
      let same : place ≡ place + 0 = omega arith in
      let s = spot_at R x place [] (pushed room lower) (back ∷ calls) pending K in (
        and_none K,
        subst (λ k. Took host p.left c s p.left (c + 0)
            (spot_at R x k [] (pushed room lower) (back ∷ calls) pending K)) same
            (took_less host (c + 0) (omega arith) (took_none host p.left c s)),
      )
  names_do (d ∷ ds) each breaks continues scope size n place c p K room lower back calls pending fine lines le =
      let structs = x.layout.structs in
      let t = d.name.ty in
      let wide = length (cell_types structs t) in
      let many = names_cells structs ds in
      let first = initial x.layout n size t d.value in
      let rest = emit_names x.layout (n + some_labels d.value) (size + wide) ds in
      let b = both_stand x.code x.places place first rest lines in
      let middle = place + lines_size first in
      let next = place + lines_size (first ++ rest) in
      let ending : middle + lines_size rest ≡ next = let h = sizes first rest in omega (arith, h) in
      let between = pushed room lower in
      let scope' = after_names ds (d.name.number ∷ scope) in
      let whole : size + wide + many ≡ size + (wide + many) = omega arith in
      let enough = sum_of wide many in
      sim_bind host R (HoldsValue R x scope size t) (value_place R x scope size t middle [] between (back ∷ calls) pending)
      (Holds' breaks continues scope' (size + (wide + many))) (place_of_flow breaks continues scope' (size + (wide + many)) next room lower back calls pending)
      p.left c (spot_at R x place [] between (back ∷ calls) pending K) (λ v. c + one_of wide)
      (flow_credits c (wide + many)) (initial_value here caller scope t d.value p)
      (λ parts q. declared here caller (d.name.number ∷ scope) ds
      (record q { locals = with_variable q.locals d.name.number parts }))
      (initial_runs t d.value each.0 scope size n place c p K between (back ∷ calls) pending fine.2 b.0 le)
      (λ v q h less.
      let L = h.1 in
      let typed : value_types v ≡ part_types x d.name.number = h.0 ∙ ap (cell_types structs) (sym fine.1) in
      let long : length v ≡ wide = sym (length-map v type_of_value) ∙ ap length h.0 in
      let M = declared_kept L d.name.number wide v fine.0 typed long in
      let r = record q { locals = with_variable q.locals d.name.number v } in
      let cells_are : pushed v [] ++ (L.frame ++ (between ++ L.under)) ≡ pushed v L.frame ++ (between ++ L.under) =
      sym (append_assoc (pushed v []) L.frame (between ++ L.under)) ∙ ap (λ z. z ++ (between ++ L.under)) (sym (pushed_alone v L.frame)) in
      subst (λ (z : List Cell). Sim host R (Holds' breaks continues scope' (size + (wide + many))) (place_of_flow breaks continues scope' (size + (wide + many)) next room lower back calls pending)
      q.left (c + one_of wide) (at x middle z (back ∷ calls) pending L.machine) (flow_credits c (wide + many)) (declared here caller (d.name.number ∷ scope) ds r)) (sym cells_are)
      (sim_map host R (Holds' breaks continues scope' (size + wide + many)) (place_of_flow breaks continues scope' (size + wide + many) (middle + lines_size rest) room lower back calls pending)
      (Holds' breaks continues scope' (size + (wide + many))) (place_of_flow breaks continues scope' (size + (wide + many)) next room lower back calls pending)
      q.left (c + one_of wide) (spot_at R x middle [] between (back ∷ calls) pending M)
      (flow_credits (c + one_of wide) many) (flow_credits c (wide + many))
      (declared here caller (d.name.number ∷ scope) ds r)
      (names_do ds each.1 breaks continues (d.name.number ∷ scope) (size + wide) (n + some_labels d.value) middle
      (c + one_of wide) r M room lower back calls pending fine.3 b.1 (omega (arith, less, le)))
      (λ f u g. regrouped breaks continues scope' size wide many (middle + lines_size rest) next c room lower back calls pending ending whole enough f u g)))

  pub declaration_does : (m : ℕ) (t : Ty) (ds : List TypedName) → EachName ds → Does (declaration m t ds)
  unfolding NamesDo
  declaration_does m t ds each out breaks continues scope size n place c p K room lower back calls pending fine stands exits ends starts typed le =
      names_do ds each breaks continues scope size n place c p K room lower back calls pending fine stands le

  -- ---- labels do nothing by themselves

  pub case_does : (m : ℕ) (k : Const) → Does (case_label m k)
  case_does m k out breaks continues scope size n place c p K room lower back calls pending fine stands exits ends starts typed le =
      empty_does m out breaks continues scope size n place c p K room lower back calls pending tt stands exits ends starts typed le

  pub default_does : (m : ℕ) → Does (default_label m)
  default_does m = empty_does m

  -- ---- loops

  exit_here : (scope : List ℕ) (frame : List Cell) (locals : Variables) (size label : ℕ) → Vars x scope frame locals
      → length frame ≡ size → IsExit x scope size
      (record { allowed = true; scope = scope; depth = size; label = label })
  exit_here scope frame locals size label v same = record {
    within = λ a. omega arith;
    seen = λ a n i. i;
    beneath = λ a n i. let w = within x scope frame locals v n i in omega (arith, w, same);
  }

  -- One loop, whatever its jumps are: at `head` the test begins, at `decides` its value lies on
  -- top, at `start` the body begins, and at `body_end` it ends; `continue` leads to the third part,
  -- and `break` to the end.
  module _ (breaks continues : Exit) (scope : List ℕ) (size : ℕ) (room : List Value) (lower : List Cell) (back : ℕ) (calls : List ℕ) (pending : List Saved)
      (head decides start body_end third_at ending break_label continue_label c : ℕ)
      (test : Progress → Outcome (List Value)) (body : Progress → Outcome Flow) (third : Progress → Outcome (List Value)) where
    abbrev inner_break : Exit
    inner_break = record { allowed = true; scope = scope; depth = size; label = break_label }

    abbrev inner_continue : Exit
    inner_continue = record { allowed = true; scope = scope; depth = size; label = continue_label }

    abbrev there : {globals locals : Variables} {world : World Deferred} → ℕ → List Cell → Kept R x scope size globals locals world → Machine
    there place temps K = spot_at R x place temps (pushed room lower) (back ∷ calls) pending K

    abbrev HasThird : List Value → Progress → Type 0
    HasThird w p = Kept R x scope size p.globals p.locals p.world

    abbrev third_place : (w : List Value) (p : Progress) → HasThird w p → Machine
    third_place w p K = there head [] K

    record LoopRuns : Type 0 where
      break_is : x.places break_label ≡ ending
      continue_is : x.places continue_label ≡ third_at
      test_runs : (p : Progress) (K : Kept R x scope size p.globals p.locals p.world) → p.left ≤ most
          → Sim host R (HoldsValue R x scope size IntTy) (value_place R x scope size IntTy decides [] (pushed room lower) (back ∷ calls) pending) p.left c (there head [] K) (value_credits c) (test p)
      enters : (p : Progress) (K : Kept R x scope size p.globals p.locals p.world) (k : ℤ) → is_zero k ≡ false → step host (there decides (Holds (Int k) ∷ []) K) ≡ Some (Goes (there start [] K))
      ends : (p : Progress) (K : Kept R x scope size p.globals p.locals p.world) (k : ℤ) → is_zero k ≡ true → step host (there decides (Holds (Int k) ∷ []) K) ≡ Some (Goes (there ending [] K))
      body_runs : (p : Progress) (K : Kept R x scope size p.globals p.locals p.world) → p.left ≤ most
          → Sim host R (Holds' inner_break inner_continue scope (size + 0))
          (place_of_flow inner_break inner_continue scope (size + 0) body_end room lower back calls pending) p.left
          (8 + c) (there start [] K) (flow_credits (8 + c) 0) (body p)
      to_third : (p : Progress) (K : Kept R x scope size p.globals p.locals p.world) (n : ℕ) → Took host n (8 + c) (there body_end [] K) n (7 + c) (there third_at [] K)
      third_runs : (p : Progress) (K : Kept R x scope size p.globals p.locals p.world) → p.left ≤ most → Sim host R HasThird third_place p.left (7 + c) (there third_at [] K) (λ w. c) (third p)

    abbrev Outer : Flow → Progress → Type 0
    Outer f p = Holds' breaks continues scope (size + 0) f p

    abbrev outer_place : (f : Flow) (p : Progress) → Outer f p → Machine
    outer_place f p h = place_of_flow breaks continues scope (size + 0) ending room lower back calls pending f p h

    turns_run : LoopRuns → (k : ℕ) (p : Progress) (K : Kept R x scope size p.globals p.locals p.world) → p.left < k → p.left ≤ most
        → Sim host R Outer outer_place p.left c (there head [] K) (flow_credits c 0) (turns k test body third p)
    turns_run l zero p K few le = absurd (omega arith)
    turns_run l (suc k) p K few le =
        sim_bind host R (HoldsValue R x scope size IntTy) (value_place R x scope size IntTy decides [] (pushed room lower) (back ∷ calls) pending) Outer outer_place
        p.left c (there head [] K) (value_credits c) (flow_credits c 0) (test p)
        (λ v q. spend q (λ r. chosen (is_true v) (λ s. bind (body s) (λ f t. on_body f (λ u. bind (third u) (λ w y. turns k test body third y)) t)) (λ s. Gives Next s) r))
        (l.test_runs p K le)
        (λ v q h less.
        let value = an_int v h.0 in
        subst (λ u. Sim host R Outer outer_place q.left (8 + c) (there decides (pushed u []) h.1) (flow_credits c 0)
        (spend q (λ r. chosen (is_true u) (λ s. bind (body s) (λ f t. on_body f (λ u. bind (third u) (λ w y. turns k test body third y)) t)) (λ s. Gives Next s) r))) (sym value.1)
        (decided l k q h.1 (omega (arith, less, few)) (omega (arith, less, le)) value.0 (is_zero value.0) refl (λ t M fewer enough. turns_run l k t M fewer enough)))
      where
        go_on : (l : LoopRuns) (k : ℕ) (t : Progress) (M : Kept R x scope size t.globals t.locals t.world) → t.left < k → t.left ≤ most
            → ((y : Progress) (N : Kept R x scope size y.globals y.locals y.world) → y.left < k → y.left ≤ most
            → Sim host R Outer outer_place y.left c (there head [] N) (flow_credits c 0) (turns k test body third y))
            → Sim host R Outer outer_place t.left (7 + c) (there third_at [] M) (flow_credits c 0) (bind (third t) (λ w y. turns k test body third y))
        go_on l k t M few le again =
            sim_bind host R HasThird third_place Outer outer_place t.left (7 + c) (there third_at [] M) (λ w. c) (flow_credits c 0) (third t) (λ w y. turns k test body third y)
            (l.third_runs t M le) (λ w y N less. again y N (omega (arith, less, few)) (omega (arith, less, le)))

        after : (l : LoopRuns) (k : ℕ) (f : Flow) (t : Progress) (g : Holds' inner_break inner_continue scope (size + 0) f t) → t.left < k → t.left ≤ most
            → ((y : Progress) (N : Kept R x scope size y.globals y.locals y.world) → y.left < k → y.left ≤ most
            → Sim host R Outer outer_place y.left c (there head [] N) (flow_credits c 0) (turns k test body third y))
            → Sim host R Outer outer_place t.left (flow_credits (8 + c) 0 f) (place_of_flow inner_break inner_continue scope (size + 0) body_end room lower back calls pending f t g) (flow_credits c 0)
            (on_body f (λ u. bind (third u) (λ w y. turns k test body third y)) t)
        after l k Next t g few le again =
            let M = no_more g in
            sim_after host R Outer outer_place (flow_credits c 0) (bind (third t) (λ w y. turns k test body third y))
            (took_then host (took_less host (8 + c) (omega arith) (took_none host t.left (8 + c + 0) (there body_end [] M))) (l.to_third t M t.left)) (go_on l k t M few le again)
        after l k Broke t g few le again = (
          and_none g.1,
          subst (λ z. Took host t.left (8 + c) (there (x.places break_label) [] g.1) t.left (c + 0) (there z [] g.1)) l.break_is
              (took_less host (c + 0) (omega arith) (took_none host t.left (8 + c) (there (x.places break_label) [] g.1))),
        )
        after l k Continued t g few le again =
            sim_after host R Outer outer_place (flow_credits c 0) (bind (third t) (λ w y. turns k test body third y))
            (subst (λ z. Took host t.left (8 + c) (there (x.places continue_label) [] g.1) t.left (7 + c) (there z [] g.1)) l.continue_is
            (took_less host (7 + c) (omega arith) (took_none host t.left (8 + c) (there (x.places continue_label) [] g.1)))) (go_on l k t g.1 few le again)
        after l k (Returned v) t g few le again = (g, took_less host c (omega arith) (took_none host t.left (8 + c) (spot_at R x back [] (pushed v lower) calls pending g.1)))

        decided : (l : LoopRuns) (k : ℕ) (q : Progress) (L : Kept R x scope size q.globals q.locals q.world) → q.left < suc k → q.left ≤ most → (j : ℤ) (b : Bool) → is_zero j ≡ b
            → ((y : Progress) (N : Kept R x scope size y.globals y.locals y.world) → y.left < k → y.left ≤ most
            → Sim host R Outer outer_place y.left c (there head [] N) (flow_credits c 0) (turns k test body third y))
            → Sim host R Outer outer_place q.left (8 + c) (there decides (Holds (Int j) ∷ []) L) (flow_credits c 0)
            (spend q (λ r. chosen (is_true (Int j ∷ [])) (λ s. bind (body s) (λ f t. on_body f (λ u. bind (third u) (λ w y. turns k test body third y)) t)) (λ s. Gives Next s) r))
        decided l k q L few le j true is again =
            sim_paid host R Outer outer_place (8 + c) (there decides (Holds (Int j) ∷ []) L) (flow_credits c 0) q
            (λ r. chosen (is_true (Int j ∷ [])) (λ s. bind (body s) (λ f t. on_body f (λ u. bind (third u) (λ w y. turns k test body third y)) t)) (λ s. Gives Next s) r) L.alike
            (λ m left. (
              there ending [] L,
              l.ends q L j is,
              subst (λ (b : Bool). Sim host R Outer outer_place m (15 + (8 + c)) (there ending [] L) (flow_credits c 0)
                  (chosen b (λ s. bind (body s) (λ f t. on_body f (λ u. bind (third u) (λ w y. turns k test body third y)) t)) (λ s. Gives Next s) (record q { left = m }))) (sym (ap not is))
                  (and_none L, took_less host (c + 0) (omega arith) (took_none host m (15 + (8 + c)) (there ending [] L))),
            ))
        decided l k q L few le j false is again =
            sim_paid host R Outer outer_place (8 + c) (there decides (Holds (Int j) ∷ []) L) (flow_credits c 0) q
            (λ r. chosen (is_true (Int j ∷ [])) (λ s. bind (body s) (λ f t. on_body f (λ u. bind (third u) (λ w y. turns k test body third y)) t)) (λ s. Gives Next s) r) L.alike
            (λ m left.
            let r = record q { left = m } in (
              there start [] L,
              l.enters q L j is,
              subst (λ (b : Bool). Sim host R Outer outer_place m (15 + (8 + c)) (there start [] L) (flow_credits c 0)
                  (chosen b (λ s. bind (body s) (λ f t. on_body f (λ u. bind (third u) (λ w y. turns k test body third y)) t)) (λ s. Gives Next s) r)) (sym (ap not is))
                  (sim_after host R Outer outer_place (flow_credits c 0) (bind (body r) (λ f t. on_body f (λ u. bind (third u) (λ w y. turns k test body third y)) t))
                  (took_less host (8 + c) (omega arith) (took_none host m (15 + (8 + c)) (there start [] L)))
                  (sim_bind host R (Holds' inner_break inner_continue scope (size + 0))
                  (place_of_flow inner_break inner_continue scope
                  (size + 0) body_end room lower back calls pending) Outer outer_place
                  m (8 + c) (there start [] L) (flow_credits (8 + c) 0) (flow_credits c 0) (body r) (λ f t. on_body f (λ u. bind (third u) (λ w y. turns k test body third y)) t)
                  (l.body_runs r L (omega (arith, left, le)))
                  (λ f t g fewer. after l k f t g (omega (arith, left, fewer, few)) (omega (arith, left, fewer, le)) again))),
            ))

    looped_run : LoopRuns → (p : Progress) (K : Kept R x scope size p.globals p.locals p.world) → p.left ≤ most
        → Sim host R Outer outer_place p.left c (there head [] K) (flow_credits c 0) (looped test body third p)
    looped_run l p K le = turns_run l (suc p.left) p K (omega arith) le

  -- a test of an int
  as_test : (e : TypedExpr) (scope : List ℕ) (size place next c : ℕ) (p : Progress)
      (K : Kept R x scope size p.globals p.locals p.world) (between : List Cell) (calls : List ℕ) (pending : List Saved)
      → type_of e ≡ IntTy
      → Sim host R (HoldsValue R x scope size (type_of e))
      (value_place R x scope size (type_of e) next [] between calls pending) p.left c
      (spot_at R x place [] between calls pending K) (value_credits c) (eval here caller scope e p)
      → Sim host R (HoldsValue R x scope size IntTy)
      (value_place R x scope size IntTy next [] between calls pending) p.left c
      (spot_at R x place [] between calls pending K) (value_credits c) (eval here caller scope e p)
  as_test e scope size place next c p K between calls pending is h =
      sim_map host R (HoldsValue R x scope size (type_of e))
      (value_place R x scope size (type_of e) next [] between calls pending) (HoldsValue R x scope size IntTy)
      (value_place R x scope size IntTy next [] between calls pending)
      p.left c (spot_at R x place [] between calls pending K) (value_credits c) (value_credits c) (eval here caller scope e p) h
      (λ v q g. ((g.0 ∙ ap (cell_types x.layout.structs) is, g.1), took_none host q.left (8 + c) (spot_at R x next (pushed v []) between calls pending g.1)))

  pub while_does : (m : ℕ) (e : TypedExpr) (a : TypedStmt) → Runs e → Does a → Does (while_loop m e a)
  while_does m e a r da out breaks continues scope size n place c p K room lower back calls pending fine stands exits ends starts typed le =
      let value = emit x.layout (n + 2) size e in
      let inner = in_loop n (n + 1) size in
      let body = emit_stmt x.layout inner (n + 2 + labels e) size a in
      let last = JumpTo Jmp n ∷ Label (n + 1) ∷ [] in
      let head = place + 0 in
      let b = both_stand x.code x.places head value (JumpTo Jz (n + 1) ∷ (body ++ last)) stands.1 in
      let decides = head + lines_size value in
      let start = decides + 6 in
      let d = both_stand x.code x.places start body last b.1.1 in
      let body_end = start + lines_size body in
      let next = place + lines_size (Label n ∷ (value ++ (JumpTo Jz (n + 1) ∷ (body ++ last)))) in
      let ending : body_end + 6 ≡ next = let h = sizes value (JumpTo Jz (n + 1) ∷ (body ++ last)) in let k = sizes body last in omega (arith, h, k) in
      let same : place ≡ head = omega arith in
      let between = pushed room lower in
      let broken : x.places (n + 1) ≡ next = d.1.1.0 ∙ ending in
      let again : x.places n ≡ head = stands.0 ∙ same in
      subst (λ k. Sim host R (Holds' breaks continues scope (size + 0))
      (place_of_flow breaks continues scope (size + 0) next room lower back calls pending) p.left c
      (spot_at R x k [] between (back ∷ calls) pending K) (flow_credits c 0)
      (looped (λ q. eval here caller scope e q) (λ q. exec here caller scope a q) (λ q. Gives [] q) p)) (sym same)
      (looped_run breaks continues scope size room lower back calls pending head decides start body_end head next
      (n + 1) n c (λ q. eval here caller scope e q) (λ q. exec here caller scope a q) (λ q. Gives [] q)
      (record {
        break_is = broken;
        continue_is = again;
        test_runs = λ q L few. as_test e scope size head decides c q L between (back ∷ calls) pending fine.0.1
            (r scope size (n + 2) size head c q L [] between (back ∷ calls) pending fine.0.0 b.0 (omega arith) few tt);
        enters = λ q L k nonzero. other_passes host x listed decides start _ k (L.frame ++ (between ++ L.under)) (back ∷ calls) pending L.machine b.1.0.begins nonzero refl;
        ends = λ q L k nought. zero_jumps host x listed decides next _ k (L.frame ++ (between ++ L.under)) (back ∷ calls) pending L.machine b.1.0.begins nought (b.1.0.leads ∙ broken);
        body_runs = λ q L few. keeps a fine.2 da inner
            (record { allowed = true; scope = scope; depth = size; label = n + 1 })
            (record { allowed = true; scope = scope; depth = size; label = n }) scope size (n + 2 + labels e) start
            (8 + c) q L
            room lower back calls pending fine.1 d.0 (record { break_label = refl; break_depth = refl; continue_label = refl; continue_depth = refl })
            (exit_here scope L.frame q.locals size (n + 1) L.local_values L.frame_size) (exit_here scope L.frame q.locals size n L.local_values L.frame_size) typed few;
        to_third = λ q L k. took_cost host k (8 + c) (7 + c) (spot_at R x body_end [] between (back ∷ calls) pending L) (spot_at R x head [] between (back ∷ calls) pending L) (omega arith)
            (jump_goes host x listed body_end head _ (L.frame ++ (between ++ L.under)) (back ∷ calls) pending L.machine d.1.0.begins (d.1.0.leads ∙ again));
        third_runs = λ q L few. (L, took_less host c (omega arith) (took_none host q.left (7 + c) (spot_at R x head [] between (back ∷ calls) pending L)));
      }) p K le)

  -- ---- `for`

  evaluated_runs : (o : Option TypedExpr) → MaybeRuns o
      → (scope : List ℕ) (size n place c : ℕ) (p : Progress) (K : Kept R x scope size p.globals p.locals p.world)
      (between : List Cell) (calls : List ℕ) (pending : List Saved)
      → IsFineMaybe host.table functions x result scope o → LinesStand x.code x.places place (evaluated x.layout n size o) → p.left ≤ most
      → Sim host R (λ w q. Kept R x scope size q.globals q.locals q.world)
      (λ w q L. spot_at R x (place + lines_size (evaluated x.layout n size o)) [] between calls pending L) p.left c
      (spot_at R x place [] between calls pending K) (λ w. c) (maybe here caller scope o p)
  evaluated_runs None r scope size n place c p K between calls pending fine lines le =
      let same : place ≡ place + 0 = omega arith in
      let s = spot_at R x place [] between calls pending K in
      (K, subst (λ k. Took host p.left c s p.left c (spot_at R x k [] between calls pending K)) same (took_none host p.left c s))
  evaluated_runs (Some e) r scope size n place c p K between calls pending fine lines le =
      let value = emit x.layout n size e in
      let count = length (cell_types x.layout.structs (type_of e)) in
      let b = both_stand x.code x.places place value (dropped count) lines in
      let middle = place + lines_size value in
      let next = place + lines_size (value ++ dropped count) in
      let goes : middle + lines_size (dropped count) ≡ next = let h = sizes value (dropped count) in omega (arith, h) in
      sim_map host R (HoldsValue R x scope size (type_of e)) (value_place R x scope size (type_of e) middle [] between calls pending)
      (λ w q. Kept R x scope size q.globals q.locals q.world)
      (λ w q L. spot_at R x next [] between calls pending L) p.left c (spot_at R x place [] between calls pending K)
      (value_credits c) (λ w. c) (eval here caller scope e p)
      (r scope size n size place c p K [] between calls pending fine b.0 (omega arith) le tt)
      (λ v q h.
      let long : length v ≡ count = sym (length-map v type_of_value) ∙ ap length h.0 in (
        h.1,
        subst (λ k. Took host q.left (8 + c) (spot_at R x middle (pushed v []) between calls pending h.1) q.left c (spot_at R x k [] between calls pending h.1)) goes
            (took_then host (took_less host (c + 1) (omega arith)
            (took_none host q.left (8 + c) (spot_at R x middle (pushed v []) between calls pending h.1)))
            (value_dropped h.1 q.left c middle count v between calls pending long b.1)),
      ))

  tested_runs : (o : Option TypedExpr) → MaybeRuns o
      → (scope : List ℕ) (size n place c : ℕ) (p : Progress) (K : Kept R x scope size p.globals p.locals p.world)
      (between : List Cell) (calls : List ℕ) (pending : List Saved)
      → IsFineTest host.table functions x result scope o → LinesStand x.code x.places place (tested x.layout n size o) → p.left ≤ most
      → Sim host R (HoldsValue R x scope size IntTy)
      (value_place R x scope size IntTy
      (place + lines_size (tested x.layout n size o)) [] between calls pending) p.left c
      (spot_at R x place [] between calls pending K) (value_credits c) (tested_value here caller scope o p)
  tested_runs None r scope size n place c p K between calls pending fine lines le =
      let next = place + lines_size (int_constant (pos 1) ∷ []) in
      let t = spot_at R x next (Holds (Int (pos 1)) ∷ []) between calls pending K in
      sim_paid host R (HoldsValue R x scope size IntTy)
      (value_place R x scope size IntTy next [] between calls pending) c
      (spot_at R x place [] between calls pending K) (value_credits c) p (λ q. Gives (Int (pos 1) ∷ []) q) K.alike
      (λ m left. (
        t,
        int_goes host x listed place next (pos 1)
            (K.frame ++ (between ++ K.under)) calls pending K.machine lines.0 (omega arith),
        ((refl, K), took_less host (8 + c) (omega arith) (took_none host m (15 + c) t)),
      ))
  tested_runs (Some e) r scope size n place c p K between calls pending fine lines le =
      as_test e scope size place (place + lines_size (emit x.layout n size e)) c p K between calls pending fine.1
      (r scope size n size place c p K [] between calls pending fine.0 lines (omega arith) le tt)

  pub for_does : (m : ℕ) (e y z : Option TypedExpr) (a : TypedStmt) → MaybeRuns e → MaybeRuns y → MaybeRuns z → Does a → Does (for_loop m e y z a)
  for_does m e y z a re ry rz da out breaks continues scope size n place c p K room lower back calls pending fine stands exits ends starts typed le =
      let l = x.layout in
      let first = evaluated l (n + 3) size e in
      let test = tested l (n + 3 + some_labels e) size y in
      let inner = in_loop (n + 1) (n + 2) size in
      let body = emit_stmt l inner (n + 3 + some_labels e + some_labels y) size a in
      let third = evaluated l (n + 3 + some_labels e + some_labels y + stmt_labels a) size z in
      let last = JumpTo Jmp n ∷ Label (n + 2) ∷ [] in
      let after_test = JumpTo Jz (n + 2) ∷ (body ++ (Label (n + 1) ∷ (third ++ last))) in
      let behind = Label n ∷ (test ++ after_test) in
      let b = both_stand x.code x.places place first behind stands in
      let loop_at = place + lines_size first in
      let head = loop_at + 0 in
      let d = both_stand x.code x.places head test after_test b.1.1 in
      let decides = head + lines_size test in
      let start = decides + 6 in
      let f = both_stand x.code x.places start body (Label (n + 1) ∷ (third ++ last)) d.1.1 in
      let body_end = start + lines_size body in
      let third_at = body_end + 0 in
      let g = both_stand x.code x.places third_at third last f.1.1 in
      let third_end = third_at + lines_size third in
      let next = place + lines_size (first ++ behind) in
      let ending : third_end + 6 ≡ next =
      let h1 = sizes first behind in let h2 = sizes test after_test in let h3 = sizes body (Label (n + 1) ∷ (third ++ last)) in let h4 = sizes third last in omega (arith, h1, h2, h3, h4) in
      let between = pushed room lower in
      let broken : x.places (n + 2) ≡ next = g.1.1.0 ∙ ending in
      let same_head : loop_at ≡ head = omega arith in
      let again : x.places n ≡ head = b.1.0 ∙ same_head in
      let same_third : body_end ≡ third_at = omega arith in
      let goes_on : x.places (n + 1) ≡ third_at = f.1.0 ∙ same_third in
      sim_bind host R (λ w q. Kept R x scope size q.globals q.locals q.world) (λ w q L. spot_at R x loop_at [] between (back ∷ calls) pending L)
      (Holds' breaks continues scope (size + 0))
      (place_of_flow breaks continues scope (size + 0) next room lower back calls pending) p.left c
      (spot_at R x place [] between (back ∷ calls) pending K) (λ w. c) (flow_credits c 0)
      (maybe here caller scope e p) (λ parts q. looped (λ u. tested_value here caller scope y u) (λ u. exec here caller scope a u) (λ u. maybe here caller scope z u) q)
      (evaluated_runs e re scope size (n + 3) place c p K between (back ∷ calls) pending fine.0 b.0 le)
      (λ w q M less.
      subst (λ k. Sim host R (Holds' breaks continues scope (size + 0))
      (place_of_flow breaks continues scope (size + 0) next room lower back calls pending) q.left c
      (spot_at R x k [] between (back ∷ calls) pending M) (flow_credits c 0)
      (looped (λ u. tested_value here caller scope y u) (λ u. exec here caller scope a u) (λ u. maybe here caller scope z u) q)) (sym same_head)
      (looped_run breaks continues scope size room lower back calls pending head decides start body_end third_at next
      (n + 2) (n + 1) c (λ u. tested_value here caller scope y u) (λ u. exec here caller scope a u)
      (λ u. maybe here caller scope z u)
      (record {
        break_is = broken;
        continue_is = goes_on;
        test_runs = λ u L few. tested_runs y ry scope size (n + 3 + some_labels e) head c u L between (back ∷ calls) pending fine.1 d.0 few;
        enters = λ u L k nonzero. other_passes host x listed decides start _ k (L.frame ++ (between ++ L.under)) (back ∷ calls) pending L.machine d.1.0.begins nonzero refl;
        ends = λ u L k nought. zero_jumps host x listed decides next _ k (L.frame ++ (between ++ L.under)) (back ∷ calls) pending L.machine d.1.0.begins nought (d.1.0.leads ∙ broken);
        body_runs = λ u L few. keeps a fine.4 da inner
            (record { allowed = true; scope = scope; depth = size; label = n + 2 })
            (record { allowed = true; scope = scope; depth = size; label = n + 1 }) scope size
            (n + 3 + some_labels e + some_labels y) start (8 + c) u L room lower back calls pending fine.3 f.0
            (record { break_label = refl; break_depth = refl; continue_label = refl; continue_depth = refl })
            (exit_here scope L.frame u.locals size (n + 2) L.local_values L.frame_size) (exit_here scope L.frame u.locals size (n + 1) L.local_values L.frame_size) typed few;
        to_third = λ u L k. subst (λ t. Took host k (8 + c) (spot_at R x body_end [] between (back ∷ calls) pending L) k (7 + c) (spot_at R x t [] between (back ∷ calls) pending L)) same_third
            (took_less host (7 + c) (omega arith) (took_none host k (8 + c) (spot_at R x body_end [] between (back ∷ calls) pending L)));
        third_runs = λ u L few. sim_map host R (λ w q. Kept R x scope size q.globals q.locals q.world) (λ w q N. spot_at R x third_end [] between (back ∷ calls) pending N)
            (λ w q. Kept R x scope size q.globals q.locals q.world)
            (λ w q N. spot_at R x head [] between (back ∷ calls) pending N) u.left (7 + c)
            (spot_at R x third_at [] between (back ∷ calls) pending L) (λ w. 7 + c) (λ w. c)
            (maybe here caller scope z u)
            (evaluated_runs z rz scope size (n + 3 + some_labels e + some_labels y + stmt_labels a) third_at (7 + c) u L between (back ∷ calls) pending fine.2 g.0 few)
            (λ w q N. (
              N,
              took_cost host q.left (7 + c) c (spot_at R x third_end [] between (back ∷ calls) pending N) (spot_at R x head [] between (back ∷ calls) pending N) (omega arith)
                  (jump_goes host x listed third_end head _ (N.frame ++ (between ++ N.under)) (back ∷ calls) pending N.machine g.1.0.begins (g.1.0.leads ∙ again)),
            ));
      }) q M (omega (arith, less, le))))

  -- ---- `do`

  pub one_jumps : (place next : ℕ) (offset k : ℤ) (cells : List Cell) (calls' : List ℕ) (pending : List Saved)
      (world : World Saved) → op_at x.code place ≡ Some (ops.Jnz offset) → is_zero k ≡ false
      → jump_place place offset ≡ next
      → step host (at x place (Holds (Int k) ∷ cells) calls' pending world) ≡ Some (Goes (at x next cells calls' pending world))
  unfolding act cells_after
  one_jumps place next offset k cells calls' pending world begins test goes =
      moves host x listed place next (ops.Jnz offset) (Holds (Int k) ∷ cells) cells calls' pending world begins refl refl refl
      (ap (λ (b : Bool). if b then place + 6 else jump_place place offset) test ∙ goes)

  pub zero_passes : (place next : ℕ) (offset k : ℤ) (cells : List Cell) (calls' : List ℕ) (pending : List Saved)
      (world : World Saved) → op_at x.code place ≡ Some (ops.Jnz offset) → is_zero k ≡ true → place + 6 ≡ next
      → step host (at x place (Holds (Int k) ∷ cells) calls' pending world) ≡ Some (Goes (at x next cells calls' pending world))
  unfolding act cells_after
  zero_passes place next offset k cells calls' pending world begins test goes =
      moves host x listed place next (ops.Jnz offset) (Holds (Int k) ∷ cells) cells calls' pending world begins refl refl refl
      (ap (λ (b : Bool). if b then place + 6 else jump_place place offset) test ∙ goes)

  pub do_does : (m : ℕ) (a : TypedStmt) (e : TypedExpr) → Does a → Runs e → Does (do_loop m a e)
  do_does m a e da r out breaks continues scope size n place c p K room lower back calls pending fine stands exits ends starts typed le =
      let inner = in_loop (n + 1) (n + 2) size in
      let body = emit_stmt x.layout inner (n + 3) size a in
      let value = emit x.layout (n + 3 + stmt_labels a) size e in
      let last = JumpTo Jnz n ∷ Label (n + 2) ∷ [] in
      let start = place + 0 in
      let b = both_stand x.code x.places start body (Label (n + 1) ∷ (value ++ last)) stands.1 in
      let body_end = start + lines_size body in
      let head = body_end + 0 in
      let d = both_stand x.code x.places head value last b.1.1 in
      let decides = head + lines_size value in
      let next = place + lines_size (Label n ∷ (body ++ (Label (n + 1) ∷ (value ++ last)))) in
      let ending : decides + 6 ≡ next = let h = sizes body (Label (n + 1) ∷ (value ++ last)) in let k = sizes value last in omega (arith, h, k) in
      let same : place ≡ start = omega arith in
      let same_head : body_end ≡ head = omega arith in
      let between = pushed room lower in
      let broken : x.places (n + 2) ≡ next = d.1.1.0 ∙ ending in
      let continued : x.places (n + 1) ≡ head = b.1.0 ∙ same_head in
      let again : x.places n ≡ start = stands.0 ∙ same in
      let runs : LoopRuns breaks continues scope size room lower back calls pending head decides start body_end head next (n + 2) (n + 1) c (λ q. eval here caller scope e q)
      (λ q. exec here caller scope a q) (λ q. Gives [] q) = record {
        break_is = broken;
        continue_is = continued;
        test_runs = λ q L few. as_test e scope size head decides c q L between (back ∷ calls) pending fine.1.1
            (r scope size (n + 3 + stmt_labels a) size head c q L [] between (back ∷ calls) pending fine.1.0 d.0
            (omega arith) few tt);
        enters = λ q L k nonzero. one_jumps decides start _ k (L.frame ++ (between ++ L.under)) (back ∷ calls) pending L.machine d.1.0.begins nonzero (d.1.0.leads ∙ again);
        ends = λ q L k nought. zero_passes decides next _ k (L.frame ++ (between ++ L.under)) (back ∷ calls) pending L.machine d.1.0.begins nought ending;
        body_runs = λ q L few. keeps a fine.2 da inner
            (record { allowed = true; scope = scope; depth = size; label = n + 2 })
            (record { allowed = true; scope = scope; depth = size; label = n + 1 }) scope size (n + 3) start (8 + c) q L
            room lower back calls pending fine.0 b.0 (record { break_label = refl; break_depth = refl; continue_label = refl; continue_depth = refl })
            (exit_here scope L.frame q.locals size (n + 2) L.local_values L.frame_size) (exit_here scope L.frame q.locals size (n + 1) L.local_values L.frame_size) typed few;
        to_third = λ q L k. subst (λ t. Took host k (8 + c) (spot_at R x body_end [] between (back ∷ calls) pending L) k (7 + c) (spot_at R x t [] between (back ∷ calls) pending L)) same_head
            (took_less host (7 + c) (omega arith) (took_none host k (8 + c) (spot_at R x body_end [] between (back ∷ calls) pending L)));
        third_runs = λ q L few. (L, took_less host c (omega arith) (took_none host q.left (7 + c) (spot_at R x head [] between (back ∷ calls) pending L)));
      } in
      subst (λ k. Sim host R (Holds' breaks continues scope (size + 0))
      (place_of_flow breaks continues scope (size + 0) next room lower back calls pending) p.left c
      (spot_at R x k [] between (back ∷ calls) pending K) (flow_credits c 0)
      (bind (exec here caller scope a p) (λ f q. on_body f (λ u. looped (λ w. eval here caller scope e w) (λ w. exec here caller scope a w) (λ w. Gives [] w) u) q))) (sym same)
      (sim_bind host R (Holds' (record { allowed = true; scope = scope; depth = size; label = n + 2 }) (record { allowed = true; scope = scope; depth = size; label = n + 1 }) scope (size + 0))
      (place_of_flow (record { allowed = true; scope = scope; depth = size; label = n + 2 })
      (record { allowed = true; scope = scope; depth = size; label = n + 1 }) scope
      (size + 0) body_end room lower back calls pending)
      (Holds' breaks continues scope (size + 0)) (place_of_flow breaks continues scope (size + 0) next room lower back calls pending)
      p.left c (spot_at R x start [] between (back ∷ calls) pending K) (flow_credits c 0) (flow_credits c 0)
      (exec here caller scope a p)
      (λ f q. on_body f (λ u. looped (λ w. eval here caller scope e w) (λ w. exec here caller scope a w)
      (λ w. Gives [] w) u) q)
      (keeps a fine.2 da inner (record { allowed = true; scope = scope; depth = size; label = n + 2 })
      (record { allowed = true; scope = scope; depth = size; label = n + 1 }) scope size (n + 3) start c p K
      room lower back calls pending fine.0 b.0 (record { break_label = refl; break_depth = refl; continue_label = refl; continue_depth = refl })
      (exit_here scope K.frame p.locals size (n + 2) K.local_values K.frame_size) (exit_here scope K.frame p.locals size (n + 1) K.local_values K.frame_size) typed le)
      (λ f q g less. first_body breaks continues scope size room lower back calls pending head next body_end (n + 2)
      (n + 1) c (λ w. looped (λ w. eval here caller scope e w) (λ w. exec here caller scope a w)
      (λ w. Gives [] w) w) broken continued same_head
      (λ q L few. looped_run breaks continues scope size room lower back calls pending head decides start body_end head next (n + 2) (n + 1) c (λ q. eval here caller scope e q)
      (λ q. exec here caller scope a q) (λ q. Gives [] q) runs q L few) f q g (omega (arith, less, le))))
    where
      first_body : (breaks continues : Exit) (scope : List ℕ) (size : ℕ) (room : List Value) (lower : List Cell)
          (back : ℕ) (calls : List ℕ) (pending : List Saved) (head next body_end break_label continue_label c : ℕ)
          (loop : Progress → Outcome Flow)
          → x.places break_label ≡ next → x.places continue_label ≡ head → body_end ≡ head
          → ((q : Progress) (L : Kept R x scope size q.globals q.locals q.world) → q.left ≤ most
          → Sim host R (Holds' breaks continues scope (size + 0))
          (place_of_flow breaks continues scope (size + 0) next room lower back calls pending) q.left c
          (spot_at R x head [] (pushed room lower) (back ∷ calls) pending L) (flow_credits c 0) (loop q))
          → (f : Flow) (q : Progress)
          (g : Holds' (record { allowed = true; scope = scope; depth = size; label = break_label })
          (record { allowed = true; scope = scope; depth = size; label = continue_label }) scope (size + 0) f q)
          → q.left ≤ most
          → Sim host R (Holds' breaks continues scope (size + 0)) (place_of_flow breaks continues scope (size + 0) next room lower back calls pending) q.left (flow_credits c 0 f)
          (place_of_flow (record { allowed = true; scope = scope; depth = size; label = break_label })
          (record { allowed = true; scope = scope; depth = size; label = continue_label }) scope
          (size + 0) body_end room lower back calls pending f q g)
          (flow_credits c 0) (on_body f loop q)
      first_body breaks continues scope size room lower back calls pending head next body_end break_label continue_label c loop broken continued same run Next q g le =
          let M = no_more g in
          sim_after host R (Holds' breaks continues scope (size + 0)) (place_of_flow breaks continues scope (size + 0) next room lower back calls pending) (flow_credits c 0) (loop q)
          (subst (λ t. Took host q.left (c + 0) (spot_at R x body_end [] (pushed room lower) (back ∷ calls) pending M) q.left c (spot_at R x t [] (pushed room lower) (back ∷ calls) pending M)) same
          (took_less host c (omega arith) (took_none host q.left (c + 0) (spot_at R x body_end [] (pushed room lower) (back ∷ calls) pending M)))) (run q M le)
      first_body breaks continues scope size room lower back calls pending head next body_end break_label continue_label c loop broken continued same run Broke q g le = (
        and_none g.1,
        subst (λ z. Took host q.left c
            (spot_at R x (x.places break_label) [] (pushed room lower) (back ∷ calls) pending g.1) q.left (c + 0)
            (spot_at R x z [] (pushed room lower) (back ∷ calls) pending g.1)) broken
            (took_less host (c + 0) (omega arith) (took_none host q.left c (spot_at R x (x.places break_label) [] (pushed room lower) (back ∷ calls) pending g.1))),
      )
      first_body breaks continues scope size room lower back calls pending head next body_end break_label continue_label c loop broken continued same run Continued q g le =
          sim_after host R (Holds' breaks continues scope (size + 0)) (place_of_flow breaks continues scope (size + 0) next room lower back calls pending) (flow_credits c 0) (loop q)
          (subst (λ z. Took host q.left c
          (spot_at R x (x.places continue_label) [] (pushed room lower) (back ∷ calls) pending g.1) q.left c
          (spot_at R x z [] (pushed room lower) (back ∷ calls) pending g.1)) continued
          (took_none host q.left c (spot_at R x (x.places continue_label) [] (pushed room lower) (back ∷ calls) pending g.1))) (run q g.1 le)
      first_body breaks continues scope size room lower back calls pending head next body_end break_label continue_label c loop broken continued same run (Returned v) q g le =
          (g, took_none host q.left c (spot_at R x back [] (pushed v lower) calls pending g.1))

  record Home (k c : ℕ) (s t : Machine) : Type 0 where
    first : Machine
    goes : step host s ≡ Some (Goes first)
    took : Took host k (15 + c) first k c t

  -- the frame is taken off, and the call is over
  goes_home : (k c count place : ℕ) (frame rest : List Cell) (back : ℕ) (calls : List ℕ) (pending : List Saved) (world : World Saved) → AreHeld frame → length frame ≡ count
      → LinesStand x.code x.places place (dropped count) → op_at x.code (place + lines_size (dropped count)) ≡ Some ops.Retn
      → Home k c (at x place (frame ++ rest) (back ∷ calls) pending world) (at x back rest calls pending world)
  goes_home k c zero place [] rest back calls pending world held size_is drops returns =
      let same : place + 0 ≡ place = omega arith in
      record {
        first = at x back rest calls pending world;
        goes = goes_back place back rest calls pending world (ap (op_at x.code) (sym same) ∙ returns);
        took = took_less host c (omega arith) (took_none host k (15 + c) (at x back rest calls pending world));
      }
  goes_home k c zero place (w ∷ frame) rest back calls pending world held size_is drops returns = absurd (omega arith)
  goes_home k c (suc count) place frame rest back calls pending world held size_is drops returns =
      let u = parts_in_cells frame held in
      let long : length (reverse u.0) ≡ suc count = length-reverse u.0 ∙ sym (length-map u.0 Holds) ∙ sym (ap length u.1) ∙ size_is in
      let s1 = at x (place + 6) rest (back ∷ calls) pending world in
      let s2 = at x back rest calls pending world in
      let six : place + lines_size (dropped (suc count)) ≡ place + 6 = omega arith in
      record {
        first = s1;
        goes = ap (λ t. step host (at x place t (back ∷ calls) pending world)) (as_pushed frame held rest)
            ∙ dropped_goes host x listed place (place + 6) (suc count) (reverse u.0) rest (back ∷ calls) pending world drops.0 refl long;
        took = took_cost host k (15 + c) c s1 s2 (omega arith) (goes_back (place + 6) back rest calls pending world (ap (op_at x.code) (sym six) ∙ returns));
      }

  -- ---- `return` without a value

  pub return_nothing_does : (m : ℕ) → Does (return_from m None)
  return_nothing_does m out breaks continues scope size n place c p K room lower back calls pending fine stands exits ends starts typed le =
      let nothing : cell_types x.layout.structs result ≡ [] = ap (cell_types x.layout.structs) fine in
      let no_room = none_typed room (typed ∙ nothing) in
      let next = place + lines_size (dropped size ++ Instruction ops.Retn ∷ []) in
      let between = pushed room lower in
      let s = spot_at R x place [] between (back ∷ calls) pending K in
      let B = Holds' breaks continues scope (size + 0) in
      let there = place_of_flow breaks continues scope (size + 0) next room lower back calls pending in
      let d = both_stand x.code x.places place (dropped size) (Instruction ops.Retn ∷ []) stands in
      sim_bind host R (λ w q. (w ≡ []) × Kept R x scope size q.globals q.locals q.world)
      (λ w q h. spot_at R x place [] between (back ∷ calls) pending h.1) B there p.left c s (λ w. c)
      (flow_credits c 0)
      (maybe here caller scope None p) (λ parts q. spend q (λ u. Gives (Returned parts) u)) ((refl, K), took_none host p.left c s)
      (λ w q h less.
      subst (λ (v : List Value). Sim host R B there q.left c (spot_at R x place [] between (back ∷ calls) pending h.1) (flow_credits c 0) (spend q (λ u. Gives (Returned v) u))) (sym h.0)
      (subst (λ (v : List Value). Sim host R B there q.left c
      (spot_at R x place [] (pushed v lower) (back ∷ calls) pending h.1) (flow_credits c 0)
      (spend q (λ u. Gives (Returned []) u))) (sym no_room)
      (sim_paid host R B there c (spot_at R x place [] lower (back ∷ calls) pending h.1) (flow_credits c 0) q (λ u. Gives (Returned []) u) h.1.alike
      (λ k left.
      let back_again = goes_home k c size place h.1.frame (lower ++ h.1.under) back calls pending h.1.machine h.1.frame_held h.1.frame_size d.0 d.1.0 in
      (back_again.first, back_again.goes, ((sym nothing, empty_kept h.1), back_again.took))))))
    where
      none_typed : (v : List Value) → value_types v ≡ [] → v ≡ []
      none_typed [] h = refl
      none_typed (w ∷ v) h = absurd cc
