-- Reads and writes of variables, in a frame and among the globals.
use Rattle.std.proofs.Common.{arith, ◌≡◌, ◌≤◌, ◌<◌, ◌+◌, ◌-◌, ℕ, List, [], ◌∷◌, ◌++◌, length, take, drop, Option, Some, None, Bool, true, false, sym, subst, ◌∙◌, ap, refl, append_assoc}
use Rattle.std.specs.Prelude.{ℤ, pos, if◌then◌else◌}
use Rattle.std.proofs.lemmas.Bool.Decides.{Decides-eqb}
use Rattle.std.specs.Option.{option_map}
use Rattle.std.proofs.lemmas.List.{length-append, length-map, length-take-le, take_at, drop_at}
use Rattle.nwq_value.specs.declared.value.Ty.{Ty}
use Rattle.nwq_value.specs.declared.value.Ty.TheVariants.{Int as IntTy}
use Rattle.nwq_value.specs.declared.value.Value.{Value}
use Rattle.nwq_value.specs.declared.value.Value.TheVariants.{Int}
use Rattle.nwq_value.specs.Values.{type_of as type_of_value}
use Rattle.nwq_value.specs.Operators.{sum, difference}
use Rattle.ncs_code.specs.Plain.{PlainOp}
use Rattle.ncs_code.specs.File.{op_at}
use Rattle.typing_rules.specs.declared.places.Place.TheVariants.{Local, Global, Const as IsConst}
use Rattle.typing_rules.specs.Typed.{TypedExpr, literal, name, call, member, prefix, postfix, binary, assign, type_of, is_place}
use Rattle.ncs_emit.specs.Labelled.{Line, Instruction}
use Rattle.typing_rules.specs.Cells.{cell_types}
use Rattle.saved_state.specs.declared.cell.Cell.{Cell}
use Rattle.saved_state.specs.declared.cell.Cell.TheVariants.{Value as Holds}
use Rattle.saved_state.specs.declared.saved.Saved.{Saved}
use Rattle.emission_rules.specs.Layout.{Layout, position}
use Rattle.emission_rules.specs.Expressions.{Home, InFrame, InGlobals, moved, home, read, write, increment, decrement, member_code, emit}
use Rattle.world_rules.specs.World.{World}
use Rattle.machine_rules.specs.Cells.{value_types}
use Rattle.machine_rules.specs.Machine.{Goes, step}
use Rattle.source_meaning.specs.Values.{parts_of, with_parts, one_int}
use Rattle.source_meaning.specs.Evaluation.{Variables, with_variable, Deferred, Progress}
use Rattle.source_meaning.specs.Spots.{Spot, OfLocal, OfGlobal, further, spot, read_at, written_at}
use Rattle.source_laws.specs.Ledger.{Machine, MachineHost}
use Rattle.source_laws.specs.Kept.{pushed, AreHeld, Stands, Site, IsListed, at, In, part_types, Vars, Kept, spot_at}
use Rattle.source_laws.proofs.Cells.{held_put, pushed_over, pushed_length, part_stands, part_is, part_at, stands_length, types_count}
use Rattle.source_laws.proofs.Steps.{frame_copied, frame_written, base_copied, base_written, frame_increased, frame_decreased, base_increased, base_decreased}
use Rattle.source_laws.proofs.Variables.{part_types_are, vars_put, size_of, home_of, IsSpot}

-- a value inside a frame that lies between other cells
pub split_in : (temps above below rest : List Cell) (v : List Value) → temps ++ ((above ++ pushed v below) ++ rest) ≡ (temps ++ above) ++ pushed v (below ++ rest)
split_in temps above below rest v =
    ap (λ t. temps ++ t) (append_assoc above (pushed v below) rest ∙ ap (λ t. above ++ t) (pushed_over v below rest))
    ∙ sym (append_assoc temps above (pushed v (below ++ rest)))

-- the cells above the globals
pub above_globals : (temps frame between under : List Cell) → temps ++ (frame ++ (between ++ under)) ≡ (temps ++ (frame ++ between)) ++ under
above_globals temps frame between under =
    ap (λ t. temps ++ t) (sym (append_assoc frame between under)) ∙ sym (append_assoc temps (frame ++ between) under)

-- a value inside the globals
pub split_under : (temps frame between above below : List Cell) (v : List Value)
    → temps ++ (frame ++ (between ++ (above ++ pushed v below))) ≡ ((temps ++ (frame ++ between)) ++ above) ++ pushed v below
split_under temps frame between above below v =
    above_globals temps frame between (above ++ pushed v below) ∙ sym (append_assoc (temps ++ (frame ++ between)) above (pushed v below))

same_length : (above below : List Cell) (new old : List Value) → value_types new ≡ value_types old → length (above ++ pushed new below) ≡ length (above ++ pushed old below)
same_length above below new old h =
    let a = length-append above (pushed new below) in
    let b = length-append above (pushed old below) in
    let c = pushed_length new below in
    let d = pushed_length old below in
    let e = types_count new old h in
    omega (arith, a, b, c, d, e)

module _ (host : MachineHost) (R : Saved → Deferred → Type 0) (x : Site) (listed : IsListed host x) where
  -- ---- reads

  pub frame_reads : {scope : List ℕ} {size : ℕ} {globals locals : Variables} {world : World Deferred}
      (place next depth from count : ℕ) (temps between : List Cell) (calls : List ℕ) (pending : List Saved)
      (K : Kept R x scope size globals locals world) (v : List Value) (s : Stands K.frame from v)
      → op_at x.code place ≡ Some (read x.layout depth count (InFrame from)) → place + 8 ≡ next → length v ≡ count → 0 < count → length temps + size ≡ depth
      → step host (spot_at R x place temps between calls pending K) ≡ Some (Goes (spot_at R x next (pushed v temps) between calls pending K))
  frame_reads place next depth from count temps between calls pending K v s begins goes long some deep =
      let rest = between ++ K.under in
      let whole : temps ++ (K.frame ++ rest) ≡ (temps ++ s.above) ++ pushed v (s.below ++ rest) = ap (λ t. temps ++ (t ++ rest)) s.is ∙ split_in temps s.above s.below rest v in
      let n = length-append temps s.above in
      let m = stands_length K.frame from v s in
      let f = K.frame_size in
      frame_copied host x listed place next depth from count (temps ++ (K.frame ++ rest)) (temps ++ s.above) v
      (s.below ++ rest) calls pending K.machine begins goes whole long some (omega (arith, n, m, f, deep, long))
      ∙ ap (λ t. Some (Goes (at x next t calls pending K.machine))) (sym (pushed_over v temps (K.frame ++ rest)))

  -- how far the globals lie beneath the top
  far_down : {scope : List ℕ} {size : ℕ} {globals locals : Variables} {world : World Deferred} (temps between above : List Cell) (K : Kept R x scope size globals locals world)
      → (length (temps ++ (K.frame ++ (between ++ K.under))) - x.bp) + length above ≡ length ((temps ++ (K.frame ++ between)) ++ above)
  far_down temps between above K =
      let a = ap length (above_globals temps K.frame between K.under) in
      let b = length-append (temps ++ (K.frame ++ between)) K.under in
      let c = length-append (temps ++ (K.frame ++ between)) above in
      let u = K.under_size in
      omega (arith, a, b, c, u)

  reaches : {scope : List ℕ} {size : ℕ} {globals locals : Variables} {world : World Deferred} (temps between : List Cell) (K : Kept R x scope size globals locals world)
      → x.bp ≤ length (temps ++ (K.frame ++ (between ++ K.under)))
  reaches temps between K =
      let a = ap length (above_globals temps K.frame between K.under) in
      let b = length-append (temps ++ (K.frame ++ between)) K.under in
      let u = K.under_size in
      omega (arith, a, b, u)

  pub base_reads : {scope : List ℕ} {size : ℕ} {globals locals : Variables} {world : World Deferred}
      (place next depth from count : ℕ) (temps between : List Cell) (calls : List ℕ) (pending : List Saved)
      (K : Kept R x scope size globals locals world) (v : List Value) (s : Stands K.under from v)
      → op_at x.code place ≡ Some (read x.layout depth count (InGlobals from)) → place + 8 ≡ next → length v ≡ count → 0 < count → x.layout.globals ≡ x.bp
      → step host (spot_at R x place temps between calls pending K) ≡ Some (Goes (spot_at R x next (pushed v temps) between calls pending K))
  base_reads place next depth from count temps between calls pending K v s begins goes long some full =
      let whole : temps ++ (K.frame ++ (between ++ K.under)) ≡ ((temps ++ (K.frame ++ between)) ++ s.above) ++ pushed v s.below =
      ap (λ t. temps ++ (K.frame ++ (between ++ t))) s.is ∙ split_under temps K.frame between s.above s.below v in
      let m = stands_length K.under from v s in
      let u = K.under_size in
      base_copied host x listed place next x.layout.globals from (length s.above) count
      (temps ++ (K.frame ++ (between ++ K.under)))
      ((temps ++ (K.frame ++ between)) ++ s.above) v s.below calls pending K.machine
      begins goes whole long some (omega (arith, m, u, full, long)) (reaches temps between K) (far_down temps between s.above K)
      ∙ ap (λ t. Some (Goes (at x next t calls pending K.machine))) (sym (pushed_over v temps (K.frame ++ (between ++ K.under))))

  -- ---- writes

  -- what is kept once variables have new parts, and the instruction that writes them
  pub record Put (scope : List ℕ) (size : ℕ) (globals locals : Variables) (world : World Deferred) (s : Machine)
      (next : ℕ) (temps between : List Cell) (calls : List ℕ) (pending : List Saved) : Type 0 where
    pub kept : Kept R x scope size globals locals world
    pub goes : step host s ≡ Some (Goes (spot_at R x next temps between calls pending kept))

  abbrev frame_kept : {scope : List ℕ} {size : ℕ} {globals locals : Variables} {world : World Deferred} (K : Kept R x scope size globals locals world) (n b : ℕ) (new : List Value) (i : In n scope)
      → b + length new ≤ length (locals n) → value_types new ≡ value_types (parts_of b (length new) (locals n))
      → Kept R x scope size globals (with_variable locals n (with_parts b new (locals n))) world
  frame_kept {scope = scope} {locals = locals} K n b new i h types = record {
    under = K.under;
    frame = ((K.local_values.value n i).above ++ pushed (drop (length new) (drop b (locals n))) []) ++ pushed new (pushed (take b (locals n)) (K.local_values.value n i).below);
    machine = K.machine;
    under_size = K.under_size;
    frame_size =
        same_length ((K.local_values.value n i).above ++ pushed (drop (length new) (drop b (locals n))) [])
        (pushed (take b (locals n)) (K.local_values.value n i).below) new (parts_of b (length new) (locals n)) types
        ∙ sym (ap length (part_is K.frame (position x.layout n) (locals n) b (length new) (K.local_values.value n i)))
        ∙ K.frame_size;
    under_held = K.under_held;
    frame_held = held_put ((K.local_values.value n i).above ++ pushed (drop (length new) (drop b (locals n))) [])
        (pushed (take b (locals n)) (K.local_values.value n i).below) new (parts_of b (length new) (locals n))
        (subst AreHeld (part_is K.frame (position x.layout n) (locals n) b (length new) (K.local_values.value n i)) K.frame_held);
    global_values = K.global_values;
    local_values = vars_put x scope K.frame locals n b new K.local_values i h types;
    alike = K.alike;
  }

  abbrev under_kept : {scope : List ℕ} {size : ℕ} {globals locals : Variables} {world : World Deferred} (K : Kept R x scope size globals locals world) (n b : ℕ) (new : List Value) (i : In n x.globals)
      → b + length new ≤ length (globals n) → value_types new ≡ value_types (parts_of b (length new) (globals n))
      → Kept R x scope size (with_variable globals n (with_parts b new (globals n))) locals world
  under_kept {globals = globals} K n b new i h types = record {
    under = ((K.global_values.value n i).above ++ pushed (drop (length new) (drop b (globals n))) []) ++ pushed new (pushed (take b (globals n)) (K.global_values.value n i).below);
    frame = K.frame;
    machine = K.machine;
    under_size =
        same_length ((K.global_values.value n i).above ++ pushed (drop (length new) (drop b (globals n))) [])
        (pushed (take b (globals n)) (K.global_values.value n i).below) new
        (parts_of b (length new) (globals n)) types
        ∙ sym (ap length (part_is K.under (position x.layout n) (globals n) b (length new) (K.global_values.value n i)))
        ∙ K.under_size;
    frame_size = K.frame_size;
    under_held = held_put ((K.global_values.value n i).above ++ pushed (drop (length new) (drop b (globals n))) [])
        (pushed (take b (globals n)) (K.global_values.value n i).below) new (parts_of b (length new) (globals n))
        (subst AreHeld (part_is K.under (position x.layout n) (globals n) b (length new) (K.global_values.value n i)) K.under_held);
    frame_held = K.frame_held;
    global_values = vars_put x x.globals K.under globals n b new K.global_values i h types;
    local_values = K.local_values;
    alike = K.alike;
  }

  pub frame_writes : {scope : List ℕ} {size : ℕ} {globals locals : Variables} {world : World Deferred} (place next depth count : ℕ) (temps between : List Cell) (calls : List ℕ) (pending : List Saved)
      (K : Kept R x scope size globals locals world) (n b : ℕ) (new : List Value) (i : In n scope)
      (h : b + length new ≤ length (locals n))
      (types : value_types new ≡ value_types (parts_of b (length new) (locals n)))
      → op_at x.code place ≡ Some (write x.layout (depth + count) count (InFrame (position x.layout n + b))) → place + 8 ≡ next → length new ≡ count → 0 < count → length temps + size ≡ depth
      → Put scope size globals (with_variable locals n (with_parts b new (locals n))) world (spot_at R x place (pushed new temps) between calls pending K) next (pushed new temps) between calls pending
  frame_writes {locals = locals} place next depth count temps between calls pending K n b new i h types begins goes long some deep =
      let s = K.local_values.value n i in
      let old = parts_of b (length new) (locals n) in
      let above = s.above ++ pushed (drop (length new) (drop b (locals n))) [] in
      let below = pushed (take b (locals n)) s.below in
      let rest = between ++ K.under in
      let is = part_is K.frame (position x.layout n) (locals n) b (length new) s in
      let at_is = part_at K.frame (position x.layout n) (locals n) b (omega (arith, h)) s in
      let whole : pushed new temps ++ (K.frame ++ rest) ≡ (pushed new temps ++ above) ++ pushed old (below ++ rest) =
      ap (λ t. pushed new temps ++ (t ++ rest)) is ∙ split_in (pushed new temps) above below rest old in
      let a = ap length is in
      let c = length-append above (pushed old below) in
      let d = pushed_length old below in
      let e = types_count new old types in
      let f = K.frame_size in
      let g = length-append (pushed new temps) above in
      let j = pushed_length new temps in
      record {
        kept = frame_kept K n b new i h types;
        goes = frame_written host x listed place next (depth + count) (position x.layout n + b) count
            (pushed new temps ++ (K.frame ++ rest)) (pushed new temps ++ above) new old (below ++ rest)
            (temps ++ (K.frame ++ rest)) calls pending K.machine
            begins goes whole (pushed_over new temps (K.frame ++ rest)) long types some (omega (arith, a, c, d, e, f, g, j, at_is, long, deep))
            ∙ ap (λ t. Some (Goes (at x next t calls pending K.machine))) (sym (split_in (pushed new temps) above below rest new));
      }

  pub base_writes : {scope : List ℕ} {size : ℕ} {globals locals : Variables} {world : World Deferred} (place next depth count : ℕ) (temps between : List Cell) (calls : List ℕ) (pending : List Saved)
      (K : Kept R x scope size globals locals world) (n b : ℕ) (new : List Value) (i : In n x.globals)
      (h : b + length new ≤ length (globals n))
      (types : value_types new ≡ value_types (parts_of b (length new) (globals n)))
      → op_at x.code place ≡ Some (write x.layout depth count (InGlobals (position x.layout n + b))) → place + 8 ≡ next → length new ≡ count → 0 < count → x.layout.globals ≡ x.bp
      → Put scope size (with_variable globals n (with_parts b new (globals n))) locals world
      (spot_at R x place (pushed new temps) between calls pending K) next (pushed new temps) between calls pending
  base_writes {globals = globals} place next depth count temps between calls pending K n b new i h types begins goes long some full =
      let s = K.global_values.value n i in
      let old = parts_of b (length new) (globals n) in
      let above = s.above ++ pushed (drop (length new) (drop b (globals n))) [] in
      let below = pushed (take b (globals n)) s.below in
      let is = part_is K.under (position x.layout n) (globals n) b (length new) s in
      let at_is = part_at K.under (position x.layout n) (globals n) b (omega (arith, h)) s in
      let upper = pushed new temps ++ (K.frame ++ between) in
      let whole : pushed new temps ++ (K.frame ++ (between ++ K.under)) ≡ (upper ++ above) ++ pushed old below =
      ap (λ t. pushed new temps ++ (K.frame ++ (between ++ t))) is ∙ split_under (pushed new temps) K.frame between above below old in
      let a = ap length is in
      let c = length-append above (pushed old below) in
      let d = pushed_length old below in
      let e = types_count new old types in
      let u = K.under_size in
      record {
        kept = under_kept K n b new i h types;
        goes = base_written host x listed place next x.layout.globals (position x.layout n + b) (length above) count
            (pushed new temps ++ (K.frame ++ (between ++ K.under))) (upper ++ above) new old below
            (temps ++ (K.frame ++ (between ++ K.under))) calls pending K.machine
            begins goes whole (pushed_over new temps (K.frame ++ (between ++ K.under))) long types some (omega (arith, a, c, d, e, u, at_is, long, full))
            (reaches (pushed new temps) between K) (far_down (pushed new temps) between above K)
            ∙ ap (λ t. Some (Goes (at x next t calls pending K.machine))) (sym (split_under (pushed new temps) K.frame between above below new));
      }

  -- ---- spots

  -- the parts that are read at a spot, on top of what was there
  pub record Read (scope : List ℕ) (size : ℕ) (t : Ty) (s : Spot) (p : Progress) (place next : ℕ)
      (temps between : List Cell) (calls : List ℕ) (pending : List Saved)
      (K : Kept R x scope size p.globals p.locals p.world) : Type 0 where
    pub typed : value_types (read_at s (length (cell_types x.layout.structs t)) p) ≡ cell_types x.layout.structs t
    pub goes : step host (spot_at R x place temps between calls pending K)
        ≡ Some (Goes (spot_at R x next
        (pushed (read_at s (length (cell_types x.layout.structs t)) p) temps) between calls pending K))

  typed_length : (v : List Value) (ts : List Ty) → value_types v ≡ ts → length v ≡ length ts
  typed_length v ts h = sym (length-map v type_of_value) ∙ ap length h

  pub spot_reads : (scope : List ℕ) (size : ℕ) (t : Ty) (s : Spot) → IsSpot x scope t s
      → (p : Progress) (place next depth : ℕ) (temps between : List Cell) (calls : List ℕ) (pending : List Saved)
      (K : Kept R x scope size p.globals p.locals p.world)
      → op_at x.code place ≡ Some (read x.layout depth (length (cell_types x.layout.structs t)) (home_of x scope s)) → place + 8 ≡ next → length temps + size ≡ depth
      → Read scope size t s p place next temps between calls pending K
  spot_reads scope size t (OfLocal n b) f p place next depth temps between calls pending K begins goes deep =
      let count = length (cell_types x.layout.structs t) in
      let typed = part_types_are (part_types x n) b (cell_types x.layout.structs t) (p.locals n) f.1 (K.local_values.typed n f.0) in
      let all = size_of x scope K.frame p.locals n K.local_values f.0 in
      let inside = f.1.inside in
      let some = f.1.some in
      let there = part_stands K.frame (position x.layout n) (p.locals n) b count (omega (arith, all, inside)) (K.local_values.value n f.0) in
      record {
        typed = typed;
        goes = frame_reads place next depth (position x.layout n + b) count temps between calls pending K (parts_of b count (p.locals n)) there begins goes
            (typed_length (parts_of b count (p.locals n)) (cell_types x.layout.structs t) typed) some deep;
      }
  spot_reads scope size t (OfGlobal n b) f p place next depth temps between calls pending K begins goes deep =
      let count = length (cell_types x.layout.structs t) in
      let typed = part_types_are (part_types x n) b (cell_types x.layout.structs t) (p.globals n) f.2 (K.global_values.typed n f.0) in
      let all = size_of x x.globals K.under p.globals n K.global_values f.0 in
      let inside = f.2.inside in
      let some = f.2.some in
      let there = part_stands K.under (position x.layout n) (p.globals n) b count (omega (arith, all, inside)) (K.global_values.value n f.0) in
      record {
        typed = typed;
        goes = base_reads place next depth (position x.layout n + b) count temps between calls pending K (parts_of b count (p.globals n)) there begins goes
            (typed_length (parts_of b count (p.globals n)) (cell_types x.layout.structs t) typed) some f.1;
      }

  pub spot_writes : (scope : List ℕ) (size : ℕ) (t : Ty) (s : Spot) → IsSpot x scope t s → (p : Progress) (new : List Value) → value_types new ≡ cell_types x.layout.structs t
      → (place next depth : ℕ) (temps between : List Cell) (calls : List ℕ) (pending : List Saved) (K : Kept R x scope size p.globals p.locals p.world)
      → op_at x.code place ≡ Some
      (write x.layout (depth + length (cell_types x.layout.structs t)) (length (cell_types x.layout.structs t))
      (home_of x scope s)) → place + 8 ≡ next → length temps + size ≡ depth
      → Put scope size (written_at s new p).globals (written_at s new p).locals (written_at s new p).world
      (spot_at R x place (pushed new temps) between calls pending K) next (pushed new temps) between calls pending
  spot_writes scope size t (OfLocal n b) f p new types place next depth temps between calls pending K begins goes deep =
      let count = length (cell_types x.layout.structs t) in
      let long = typed_length new (cell_types x.layout.structs t) types in
      let typed = part_types_are (part_types x n) b (cell_types x.layout.structs t) (p.locals n) f.1 (K.local_values.typed n f.0) in
      let all = size_of x scope K.frame p.locals n K.local_values f.0 in
      let inside = f.1.inside in
      let some = f.1.some in
      let old : value_types new ≡ value_types (parts_of b (length new) (p.locals n)) = types ∙ sym typed ∙ ap (λ k. value_types (parts_of b k (p.locals n))) (sym long) in
      frame_writes place next depth count temps between calls pending K n b new f.0 (omega (arith, all, inside, long)) old begins goes long some deep
  spot_writes scope size t (OfGlobal n b) f p new types place next depth temps between calls pending K begins goes deep =
      let count = length (cell_types x.layout.structs t) in
      let long = typed_length new (cell_types x.layout.structs t) types in
      let typed = part_types_are (part_types x n) b (cell_types x.layout.structs t) (p.globals n) f.2 (K.global_values.typed n f.0) in
      let all = size_of x x.globals K.under p.globals n K.global_values f.0 in
      let inside = f.2.inside in
      let some = f.2.some in
      let old : value_types new ≡ value_types (parts_of b (length new) (p.globals n)) = types ∙ sym typed ∙ ap (λ k. value_types (parts_of b k (p.globals n))) (sym long) in
      base_writes place next (depth + count) count temps between calls pending K n b new f.0 (omega (arith, all, inside, long)) old begins goes long some f.1

  -- ---- ints that change where they stand

  int_is : (v : List Value) → value_types v ≡ IntTy ∷ [] → (n : ℤ) × (v ≡ Int n ∷ [])
  int_is (Int n ∷ []) h = (n, refl)
  int_is v h = absurd cc

  -- what an instruction does with an int in the frame, and with one among the globals
  abbrev pub InFrameCounts : (ℤ → ℤ) → (ℕ → Home → PlainOp) → Type 0
  InFrameCounts f op = (place next depth from : ℕ) (cells over under : List Cell) (n : ℤ) (calls : List ℕ) (pending : List Saved) (world : World Saved)
      → op_at x.code place ≡ Some (op depth (InFrame from)) → place + 6 ≡ next → cells ≡ over ++ Holds (Int n) ∷ under → length over + (1 + from) ≡ depth
      → step host (at x place cells calls pending world) ≡ Some (Goes (at x next (over ++ Holds (Int (f n)) ∷ under) calls pending world))

  abbrev pub InGlobalsCounts : (ℤ → ℤ) → (ℕ → Home → PlainOp) → Type 0
  InGlobalsCounts f op = (place next depth from above : ℕ) (cells over under : List Cell) (n : ℤ) (calls : List ℕ) (pending : List Saved) (world : World Saved)
      → op_at x.code place ≡ Some (op depth (InGlobals from)) → place + 6 ≡ next → cells ≡ over ++ Holds (Int n) ∷ under
      → above + (1 + from) ≡ x.layout.globals → x.bp ≤ length cells → (length cells - x.bp) + above ≡ length over
      → step host (at x place cells calls pending world) ≡ Some (Goes (at x next (over ++ Holds (Int (f n)) ∷ under) calls pending world))

  pub increases_frame : InFrameCounts (λ n. sum n (pos 1)) (increment x.layout)
  increases_frame place next depth from cells over under n calls pending world begins goes is deep = frame_increased host x listed place next depth from cells over under n calls pending
      world begins goes is deep

  pub decreases_frame : InFrameCounts (λ n. difference n (pos 1)) (decrement x.layout)
  decreases_frame place next depth from cells over under n calls pending world begins goes is deep = frame_decreased host x listed place next depth from cells over under n calls pending
      world begins goes is deep

  pub increases_globals : InGlobalsCounts (λ n. sum n (pos 1)) (increment x.layout)
  increases_globals place next depth from above cells over under n calls pending world begins goes is deep low far =
      base_increased host x listed place next x.layout.globals from above cells over under n calls pending world begins goes is deep low far

  pub decreases_globals : InGlobalsCounts (λ n. difference n (pos 1)) (decrement x.layout)
  decreases_globals place next depth from above cells over under n calls pending world begins goes is deep low far =
      base_decreased host x listed place next x.layout.globals from above cells over under n calls pending world begins goes is deep low far

  pub spot_counts : (f : ℤ → ℤ) (op : ℕ → Home → PlainOp) → InFrameCounts f op → InGlobalsCounts f op → (scope : List ℕ) (size : ℕ) (s : Spot) → IsSpot x scope IntTy s
      → (p : Progress) (place next depth : ℕ) (temps between : List Cell) (calls : List ℕ) (pending : List Saved) (K : Kept R x scope size p.globals p.locals p.world)
      → op_at x.code place ≡ Some (op depth (home_of x scope s)) → place + 6 ≡ next → length temps + size ≡ depth
      → Put scope size (written_at s (one_int f (read_at s 1 p)) p).globals (written_at s (one_int f (read_at s 1 p)) p).locals (written_at s (one_int f (read_at s 1 p)) p).world
      (spot_at R x place temps between calls pending K) next temps between calls pending
  spot_counts f op in_frame in_globals scope size (OfLocal n b) fine p place next depth temps between calls pending K begins goes deep =
      let v = p.locals n in
      let typed = part_types_are (part_types x n) b (IntTy ∷ []) v fine.1 (K.local_values.typed n fine.0) in
      let all = size_of x scope K.frame p.locals n K.local_values fine.0 in
      let inside = fine.1.inside in
      let m = int_is (parts_of b 1 v) typed in
      let new = one_int f (parts_of b 1 v) in
      let new_is : new ≡ Int (f m.0) ∷ [] = ap (one_int f) m.1 in
      let long : length new ≡ 1 = ap length new_is in
      let old_is : parts_of b (length new) v ≡ Int m.0 ∷ [] = ap (λ k. parts_of b k v) long ∙ m.1 in
      let types : value_types new ≡ value_types (parts_of b (length new) v) = ap value_types new_is ∙ sym (ap value_types old_is) in
      let s = K.local_values.value n fine.0 in
      let above = s.above ++ pushed (drop (length new) (drop b v)) [] in
      let below = pushed (take b v) s.below in
      let rest = between ++ K.under in
      let is = part_is K.frame (position x.layout n) v b (length new) s in
      let at_is = part_at K.frame (position x.layout n) v b (omega (arith, all, inside)) s in
      let whole : temps ++ (K.frame ++ rest) ≡ (temps ++ above) ++ Holds (Int m.0) ∷ (below ++ rest) =
      ap (λ t. temps ++ (t ++ rest)) is ∙ split_in temps above below rest (parts_of b (length new) v) ∙ ap (λ u. (temps ++ above) ++ pushed u (below ++ rest)) old_is in
      let a = ap length is in
      let c = length-append above (pushed (parts_of b (length new) v) below) in
      let d = pushed_length (parts_of b (length new) v) below in
      let e = ap length old_is in
      let g = length-append temps above in
      let k = K.frame_size in
      record {
        kept = frame_kept K n b new fine.0 (omega (arith, all, inside, long)) types;
        goes = in_frame place next depth (position x.layout n + b) (temps ++ (K.frame ++ rest)) (temps ++ above)
            (below ++ rest) m.0 calls pending K.machine begins goes whole (omega (arith, a, c, d, e, g, k, at_is, deep))
            ∙ ap (λ u. Some (Goes (at x next ((temps ++ above) ++ pushed u (below ++ rest)) calls pending K.machine))) (sym new_is)
            ∙ ap (λ t. Some (Goes (at x next t calls pending K.machine))) (sym (split_in temps above below rest new));
      }
  spot_counts f op in_frame in_globals scope size (OfGlobal n b) fine p place next depth temps between calls pending K begins goes deep =
      let v = p.globals n in
      let typed = part_types_are (part_types x n) b (IntTy ∷ []) v fine.2 (K.global_values.typed n fine.0) in
      let all = size_of x x.globals K.under p.globals n K.global_values fine.0 in
      let inside = fine.2.inside in
      let full = fine.1 in
      let m = int_is (parts_of b 1 v) typed in
      let new = one_int f (parts_of b 1 v) in
      let new_is : new ≡ Int (f m.0) ∷ [] = ap (one_int f) m.1 in
      let long : length new ≡ 1 = ap length new_is in
      let old_is : parts_of b (length new) v ≡ Int m.0 ∷ [] = ap (λ k. parts_of b k v) long ∙ m.1 in
      let types : value_types new ≡ value_types (parts_of b (length new) v) = ap value_types new_is ∙ sym (ap value_types old_is) in
      let s = K.global_values.value n fine.0 in
      let above = s.above ++ pushed (drop (length new) (drop b v)) [] in
      let below = pushed (take b v) s.below in
      let is = part_is K.under (position x.layout n) v b (length new) s in
      let at_is = part_at K.under (position x.layout n) v b (omega (arith, all, inside)) s in
      let upper = temps ++ (K.frame ++ between) in
      let whole : temps ++ (K.frame ++ (between ++ K.under)) ≡ (upper ++ above) ++ Holds (Int m.0) ∷ below =
      ap (λ t. temps ++ (K.frame ++ (between ++ t))) is ∙ split_under temps K.frame between above below (parts_of b (length new) v) ∙ ap (λ u. (upper ++ above) ++ pushed u below) old_is in
      let a = ap length is in
      let c = length-append above (pushed (parts_of b (length new) v) below) in
      let d = pushed_length (parts_of b (length new) v) below in
      let e = ap length old_is in
      let k = K.under_size in
      record {
        kept = under_kept K n b new fine.0 (omega (arith, all, inside, long)) types;
        goes = in_globals place next depth (position x.layout n + b) (length above) (temps ++ (K.frame ++ (between ++ K.under))) (upper ++ above) below m.0 calls pending K.machine begins goes whole
            (omega (arith, a, c, d, e, k, at_is, full)) (reaches temps between K) (far_down temps between above K)
            ∙ ap (λ u. Some (Goes (at x next ((upper ++ above) ++ pushed u below) calls pending K.machine))) (sym new_is)
            ∙ ap (λ t. Some (Goes (at x next t calls pending K.machine))) (sym (split_under temps K.frame between above below new));
      }

-- ---- what is read where it was written

with_read : (b : ℕ) (new v : List Value) → b ≤ length v → parts_of b (length new) (with_parts b new v) ≡ new
with_read b new v h =
    ap (take (length new)) (drop_at (take b v) (new ++ drop (b + length new) v) b (length-take-le b v h))
    ∙ take_at new (drop (b + length new) v) (length new) refl

its_own : (variables : Variables) (n : ℕ) (v : List Value) → with_variable variables n v n ≡ v
its_own variables n v = ap (λ (t : Bool). if t then v else variables n) ((Decides-eqb n n).1 refl)

pub read_written : (x : Site) (scope : List ℕ) (t : Ty) (s : Spot) (globals : List Cell) (frame : List Cell) (p : Progress) (new : List Value) (count : ℕ) → IsSpot x scope t s
    → Vars x x.globals globals p.globals → Vars x scope frame p.locals → length new ≡ count → read_at s count (written_at s new p) ≡ new
read_written x scope t (OfLocal n b) globals frame p new count fine G L long =
    let all = size_of x scope frame p.locals n L fine.0 in
    let inside = fine.1.inside in
    ap (λ v. parts_of b count v) (its_own p.locals n (with_parts b new (p.locals n)))
    ∙ ap (λ k. parts_of b k (with_parts b new (p.locals n))) (sym long)
    ∙ with_read b new (p.locals n) (omega (arith, all, inside))
read_written x scope t (OfGlobal n b) globals frame p new count fine G L long =
    let all = size_of x x.globals globals p.globals n G fine.0 in
    let inside = fine.2.inside in
    ap (λ v. parts_of b count v) (its_own p.globals n (with_parts b new (p.globals n)))
    ∙ ap (λ k. parts_of b k (with_parts b new (p.globals n))) (sym long)
    ∙ with_read b new (p.globals n) (omega (arith, all, inside))

-- a write takes no step
pub written_left : (s : Spot) (new : List Value) (p : Progress) → (written_at s new p).left ≡ p.left
written_left (OfLocal n b) new p = refl
written_left (OfGlobal n b) new p = refl

-- what can't be written has neither spot nor home
pub record NoSpot (l : Layout) (e : TypedExpr) : Type 0 where
  pub spot_is : spot e ≡ None
  pub home_is : home l e ≡ None

pub no_spot : (l : Layout) (e : TypedExpr) → is_place e ≡ false → NoSpot l e
no_spot l (name t (Local m)) h = absurd cc
no_spot l (name t (Global m)) h = absurd cc
no_spot l (name t (IsConst k)) h = record { spot_is = refl; home_is = refl }
no_spot l (member t d before) h = let s = no_spot l d h in record { spot_is = ap (option_map (further before)) s.spot_is; home_is = ap (option_map (moved before)) s.home_is }
no_spot l (literal k) h = record { spot_is = refl; home_is = refl }
no_spot l (call t g es ks) h = record { spot_is = refl; home_is = refl }
no_spot l (prefix t o d) h = record { spot_is = refl; home_is = refl }
no_spot l (postfix t o d) h = record { spot_is = refl; home_is = refl }
no_spot l (binary t o c d) h = record { spot_is = refl; home_is = refl }
no_spot l (assign t o c d) h = record { spot_is = refl; home_is = refl }

-- ---- the code of what can be written

in_member : (l : Layout) (depth total before count : ℕ) (value : List Line) (h : Home) (o : Option Home) → option_map (moved before) o ≡ Some h
    → member_code l depth total before count o value ≡ Instruction (read l depth count h) ∷ []
in_member l depth total before count value h None e = absurd cc
in_member l depth total before count value h (Some g) e = let same : moved before g ≡ h = cc in ap (λ k. Instruction (read l depth count k) ∷ []) same

pub place_code : (l : Layout) (n depth : ℕ) (e : TypedExpr) (h : Home) → is_place e ≡ true → home l e ≡ Some h
    → emit l n depth e ≡ Instruction (read l depth (length (cell_types l.structs (type_of e))) h) ∷ []
place_code l n depth (name t (Local m)) h i e = let same : InFrame (position l m) ≡ h = cc in ap (λ k. Instruction (read l depth (length (cell_types l.structs t)) k) ∷ []) same
place_code l n depth (name t (Global m)) h i e = let same : InGlobals (position l m) ≡ h = cc in ap (λ k. Instruction (read l depth (length (cell_types l.structs t)) k) ∷ []) same
place_code l n depth (name t (IsConst k)) h i e = absurd cc
place_code l n depth (member t d before) h i e =
    in_member l depth (length (cell_types l.structs (type_of d))) before (length (cell_types l.structs t)) (emit l n depth d) h (home l d) e
place_code l n depth (literal k) h i e = absurd cc
place_code l n depth (call t g es ks) h i e = absurd cc
place_code l n depth (prefix t o d) h i e = absurd cc
place_code l n depth (postfix t o d) h i e = absurd cc
place_code l n depth (binary t o c d) h i e = absurd cc
place_code l n depth (assign t o c d) h i e = absurd cc
