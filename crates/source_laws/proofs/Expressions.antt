-- The code of expressions does what they mean, node by node.
use Rattle.std.proofs.Common.{arith, ◌≡◌, ◌≤◌, ◌+◌, ℕ, List, [], ◌∷◌, ◌++◌, length, Some, None, Bool, true, false, sym, subst, ◌∙◌, ap, refl}
use Rattle.std.specs.Prelude.{ℤ, pos, not, ◌&&◌, ◌||◌}
use Rattle.std.specs.Option.{option_map}
use Rattle.std.proofs.lemmas.Bool.Decides.{Decides-int_eq}
use Rattle.std.proofs.lemmas.List.{length-map}
use Rattle.nss_tree.specs.declared.operators.PrefixOperator.{PrefixOperator}
use Rattle.nss_tree.specs.declared.operators.PrefixOperator.TheVariants as pre
use Rattle.nss_tree.specs.declared.operators.PostfixOperator.{PostfixOperator}
use Rattle.nss_tree.specs.declared.operators.PostfixOperator.TheVariants as post
use Rattle.nss_tree.specs.declared.operators.BinaryOperator.{BinaryOperator}
use Rattle.nss_tree.specs.declared.operators.AssignOperator.{AssignOperator}
use Rattle.nss_tree.specs.declared.operators.BinaryOperator.TheVariants as bin
use Rattle.nss_tree.specs.declared.operators.AssignOperator.TheVariants as asg
use Rattle.nwq_value.specs.declared.value.Ty.{Ty}
use Rattle.nwq_value.specs.declared.value.Ty.TheVariants.{Int as IntTy}
use Rattle.nwq_value.specs.declared.value.Value.{Value}
use Rattle.nwq_value.specs.declared.value.Value.TheVariants.{Int}
use Rattle.nwq_value.specs.declared.engine.Const.{Const}
use Rattle.nwq_value.specs.declared.engine.Const.TheVariants as const
use Rattle.nwq_value.specs.Engine.{const_type}
use Rattle.nwq_value.specs.Values.{type_of as type_of_value}
use Rattle.nwq_value.specs.Operators.{as_int, is_zero, either}
use Rattle.ncs_code.specs.Plain.{PlainOp}
use Rattle.ncs_code.specs.Plain as ops
use Rattle.ncs_code.specs.Spelling.{op_size}
use Rattle.ncs_code.specs.File.{op_at}
use Rattle.ncs_emit.specs.declared.jump.Jump.TheVariants.{Jmp, Jz}
use Rattle.ncs_emit.specs.Labelled.{Line, Instruction, JumpTo, Label, lines_size}
use Rattle.ncs_emit.specs.Standing.{LinesStand}
use Rattle.typing_rules.specs.declared.places.Place.TheVariants.{Local, Global, Const as IsConst}
use Rattle.typing_rules.specs.Types.{same_type, binary_type}
use Rattle.typing_rules.specs.Typed.{TypedExpr, literal, name, member, prefix, postfix, binary, assign, type_of, is_place}
use Rattle.typing_rules.specs.Cells.{Structs, cell_types}
use Rattle.saved_state.specs.declared.cell.Cell.{Cell}
use Rattle.saved_state.specs.declared.cell.Cell.TheVariants.{Value as Holds}
use Rattle.saved_state.specs.declared.saved.Saved.{Saved}
use Rattle.emission_rules.specs.Layout.{position}
use Rattle.emission_rules.specs.Operations.{bytes_of, constant, int_constant, top_again, operation, combination}
use Rattle.emission_rules.specs.Expressions.{Home, InFrame, InGlobals, home, at_home, read, write, increment, decrement, member_code, Shortcut, Never, shortcut, shortcut_labels, binary_code, is_set}
use Rattle.emission_rules.specs.Expressions.{read_first, cells_first, emit, labels}
use Rattle.world_rules.specs.Pure.{CellLookup}
use Rattle.world_rules.specs.World.{World}
use Rattle.machine_rules.specs.Cells.{value_types, of_int, zero_on_top}
use Rattle.machine_rules.specs.Frames.{Frame}
use Rattle.machine_rules.specs.Act.{act, moved, cells_after, place_after, is_division}
use Rattle.machine_rules.specs.Machine.{Goes, step}
use Rattle.machine_rules.specs.Laws.{EqualityIsTested}
use Rattle.source_meaning.specs.Values.{constant_value, parts_of, one_int, test_value, is_true, operate, divides_by_zero, applied, prefixed, postfixed}
use Rattle.source_meaning.specs.Evaluation.{Deferred, Progress, Outcome, Gives, Divides, bind, spend, chosen}
use Rattle.source_meaning.specs.Spots.{Spot, OfLocal, OfGlobal, further, spot, read_at, written_at}
use Rattle.source_meaning.specs.Expressions.{Caller, eval, member_of, stepped, operated, unwritten, combined, assigned}
use Rattle.source_meaning.specs.Scripts.{Function}
use Rattle.source_laws.specs.Ledger.{Machine, MachineHost, Took, Sim}
use Rattle.source_laws.specs.Kept.{pushed, AreHeld, Site, IsListed, at, part_types, Kept, spot_at}
use Rattle.source_laws.specs.Fine.{IsFine}
use Rattle.source_laws.specs.Simulation.{Executor, running_at, HoldsValue, value_place, value_credits, ExprRuns}
use Rattle.source_laws.proofs.Cells.{held_pushed, pushed_over, pushed_length}
use Rattle.source_laws.proofs.Ledger.{took_none, took_cost, took_then, took_less, sim_after, sim_bind, sim_paid, sim_chosen}
use Rattle.source_laws.proofs.Operators.{one_typed, are_ints, if_some, compound_type, operator_does, same_types, applied_type, combination_is, applied_reads, int_types}
use Rattle.source_laws.proofs.Places.{InFrameCounts, InGlobalsCounts, frame_reads, base_reads, spot_reads, spot_writes, spot_counts, increases_frame, decreases_frame, increases_globals}
use Rattle.source_laws.proofs.Places.{decreases_globals, place_code, read_written, written_left, no_spot}
use Rattle.source_laws.proofs.Steps.{both_stand, sizes, constant_goes, int_goes, jump_goes, zero_jumps, other_passes, one_goes, cut_goes, top_copied, operator_goes, operator_divides}
use Rattle.source_laws.proofs.Variables.{part_types_are, home_of, IsSpot, spot_of}

constant_typed : (structs : Structs) (self : ℕ) (k : Const) → value_types (constant_value self k ∷ []) ≡ cell_types structs (const_type k)
constant_typed structs self (const.Int n) = refl
constant_typed structs self (const.Text bytes) = refl
constant_typed structs self const.SelfObject = refl
constant_typed structs self const.InvalidObject = refl

typed_length : (v : List Value) (ts : List Ty) → value_types v ≡ ts → length v ≡ length ts
typed_length v ts h = sym (length-map v type_of_value) ∙ ap length h

-- an int by its value
as_int_value : (v : List Value) → value_types v ≡ IntTy ∷ [] → (n : ℤ) × (v ≡ Int n ∷ [])
as_int_value (Int n ∷ []) h = (n, refl)
as_int_value v h = absurd cc

-- sums of sizes
sums : (a b c : ℕ) → a + b + c ≡ a + (b + c)
sums a b c = omega arith

alone : (a b : ℕ) → a + (b + 0) ≡ a + b
alone a b = omega arith

ends : (a b c : ℕ) → a + b + c ≡ a + (b + (c + 0))
ends a b c = omega arith

module _ (host : MachineHost) (R : Saved → Deferred → Type 0) (tested : EqualityIsTested) (x : Site) (listed : IsListed host x)
    (tables : CellLookup) (execute : Executor) (functions : List Function) (caller : Caller) (most : ℕ) where
  abbrev Runs : TypedExpr → Type 0
  Runs e = ExprRuns host R x tables execute functions caller most e

  abbrev value_of : List ℕ → TypedExpr → Progress → Outcome (List Value)
  value_of scope e p = eval (running_at host tables execute x) caller scope e p

  -- an instruction on values over the frame
  over_frame : (place next : ℕ) (v w : List Value) (temps rest : List Cell) (calls : List ℕ) (pending : List Saved) (world : World Saved)
      → step host (at x place (pushed v (temps ++ rest)) calls pending world) ≡ Some (Goes (at x next (pushed w (temps ++ rest)) calls pending world))
      → step host (at x place (pushed v temps ++ rest) calls pending world) ≡ Some (Goes (at x next (pushed w temps ++ rest) calls pending world))
  over_frame place next v w temps rest calls pending world h =
      ap (λ t. step host (at x place t calls pending world)) (pushed_over v temps rest) ∙ h ∙ ap (λ t. Some (Goes (at x next t calls pending world))) (sym (pushed_over w temps rest))

  -- ---- literals and names

  pub literal_runs : (k : Const) → Runs (literal k)
  literal_runs k scope size n depth place c p K temps between calls pending fine stands deep le held =
      let next = place + lines_size (constant k ∷ []) in
      sim_paid host R (HoldsValue R x scope size (const_type k)) (value_place R x scope size (const_type k) next temps between calls pending)
      c (spot_at R x place temps between calls pending K) (value_credits c) p (λ q. Gives (constant_value x.self k ∷ []) q) K.alike
      (λ m e. (
        spot_at R x next (Holds (constant_value x.self k) ∷ temps) between calls pending K,
        constant_goes host x listed place next k (temps ++ (K.frame ++ (between ++ K.under))) calls pending K.machine stands.0 (omega arith),
        (
          (constant_typed x.layout.structs x.self k, K),
          took_less host (8 + c) (omega arith)
              (took_none host m (15 + c)
              (spot_at R x next (Holds (constant_value x.self k) ∷ temps) between calls pending K)),
        ),
      ))

  pub local_runs : (t : Ty) (i : ℕ) → Runs (name t (Local i))
  local_runs t i scope size n depth place c p K temps between calls pending fine stands deep le held =
      let next = place + lines_size (emit x.layout n depth (name t (Local i))) in
      let v = p.locals i in
      let typed : value_types v ≡ cell_types x.layout.structs t = K.local_values.typed i fine.0 ∙ ap (cell_types x.layout.structs) fine.1 in
      sim_paid host R (HoldsValue R x scope size t) (value_place R x scope size t next temps between calls pending)
      c (spot_at R x place temps between calls pending K) (value_credits c) p (λ q. Gives (q.locals i) q) K.alike
      (λ m e. (
        spot_at R x next (pushed v temps) between calls pending K,
        frame_reads host R x listed place next depth (position x.layout i)
            (length (cell_types x.layout.structs t)) temps between calls pending K v
            (K.local_values.value i fine.0) stands.0 (omega arith)
            (typed_length v (cell_types x.layout.structs t) typed) fine.2 deep,
        ((typed, K), took_less host (8 + c) (omega arith) (took_none host m (15 + c) (spot_at R x next (pushed v temps) between calls pending K))),
      ))

  pub global_runs : (t : Ty) (i : ℕ) → Runs (name t (Global i))
  global_runs t i scope size n depth place c p K temps between calls pending fine stands deep le held =
      let next = place + lines_size (emit x.layout n depth (name t (Global i))) in
      let v = p.globals i in
      let typed : value_types v ≡ cell_types x.layout.structs t = K.global_values.typed i fine.0 ∙ ap (cell_types x.layout.structs) fine.1 in
      sim_paid host R (HoldsValue R x scope size t) (value_place R x scope size t next temps between calls pending)
      c (spot_at R x place temps between calls pending K) (value_credits c) p (λ q. Gives (q.globals i) q) K.alike
      (λ m e. (
        spot_at R x next (pushed v temps) between calls pending K,
        base_reads host R x listed place next depth (position x.layout i)
            (length (cell_types x.layout.structs t)) temps between calls pending K v
            (K.global_values.value i fine.0) stands.0 (omega arith)
            (typed_length v (cell_types x.layout.structs t) typed) fine.2 fine.3,
        ((typed, K), took_less host (8 + c) (omega arith) (took_none host m (15 + c) (spot_at R x next (pushed v temps) between calls pending K))),
      ))

  pub constant_runs : (t : Ty) (k : Const) → Runs (name t (IsConst k))
  constant_runs t k scope size n depth place c p K temps between calls pending fine stands deep le held =
      let next = place + lines_size (constant k ∷ []) in
      sim_paid host R (HoldsValue R x scope size t) (value_place R x scope size t next temps between calls pending)
      c (spot_at R x place temps between calls pending K) (value_credits c) p (λ q. Gives (constant_value x.self k ∷ []) q) K.alike
      (λ m e. (
        spot_at R x next (Holds (constant_value x.self k) ∷ temps) between calls pending K,
        constant_goes host x listed place next k (temps ++ (K.frame ++ (between ++ K.under))) calls pending K.machine stands.0 (omega arith),
        (
          (constant_typed x.layout.structs x.self k ∙ ap (cell_types x.layout.structs) fine, K),
          took_less host (8 + c) (omega arith) (took_none host m (15 + c) (spot_at R x next (Holds (constant_value x.self k) ∷ temps) between calls pending K)),
        ),
      ))

  -- ---- code that is equal

  -- what is said of an expression's code, of any lines
  abbrev CodeRuns : List ℕ → ℕ → ℕ → ℕ → (p : Progress) → Ty → Outcome (List Value) → List Cell → List Cell → List ℕ → List Saved → Machine → List Line → Type 0
  CodeRuns scope size place c p t r temps between calls pending s lines =
      LinesStand x.code x.places place lines
      → Sim host R (HoldsValue R x scope size t) (value_place R x scope size t (place + lines_size lines) temps between calls pending) p.left c s (value_credits c) r

  by_code : (scope : List ℕ) (size place c : ℕ) (p : Progress) (t : Ty) (r : Outcome (List Value))
      (temps between : List Cell) (calls : List ℕ) (pending : List Saved) (s : Machine) (lines other : List Line)
      → lines ≡ other → CodeRuns scope size place c p t r temps between calls pending s other → CodeRuns scope size place c p t r temps between calls pending s lines
  by_code scope size place c p t r temps between calls pending s lines other e h = subst (CodeRuns scope size place c p t r temps between calls pending s) (sym e) h

  -- a read and a write take eight bytes wherever they lead
  goes_on : (place depth count : ℕ) (h : Home) → place + 8 ≡ place + lines_size (Instruction (read x.layout depth count h) ∷ [])
  goes_on place depth count (InFrame from) = omega arith
  goes_on place depth count (InGlobals from) = omega arith

  written_on : (place depth count : ℕ) (h : Home) → place + 8 ≡ place + lines_size (Instruction (write x.layout depth count h) ∷ [])
  written_on place depth count (InFrame from) = omega arith
  written_on place depth count (InGlobals from) = omega arith

  operated_type : (o : BinaryOperator) (s t r : Ty) (v w : List Value) → binary_type o s t ≡ Some r → value_types v ≡ cell_types x.layout.structs s → value_types w ≡ cell_types x.layout.structs t
      → value_types (operate o v w) ≡ cell_types x.layout.structs r
  operated_type o s t r v w typed tv tw = let does = operator_does tested x.layout.structs o s t r v w [] 0 0 typed tv tw in does.typed

  -- ---- members

  member_there : (t : Ty) (e : TypedExpr) (before : ℕ) → is_place e ≡ true → Runs (member t e before)
  member_there t e before there scope size n depth place c p K temps between calls pending fine stands deep le held =
      let whole = spot_of host.table functions x scope (member t e before) there fine in
      let inner = spot_of host.table functions x scope e there fine.0 in
      let count = length (cell_types x.layout.structs t) in
      let both = ap (λ o. option_map (further before) o) inner.is in
      let found : Some (further before inner.where_is) ≡ Some whole.where_is = sym both ∙ whole.is in
      let same : further before inner.where_is ≡ whole.where_is = cc in
      let line = Instruction (read x.layout depth count (home_of x scope whole.where_is)) ∷ [] in
      let is = place_code x.layout n depth (member t e before) (home_of x scope whole.where_is) there whole.home_is in
      subst (λ o. Sim host R (HoldsValue R x scope size t) (value_place R x scope size t (place + lines_size (emit x.layout n depth (member t e before))) temps between calls pending)
      p.left c (spot_at R x place temps between calls pending K) (value_credits c) (member_of o before count (λ q. value_of scope e q) p)) (sym inner.is)
      (subst (λ s. Sim host R (HoldsValue R x scope size t) (value_place R x scope size t (place + lines_size (emit x.layout n depth (member t e before))) temps between calls pending)
      p.left c (spot_at R x place temps between calls pending K) (value_credits c) (spend p (λ q. Gives (read_at s count q) q))) (sym same)
      (by_code scope size place c p t (spend p (λ q. Gives (read_at whole.where_is count q) q)) temps between calls pending (spot_at R x place temps between calls pending K)
      (emit x.layout n depth (member t e before)) line is
      (λ lines. sim_paid host R (HoldsValue R x scope size t) (value_place R x scope size t (place + lines_size line) temps between calls pending)
      c (spot_at R x place temps between calls pending K) (value_credits c) p (λ q. Gives (read_at whole.where_is count q) q) K.alike
      (λ m left.
      let q = record p { left = m } in
      let got = spot_reads host R x listed scope size t whole.where_is whole.fine q place
      (place + lines_size line) depth temps between calls pending K lines.0
      (goes_on place depth count (home_of x scope whole.where_is)) deep in (
        spot_at R x (place + lines_size line) (pushed (read_at whole.where_is count q) temps) between calls pending K,
        got.goes,
        (
          (got.typed, K),
          took_less host (8 + c) (omega arith)
              (took_none host m (15 + c)
              (spot_at R x (place + lines_size line)
              (pushed (read_at whole.where_is count q) temps) between calls pending K)),
        ),
      )))
      stands))

  member_out : (t : Ty) (e : TypedExpr) (before : ℕ) → is_place e ≡ false → Runs e → Runs (member t e before)
  member_out t e before out r scope size n depth place c p K temps between calls pending fine stands deep le held =
      let none = no_spot x.layout e out in
      let count = length (cell_types x.layout.structs t) in
      let total = length (cell_types x.layout.structs (type_of e)) in
      let value = emit x.layout n depth e in
      let cut = Instruction (ops.Destruct (bytes_of total) (bytes_of before) (bytes_of count)) ∷ [] in
      let is : emit x.layout n depth (member t e before) ≡ value ++ cut = ap (λ h. member_code x.layout depth total before count h value) none.home_is in
      let result = bind (value_of scope e p) (λ parts q. spend q (λ r. Gives (parts_of before count parts) r)) in
      subst (λ o. Sim host R (HoldsValue R x scope size t) (value_place R x scope size t (place + lines_size (emit x.layout n depth (member t e before))) temps between calls pending)
      p.left c (spot_at R x place temps between calls pending K) (value_credits c) (member_of o before count (λ q. value_of scope e q) p)) (sym none.spot_is)
      (by_code scope size place c p t result temps between calls pending (spot_at R x place temps between calls pending K) (emit x.layout n depth (member t e before)) (value ++ cut) is
      (λ lines.
      let b = both_stand x.code x.places place value cut lines in
      let middle = place + lines_size value in
      let next = place + lines_size (value ++ cut) in
      let goes : middle + 8 ≡ next = let h = sizes value cut in omega (arith, h) in
      sim_bind host R (HoldsValue R x scope size (type_of e)) (value_place R x scope size (type_of e) middle temps between calls pending)
      (HoldsValue R x scope size t) (value_place R x scope size t next temps between calls pending) p.left c (spot_at R x place temps between calls pending K) (value_credits c) (value_credits c)
      (value_of scope e p) (λ parts q. spend q (λ r. Gives (parts_of before count parts) r))
      (r scope size n depth place c p K temps between calls pending fine.0 b.0 deep le held)
      (λ v q h less.
      sim_paid host R (HoldsValue R x scope size t) (value_place R x scope size t next temps between calls pending)
      (8 + c) (spot_at R x middle (pushed v temps) between calls pending h.1) (value_credits c)
      q (λ r. Gives (parts_of before count v) r) h.1.alike
      (λ m left. (
        spot_at R x next (pushed (parts_of before count v) temps) between calls pending h.1,
        over_frame middle next v (parts_of before count v) temps (h.1.frame ++ (between ++ h.1.under)) calls pending h.1.machine
            (cut_goes host x listed middle next total before count v (temps ++ (h.1.frame ++ (between ++ h.1.under))) calls pending h.1.machine b.1.0 goes
            (typed_length v (cell_types x.layout.structs (type_of e)) h.0) fine.1.inside),
        (
          (part_types_are (cell_types x.layout.structs (type_of e)) before (cell_types x.layout.structs t) v fine.1 h.0, h.1),
          took_less host (8 + c) (omega arith) (took_none host m (15 + (8 + c)) (spot_at R x next (pushed (parts_of before count v) temps) between calls pending h.1)),
        ),
      ))))
      stands)

  member_case : (t : Ty) (e : TypedExpr) (before : ℕ) (b : Bool) → is_place e ≡ b → Runs e → Runs (member t e before)
  member_case t e before true h r = member_there t e before h
  member_case t e before false h r = member_out t e before h r

  pub member_runs : (t : Ty) (e : TypedExpr) (before : ℕ) → Runs e → Runs (member t e before)
  member_runs t e before r = member_case t e before (is_place e) refl r

  -- ---- prefix operators

  unary_runs : (e : TypedExpr) (o : PrefixOperator) (op : PlainOp) → Runs e
      → ((f : Frame) → act host.table op f ≡ moved op f) → ((stack : List Cell) → cells_after op x.self (record { cells = stack; bp = x.bp }) ≡ of_int (prefixed o) stack)
      → is_division op ≡ false → ((place : ℕ) (stack : List Cell) → place_after op place stack ≡ place + op_size op)
      → (scope : List ℕ) (size n depth place c : ℕ) (p : Progress) (K : Kept R x scope size p.globals p.locals p.world) (temps between : List Cell) (calls : List ℕ) (pending : List Saved)
      → IsFine host.table functions x scope e → type_of e ≡ IntTy → (t : Ty) → t ≡ IntTy
      → LinesStand x.code x.places place (emit x.layout n depth e ++ Instruction op ∷ [])
      → length temps + size ≡ depth → p.left ≤ most → AreHeld temps
      → Sim host R (HoldsValue R x scope size t) (value_place R x scope size t (place + lines_size (emit x.layout n depth e ++ Instruction op ∷ [])) temps between calls pending)
      p.left c (spot_at R x place temps between calls pending K) (value_credits c) (bind (value_of scope e p) (λ parts q. spend q (λ r. Gives (one_int (prefixed o) parts) r)))
  unary_runs e o op r acts after undivided passes scope size n depth place c p K temps between calls pending fine int t is_int stands deep le held =
      let value = emit x.layout n depth e in
      let b = both_stand x.code x.places place value (Instruction op ∷ []) stands in
      let middle = place + lines_size value in
      let next = place + lines_size (value ++ Instruction op ∷ []) in
      let goes : middle + op_size op ≡ next = let h = sizes value (Instruction op ∷ []) in omega (arith, h) in
      sim_bind host R (HoldsValue R x scope size (type_of e)) (value_place R x scope size (type_of e) middle temps between calls pending)
      (HoldsValue R x scope size t) (value_place R x scope size t next temps between calls pending) p.left c (spot_at R x place temps between calls pending K) (value_credits c) (value_credits c)
      (value_of scope e p) (λ parts q. spend q (λ r. Gives (one_int (prefixed o) parts) r))
      (r scope size n depth place c p K temps between calls pending fine b.0 deep le held)
      (λ v q h less.
      let ints = int_types x.layout.structs v (type_of e) int h.0 in
      let rest = h.1.frame ++ (between ++ h.1.under) in
      sim_paid host R (HoldsValue R x scope size t) (value_place R x scope size t next temps between calls pending)
      (8 + c) (spot_at R x middle (pushed v temps) between calls pending h.1) (value_credits c)
      q (λ r. Gives (one_int (prefixed o) v) r) h.1.alike
      (λ m left. (
        spot_at R x next (pushed (one_int (prefixed o) v) temps) between calls pending h.1,
        over_frame middle next v (one_int (prefixed o) v) temps rest calls pending h.1.machine
            (one_goes host x listed middle next op (prefixed o) v (temps ++ rest) calls pending h.1.machine b.1.0 (acts (at x middle (pushed v (temps ++ rest)) calls pending h.1.machine).running)
            (after (pushed v (temps ++ rest))) (ap (λ d. d && zero_on_top (pushed v (temps ++ rest))) undivided) (passes middle (pushed v (temps ++ rest)) ∙ goes) ints),
        (
          (one_typed (prefixed o) v ints ∙ ap (cell_types x.layout.structs) (sym is_int), h.1),
          took_less host (8 + c) (omega arith) (took_none host m (15 + (8 + c)) (spot_at R x next (pushed (one_int (prefixed o) v) temps) between calls pending h.1)),
        ),
      )))

  minus_runs : (t : Ty) (e : TypedExpr) → Runs e → Runs (prefix t pre.Minus e)
  unfolding act cells_after
  minus_runs t e r scope size n depth place c p K temps between calls pending fine stands deep le held =
      unary_runs e pre.Minus (ops.Neg 0x03) r (λ f. refl) (λ stack. refl) refl
      (λ at_place stack. refl) scope size n depth place c p K temps between calls pending fine.0 fine.1 t fine.2 stands deep le held

  complement_runs : (t : Ty) (e : TypedExpr) → Runs e → Runs (prefix t pre.Complement e)
  unfolding act cells_after
  complement_runs t e r scope size n depth place c p K temps between calls pending fine stands deep le held =
      unary_runs e pre.Complement ops.Comp r (λ f. refl) (λ stack. refl) refl
      (λ at_place stack. refl) scope size n depth place c p K temps between calls pending fine.0 fine.1 t fine.2 stands deep le held

  not_runs : (t : Ty) (e : TypedExpr) → Runs e → Runs (prefix t pre.Not e)
  unfolding act cells_after
  not_runs t e r scope size n depth place c p K temps between calls pending fine stands deep le held =
      unary_runs e pre.Not ops.Not r (λ f. refl) (λ stack. refl) refl (λ at_place stack. refl) scope size n depth place c p K temps between calls pending fine.0 fine.1 t fine.2 stands deep le held

  -- ---- counting in place

  spot_typed : (scope : List ℕ) (size : ℕ) (t : Ty) (s : Spot) → IsSpot x scope t s → (p : Progress) → Kept R x scope size p.globals p.locals p.world
      → value_types (read_at s (length (cell_types x.layout.structs t)) p) ≡ cell_types x.layout.structs t
  spot_typed scope size t (OfLocal n b) f p K = part_types_are (part_types x n) b (cell_types x.layout.structs t) (p.locals n) f.1 (K.local_values.typed n f.0)
  spot_typed scope size t (OfGlobal n b) f p K = part_types_are (part_types x n) b (cell_types x.layout.structs t) (p.globals n) f.2 (K.global_values.typed n f.0)

  abbrev SixBytes : (ℕ → Home → PlainOp) → Type 0
  SixBytes op = (depth : ℕ) (h : Home) → op_size (op depth h) ≡ 6

  -- the new int is given
  count_first : (f : ℤ → ℤ) (op : ℕ → Home → PlainOp) → InFrameCounts host R x listed f op → InGlobalsCounts host R x listed f op → SixBytes op
      → (t : Ty) (e : TypedExpr) (scope : List ℕ) (size n depth place c : ℕ) (p : Progress)
      (K : Kept R x scope size p.globals p.locals p.world) (temps between : List Cell) (calls : List ℕ)
      (pending : List Saved)
      → is_place e ≡ true → IsFine host.table functions x scope e → type_of e ≡ IntTy → t ≡ IntTy → length temps + size ≡ depth
      → CodeRuns scope size place c p t (stepped (spot e) (one_int f) (λ old new. new) p) temps between calls pending (spot_at R x place temps between calls pending K)
      (at_home (op depth) (home x.layout e) ++ emit x.layout n depth e)
  count_first f op in_frame in_globals six t e scope size n depth place c p K temps between calls pending there fine int is_int deep =
      let found = spot_of host.table functions x scope e there fine in
      let s = found.where_is in
      let h = home_of x scope s in
      let of_int = subst (λ (u : Ty). IsSpot x scope u s) int found.fine in
      let code = Instruction (op depth h) ∷ Instruction (read x.layout depth 1 h) ∷ [] in
      let is = ap (λ o. at_home (op depth) o ++ emit x.layout n depth e) found.home_is
      ∙ ap (λ ls. Instruction (op depth h) ∷ ls)
      (place_code x.layout n depth e h there found.home_is
      ∙ ap (λ (u : Ty). Instruction (read x.layout depth (length (cell_types x.layout.structs u)) h) ∷ []) int) in
      let middle = place + op_size (op depth h) in
      let next = place + lines_size code in
      let first : place + 6 ≡ middle = ap (λ k. place + k) (sym (six depth h)) in
      let second : middle + 8 ≡ next = goes_on middle depth 1 h ∙ sums place (op_size (op depth h)) (lines_size (Instruction (read x.layout depth 1 h) ∷ [])) in
      subst (λ o. CodeRuns scope size place c p t (stepped o (one_int f) (λ old new. new) p) temps between calls pending
      (spot_at R x place temps between calls pending K)
      (at_home (op depth) (home x.layout e) ++ emit x.layout n depth e)) (sym found.is)
      (by_code scope size place c p t (stepped (Some s) (one_int f) (λ old new. new) p) temps between calls pending (spot_at R x place temps between calls pending K)
      (at_home (op depth) (home x.layout e) ++ emit x.layout n depth e) code is
      (λ lines. sim_paid host R (HoldsValue R x scope size t) (value_place R x scope size t next temps between calls pending) c (spot_at R x place temps between calls pending K) (value_credits c) p
      (λ q. Gives (one_int f (read_at s 1 q)) (written_at s (one_int f (read_at s 1 q)) q)) K.alike
      (λ m left.
      let q = record p { left = m } in
      let old_typed = spot_typed scope size IntTy s of_int q K in
      let new = one_int f (read_at s 1 q) in
      let new_typed = one_typed f (read_at s 1 q) old_typed in
      let put = spot_counts host R x listed f op in_frame in_globals scope size s of_int q place middle depth temps between calls pending K lines.0 first deep in
      let got = spot_reads host R x listed scope size IntTy s of_int (written_at s new q) middle next depth temps between calls pending put.kept lines.1.0 second deep in
      let same = read_written x scope IntTy s K.under K.frame q new 1 of_int K.global_values K.local_values (typed_length new (IntTy ∷ []) new_typed) in
      let goes = got.goes ∙ ap (λ v. Some (Goes (spot_at R x next (pushed v temps) between calls pending put.kept))) same in (
        spot_at R x middle temps between calls pending put.kept,
        put.goes,
        (
          (new_typed ∙ ap (cell_types x.layout.structs) (sym is_int), put.kept),
          subst (λ k. Took host m (15 + c) (spot_at R x middle temps between calls pending put.kept) k (8 + c)
              (spot_at R x next (pushed new temps) between calls pending put.kept)) (sym (written_left s new q))
              (took_cost host m (15 + c) (8 + c) (spot_at R x middle temps between calls pending put.kept) (spot_at R x next (pushed new temps) between calls pending put.kept) (omega arith) goes),
        ),
      ))))

  -- the old int is given
  count_after : (f : ℤ → ℤ) (op : ℕ → Home → PlainOp) → InFrameCounts host R x listed f op → InGlobalsCounts host R x listed f op → SixBytes op
      → (t : Ty) (e : TypedExpr) (scope : List ℕ) (size n depth place c : ℕ) (p : Progress)
      (K : Kept R x scope size p.globals p.locals p.world) (temps between : List Cell) (calls : List ℕ)
      (pending : List Saved)
      → is_place e ≡ true → IsFine host.table functions x scope e → type_of e ≡ IntTy → t ≡ IntTy → length temps + size ≡ depth
      → CodeRuns scope size place c p t (stepped (spot e) (one_int f) (λ old new. old) p) temps between calls pending (spot_at R x place temps between calls pending K)
      (emit x.layout n depth e ++ at_home (op (depth + 1)) (home x.layout e))
  count_after f op in_frame in_globals six t e scope size n depth place c p K temps between calls pending there fine int is_int deep =
      let found = spot_of host.table functions x scope e there fine in
      let s = found.where_is in
      let h = home_of x scope s in
      let of_int = subst (λ (u : Ty). IsSpot x scope u s) int found.fine in
      let code = Instruction (read x.layout depth 1 h) ∷ Instruction (op (depth + 1) h) ∷ [] in
      let is = ap (λ o. emit x.layout n depth e ++ at_home (op (depth + 1)) o) found.home_is
      ∙ ap (λ ls. ls ++ Instruction (op (depth + 1) h) ∷ [])
      (place_code x.layout n depth e h there found.home_is
      ∙ ap (λ (u : Ty). Instruction (read x.layout depth (length (cell_types x.layout.structs u)) h) ∷ []) int) in
      let middle = place + op_size (read x.layout depth 1 h) in
      let next = place + lines_size code in
      let first : place + 8 ≡ middle = goes_on place depth 1 h ∙ alone place (op_size (read x.layout depth 1 h)) in
      let second : middle + 6 ≡ next = ap (λ k. middle + k) (sym (six (depth + 1) h)) ∙ ends place (op_size (read x.layout depth 1 h)) (op_size (op (depth + 1) h)) in
      subst (λ o. CodeRuns scope size place c p t (stepped o (one_int f) (λ old new. old) p) temps between calls pending
      (spot_at R x place temps between calls pending K)
      (emit x.layout n depth e ++ at_home (op (depth + 1)) (home x.layout e))) (sym found.is)
      (by_code scope size place c p t (stepped (Some s) (one_int f) (λ old new. old) p) temps between calls pending (spot_at R x place temps between calls pending K)
      (emit x.layout n depth e ++ at_home (op (depth + 1)) (home x.layout e)) code is
      (λ lines. sim_paid host R (HoldsValue R x scope size t) (value_place R x scope size t next temps between calls pending) c (spot_at R x place temps between calls pending K) (value_credits c) p
      (λ q. Gives (read_at s 1 q) (written_at s (one_int f (read_at s 1 q)) q)) K.alike
      (λ m left.
      let q = record p { left = m } in
      let old = read_at s 1 q in
      let new = one_int f old in
      let got = spot_reads host R x listed scope size IntTy s of_int q place middle depth temps between calls pending K lines.0 first deep in
      let size_is = pushed_length old temps in
      let one = typed_length old (IntTy ∷ []) got.typed in
      let put = spot_counts host R x listed f op in_frame in_globals scope size s of_int q middle next (depth + 1)
      (pushed old temps) between calls pending K lines.1.0 second (omega (arith, size_is, one, deep)) in (
        spot_at R x middle (pushed old temps) between calls pending K,
        got.goes,
        (
          (got.typed ∙ ap (cell_types x.layout.structs) (sym is_int), put.kept),
          subst (λ k. Took host m (15 + c) (spot_at R x middle (pushed old temps) between calls pending K) k (8 + c)
              (spot_at R x next (pushed old temps) between calls pending put.kept)) (sym (written_left s new q))
              (took_cost host m (15 + c) (8 + c) (spot_at R x middle (pushed old temps) between calls pending K)
              (spot_at R x next (pushed old temps) between calls pending put.kept) (omega arith) put.goes),
        ),
      ))))

  increment_six : SixBytes (increment x.layout)
  increment_six depth (InFrame from) = refl
  increment_six depth (InGlobals from) = refl

  decrement_six : SixBytes (decrement x.layout)
  decrement_six depth (InFrame from) = refl
  decrement_six depth (InGlobals from) = refl

  increment_runs : (t : Ty) (e : TypedExpr) → Runs (prefix t pre.Increment e)
  increment_runs t e scope size n depth place c p K temps between calls pending fine stands deep le held =
      count_first (prefixed pre.Increment) (increment x.layout) (increases_frame host R x listed)
      (increases_globals host R x listed) increment_six t e scope size n depth place c p K temps between calls pending
      (fine.3 refl) fine.0 fine.1 fine.2 deep stands

  decrement_runs : (t : Ty) (e : TypedExpr) → Runs (prefix t pre.Decrement e)
  decrement_runs t e scope size n depth place c p K temps between calls pending fine stands deep le held =
      count_first (prefixed pre.Decrement) (decrement x.layout) (decreases_frame host R x listed)
      (decreases_globals host R x listed) decrement_six t e scope size n depth place c p K temps between calls pending
      (fine.3 refl) fine.0 fine.1 fine.2 deep stands

  pub prefix_runs : (t : Ty) (o : PrefixOperator) (e : TypedExpr) → Runs e → Runs (prefix t o e)
  prefix_runs t pre.Minus e r = minus_runs t e r
  prefix_runs t pre.Complement e r = complement_runs t e r
  prefix_runs t pre.Not e r = not_runs t e r
  prefix_runs t pre.Increment e r = increment_runs t e
  prefix_runs t pre.Decrement e r = decrement_runs t e

  pub postfix_runs : (t : Ty) (o : PostfixOperator) (e : TypedExpr) → Runs (postfix t o e)
  postfix_runs t post.Increment e scope size n depth place c p K temps between calls pending fine stands deep le held =
      count_after (postfixed post.Increment) (increment x.layout) (increases_frame host R x listed)
      (increases_globals host R x listed) increment_six t e scope size n depth place c p K temps between calls pending
      fine.3 fine.0 fine.1 fine.2 deep stands
  postfix_runs t post.Decrement e scope size n depth place c p K temps between calls pending fine stands deep le held =
      count_after (postfixed post.Decrement) (decrement x.layout) (decreases_frame host R x listed)
      (decreases_globals host R x listed) decrement_six t e scope size n depth place c p K temps between calls pending
      fine.3 fine.0 fine.1 fine.2 deep stands

  -- ---- binary operators

  -- two values over the frame
  both_over : (v w : List Value) (temps rest : List Cell) → pushed w (pushed v temps) ++ rest ≡ pushed w (pushed v (temps ++ rest))
  both_over v w temps rest = pushed_over w (pushed v temps) rest ∙ ap (pushed w) (pushed_over v temps rest)

  -- the instruction of an operator, on the two values on top
  operator_runs : (o : BinaryOperator) (s t r : Ty) (v w : List Value) → binary_type o s t ≡ Some r → value_types v ≡ cell_types x.layout.structs s → value_types w ≡ cell_types x.layout.structs t
      → (scope : List ℕ) (size place next c d : ℕ) (p : Progress) (K : Kept R x scope size p.globals p.locals p.world) (temps between : List Cell) (calls : List ℕ) (pending : List Saved)
      → op_at x.code place ≡ Some (operation o s (length (cell_types x.layout.structs s))) → place + op_size (operation o s (length (cell_types x.layout.structs s))) ≡ next → 1 ≤ c → d ≤ 7 + c
      → Sim host R (HoldsValue R x scope size r)
      (value_place R x scope size r next temps between calls pending) p.left c
      (spot_at R x place (pushed w (pushed v temps)) between calls pending K) (value_credits d)
      (operated x.self o v w unwritten p)
  operator_runs o s t r v w typed tv tw scope size place next c d p K temps between calls pending begins goes some enough =
      let rest = K.frame ++ (between ++ K.under) in
      sim_chosen host R (HoldsValue R x scope size r)
      (value_place R x scope size r next temps between calls pending) p.left c
      (spot_at R x place (pushed w (pushed v temps)) between calls pending K) (value_credits d)
      (divides_by_zero o w) (λ q. Divides x.self q) (λ q. spend q (λ u. Gives (operate o v w) (unwritten (operate o v w) u))) p
      (λ zero_is. (
        spot_at R x place (pushed w (pushed v temps)) between calls pending K,
        took_less host 1 some (took_none host p.left c (spot_at R x place (pushed w (pushed v temps)) between calls pending K)),
        ap (λ t. step host (at x place t calls pending K.machine)) (both_over v w temps rest)
            ∙ operator_divides host x listed tested place x.layout.structs o s t r v w (temps ++ rest) calls pending K.machine begins typed tv tw zero_is,
        refl,
        K.alike,
      ))
      (λ other_is. sim_paid host R (HoldsValue R x scope size r)
      (value_place R x scope size r next temps between calls pending) c
      (spot_at R x place (pushed w (pushed v temps)) between calls pending K) (value_credits d)
      p (λ u. Gives (operate o v w) (unwritten (operate o v w) u)) K.alike
      (λ m left. (
        spot_at R x next (pushed (operate o v w) temps) between calls pending K,
        ap (λ t. step host (at x place t calls pending K.machine)) (both_over v w temps rest)
            ∙ operator_goes host x listed tested place next x.layout.structs o s t r v w (temps ++ rest) calls pending K.machine begins goes typed tv tw other_is
            ∙ ap (λ t. Some (Goes (at x next t calls pending K.machine))) (sym (pushed_over (operate o v w) temps rest)),
        (
          (operated_type o s t r v w typed tv tw, K),
          took_less host (8 + d) (omega (arith, enough)) (took_none host m (15 + c) (spot_at R x next (pushed (operate o v w) temps) between calls pending K)),
        ),
      )))

  -- an operator that evaluates both operands
  both_run : (t : Ty) (o : BinaryOperator) (d e : TypedExpr) → Runs d → Runs e
      → (first second : ℕ) (scope : List ℕ) (size depth place c : ℕ) (p : Progress)
      (K : Kept R x scope size p.globals p.locals p.world) (temps between : List Cell) (calls : List ℕ)
      (pending : List Saved)
      → IsFine host.table functions x scope d → IsFine host.table functions x scope e → binary_type o (type_of d) (type_of e) ≡ Some t → length temps + size ≡ depth → p.left ≤ most → AreHeld temps
      → CodeRuns scope size place c p t
      (bind (value_of scope d p)
      (λ v q. bind (value_of scope e q) (λ w r. operated x.self o v w unwritten r))) temps between calls pending
      (spot_at R x place temps between calls pending K)
      (emit x.layout first depth d
      ++ (emit x.layout second (depth + length (cell_types x.layout.structs (type_of d))) e
      ++ Instruction (operation o (type_of d) (length (cell_types x.layout.structs (type_of d)))) ∷ []))
  both_run t o d e rd re first second scope size depth place c p K temps between calls pending fine_d fine_e typed deep le held lines =
      let structs = x.layout.structs in
      let wide = length (cell_types structs (type_of d)) in
      let op = Instruction (operation o (type_of d) wide) ∷ [] in
      let left = emit x.layout first depth d in
      let right = emit x.layout second (depth + wide) e in
      let a = both_stand x.code x.places place left (right ++ op) lines in
      let one = place + lines_size left in
      let b = both_stand x.code x.places one right op a.1 in
      let two = one + lines_size right in
      let next = place + lines_size (left ++ (right ++ op)) in
      let goes : two + op_size (operation o (type_of d) wide) ≡ next = let h = sizes left (right ++ op) in let k = sizes right op in omega (arith, h, k) in
      sim_bind host R (HoldsValue R x scope size (type_of d)) (value_place R x scope size (type_of d) one temps between calls pending)
      (HoldsValue R x scope size t) (value_place R x scope size t next temps between calls pending) p.left c (spot_at R x place temps between calls pending K) (value_credits c) (value_credits c)
      (value_of scope d p) (λ v q. bind (value_of scope e q) (λ w r. operated x.self o v w unwritten r))
      (rd scope size first depth place c p K temps between calls pending fine_d a.0 deep le held)
      (λ v q h less.
      let long = typed_length v (cell_types structs (type_of d)) h.0 in
      let size_is = pushed_length v temps in
      sim_bind host R (HoldsValue R x scope size (type_of e)) (value_place R x scope size (type_of e) two (pushed v temps) between calls pending)
      (HoldsValue R x scope size t) (value_place R x scope size t next temps between calls pending) q.left (8 + c)
      (spot_at R x one (pushed v temps) between calls pending h.1) (value_credits (8 + c)) (value_credits c)
      (value_of scope e q) (λ w r. operated x.self o v w unwritten r)
      (re scope size second (depth + wide) one (8 + c) q h.1 (pushed v temps) between calls pending fine_e b.0
      (omega (arith, long, size_is, deep)) (omega (arith, less, le)) (held_pushed v temps held))
      (λ w r k fewer. operator_runs o (type_of d) (type_of e) t v w typed h.0 k.0 scope size two next (8 + (8 + c)) c r k.1 temps between calls pending b.1.0 goes (omega arith) (omega arith)))

  -- ---- `&&` and `||`

  is_nothing : (a : ℤ) → is_zero a ≡ true → a ≡ pos 0
  is_nothing a h = (Decides-int_eq a (pos 0)).0 h

  not_true : (b : Bool) → not b ≡ true → b ≡ false
  not_true false h = refl
  not_true true h = absurd cc

  not_false : (b : Bool) → not b ≡ false → b ≡ true
  not_false true h = refl
  not_false false h = absurd cc

  and_runs : (t : Ty) (d e : TypedExpr) → Runs d → Runs e → Runs (binary t bin.And d e)
  and_runs t d e rd re scope size n depth place c p K temps between calls pending fine stands deep le held =
      let structs = x.layout.structs in
      let ints = are_ints (type_of d) (type_of e) t fine.2 in
      let wide = length (cell_types structs (type_of d)) in
      let op = Instruction (operation bin.And (type_of d) wide) ∷ Label n ∷ [] in
      let left = emit x.layout (n + 1) depth d in
      let right = emit x.layout (n + 1 + labels d) (depth + wide) e in
      let behind = top_again ∷ JumpTo Jz n ∷ (right ++ op) in
      let a = both_stand x.code x.places place left behind stands in
      let one = place + lines_size left in
      let b = both_stand x.code x.places (one + 8 + 6) right op a.1.1.1 in
      let two = one + 8 + 6 + lines_size right in
      let next = place + lines_size (left ++ behind) in
      let ending : two + 2 ≡ next = let h = sizes left behind in let k = sizes right op in omega (arith, h, k) in
      let B = HoldsValue R x scope size t in
      let there = value_place R x scope size t next temps between calls pending in
      sim_bind host R (HoldsValue R x scope size (type_of d)) (value_place R x scope size (type_of d) one temps between calls pending) B there
      p.left c (spot_at R x place temps between calls pending K) (value_credits c) (value_credits c)
      (value_of scope d p) (λ v q. chosen (is_true v) (λ r. bind (value_of scope e r) (λ w s. operated x.self bin.And v w unwritten s)) (λ r. spend r (λ s. Gives (test_value false) s)) q)
      (rd scope size (n + 1) depth place c p K temps between calls pending fine.0 a.0 deep le held)
      (λ v q h less.
      let value = as_int_value v (int_types structs v (type_of d) ints.left h.0) in
      let typed = subst (λ (u : List Value). value_types u ≡ cell_types structs (type_of d)) value.1 h.0 in
      let number = value.0 in
      let L = h.1 in
      let rest = L.frame ++ (between ++ L.under) in
      let s0 = spot_at R x one (Holds (Int number) ∷ temps) between calls pending L in
      let s1 = spot_at R x (one + 8) (Holds (Int number) ∷ Holds (Int number) ∷ temps) between calls pending L in
      let first : step host s0 ≡ Some (Goes s1) = top_copied host x listed one (one + 8) (Int number) (temps ++ rest) calls pending L.machine a.1.0 refl in
      subst (λ u. Sim host R B there q.left (8 + c) (spot_at R x one (pushed u temps) between calls pending L) (value_credits c)
      (chosen (is_true u) (λ r. bind (value_of scope e r) (λ w s. operated x.self bin.And u w unwritten s)) (λ r. spend r (λ s. Gives (test_value false) s)) q)) (sym value.1)
      (sim_chosen host R B there q.left (8 + c) s0 (value_credits c) (is_true (Int number ∷ []))
      (λ r. bind (value_of scope e r) (λ w s. operated x.self bin.And (Int number ∷ []) w unwritten s)) (λ r. spend r (λ s. Gives (test_value false) s)) q
      (λ holds.
      let nonzero = not_true (is_zero number) holds in
      let s2 = spot_at R x (one + 8 + 6) (Holds (Int number) ∷ temps) between calls pending L in
      let second : step host s1
      ≡ Some (Goes s2) = other_passes host x listed (one + 8) (one + 8 + 6) _ number
      (Holds (Int number) ∷ (temps ++ rest)) calls pending L.machine a.1.1.0.begins nonzero refl in
      sim_after host R B there (value_credits c) (bind (value_of scope e q) (λ w s. operated x.self bin.And (Int number ∷ []) w unwritten s))
      (took_then host (took_cost host q.left (8 + c) (7 + c) s0 s1 (omega arith) first) (took_cost host q.left (7 + c) (6 + c) s1 s2 (omega arith) second))
      (sim_bind host R (HoldsValue R x scope size (type_of e)) (value_place R x scope size (type_of e) two (Holds (Int number) ∷ temps) between calls pending) B there
      q.left (6 + c) s2 (value_credits (6 + c)) (value_credits c) (value_of scope e q) (λ w s. operated x.self bin.And (Int number ∷ []) w unwritten s)
      (re scope size (n + 1 + labels d) (depth + wide) (one + 8 + 6) (6 + c) q L (Holds (Int number) ∷ temps) between calls pending fine.1 b.0
      (let long = typed_length (Int number ∷ []) (cell_types structs (type_of d)) typed in omega (arith, long, deep)) (omega (arith, less, le)) (tt, held))
      (λ w r k fewer. operator_runs bin.And (type_of d) (type_of e) t
      (Int number ∷ []) w fine.2 typed k.0 scope size two next
      (8 + (6 + c)) c r k.1 temps between calls pending b.1.0 ending (omega arith) (omega arith))))
      (λ fails.
      let nothing = not_false (is_zero number) fails in
      let s2 = spot_at R x next (Holds (Int number) ∷ temps) between calls pending L in
      let label : x.places n ≡ next = b.1.1.0 ∙ ending in
      let second : step host s1
      ≡ Some (Goes s2) = zero_jumps host x listed (one + 8) next _ number
      (Holds (Int number) ∷ (temps ++ rest)) calls pending L.machine a.1.1.0.begins nothing
      (a.1.1.0.leads ∙ label) in
      let same : Int number ≡ Int (pos 0) = ap Int (is_nothing number nothing) in
      sim_after host R B there (value_credits c) (spend q (λ s. Gives (test_value false) s)) (took_cost host q.left (8 + c) (7 + c) s0 s1 (omega arith) first)
      (sim_paid host R B there (7 + c) s1 (value_credits c) q (λ s. Gives (test_value false) s) L.alike
      (λ m gone. (
        s2,
        second,
        (
          (ap (cell_types structs) (sym ints.result), L),
          subst (λ u. Took host m (15 + (7 + c)) s2 m (8 + c)
              (spot_at R x next (Holds u ∷ temps) between calls pending L)) same
              (took_less host (8 + c) (omega arith) (took_none host m (15 + (7 + c)) s2)),
        ),
      ))))))

  or_runs : (t : Ty) (d e : TypedExpr) → Runs d → Runs e → Runs (binary t bin.Or d e)
  or_runs t d e rd re scope size n depth place c p K temps between calls pending fine stands deep le held =
      let structs = x.layout.structs in
      let ints = are_ints (type_of d) (type_of e) t fine.2 in
      let wide = length (cell_types structs (type_of d)) in
      let op = Instruction (operation bin.Or (type_of d) wide) in
      let ending_lines = op ∷ Label (n + 1) ∷ [] in
      let left = emit x.layout (n + 2) depth d in
      let right = emit x.layout (n + 2 + labels d) (depth + wide) e in
      let behind = top_again ∷ JumpTo Jz n ∷ int_constant (pos 1) ∷ op ∷ JumpTo Jmp (n + 1) ∷ Label n ∷ (right ++ ending_lines) in
      let a = both_stand x.code x.places place left behind stands in
      let one = place + lines_size left in
      let start = one + 8 + 6 + 6 + 2 + 6 + 0 in
      let b = both_stand x.code x.places start right ending_lines a.1.1.1.1.1.1.1 in
      let two = start + lines_size right in
      let next = place + lines_size (left ++ behind) in
      let ending : two + 2 ≡ next = let h = sizes left behind in let k = sizes right ending_lines in omega (arith, h, k) in
      let B = HoldsValue R x scope size t in
      let there = value_place R x scope size t next temps between calls pending in
      sim_bind host R (HoldsValue R x scope size (type_of d)) (value_place R x scope size (type_of d) one temps between calls pending) B there
      p.left c (spot_at R x place temps between calls pending K) (value_credits c) (value_credits c)
      (value_of scope d p) (λ v q. chosen (is_true v) (λ r. spend r (λ s. Gives (test_value true) s)) (λ r. bind (value_of scope e r) (λ w s. operated x.self bin.Or v w unwritten s)) q)
      (rd scope size (n + 2) depth place c p K temps between calls pending fine.0 a.0 deep le held)
      (λ v q h less.
      let value = as_int_value v (int_types structs v (type_of d) ints.left h.0) in
      let typed = subst (λ (u : List Value). value_types u ≡ cell_types structs (type_of d)) value.1 h.0 in
      let number = value.0 in
      let L = h.1 in
      let rest = L.frame ++ (between ++ L.under) in
      let s0 = spot_at R x one (Holds (Int number) ∷ temps) between calls pending L in
      let s1 = spot_at R x (one + 8) (Holds (Int number) ∷ Holds (Int number) ∷ temps) between calls pending L in
      let first : step host s0 ≡ Some (Goes s1) = top_copied host x listed one (one + 8) (Int number) (temps ++ rest) calls pending L.machine a.1.0 refl in
      subst (λ u. Sim host R B there q.left (8 + c) (spot_at R x one (pushed u temps) between calls pending L) (value_credits c)
      (chosen (is_true u) (λ r. spend r (λ s. Gives (test_value true) s)) (λ r. bind (value_of scope e r) (λ w s. operated x.self bin.Or u w unwritten s)) q)) (sym value.1)
      (sim_chosen host R B there q.left (8 + c) s0 (value_credits c) (is_true (Int number ∷ []))
      (λ r. spend r (λ s. Gives (test_value true) s)) (λ r. bind (value_of scope e r) (λ w s. operated x.self bin.Or (Int number ∷ []) w unwritten s)) q
      (λ holds.
      let nonzero = not_true (is_zero number) holds in
      let one_typed_as = ap (cell_types structs) (sym ints.right) in
      let s2 = spot_at R x (one + 8 + 6) (Holds (Int number) ∷ temps) between calls pending L in
      let s3 = spot_at R x (one + 8 + 6 + 6) (Holds (Int (pos 1)) ∷ Holds (Int number) ∷ temps) between calls pending L in
      let s4 = spot_at R x (one + 8 + 6 + 6 + 2) (Holds (Int (either number (pos 1))) ∷ temps) between calls pending L in
      let s5 = spot_at R x next (Holds (Int (either number (pos 1))) ∷ temps) between calls pending L in
      let second : step host s1
      ≡ Some (Goes s2) = other_passes host x listed (one + 8) (one + 8 + 6) _ number
      (Holds (Int number) ∷ (temps ++ rest)) calls pending L.machine a.1.1.0.begins nonzero refl in
      let third : step host s2 ≡ Some (Goes s3) = int_goes host x listed (one + 8 + 6) (one + 8 + 6 + 6) (pos 1) (Holds (Int number) ∷ (temps ++ rest)) calls pending L.machine a.1.1.1.0 refl in
      let fourth : step host s3 ≡ Some (Goes s4) =
      operator_goes host x listed tested (one + 8 + 6 + 6) (one + 8 + 6 + 6 + 2) structs bin.Or (type_of d)
      (type_of e) t (Int number ∷ []) (Int (pos 1) ∷ [])
      (temps ++ rest) calls pending L.machine a.1.1.1.1.0 refl fine.2 typed one_typed_as refl in
      let label : x.places (n + 1) ≡ next = b.1.1.0 ∙ ending in
      let fifth : step host s4 ≡ Some (Goes s5) = jump_goes host x listed (one + 8 + 6 + 6 + 2) next _
      (Holds (Int (either number (pos 1))) ∷ (temps ++ rest)) calls pending L.machine a.1.1.1.1.1.0.begins
      (a.1.1.1.1.1.0.leads ∙ label) in
      let same : Int (either number (pos 1)) ≡ Int (pos 1) = ap (λ (z : Bool). Int (as_int (not z || true))) nonzero in
      sim_paid host R B there (8 + c) s0 (value_credits c) q (λ s. Gives (test_value true) s) L.alike
      (λ m gone. (
        s1,
        first,
        (
          (ap (cell_types structs) (sym ints.result), L),
          subst (λ u. Took host m (15 + (8 + c)) s1 m (8 + c) (spot_at R x next (Holds u ∷ temps) between calls pending L)) same
              (took_then host (took_cost host m (15 + (8 + c)) (20 + c) s1 s2 (omega arith) second)
              (took_then host (took_cost host m (20 + c) (19 + c) s2 s3 (omega arith) third)
              (took_then host (took_cost host m (19 + c) (18 + c) s3 s4 (omega arith) fourth) (took_cost host m (18 + c) (8 + c) s4 s5 (omega arith) fifth)))),
        ),
      )))
      (λ fails.
      let nothing = not_false (is_zero number) fails in
      let s2 = spot_at R x start (Holds (Int number) ∷ temps) between calls pending L in
      let label : x.places n ≡ start = a.1.1.1.1.1.1.0 ∙ omega arith in
      let second : step host s1
      ≡ Some (Goes s2) = zero_jumps host x listed (one + 8) start _ number
      (Holds (Int number) ∷ (temps ++ rest)) calls pending L.machine a.1.1.0.begins nothing
      (a.1.1.0.leads ∙ label) in
      sim_after host R B there (value_credits c) (bind (value_of scope e q) (λ w s. operated x.self bin.Or (Int number ∷ []) w unwritten s))
      (took_then host (took_cost host q.left (8 + c) (7 + c) s0 s1 (omega arith) first) (took_cost host q.left (7 + c) (6 + c) s1 s2 (omega arith) second))
      (sim_bind host R (HoldsValue R x scope size (type_of e)) (value_place R x scope size (type_of e) two (Holds (Int number) ∷ temps) between calls pending) B there
      q.left (6 + c) s2 (value_credits (6 + c)) (value_credits c) (value_of scope e q) (λ w s. operated x.self bin.Or (Int number ∷ []) w unwritten s)
      (re scope size (n + 2 + labels d) (depth + wide) start (6 + c) q L (Holds (Int number) ∷ temps) between calls pending fine.1 b.0
      (let long = typed_length (Int number ∷ []) (cell_types structs (type_of d)) typed in omega (arith, long, deep)) (omega (arith, less, le)) (tt, held))
      (λ w r k fewer. operator_runs bin.Or (type_of d) (type_of e) t
      (Int number ∷ []) w fine.2 typed k.0 scope size two next
      (8 + (6 + c)) c r k.1 temps between calls pending b.1.0 ending (omega arith) (omega arith))))))

  -- an operator that isn't one of these two
  plain_runs : (t : Ty) (o : BinaryOperator) (d e : TypedExpr) → shortcut o ≡ Never
      → ((scope : List ℕ) (p : Progress)
      → combined x.self o (λ q. value_of scope d q) (λ q. value_of scope e q) p
      ≡ bind (value_of scope d p) (λ v q. bind (value_of scope e q) (λ w r. operated x.self o v w unwritten r)))
      → Runs d → Runs e → Runs (binary t o d e)
  plain_runs t o d e never both rd re scope size n depth place c p K temps between calls pending fine stands deep le held =
      let wide = length (cell_types x.layout.structs (type_of d)) in
      let code = λ (k : Shortcut). binary_code n k (operation o (type_of d) wide) (emit x.layout (n + shortcut_labels k) depth d) (emit x.layout (n + shortcut_labels k + labels d) (depth + wide) e) in
      subst (λ (out : Outcome (List Value)). CodeRuns scope size place c p t out temps between calls pending (spot_at R x place temps between calls pending K) (code (shortcut o))) (sym (both scope p))
      (subst (λ (k : Shortcut). CodeRuns scope size place c p t
      (bind (value_of scope d p)
      (λ v q. bind (value_of scope e q) (λ w r. operated x.self o v w unwritten r))) temps between calls pending
      (spot_at R x place temps between calls pending K)
      (binary_code n k (operation o (type_of d) wide) (emit x.layout (n + shortcut_labels k) depth d) (emit x.layout (n + shortcut_labels k + labels d) (depth + wide) e))) (sym never)
      (both_run t o d e rd re (n + 0) (n + 0 + labels d) scope size depth place c p K temps between calls pending fine.0 fine.1 fine.2 deep le held))
      stands

  pub binary_runs : (t : Ty) (o : BinaryOperator) (d e : TypedExpr) → Runs d → Runs e → Runs (binary t o d e)
  binary_runs t bin.Or d e rd re = or_runs t d e rd re
  binary_runs t bin.And d e rd re = and_runs t d e rd re
  binary_runs t o d e rd re = plain_runs t o d e refl (λ scope p. refl) rd re

  -- ---- assignments

  -- the code and the meaning of an assignment to what has a home and a spot
  set_runs : (t : Ty) (d e : TypedExpr) → Runs e → Runs (assign t asg.Set d e)
  set_runs t d e re scope size n depth place c p K temps between calls pending fine stands deep le held =
      let structs = x.layout.structs in
      let same = if_some (same_type (type_of d) (type_of e)) (type_of d) t fine.3 in
      let of_place : type_of d ≡ t = same.1 in
      let of_value : type_of e ≡ t = sym (same_types (type_of d) (type_of e) same.0) ∙ same.1 in
      let wide = length (cell_types structs t) in
      let found = spot_of host.table functions x scope d fine.2 fine.0 in
      let s = found.where_is in
      let h = home_of x scope s in
      let spot_fine = subst (λ (u : Ty). IsSpot x scope u s) of_place found.fine in
      let right = emit x.layout n (depth + 0) e in
      let store = Instruction (write x.layout (depth + wide) wide h) ∷ [] in
      let is : emit x.layout n depth (assign t asg.Set d e) ≡ right ++ store = ap (λ o. right ++ at_home (write x.layout (depth + wide) wide) o) found.home_is in
      let B = HoldsValue R x scope size t in
      subst (λ o. CodeRuns scope size place c p t
      (assigned x.self None o wide (λ q. value_of scope e q) p) temps between calls pending
      (spot_at R x place temps between calls pending K) (emit x.layout n depth (assign t asg.Set d e)))
      (sym found.is)
      (by_code scope size place c p t (assigned x.self None (Some s) wide (λ q. value_of scope e q) p) temps between calls pending (spot_at R x place temps between calls pending K)
      (emit x.layout n depth (assign t asg.Set d e)) (right ++ store) is
      (λ lines.
      let b = both_stand x.code x.places place right store lines in
      let middle = place + lines_size right in
      let next = place + lines_size (right ++ store) in
      let goes : middle + 8 ≡ next = let h1 = sizes right store in let h2 = written_on middle (depth + wide) wide h in omega (arith, h1, h2) in
      sim_bind host R (HoldsValue R x scope size (type_of e))
      (value_place R x scope size (type_of e) middle temps between calls pending) B
      (value_place R x scope size t next temps between calls pending)
      p.left c (spot_at R x place temps between calls pending K) (value_credits c) (value_credits c) (value_of scope e p) (λ parts q. spend q (λ r. Gives parts (written_at s parts r)))
      (re scope size n (depth + 0) place c p K temps between calls pending fine.1 b.0 (omega (arith, deep)) le held)
      (λ v q there less.
      let typed : value_types v ≡ cell_types structs t = there.0 ∙ ap (cell_types structs) of_value in
      sim_paid host R B (value_place R x scope size t next temps between calls pending) (8 + c) (spot_at R x middle (pushed v temps) between calls pending there.1) (value_credits c)
      q (λ r. Gives v (written_at s v r)) there.1.alike
      (λ m left.
      let r = record q { left = m } in
      let put = spot_writes host R x listed scope size t s spot_fine r v typed middle next depth temps between calls pending there.1 b.1.0 goes deep in (
        spot_at R x next (pushed v temps) between calls pending put.kept,
        put.goes,
        (
          (typed, put.kept),
          subst (λ k. Took host m (15 + (8 + c)) (spot_at R x next (pushed v temps) between calls pending put.kept) k
              (8 + c) (spot_at R x next (pushed v temps) between calls pending put.kept)) (sym (written_left s v r))
              (took_less host (8 + c) (omega arith) (took_none host m (15 + (8 + c)) (spot_at R x next (pushed v temps) between calls pending put.kept))),
        ),
      )))))
      stands

  -- `o=` for an operator: the place is read, the value follows, the operator is applied, and the
  -- place is written
  compound_lines : ℕ → ℕ → BinaryOperator → Ty → TypedExpr → Home → List Line
  compound_lines n depth b t e h =
      Instruction (read x.layout depth (length (cell_types x.layout.structs t)) h)
      ∷ (emit x.layout n (depth + length (cell_types x.layout.structs t)) e
      ++ (Instruction (operation b t (length (cell_types x.layout.structs t)))
      ∷ Instruction (write x.layout (depth + length (cell_types x.layout.structs t)) (length (cell_types x.layout.structs t)) h) ∷ []))

  compound_runs : (t : Ty) (b : BinaryOperator) (e : TypedExpr) (s : Spot) → Runs e
      → (scope : List ℕ) (size n depth place c : ℕ) (p : Progress) (K : Kept R x scope size p.globals p.locals p.world) (temps between : List Cell) (calls : List ℕ) (pending : List Saved)
      → IsSpot x scope t s → IsFine host.table functions x scope e → binary_type b t (type_of e) ≡ Some t → length temps + size ≡ depth → p.left ≤ most → AreHeld temps
      → CodeRuns scope size place c p t
      (assigned x.self (Some b) (Some s) (length (cell_types x.layout.structs t))
      (λ q. value_of scope e q) p) temps between calls pending (spot_at R x place temps between calls pending K)
      (compound_lines n depth b t e (home_of x scope s))
  unfolding compound_lines
  compound_runs t b e s re scope size n depth place c p K temps between calls pending spot_fine fine typed deep le held lines =
      let structs = x.layout.structs in
      let wide = length (cell_types structs t) in
      let h = home_of x scope s in
      let load = read x.layout depth wide h in
      let right = emit x.layout n (depth + wide) e in
      let op = operation b t wide in
      let store = write x.layout (depth + wide) wide h in
      let last = Instruction op ∷ Instruction store ∷ [] in
      let one = place + op_size load in
      let first : place + 8 ≡ one = goes_on place depth wide h ∙ alone place (op_size load) in
      let a = both_stand x.code x.places one right last lines.1 in
      let two = one + lines_size right in
      let three = two + op_size op in
      let next = place + lines_size (Instruction load ∷ (right ++ last)) in
      let third : three + 8 ≡ next =
      let h1 = sizes right last in let h2 = written_on three (depth + wide) wide h in omega (arith, h1, h2) in
      let B = HoldsValue R x scope size t in
      let there = value_place R x scope size t next temps between calls pending in
      sim_paid host R B there c (spot_at R x place temps between calls pending K) (value_credits c) p
      (λ q. bind (value_of scope e q) (λ w r. operated x.self b (read_at s wide q) w (written_at s) r)) K.alike
      (λ m left.
      let q = record p { left = m } in
      let old = read_at s wide q in
      let got = spot_reads host R x listed scope size t s spot_fine q place one depth temps between calls pending K lines.0 first deep in
      let size_is = pushed_length old temps in
      let long = typed_length old (cell_types structs t) got.typed in
      let s1 = spot_at R x one (pushed old temps) between calls pending K in (
        s1,
        got.goes,
        sim_bind host R (HoldsValue R x scope size (type_of e)) (value_place R x scope size (type_of e) two (pushed old temps) between calls pending) B there
            m (15 + c) s1 (value_credits (15 + c)) (value_credits c) (value_of scope e q) (λ w r. operated x.self b old w (written_at s) r)
            (re scope size n (depth + wide) one (15 + c) q K (pushed old temps) between calls pending fine a.0
            (omega (arith, size_is, long, deep)) (omega (arith, left, le)) (held_pushed old temps held))
            (λ w r result less.
            let L = result.1 in
            let rest = L.frame ++ (between ++ L.under) in
            let s2 = spot_at R x two (pushed w (pushed old temps)) between calls pending L in
            sim_chosen host R B there r.left (8 + (15 + c)) s2 (value_credits c) (divides_by_zero b w)
            (λ u. Divides x.self u) (λ u. spend u
            (λ z. Gives (operate b old w) (written_at s (operate b old w) z))) r
            (λ zero_is. (
              s2,
              took_less host 1 (omega arith) (took_none host r.left (8 + (15 + c)) s2),
              ap (λ t. step host (at x two t calls pending L.machine)) (both_over old w temps rest)
                  ∙ operator_divides host x listed tested two structs b t (type_of e) t old w (temps ++ rest) calls pending L.machine a.1.0 typed got.typed result.0 zero_is,
              refl,
              L.alike,
            ))
            (λ other_is. sim_paid host R B there (8 + (15 + c)) s2 (value_credits c) r (λ z. Gives (operate b old w) (written_at s (operate b old w) z)) L.alike
            (λ k gone.
            let z = record r { left = k } in
            let new = operate b old w in
            let new_typed = operated_type b t (type_of e) t old w typed got.typed result.0 in
            let s3 = spot_at R x three (pushed new temps) between calls pending L in
            let put = spot_writes host R x listed scope size t s spot_fine z new new_typed three next depth temps between calls pending L a.1.1.0 third deep in
            let s4 = spot_at R x next (pushed new temps) between calls pending put.kept in (
              s3,
              ap (λ t. step host (at x two t calls pending L.machine)) (both_over old w temps rest)
                  ∙ operator_goes host x listed tested two three structs b t (type_of e) t old w (temps ++ rest) calls pending L.machine a.1.0 refl typed got.typed result.0 other_is
                  ∙ ap (λ t. Some (Goes (at x three t calls pending L.machine))) (sym (pushed_over new temps rest)),
              (
                (new_typed, put.kept),
                subst (λ j. Took host k (15 + (8 + (15 + c))) s3 j (8 + c) s4) (sym (written_left s new z))
                    (took_cost host k (15 + (8 + (15 + c))) (8 + c) s3 s4 (omega arith) put.goes),
              ),
            )))),
      ))

  -- an assignment whose operator is known
  applied_runs : (t : Ty) (o : AssignOperator) (b : BinaryOperator) (d e : TypedExpr) → applied o ≡ Some b → Runs e
      → ((n depth : ℕ) (h : Home) → home x.layout d ≡ Some h → emit x.layout n depth (assign t o d e) ≡ compound_lines n depth b t e h) → Runs (assign t o d e)
  applied_runs t o b d e is_applied re code scope size n depth place c p K temps between calls pending fine stands deep le held =
      let of_place : t ≡ type_of d = compound_type o b (type_of d) (type_of e) t is_applied fine.3 in
      let found = spot_of host.table functions x scope d fine.2 fine.0 in
      let s = found.where_is in
      let spot_fine = subst (λ (u : Ty). IsSpot x scope u s) (sym of_place) found.fine in
      let typed : binary_type b t (type_of e) ≡ Some t = ap (λ u. binary_type b u (type_of e)) of_place ∙ applied_type o b (type_of d) (type_of e) t is_applied fine.3 in
      let wide = length (cell_types x.layout.structs t) in
      subst (λ a. CodeRuns scope size place c p t
      (assigned x.self a (spot d) wide (λ q. value_of scope e q) p) temps between calls pending
      (spot_at R x place temps between calls pending K) (emit x.layout n depth (assign t o d e))) (sym is_applied)
      (subst (λ u. CodeRuns scope size place c p t
      (assigned x.self (Some b) u wide (λ q. value_of scope e q) p) temps between calls pending
      (spot_at R x place temps between calls pending K) (emit x.layout n depth (assign t o d e))) (sym found.is)
      (by_code scope size place c p t (assigned x.self (Some b) (Some s) wide (λ q. value_of scope e q) p) temps between calls pending (spot_at R x place temps between calls pending K)
      (emit x.layout n depth (assign t o d e)) (compound_lines n depth b t e (home_of x scope s)) (code n depth (home_of x scope s) found.home_is)
      (compound_runs t b e s re scope size n depth place c p K temps between calls pending spot_fine fine.1 typed deep le held)))
      stands

  compound_is : (t : Ty) (o : AssignOperator) (b : BinaryOperator) (d e : TypedExpr) → applied o ≡ Some b → (n depth : ℕ) (h : Home) → home x.layout d ≡ Some h
      → emit x.layout n depth (assign t o d e) ≡ compound_lines n depth b t e h
  unfolding compound_lines
  compound_is t o b d e is_applied n depth h found =
      let wide = length (cell_types x.layout.structs t) in
      ap (λ u. read_first (is_set o) (at_home (read x.layout depth wide) u)
      ++ (emit x.layout n (depth + cells_first (is_set o) wide) e
      ++ (combination o t ++ at_home (write x.layout (depth + wide) wide) u))) found
      ∙ ap (λ u. read_first u (Instruction (read x.layout depth wide h) ∷ [])
      ++ (emit x.layout n (depth + cells_first u wide) e
      ++ (combination o t ++ Instruction (write x.layout (depth + wide) wide h) ∷ [])))
      (applied_reads o b is_applied)
      ∙ ap (λ u. Instruction (read x.layout depth wide h) ∷ (emit x.layout n (depth + wide) e ++ (u ++ Instruction (write x.layout (depth + wide) wide h) ∷ []))) (combination_is o b t wide is_applied)

  other_runs : (t : Ty) (o : AssignOperator) (b : BinaryOperator) (d e : TypedExpr) → applied o ≡ Some b → Runs e → Runs (assign t o d e)
  other_runs t o b d e is_applied re = applied_runs t o b d e is_applied re (compound_is t o b d e is_applied)

  pub assign_runs : (t : Ty) (o : AssignOperator) (d e : TypedExpr) → Runs e → Runs (assign t o d e)
  assign_runs t asg.Set d e re = set_runs t d e re
  assign_runs t asg.Add d e re = other_runs t asg.Add bin.Add d e refl re
  assign_runs t asg.Subtract d e re = other_runs t asg.Subtract bin.Subtract d e refl re
  assign_runs t asg.Multiply d e re = other_runs t asg.Multiply bin.Multiply d e refl re
  assign_runs t asg.Divide d e re = other_runs t asg.Divide bin.Divide d e refl re
  assign_runs t asg.Remainder d e re = other_runs t asg.Remainder bin.Remainder d e refl re
  assign_runs t asg.BitAnd d e re = other_runs t asg.BitAnd bin.BitAnd d e refl re
  assign_runs t asg.BitOr d e re = other_runs t asg.BitOr bin.BitOr d e refl re
  assign_runs t asg.BitXor d e re = other_runs t asg.BitXor bin.BitXor d e refl re
  assign_runs t asg.ShiftLeft d e re = other_runs t asg.ShiftLeft bin.ShiftLeft d e refl re
  assign_runs t asg.ShiftRight d e re = other_runs t asg.ShiftRight bin.ShiftRight d e refl re
  assign_runs t asg.UnsignedShiftRight d e re = other_runs t asg.UnsignedShiftRight bin.UnsignedShiftRight d e refl re
