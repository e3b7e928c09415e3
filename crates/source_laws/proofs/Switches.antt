-- The code of a `switch` does what the statement means: tests one after another, and then a list of
-- statements from one of its labels on.
use Rattle.std.proofs.Common.{arith, ◌≡◌, ◌≤◌, ◌+◌, ◌-◌, ◌⊎◌, inl, inr, ℕ, List, [], ◌∷◌, ◌++◌, length, Some, None, Bool, true, false, sym, subst, ◌∙◌, ap, refl, zero-add}
use Rattle.std.specs.Prelude.{ℤ, if◌then◌else◌}
use Rattle.nss_tree.specs.declared.operators.BinaryOperator.TheVariants as bin
use Rattle.nss_tree.specs.Statements.{block, empty, expression, if_only, if_else, while_loop, do_loop, for_loop, switch, break_off, continue_on, return_from, declaration, case_label, default_label}
use Rattle.nss_tree.specs.Statements.{no_stmt, more_stmts}
use Rattle.nwq_value.specs.declared.value.Ty.{Ty}
use Rattle.nwq_value.specs.declared.value.Ty.TheVariants.{Int as IntTy}
use Rattle.nwq_value.specs.declared.value.Value.{Value}
use Rattle.nwq_value.specs.declared.value.Value.TheVariants.{Int}
use Rattle.nwq_value.specs.declared.engine.Const.{Const}
use Rattle.nwq_value.specs.declared.engine.Const.TheVariants as const
use Rattle.nwq_value.specs.Engine.{const_type}
use Rattle.nwq_value.specs.Operators.{as_int, is_zero, values_eq}
use Rattle.ncs_code.specs.Plain.{PlainOp}
use Rattle.ncs_emit.specs.declared.jump.Jump.TheVariants.{Jmp}
use Rattle.ncs_emit.specs.Labelled.{Line, JumpTo, Label, line_size, lines_size}
use Rattle.ncs_emit.specs.Standing.{LinesStand}
use Rattle.typing_rules.specs.Typed.{TypedExpr, TypedStmt, TypedStmts, type_of}
use Rattle.typing_rules.specs.Cells.{Structs, cell_types}
use Rattle.saved_state.specs.declared.cell.Cell.{Cell}
use Rattle.saved_state.specs.declared.cell.Cell.TheVariants.{Value as Holds}
use Rattle.saved_state.specs.declared.saved.Saved.{Saved}
use Rattle.emission_rules.specs.Layout.{Layout, position, declared_cells, all_declared_cells}
use Rattle.emission_rules.specs.Operations.{dropped, constant}
use Rattle.emission_rules.specs.Expressions.{emit, labels}
use Rattle.emission_rules.specs.Statements.{Exits, in_switch, is_label, is_default, count_labels, behind, test_of, tests, otherwise, stmt_labels, emit_stmt, emit_stmts}
use Rattle.world_rules.specs.Pure.{CellLookup}
use Rattle.world_rules.specs.World.{World}
use Rattle.machine_rules.specs.Cells.{value_types}
use Rattle.machine_rules.specs.Laws.{EqualityIsTested}
use Rattle.machine_rules.specs.Machine.{Goes, step}
use Rattle.source_meaning.specs.Values.{constant_value}
use Rattle.source_meaning.specs.Evaluation.{Variables, Deferred, Progress, Outcome, Gives, bind, chosen}
use Rattle.source_meaning.specs.Expressions.{Running, Caller, eval}
use Rattle.source_meaning.specs.Statements.{Flow, Next, Broke, Continued, Returned, on_switch, execs, selected, from_default, after_stmt}
use Rattle.source_meaning.specs.Scripts.{Function}
use Rattle.source_laws.specs.Ledger.{Machine, MachineHost, Took, Sim}
use Rattle.source_laws.specs.Kept.{pushed, Site, IsListed, at, In, part_types, Kept, spot_at}
use Rattle.source_laws.specs.Simulation.{Executor, running_at, HoldsValue, value_place, value_credits, ExprRuns}
use Rattle.source_laws.specs.FineStatements.{DeclaresNothing, HasNoLabels, LabelsStandFirst, AreFineStmts}
use Rattle.source_laws.specs.StatementsRun.{Exit, IsExit, AreExits, FlowHolds, flow_place, flow_credits, StmtRuns}
use Rattle.source_laws.proofs.Cells.{stands_over}
use Rattle.source_laws.proofs.Ledger.{took_none, took_cost, took_then, took_less, sim_after, sim_bind, sim_paid, sim_chosen}
use Rattle.source_laws.proofs.Steps.{both_stand, sizes, constant_goes, jump_goes, top_copied, operator_goes}
use Rattle.source_laws.proofs.Statements.{within, lower_kept, lower_goes, and_none, no_more, an_int, one_jumps, zero_passes}

-- ---- lines without the labels of a switch, which have no bytes

pub joined : (ops : List PlainOp) (places : ℕ → ℕ) (place : ℕ) (a b : List Line) → LinesStand ops places place a → LinesStand ops places (place + lines_size a) b → LinesStand ops places place (a ++ b)
joined ops places place [] b h k = let e : place + 0 ≡ place = omega arith in subst (λ m. LinesStand ops places m b) e k
joined ops places place (line ∷ a) b h k =
    let e : place + (line_size line + lines_size a) ≡ place + line_size line + lines_size a = omega arith in
    (h.0, joined ops places (place + line_size line) a b h.1 (subst (λ m. LinesStand ops places m b) e k))

without_label : (ops : List PlainOp) (places : ℕ → ℕ) (b : Bool) (label place : ℕ) (rest : List Line)
    → LinesStand ops places place ((if b then Label label ∷ [] else []) ++ rest) → LinesStand ops places place rest
without_label ops places true label place rest h = let e : place + 0 ≡ place = omega arith in subst (λ m. LinesStand ops places m rest) e h.1
without_label ops places false label place rest h = h

no_size : (b : Bool) (label : ℕ) (rest : List Line) → lines_size ((if b then Label label ∷ [] else []) ++ rest) ≡ lines_size rest
no_size true label rest = zero-add (lines_size rest)
no_size false label rest = refl

unlabelled_size : (l : Layout) (out : Exits) (n depth label : ℕ) (ss : TypedStmts) → lines_size (emit_stmts l out n depth (Some label) ss) ≡ lines_size (emit_stmts l out n depth None ss)
unlabelled_size l out n depth label no_stmt = refl
unlabelled_size l out n depth label (more_stmts s ss) =
    let first = emit_stmt l out n depth s in
    let rest = emit_stmts l out (n + stmt_labels s) (depth + declared_cells l.structs s) (Some (behind label s)) ss in
    let plain = emit_stmts l out (n + stmt_labels s) (depth + declared_cells l.structs s) None ss in
    let h = unlabelled_size l out (n + stmt_labels s) (depth + declared_cells l.structs s) (behind label s) ss in
    no_size (is_label s) label (first ++ rest) ∙ sizes first rest ∙ ap (λ k. lines_size first + k) h ∙ sym (sizes first plain)

unlabelled : (ops : List PlainOp) (places : ℕ → ℕ) (l : Layout) (out : Exits) (n depth label place : ℕ) (ss : TypedStmts)
    → LinesStand ops places place (emit_stmts l out n depth (Some label) ss) → LinesStand ops places place (emit_stmts l out n depth None ss)
unlabelled ops places l out n depth label place no_stmt h = tt
unlabelled ops places l out n depth label place (more_stmts s ss) h =
    let first = emit_stmt l out n depth s in
    let rest = emit_stmts l out (n + stmt_labels s) (depth + declared_cells l.structs s) (Some (behind label s)) ss in
    let b = both_stand ops places place first rest (without_label ops places (is_label s) label place (first ++ rest) h) in
    joined ops places place first (emit_stmts l out (n + stmt_labels s) (depth + declared_cells l.structs s) None ss) b.0
    (unlabelled ops places l out (n + stmt_labels s) (depth + declared_cells l.structs s) (behind label s) (place + lines_size first) ss b.1)

-- ---- statements that declare nothing

same_scope : (s : TypedStmt) (scope : List ℕ) → DeclaresNothing s → after_stmt s scope ≡ scope
same_scope (block m xs) scope h = refl
same_scope (empty m) scope h = refl
same_scope (expression m e) scope h = refl
same_scope (if_only m e a) scope h = refl
same_scope (if_else m e a b) scope h = refl
same_scope (while_loop m e a) scope h = refl
same_scope (do_loop m a e) scope h = refl
same_scope (for_loop m e y z a) scope h = refl
same_scope (switch m e xs) scope h = refl
same_scope (break_off m) scope h = refl
same_scope (continue_on m) scope h = refl
same_scope (return_from m e) scope h = refl
same_scope (declaration m t ds) scope h = absurd h
same_scope (case_label m k) scope h = refl
same_scope (default_label m) scope h = refl

no_cells : (structs : Structs) (s : TypedStmt) → DeclaresNothing s → declared_cells structs s ≡ 0
no_cells structs (block m xs) h = refl
no_cells structs (empty m) h = refl
no_cells structs (expression m e) h = refl
no_cells structs (if_only m e a) h = refl
no_cells structs (if_else m e a b) h = refl
no_cells structs (while_loop m e a) h = refl
no_cells structs (do_loop m a e) h = refl
no_cells structs (for_loop m e y z a) h = refl
no_cells structs (switch m e xs) h = refl
no_cells structs (break_off m) h = refl
no_cells structs (continue_on m) h = refl
no_cells structs (return_from m e) h = refl
no_cells structs (declaration m t ds) h = absurd h
no_cells structs (case_label m k) h = refl
no_cells structs (default_label m) h = refl

-- ---- labels, and what is none

module _ (here : Running) (caller : Caller) where
  -- a statement that is no label is passed over
  pub record Passes (s : TypedStmt) : Type 0 where
    pub no_label : is_label s ≡ false
    pub no_default : is_default s ≡ false
    pub untested : (label : ℕ) → test_of label s ≡ []
    pub selects : (sight : List ℕ) (v : List Value) (other : Progress → Outcome Flow) (ss : TypedStmts) (p : Progress)
        → selected here caller sight v other (more_stmts s ss) p ≡ selected here caller (after_stmt s sight) v other ss p
    pub defaults : (sight : List ℕ) (ss : TypedStmts) (p : Progress) → from_default here caller sight (more_stmts s ss) p ≡ from_default here caller (after_stmt s sight) ss p

  pub data Kind : TypedStmt → Type 0 where
    a_case : (m : ℕ) (k : Const) → Kind (case_label m k)
    a_default : (m : ℕ) → Kind (default_label m)
    neither : (s : TypedStmt) → Passes s → Kind s

  pub kind_of : (s : TypedStmt) → Kind s
  kind_of (block m xs) = neither (block m xs) (record { no_label = refl; no_default = refl; untested = λ label. refl; selects = λ sight v o ss p. refl; defaults = λ sight ss p. refl })
  kind_of (empty m) = neither (empty m) (record { no_label = refl; no_default = refl; untested = λ label. refl; selects = λ sight v o ss p. refl; defaults = λ sight ss p. refl })
  kind_of (expression m e) = neither (expression m e) (record { no_label = refl; no_default = refl; untested = λ label. refl; selects = λ sight v o ss p. refl; defaults = λ sight ss p. refl })
  kind_of (if_only m e a) = neither (if_only m e a) (record { no_label = refl; no_default = refl; untested = λ label. refl; selects = λ sight v o ss p. refl; defaults = λ sight ss p. refl })
  kind_of (if_else m e a b) = neither (if_else m e a b) (record { no_label = refl; no_default = refl; untested = λ label. refl; selects = λ sight v o ss p. refl; defaults = λ sight ss p. refl })
  kind_of (while_loop m e a) = neither (while_loop m e a) (record { no_label = refl; no_default = refl; untested = λ label. refl; selects = λ sight v o ss p. refl; defaults = λ sight ss p. refl })
  kind_of (do_loop m a e) = neither (do_loop m a e) (record { no_label = refl; no_default = refl; untested = λ label. refl; selects = λ sight v o ss p. refl; defaults = λ sight ss p. refl })
  kind_of (for_loop m e y z a) = neither (for_loop m e y z a) (record { no_label = refl; no_default = refl; untested = λ label. refl; selects = λ sight v o ss p. refl; defaults = λ sight ss p. refl })
  kind_of (switch m e xs) = neither (switch m e xs) (record { no_label = refl; no_default = refl; untested = λ label. refl; selects = λ sight v o ss p. refl; defaults = λ sight ss p. refl })
  kind_of (break_off m) = neither (break_off m) (record { no_label = refl; no_default = refl; untested = λ label. refl; selects = λ sight v o ss p. refl; defaults = λ sight ss p. refl })
  kind_of (continue_on m) = neither (continue_on m) (record { no_label = refl; no_default = refl; untested = λ label. refl; selects = λ sight v o ss p. refl; defaults = λ sight ss p. refl })
  kind_of (return_from m e) = neither (return_from m e) (record { no_label = refl; no_default = refl; untested = λ label. refl; selects = λ sight v o ss p. refl; defaults = λ sight ss p. refl })
  kind_of (declaration m t ds) = neither (declaration m t ds) (record { no_label = refl; no_default = refl; untested = λ label. refl; selects = λ sight v o ss p. refl; defaults = λ sight ss p. refl })
  kind_of (case_label m k) = a_case m k
  kind_of (default_label m) = a_default m

  -- where no label stands, nothing is tested, and none is jumped to
  pub record NoneTested (ss : TypedStmts) : Type 0 where
    pub untested : (label : ℕ) → tests label ss ≡ []
    pub selects : (sight : List ℕ) (v : List Value) (other : Progress → Outcome Flow) (p : Progress) → selected here caller sight v other ss p ≡ other p
    pub defaults : (sight : List ℕ) (p : Progress) → from_default here caller sight ss p ≡ Gives Next p
    pub goes_on : (end label : ℕ) → otherwise end label ss ≡ end

  pub none_tested : (ss : TypedStmts) → HasNoLabels ss → NoneTested ss
  none_tested no_stmt h = record { untested = λ label. refl; selects = λ sight v o p. refl; defaults = λ sight p. refl; goes_on = λ end label. refl }
  none_tested (more_stmts s ss) h = of_kind s ss h (kind_of s) (none_tested ss h.1)
    where
      of_kind : (s : TypedStmt) (ss : TypedStmts) → HasNoLabels (more_stmts s ss) → Kind s → NoneTested ss → NoneTested (more_stmts s ss)
      of_kind s ss h (a_case m k) rest = let never = h.0 in absurd cc
      of_kind s ss h (a_default m) rest = let never = h.0 in absurd cc
      of_kind s ss h (neither s2 passes) rest = record {
        untested = λ label. ap (λ t. t ++ tests (behind label s) ss) (passes.untested label) ∙ rest.untested (behind label s);
        selects = λ sight v o p. passes.selects sight v o ss p ∙ rest.selects (after_stmt s sight) v o p;
        defaults = λ sight p. passes.defaults sight ss p ∙ rest.defaults (after_stmt s sight) p;
        goes_on = λ end label. ap (λ (b : Bool). if b then label else otherwise end (behind label s) ss) passes.no_default ∙ rest.goes_on end (behind label s);
      }

-- ---- one `switch`

int_typed : (self : ℕ) (k : Const) → const_type k ≡ IntTy → value_types (constant_value self k ∷ []) ≡ IntTy ∷ []
int_typed self (const.Int n) h = refl
int_typed self (const.Text bytes) h = absurd cc
int_typed self const.SelfObject h = absurd cc
int_typed self const.InvalidObject h = absurd cc

module _ (host : MachineHost) (R : Saved → Deferred → Type 0) (tested : EqualityIsTested) (x : Site) (listed : IsListed host x)
    (tables : CellLookup) (execute : Executor) (functions : List Function) (caller : Caller) (most : ℕ) (result : Ty) where
  abbrev here : Running
  here = running_at host tables execute x

  abbrev Does : TypedStmt → Type 0
  Does s = StmtRuns host R x tables execute functions caller most result s

  -- the statements behind each one of a list
  abbrev pub EachRest : TypedStmts → Type 0
  EachRest no_stmt = Unit {0}
  EachRest (more_stmts s ss) = Does (block 0 ss) × EachRest ss

  -- the frame with the tested value on top
  abbrev topped : {scope : List ℕ} {size : ℕ} {globals locals : Variables} {world : World Deferred} → Kept R x scope size globals locals world → ℤ → Kept R x scope (size + 1) globals locals world
  topped {size = size} {locals = locals} K k = record {
    under = K.under;
    frame = Holds (Int k) ∷ K.frame;
    machine = K.machine;
    under_size = K.under_size;
    frame_size = let f = K.frame_size in omega (arith, f);
    under_held = K.under_held;
    frame_held = (tt, K.frame_held);
    global_values = K.global_values;
    local_values = record {
      value = λ n i. stands_over K.frame (Holds (Int k) ∷ []) (position x.layout n) (locals n) (K.local_values.value n i);
      typed = K.local_values.typed;
      apart = K.local_values.apart;
    };
    alike = K.alike;
  }

  -- So many cells are declared in it; its statements end at `ends`, without these cells at `last`,
  -- and its end has this label.
  module _ (out : Exits) (breaks continues : Exit) (scope : List ℕ) (base : ℕ) (room : List Value) (lower : List Cell) (back : ℕ) (calls : List ℕ) (pending : List Saved)
      (c many ends last end_label : ℕ) where
    abbrev Inner : Flow → Progress → Type 0
    Inner f p = FlowHolds R x result breaks continues scope (base + 1 + 0) f p

    abbrev inner_place : (f : Flow) (p : Progress) → Inner f p → Machine
    inner_place f p h = flow_place R x result breaks continues scope (base + 1 + 0) last room lower back calls pending f p h

    abbrev there : {size : ℕ} {globals locals : Variables} {world : World Deferred} → ℕ → Kept R x scope size globals locals world → Machine
    there place K = spot_at R x place [] (pushed room lower) (back ∷ calls) pending K

    pub record Around : Type 0 where
      pub exits : AreExits out breaks continues
      pub ended : IsExit x scope (base + 1) breaks
      pub continued : IsExit x scope (base + 1) continues
      pub typed : value_types room ≡ cell_types x.layout.structs result
      pub drops : LinesStand x.code x.places ends (dropped many)
      pub ending : ends + lines_size (dropped many) ≡ last
      pub over : x.places end_label ≡ last

    -- the statements of its list from one on
    pub record IsAt (ss : TypedStmts) (n label place : ℕ) : Type 0 where
      pub lines : LinesStand x.code x.places place (emit_stmts x.layout out n (base + 1) (Some label) ss)
      pub ending : place + lines_size (emit_stmts x.layout out n (base + 1) (Some label) ss) ≡ ends
      pub count : all_declared_cells x.layout.structs ss ≡ many
      pub fine : AreFineStmts host.table functions x result breaks.allowed continues.allowed (base + 1) scope ss

    later : (s : TypedStmt) (ss : TypedStmts) (n label place : ℕ) → DeclaresNothing s → IsAt (more_stmts s ss) n label place
        → IsAt ss (n + stmt_labels s) (behind label s) (place + lines_size (emit_stmt x.layout out n (base + 1) s))
    later s ss n label place nothing h =
        let l = x.layout in
        let first = emit_stmt l out n (base + 1) s in
        let rest = emit_stmts l out (n + stmt_labels s) (base + 1 + declared_cells l.structs s) (Some (behind label s)) ss in
        let b = both_stand x.code x.places place first rest (without_label x.code x.places (is_label s) label place (first ++ rest) h.lines) in
        let none = no_cells l.structs s nothing in
        let same : base + 1 + declared_cells l.structs s ≡ base + 1 = omega (arith, none) in
        let size_is = no_size (is_label s) label (first ++ rest) ∙ sizes first rest in
        let rest_size = ap (λ d. lines_size (emit_stmts l out (n + stmt_labels s) d (Some (behind label s)) ss)) same in
        let whole = h.ending in
        let count = h.count in
        record {
          lines = subst (λ d. LinesStand x.code x.places (place + lines_size first) (emit_stmts l out (n + stmt_labels s) d (Some (behind label s)) ss)) same b.1;
          ending = omega (arith, size_is, rest_size, whole);
          count = omega (arith, none, count);
          fine = subst (λ z. AreFineStmts host.table functions x result breaks.allowed continues.allowed (base + 1) z ss) (same_scope s scope nothing)
              (subst (λ d. AreFineStmts host.table functions x result breaks.allowed continues.allowed d (after_stmt s scope) ss) same h.fine.1);
        }

    falls : (ss : TypedStmts) → Does (block 0 ss) → Around → (n label place : ℕ) → IsAt ss n label place
        → (q : Progress) (L : Kept R x scope (base + 1) q.globals q.locals q.world) → q.left ≤ most
        → Sim host R Inner inner_place q.left (7 + c) (there place L) (flow_credits (7 + c) 0) (execs here caller scope ss q)
    falls ss does a n label place h q L le =
        let l = x.layout in
        let body = emit_stmts l out n (base + 1) None ss in
        let cells = all_declared_cells l.structs ss in
        let plain = unlabelled x.code x.places l out n (base + 1) label place ss h.lines in
        let size_is = unlabelled_size l out n (base + 1) label ss in
        let whole = h.ending in
        let stop : ends ≡ place + lines_size body = omega (arith, size_is, whole) in
        let drops = subst (λ d. LinesStand x.code x.places ends (dropped d)) (sym h.count) a.drops in
        let all = joined x.code x.places place body (dropped cells) plain (subst (λ k. LinesStand x.code x.places k (dropped cells)) stop drops) in
        let all_size = sizes body (dropped cells) in
        let drops_size = ap (λ d. lines_size (dropped d)) h.count in
        let stopped = a.ending in
        let finish : place + lines_size (body ++ dropped cells) ≡ last = omega (arith, all_size, drops_size, stopped, stop) in
        subst (λ k. Sim host R Inner
        (λ f p g. flow_place R x result breaks continues scope
        (base + 1 + 0) k room lower back calls pending f p g) q.left (7 + c) (there place L)
        (flow_credits (7 + c) 0) (execs here caller scope ss q)) finish
        (does out breaks continues scope (base + 1) n place (7 + c) q L room lower back calls pending h.fine all a.exits a.ended a.continued a.typed le)

    -- at the end, with nothing left to do
    ends_here : (place : ℕ) → place ≡ last → (q : Progress) (L : Kept R x scope (base + 1) q.globals q.locals q.world)
        → Sim host R Inner inner_place q.left (7 + c) (there place L) (flow_credits (7 + c) 0) (Gives Next q)
    ends_here place same q L = (
      and_none host R x listed tables execute functions caller most result L,
      subst (λ k. Took host q.left (7 + c) (there place L) q.left (7 + c + 0) (there k L)) same (took_less host (7 + c + 0) (omega arith) (took_none host q.left (7 + c) (there place L))),
    )

    from_default_runs : (ss : TypedStmts) → EachRest ss → Around → (n label place : ℕ) → IsAt ss n label place → LabelsStandFirst ss
        → (q : Progress) (L : Kept R x scope (base + 1) q.globals q.locals q.world) → q.left ≤ most
        → Sim host R Inner inner_place q.left (7 + c) (there (x.places (otherwise end_label label ss)) L) (flow_credits (7 + c) 0) (from_default here caller scope ss q)
    from_default_runs no_stmt rests a n label place h first q L le = ends_here (x.places end_label) a.over q L
    from_default_runs (more_stmts s ss) rests a n label place h first q L le =
        of_kind s ss rests a n label place h first q L le (kind_of here caller s)
        (λ m l k g. from_default_runs ss rests.1 a m l k g first.1 q L le)
      where
        of_kind : (s : TypedStmt) (ss : TypedStmts) → EachRest (more_stmts s ss) → Around → (n label place : ℕ) → IsAt (more_stmts s ss) n label place → LabelsStandFirst (more_stmts s ss)
            → (q : Progress) (L : Kept R x scope (base + 1) q.globals q.locals q.world) → q.left ≤ most → Kind here caller s
            → ((m l k : ℕ) → IsAt ss m l k → Sim host R Inner inner_place q.left (7 + c) (there (x.places (otherwise end_label l ss)) L) (flow_credits (7 + c) 0) (from_default here caller scope ss q))
            → Sim host R Inner inner_place q.left (7 + c)
            (there (x.places (otherwise end_label label (more_stmts s ss))) L) (flow_credits (7 + c) 0)
            (from_default here caller scope (more_stmts s ss) q)
        of_kind s ss rests a n label place h first q L le (a_default m) rest =
            let here_is : x.places label ≡ place + 0 = h.lines.0 ∙ omega arith in
            subst (λ k. Sim host R Inner inner_place q.left (7 + c) (there k L) (flow_credits (7 + c) 0) (execs here caller scope ss q)) (sym here_is)
            (falls ss rests.0 a (n + 0) (label + 1) (place + 0) (later (default_label m) ss n label place tt h) q L le)
        of_kind s ss rests a n label place h first q L le (a_case m k) rest = rest (n + 0) (label + 1) (place + 0) (later (case_label m k) ss n label place tt h)
        of_kind s ss rests a n label place h first q L le (neither s2 passes) rest =
            let skips : otherwise end_label label (more_stmts s ss) ≡ otherwise end_label (behind label s) ss =
            ap (λ (b : Bool). if b then label else otherwise end_label (behind label s) ss) passes.no_default in
            subst (λ r. Sim host R Inner inner_place q.left (7 + c) (there (x.places (otherwise end_label label (more_stmts s ss))) L) (flow_credits (7 + c) 0) r) (sym (passes.defaults scope ss q))
            (subst (λ k. Sim host R Inner inner_place q.left (7 + c) (there (x.places k) L) (flow_credits (7 + c) 0) (from_default here caller (after_stmt s scope) ss q)) (sym skips)
            (by_labels first.0))
          where
            by_labels : DeclaresNothing s ⊎ HasNoLabels ss → Sim host R Inner inner_place q.left (7 + c) (there (x.places (otherwise end_label (behind label s) ss)) L) (flow_credits (7 + c) 0)
                (from_default here caller (after_stmt s scope) ss q)
            by_labels (inl nothing) =
                subst (λ z. Sim host R Inner inner_place q.left (7 + c)
                (there (x.places (otherwise end_label (behind label s) ss)) L) (flow_credits (7 + c) 0)
                (from_default here caller z ss q)) (sym (same_scope s scope nothing))
                (rest (n + stmt_labels s) (behind label s) (place + lines_size (emit_stmt x.layout out n (base + 1) s)) (later s ss n label place nothing h))
            by_labels (inr none) =
                let t = none_tested here caller ss none in
                subst (λ r. Sim host R Inner inner_place q.left (7 + c)
                (there (x.places (otherwise end_label (behind label s) ss)) L) (flow_credits (7 + c) 0) r)
                (sym (t.defaults (after_stmt s scope) q))
                (ends_here (x.places (otherwise end_label (behind label s) ss)) (ap x.places (t.goes_on end_label (behind label s)) ∙ a.over) q L)

    -- ---- the tests

    -- the lines of a test at a place, with what stands on the stack between them
    record IsTest (k : ℤ) (j : Const) (label place : ℕ) (cells : List Cell) (world : World Saved) : Type 0 where
      first : Machine
      copies : step host (at x place (Holds (Int k) ∷ cells) (back ∷ calls) pending world) ≡ Some (Goes first)
      holds : (m : ℕ) → values_eq (Int k ∷ []) (constant_value x.self j ∷ []) ≡ true
          → Took host m (15 + (8 + c)) first m (7 + c)
          (at x (x.places label) (Holds (Int k) ∷ cells) (back ∷ calls) pending world)
      fails : (m next : ℕ) → place + lines_size (test_of label (case_label 0 j)) ≡ next → values_eq (Int k ∷ []) (constant_value x.self j ∷ []) ≡ false
          → Took host m (15 + (8 + c)) first m (8 + c) (at x next (Holds (Int k) ∷ cells) (back ∷ calls) pending world)

    test_is : (k : ℤ) (j : Const) (label place : ℕ) (cells : List Cell) (world : World Saved) → const_type j ≡ IntTy
        → LinesStand x.code x.places place (test_of label (case_label 0 j)) → IsTest k j label place cells world
    test_is k j label place cells world int lines =
        let w = constant_value x.self j in
        let b = values_eq (Int k ∷ []) (w ∷ []) in
        let p1 = place + 8 in
        let p2 = p1 + line_size (constant j) in
        let p3 = p2 + 2 in
        let stack = Holds (Int k) ∷ cells in
        let s1 = at x p1 (Holds (Int k) ∷ stack) (back ∷ calls) pending world in
        let s2 = at x p2 (Holds w ∷ Holds (Int k) ∷ stack) (back ∷ calls) pending world in
        let s3 = at x p3 (Holds (Int (as_int b)) ∷ stack) (back ∷ calls) pending world in
        let second = constant_goes host x listed p1 p2 j (Holds (Int k) ∷ stack) (back ∷ calls) pending world lines.1.0 refl in
        let third = operator_goes host x listed tested p2 p3 x.layout.structs bin.Equal IntTy IntTy IntTy (Int k ∷ []) (w ∷ []) stack (back ∷ calls) pending world
        lines.1.1.0 refl refl refl (int_typed x.self j int) refl in
        record {
          first = s1;
          copies = top_copied host x listed place p1 (Int k) cells (back ∷ calls) pending world lines.0 refl;
          holds = λ m yes.
              let s4 = at x (x.places label) stack (back ∷ calls) pending world in
              let fourth = one_jumps host R x listed tables execute functions caller most result p3 (x.places label) _
              (as_int b) stack (back ∷ calls) pending world lines.1.1.1.0.begins
              (one_is b yes) lines.1.1.1.0.leads in
              took_less host (7 + c) (omega arith) (took_then host (took_cost host m (15 + (8 + c)) (22 + c) s1 s2 (omega arith) second)
              (took_then host (took_cost host m (22 + c) (21 + c) s2 s3 (omega arith) third) (took_cost host m (21 + c) (20 + c) s3 s4 (omega arith) fourth)));
          fails = λ m next same no.
              let s4 = at x next stack (back ∷ calls) pending world in
              let fourth = zero_passes host R x listed tables execute functions caller most result p3 next _
              (as_int b) stack (back ∷ calls) pending world lines.1.1.1.0.begins (nought_is b no)
              (omega (arith, same)) in
              took_less host (8 + c) (omega arith) (took_then host (took_cost host m (15 + (8 + c)) (22 + c) s1 s2 (omega arith) second)
              (took_then host (took_cost host m (22 + c) (21 + c) s2 s3 (omega arith) third) (took_cost host m (21 + c) (20 + c) s3 s4 (omega arith) fourth)));
        }
      where
        one_is : (b : Bool) → b ≡ true → is_zero (as_int b) ≡ false
        one_is true h = refl
        one_is false h = absurd cc

        nought_is : (b : Bool) → b ≡ false → is_zero (as_int b) ≡ true
        nought_is false h = refl
        nought_is true h = absurd cc

    -- the tests lead to a label, or to the jump behind them
    selected_runs : (ss : TypedStmts) → EachRest ss → Around → (k : ℤ) (jump : ℕ) (other : Progress → Outcome Flow)
        → ((q : Progress) (K : Kept R x scope base q.globals q.locals q.world) → q.left ≤ most
        → Sim host R Inner inner_place q.left (8 + c) (there jump (topped K k)) (flow_credits (7 + c) 0) (other q))
        → (n label test place : ℕ) → LinesStand x.code x.places test (tests label ss) → test + lines_size (tests label ss) ≡ jump → IsAt ss n label place → LabelsStandFirst ss
        → (q : Progress) (K : Kept R x scope base q.globals q.locals q.world) → q.left ≤ most
        → Sim host R Inner inner_place q.left (8 + c) (there test (topped K k)) (flow_credits (7 + c) 0) (selected here caller scope (Int k ∷ []) other ss q)
    selected_runs no_stmt rests a k jump other behind_them n label test place lines ending h first q K le =
        let same : jump ≡ test = omega (arith, ending) in
        subst (λ t. Sim host R Inner inner_place q.left (8 + c) (there t (topped K k)) (flow_credits (7 + c) 0) (other q)) same (behind_them q K le)
    selected_runs (more_stmts s ss) rests a k jump other behind_them n label test place lines ending h first q K le =
        of_kind s ss rests a k jump other behind_them n label test place lines ending h first q K le (kind_of here caller s)
        (λ m l t p lines' ending' g r L le'. selected_runs ss rests.1 a k jump other behind_them m l t p lines' ending' g first.1 r L le')
      where
        of_kind : (s : TypedStmt) (ss : TypedStmts) → EachRest (more_stmts s ss) → Around → (k : ℤ) (jump : ℕ) (other : Progress → Outcome Flow)
            → ((q : Progress) (K : Kept R x scope base q.globals q.locals q.world) → q.left ≤ most
            → Sim host R Inner inner_place q.left (8 + c) (there jump (topped K k)) (flow_credits (7 + c) 0) (other q))
            → (n label test place : ℕ) → LinesStand x.code x.places test (tests label (more_stmts s ss))
            → test + lines_size (tests label (more_stmts s ss)) ≡ jump → IsAt (more_stmts s ss) n label place
            → LabelsStandFirst (more_stmts s ss) → (q : Progress) (K : Kept R x scope base q.globals q.locals q.world) → q.left ≤ most → Kind here caller s
            → ((m l t p : ℕ) → LinesStand x.code x.places t (tests l ss) → t + lines_size (tests l ss) ≡ jump → IsAt ss m l p
            → (r : Progress) (L : Kept R x scope base r.globals r.locals r.world) → r.left ≤ most
            → Sim host R Inner inner_place r.left (8 + c) (there t (topped L k)) (flow_credits (7 + c) 0) (selected here caller scope (Int k ∷ []) other ss r))
            → Sim host R Inner inner_place q.left (8 + c) (there test (topped K k)) (flow_credits (7 + c) 0) (selected here caller scope (Int k ∷ []) other (more_stmts s ss) q)
        of_kind s ss rests a k jump other behind_them n label test place lines ending h first q K le (a_case m j) rest =
            let cells = K.frame ++ (pushed room lower ++ K.under) in
            let own = test_of label (case_label 0 j) in
            let b = both_stand x.code x.places test own (tests (label + 1) ss) lines in
            let t = test_is k j label test cells K.machine h.fine.0 b.0 in
            let next = test + lines_size own in
            let whole = sizes own (tests (label + 1) ss) in
            let on = later (case_label m j) ss n label place tt h in
            let here_is : x.places label ≡ place + 0 = h.lines.0 ∙ omega arith in
            sim_paid host R Inner inner_place (8 + c) (there test (topped K k)) (flow_credits (7 + c) 0) q
            (λ r. chosen (values_eq (Int k ∷ []) (constant_value x.self j ∷ [])) (λ u. execs here caller scope ss u) (λ u. selected here caller scope (Int k ∷ []) other ss u) r) K.alike
            (λ m left.
            let r = record q { left = m } in (
              t.first,
              t.copies,
              sim_chosen host R Inner inner_place m (15 + (8 + c)) t.first (flow_credits (7 + c) 0) (values_eq (Int k ∷ []) (constant_value x.self j ∷ [])) (λ u. execs here caller scope ss u)
                  (λ u. selected here caller scope (Int k ∷ []) other ss u) r
                  (λ yes. sim_after host R Inner inner_place (flow_credits (7 + c) 0) (execs here caller scope ss r) (t.holds m yes)
                  (subst (λ u. Sim host R Inner inner_place m (7 + c) (there u (topped K k)) (flow_credits (7 + c) 0) (execs here caller scope ss r)) (sym here_is)
                  (falls ss rests.0 a (n + 0) (label + 1) (place + 0) on r (topped K k) (omega (arith, left, le)))))
                  (λ no. sim_after host R Inner inner_place (flow_credits (7 + c) 0) (selected here caller scope (Int k ∷ []) other ss r) (t.fails m next refl no)
                  (rest (n + 0) (label + 1) next (place + 0) b.1 (omega (arith, whole, ending)) on r K (omega (arith, left, le)))),
            ))
        of_kind s ss rests a k jump other behind_them n label test place lines ending h first q K le (a_default m) rest =
            rest (n + 0) (label + 1) test (place + 0) lines ending (later (default_label m) ss n label place tt h) q K le
        of_kind s ss rests a k jump other behind_them n label test place lines ending h first q K le (neither s2 passes) rest =
            let untested : tests label (more_stmts s ss) ≡ tests (behind label s) ss = ap (λ t. t ++ tests (behind label s) ss) (passes.untested label) in
            subst (λ r. Sim host R Inner inner_place q.left (8 + c) (there test (topped K k)) (flow_credits (7 + c) 0) r) (sym (passes.selects scope (Int k ∷ []) other ss q))
            (by_labels first.0 (subst (LinesStand x.code x.places test) untested lines) (subst (λ t. test + lines_size t ≡ jump) untested ending))
          where
            by_labels : DeclaresNothing s ⊎ HasNoLabels ss → LinesStand x.code x.places test (tests (behind label s) ss) → test + lines_size (tests (behind label s) ss) ≡ jump
                → Sim host R Inner inner_place q.left (8 + c) (there test (topped K k)) (flow_credits (7 + c) 0) (selected here caller (after_stmt s scope) (Int k ∷ []) other ss q)
            by_labels (inl nothing) lines' ending' =
                subst (λ z. Sim host R Inner inner_place q.left (8 + c) (there test (topped K k))
                (flow_credits (7 + c) 0) (selected here caller z (Int k ∷ []) other ss q))
                (sym (same_scope s scope nothing))
                (rest (n + stmt_labels s) (behind label s) test (place + lines_size (emit_stmt x.layout out n (base + 1) s)) lines' ending' (later s ss n label place nothing h) q K le)
            by_labels (inr none) lines' ending' =
                let t = none_tested here caller ss none in
                let no_size : lines_size (tests (behind label s) ss) ≡ 0 = ap lines_size (t.untested (behind label s)) in
                let same : jump ≡ test = omega (arith, ending', no_size) in
                subst (λ r. Sim host R Inner inner_place q.left (8 + c) (there test (topped K k)) (flow_credits (7 + c) 0) r) (sym (t.selects (after_stmt s scope) (Int k ∷ []) other q))
                (subst (λ u. Sim host R Inner inner_place q.left (8 + c) (there u (topped K k)) (flow_credits (7 + c) 0) (other q)) same (behind_them q K le))

  -- ---- the whole statement

  -- the tested value is taken off
  taken_off : (breaks continues : Exit) (scope : List ℕ) (size last next c d : ℕ) (room : List Value) (lower : List Cell) (back : ℕ) (calls : List ℕ) (pending : List Saved) → c + 1 ≤ d
      → LinesStand x.code x.places last (dropped 1) → last + 6 ≡ next → ((i : ℕ) → In i scope → position x.layout i + length (part_types x i) ≤ size)
      → (u : Progress) (L : Kept R x scope (size + 1) u.globals u.locals u.world)
      → Sim host R (FlowHolds R x result breaks continues scope (size + 0)) (flow_place R x result breaks continues scope (size + 0) next room lower back calls pending) u.left d
      (spot_at R x last [] (pushed room lower) (back ∷ calls) pending L) (flow_credits c 0) (Gives Next u)
  taken_off breaks continues scope size last next c d room lower back calls pending enough drops ending beneath_it u L =
      let between = pushed room lower in
      let less : size ≤ size + 1 = omega arith in
      let gone : size + 1 - size ≡ 1 = omega arith in
      let M = lower_kept host R x listed tables execute functions caller most result L scope size less (λ i j. j) beneath_it in
      let s = spot_at R x last [] between (back ∷ calls) pending L in (
        and_none host R x listed tables execute functions caller most result M,
        subst (λ k. Took host u.left d s u.left (c + 0) (spot_at R x k [] between (back ∷ calls) pending M)) ending
            (took_less host (c + 0) (omega arith) (took_then host (took_less host (c + 1) enough (took_none host u.left d s))
            (lower_goes host R x listed tables execute functions caller most result L scope size less (λ i j. j) beneath_it u.left c last between (back ∷ calls) pending 1 gone drops))),
      )

  pub switch_does : (m : ℕ) (e : TypedExpr) (ss : TypedStmts) → ExprRuns host R x tables execute functions caller most e → EachRest ss → Does (switch m e ss)
  switch_does m e ss r rests out breaks continues scope size n place c p K room lower back calls pending fine stands exits ends starts typed le =
      let l = x.layout in
      let value = emit l (n + 1 + count_labels ss) size e in
      let all_tests = tests (n + 1) ss in
      let target = otherwise n (n + 1) ss in
      let many = all_declared_cells l.structs ss in
      let inner = in_switch n (size + 1) out in
      let body = emit_stmts l inner (n + 1 + count_labels ss + labels e) (size + 1) (Some (n + 1)) ss in
      let last_lines = Label n ∷ dropped 1 in
      let behind_tests = JumpTo Jmp target ∷ (body ++ (dropped many ++ last_lines)) in
      let b = both_stand x.code x.places place value (all_tests ++ behind_tests) stands in
      let test = place + lines_size value in
      let d = both_stand x.code x.places test all_tests behind_tests b.1 in
      let jump = test + lines_size all_tests in
      let first = jump + 6 in
      let f = both_stand x.code x.places first body (dropped many ++ last_lines) d.1.1 in
      let stop = first + lines_size body in
      let g = both_stand x.code x.places stop (dropped many) last_lines f.1 in
      let last = stop + lines_size (dropped many) in
      let next = place + lines_size (value ++ (all_tests ++ behind_tests)) in
      let ending : last + 6 ≡ next =
      let h1 = sizes value (all_tests ++ behind_tests) in let h2 = sizes all_tests behind_tests in let h3 = sizes body
      (dropped many ++ last_lines) in let h4 = sizes (dropped many) last_lines in omega (arith, h1, h2, h3, h4) in
      let between = pushed room lower in
      let breaks' : Exit = record { allowed = true; scope = scope; depth = size + 1; label = n } in
      let beneath_it : (i : ℕ) → In i scope → position l i + length (part_types x i) ≤ size = λ i j. fits (within x scope K.frame p.locals K.local_values i j) K.frame_size in
      let a : Around inner breaks' continues scope size room lower back calls pending c many stop last n = record {
        exits = record { break_label = refl; break_depth = refl; continue_label = exits.continue_label; continue_depth = exits.continue_depth };
        ended = record { within = λ t. omega arith; seen = λ t i j. j; beneath = λ t i j. let h = beneath_it i j in omega (arith, h) };
        continued = record { within = λ t. let h = starts.within t in omega (arith, h); seen = starts.seen; beneath = starts.beneath };
        typed = typed;
        drops = g.0;
        ending = refl;
        over = g.1.0;
      } in
      let list : IsAt inner breaks' continues scope size room lower back calls pending c many stop last n ss
      (n + 1 + count_labels ss + labels e)
      (n + 1) first = record { lines = f.0; ending = refl; count = refl; fine = fine.1 } in
      sim_bind host R (HoldsValue R x scope size (type_of e)) (value_place R x scope size (type_of e) test [] between (back ∷ calls) pending)
      (FlowHolds R x result breaks continues scope (size + 0)) (flow_place R x result breaks continues scope (size + 0) next room lower back calls pending)
      p.left c (spot_at R x place [] between (back ∷ calls) pending K) (value_credits c) (flow_credits c 0) (eval here caller scope e p)
      (λ v q. bind (selected here caller scope v (λ u. from_default here caller scope ss u) ss q) (λ t u. Gives (on_switch t) u))
      (r scope size (n + 1 + count_labels ss) size place c p K [] between (back ∷ calls) pending fine.0.0 b.0 (omega arith) le tt)
      (λ v q h less.
      let k = an_int host R x listed tables execute functions caller most result v (h.0 ∙ ap (cell_types l.structs) fine.0.1) in
      subst (λ u. Sim host R (FlowHolds R x result breaks continues scope (size + 0)) (flow_place R x result breaks continues scope (size + 0) next room lower back calls pending)
      q.left (8 + c) (spot_at R x test (pushed u []) between (back ∷ calls) pending h.1) (flow_credits c 0)
      (bind (selected here caller scope u (λ w. from_default here caller scope ss w) ss q)
      (λ t w. Gives (on_switch t) w))) (sym k.1)
      (sim_bind host R (FlowHolds R x result breaks' continues scope (size + 1 + 0)) (flow_place R x result breaks' continues scope (size + 1 + 0) last room lower back calls pending)
      (FlowHolds R x result breaks continues scope (size + 0)) (flow_place R x result breaks continues scope (size + 0) next room lower back calls pending)
      q.left (8 + c) (spot_at R x test [] between (back ∷ calls) pending (topped h.1 k.0)) (flow_credits (7 + c) 0)
      (flow_credits c 0) (selected here caller scope (Int k.0 ∷ []) (λ u. from_default here caller scope ss u) ss q)
      (λ t u. Gives (on_switch t) u)
      (selected_runs inner breaks' continues scope size room lower back calls pending c many stop last n ss rests a k.0 jump (λ u. from_default here caller scope ss u)
      (λ u L enough. sim_after host R (FlowHolds R x result breaks' continues scope (size + 1 + 0))
      (flow_place R x result breaks' continues scope (size + 1 + 0) last room lower back calls pending)
      (flow_credits (7 + c) 0) (from_default here caller scope ss u)
      (took_cost host u.left (8 + c) (7 + c) (spot_at R x jump [] between (back ∷ calls) pending (topped L k.0))
      (spot_at R x (x.places target) [] between (back ∷ calls) pending (topped L k.0)) (omega arith)
      (jump_goes host x listed jump (x.places target) _ ((topped L k.0).frame ++ (between ++ L.under)) (back ∷ calls) pending L.machine d.1.0.begins d.1.0.leads))
      (from_default_runs inner breaks' continues scope size room lower back calls pending c many stop last n ss rests a
      (n + 1 + count_labels ss + labels e) (n + 1) first list fine.2 u (topped L k.0) enough))
      (n + 1 + count_labels ss + labels e) (n + 1) test first d.0 refl list fine.2 q h.1 (omega (arith, less, le)))
      (λ t u w fewer. ends_with breaks continues scope size n last next c room lower back calls pending g.1.0 g.1.1 ending beneath_it t u w)))
    where
      fits : {i j k : ℕ} → i ≤ j → j ≡ k → i ≤ k
      fits h same = omega (arith, h, same)

      ends_with : (breaks continues : Exit) (scope : List ℕ) (size n last next c : ℕ) (room : List Value) (lower : List Cell) (back : ℕ) (calls : List ℕ) (pending : List Saved) → x.places n ≡ last
          → LinesStand x.code x.places (last + 0) (dropped 1) → last + 6 ≡ next → ((i : ℕ) → In i scope → position x.layout i + length (part_types x i) ≤ size)
          → (t : Flow) (u : Progress) (w : FlowHolds R x result (record { allowed = true; scope = scope; depth = size + 1; label = n }) continues scope (size + 1 + 0) t u)
          → Sim host R (FlowHolds R x result breaks continues scope (size + 0))
          (flow_place R x result breaks continues scope (size + 0) next room lower back calls pending) u.left
          (flow_credits (7 + c) 0 t)
          (flow_place R x result (record { allowed = true; scope = scope; depth = size + 1; label = n }) continues scope
          (size + 1 + 0) last room lower back calls pending t u w) (flow_credits c 0) (Gives (on_switch t) u)
      ends_with breaks continues scope size n last next c room lower back calls pending over drops ending beneath_it Next u w =
          let same : last + 0 ≡ last = omega arith in
          taken_off breaks continues scope size last next c (7 + c + 0) room lower back calls pending (omega arith)
          (subst (λ k. LinesStand x.code x.places k (dropped 1)) same drops) ending beneath_it u
          (no_more host R x listed tables execute functions caller most result w)
      ends_with breaks continues scope size n last next c room lower back calls pending over drops ending beneath_it Broke u w =
          let same : last + 0 ≡ last = omega arith in
          subst (λ k. Sim host R (FlowHolds R x result breaks continues scope (size + 0)) (flow_place R x result breaks continues scope (size + 0) next room lower back calls pending) u.left (7 + c)
          (spot_at R x k [] (pushed room lower) (back ∷ calls) pending w.1) (flow_credits c 0) (Gives Next u)) (sym over)
          (taken_off breaks continues scope size last next c (7 + c) room lower back calls pending (omega arith)
          (subst (λ k. LinesStand x.code x.places k (dropped 1)) same drops) ending beneath_it u w.1)
      ends_with breaks continues scope size n last next c room lower back calls pending over drops ending beneath_it Continued u w =
          (w, took_less host c (omega arith) (took_none host u.left (7 + c) (spot_at R x (x.places continues.label) [] (pushed room lower) (back ∷ calls) pending w.1)))
      ends_with breaks continues scope size n last next c room lower back calls pending over drops ending beneath_it (Returned v) u w =
          (w, took_less host c (omega arith) (took_none host u.left (7 + c) (spot_at R x back [] (pushed v lower) calls pending w.1)))
