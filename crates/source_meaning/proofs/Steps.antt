-- Evaluations are out of steps only where none is left, and end equally with more of them.
use Rattle.std.proofs.Common.{arith, ◌≡◌, ◌<◌, ◌≤◌, ◌+◌, ℕ, zero, suc, pos, Bool, true, false, List, [], ◌∷◌, Option, None, Some, refl, sym, ap, subst}
use Rattle.std.specs.Prelude.{slice_get}
use Rattle.nss_tree.specs.declared.operators.BinaryOperator.{BinaryOperator}
use Rattle.nss_tree.specs.declared.operators.BinaryOperator.TheVariants as bin
use Rattle.nss_tree.specs.declared.operators.PrefixOperator.{PrefixOperator}
use Rattle.nss_tree.specs.Statements.{block, empty, expression, if_only, if_else, while_loop, do_loop, for_loop, switch, break_off, continue_on, return_from, declaration, case_label, default_label}
use Rattle.nss_tree.specs.Statements.{no_stmt, more_stmts}
use Rattle.nwq_value.specs.declared.value.Ty.{Ty}
use Rattle.nwq_value.specs.declared.value.Ty.TheVariants.{Int as IntTy}
use Rattle.nwq_value.specs.declared.value.Value.{Value}
use Rattle.nwq_value.specs.declared.value.Value.TheVariants.{Int, Text, Object}
use Rattle.nwq_value.specs.declared.engine.Const.{Const}
use Rattle.nwq_value.specs.Operators.{values_eq}
use Rattle.typing_rules.specs.declared.places.Place.{Place}
use Rattle.typing_rules.specs.declared.places.Place.TheVariants.{Local, Global, Const as IsConst}
use Rattle.typing_rules.specs.declared.places.Callee.{Callee}
use Rattle.typing_rules.specs.declared.places.Callee.TheVariants.{Unit as InUnit, Engine}
use Rattle.typing_rules.specs.declared.places.EntryPoint.{EntryPoint}
use Rattle.typing_rules.specs.declared.places.EntryPoint.TheVariants.{Main, Conditional}
use Rattle.typing_rules.specs.Typed.{TypedExpr, TypedExprs, TypedName, TypedStmt, TypedStmts, TypedUnit, literal, name, call, member, prefix, postfix, binary, assign, no_typed, more_typed}
use Rattle.typing_rules.specs.Cells.{cell_types, cells, is_captured}
use Rattle.world_rules.specs.Engine.{engine, may_run, no_script, too_deep}
use Rattle.source_meaning.specs.Values.{constant_value, is_true, divides_by_zero, operate, parts_of, test_value, start_part, one_int, prefixed, postfixed, applied}
use Rattle.source_meaning.specs.Evaluation.{Deferred, Progress, Outcome, Gives, Divides, OutOfSteps, bind, spend, spend_of, chosen, with_variable}
use Rattle.source_meaning.specs.Spots.{Spot, OfLocal, OfGlobal, spot, read_at, written_at}
use Rattle.source_meaning.specs.Expressions.{Running, Caller, Arguments, with_argument, all_parts, answered, deferred, runs_script, executed, asked, engine_called, made, unit_called, defaults}
use Rattle.source_meaning.specs.Expressions.{callee_called, named, member_of, stepped, is_step, before_operand, operated, unwritten, combined, write_there, read_there, assigned, argument, eval, evals}
use Rattle.source_meaning.specs.Statements.{Flow, Next, Broke, Continued, Returned, on_next, on_body, on_switch, turns, looped, maybe, tested, initial, declared, after_stmt, exec, execs, selected}
use Rattle.source_meaning.specs.Statements.{from_default}
use Rattle.source_meaning.specs.Scripts.{Listed, Setting, Function, functions, bound, parameter_names, result_of, waiting_limit, body_run, calls, calling, global_names, no_functions, globals_made}
use Rattle.source_meaning.specs.Scripts.{without_variables, entry_called, unit_started, running, listed_started, script_named, Starter, resumed, starter_begun, executing, started, first_starter}
use Rattle.source_meaning.specs.Scripts.{call_resumed, with_steps, run_script, run_deferred}
use Rattle.source_meaning.specs.Laws.{with_more, SpendsSteps, EntriesSpendSteps}

-- ---- two evaluations, of which the second one may take m steps more

-- the second one ends as the first one does, which has at most n steps left; and where that is out
-- of steps, none is left
abbrev Keeps : {A : Type 0} → ℕ → ℕ → Outcome A → Outcome A → Type 0
Keeps m n (Gives a q) r = (r ≡ Gives a (with_more m q)) × (q.left ≤ n)
Keeps m n (Divides o q) r = r ≡ Divides o (with_more m q)
Keeps m n (OutOfSteps q) r = q.left ≡ 0

keeps_less : {A : Type 0} (m k n : ℕ) (r s : Outcome A) → k ≤ n → Keeps m k r s → Keeps m n r s
keeps_less m k n (Gives a q) s le h = let less = h.1 in (h.0, omega (arith, less, le))
keeps_less m k n (Divides o q) s le h = h
keeps_less m k n (OutOfSteps q) s le h = h

keeps_bind : {A B : Type 0} (m n : ℕ) (r s : Outcome A) (f g : A → Progress → Outcome B) → Keeps m n r s
    → ((a : A) (q : Progress) → q.left ≤ n → Keeps m q.left (f a q) (g a (with_more m q))) → Keeps m n (bind r f) (bind s g)
unfolding bind
keeps_bind m n (Gives a q) s f g h k = subst (λ z. Keeps m n (f a q) (bind z g)) (sym h.0) (keeps_less m q.left n (f a q) (g a (with_more m q)) h.1 (k a q h.1))
keeps_bind m n (Divides o q) s f g h k = ap (λ z. bind z g) h
keeps_bind m n (OutOfSteps q) s f g h k = h

keeps_spend : {A : Type 0} (m : ℕ) (p : Progress) (f g : Progress → Outcome A)
    → ((k : ℕ) → k < p.left → Keeps m k (f (record p { left = k })) (g (with_more m (record p { left = k })))) → Keeps m p.left (spend p f) (spend (with_more m p) g)
unfolding spend
keeps_spend {A} m p f g h = by_left p.left refl
  where
    by_left : (n : ℕ) → p.left ≡ n → Keeps m p.left (spend_of n p f) (spend_of (m + n) (with_more m p) g)
    by_left zero e = e
    by_left (suc k) e =
        let one : suc (m + k) ≡ m + suc k = omega arith in
        subst (λ j. Keeps m p.left (f (record p { left = k })) (spend_of j (with_more m p) g)) one
        (keeps_less m k p.left (f (record p { left = k })) (g (with_more m (record p { left = k }))) (omega (arith, e)) (h k (omega (arith, e))))

keeps_chosen : {A : Type 0} (m n : ℕ) (b : Bool) (f g f' g' : Progress → Outcome A) (p q : Progress) → Keeps m n (f p) (f' q) → Keeps m n (g p) (g' q) → Keeps m n (chosen b f g p) (chosen b f' g' q)
keeps_chosen m n true f g f' g' p q h k = h
keeps_chosen m n false f g f' g' p q h k = k

-- a value that comes in one step
keeps_one : {A : Type 0} (m : ℕ) (p : Progress) (f g : Progress → Outcome A)
    → ((q : Progress) → Keeps m q.left (f q) (g (with_more m q))) → Keeps m p.left (spend p f) (spend (with_more m p) g)
keeps_one m p f g h = keeps_spend m p f g (λ k less. h (record p { left = k }))

given : {A : Type 0} (m : ℕ) (q : Progress) (a : A) → Keeps m q.left (Gives a q) (Gives a (with_more m q))
given m q a = (refl, omega arith)

-- ---- nodes

named_keeps : (m self : ℕ) (place : Place) (p : Progress) → Keeps m p.left (named self place p) (named self place (with_more m p))
named_keeps m self (Local n) p = keeps_one m p (λ q. Gives (q.locals n) q) (λ q. Gives (q.locals n) q) (λ q. given m q (q.locals n))
named_keeps m self (Global n) p = keeps_one m p (λ q. Gives (q.globals n) q) (λ q. Gives (q.globals n) q) (λ q. given m q (q.globals n))
named_keeps m self (IsConst k) p = keeps_one m p (λ q. Gives (constant_value self k ∷ []) q) (λ q. Gives (constant_value self k ∷ []) q) (λ q. given m q (constant_value self k ∷ []))

made_keeps : (m : ℕ) (ts : List Ty) (p : Progress) → Keeps m p.left (made ts p) (made ts (with_more m p))
made_keeps m [] p = given m p []
made_keeps m (t ∷ ts) p = keeps_one m p (λ q. bind (made ts q) (λ parts r. Gives (start_part t ∷ parts) r)) (λ q. bind (made ts q) (λ parts r. Gives (start_part t ∷ parts) r))
    (λ q. keeps_bind m q.left (made ts q) (made ts (with_more m q)) (λ parts r. Gives (start_part t ∷ parts) r) (λ parts r. Gives (start_part t ∷ parts) r) (made_keeps m ts q)
    (λ parts r less. given m r (start_part t ∷ parts)))

defaults_keep : (m self : ℕ) (ks : List Const) (p : Progress) → Keeps m p.left (defaults self ks p) (defaults self ks (with_more m p))
defaults_keep m self [] p = given m p []
defaults_keep m self (k ∷ ks) p =
    let go = λ (values : List (List Value)) (q : Progress). spend q (λ r. Gives ((constant_value self k ∷ []) ∷ values) r) in
    keeps_bind m p.left (defaults self ks p) (defaults self ks (with_more m p)) go go (defaults_keep m self ks p)
    (λ values q less. keeps_one m q (λ r. Gives ((constant_value self k ∷ []) ∷ values) r)
    (λ r. Gives ((constant_value self k ∷ []) ∷ values) r) (λ r. given m r ((constant_value self k ∷ []) ∷ values)))

-- where the value of a part keeps
module _ (m : ℕ) where
  abbrev ValueKeeps : ℕ → (Progress → Outcome (List Value)) → (Progress → Outcome (List Value)) → Type 0
  ValueKeeps most f g = (p : Progress) → p.left ≤ most → Keeps m p.left (f p) (g (with_more m p))

  member_keeps : (s : Option Spot) (before count most : ℕ) (f g : Progress → Outcome (List Value)) → ValueKeeps most f g → ValueKeeps most (member_of s before count f) (member_of s before count g)
  member_keeps None before count most f g h p le =
      let go = λ (parts : List Value) (q : Progress). spend q (λ r. Gives (parts_of before count parts) r) in
      keeps_bind m p.left (f p) (g (with_more m p)) go go (h p le)
      (λ parts q less. keeps_one m q (λ r. Gives (parts_of before count parts) r) (λ r. Gives (parts_of before count parts) r) (λ r. given m r (parts_of before count parts)))
  member_keeps (Some (OfLocal n b)) before count most f g h p le =
      keeps_one m p (λ q. Gives (parts_of (b + before) count (q.locals n)) q) (λ q. Gives (parts_of (b + before) count (q.locals n)) q) (λ q. given m q (parts_of (b + before) count (q.locals n)))
  member_keeps (Some (OfGlobal n b)) before count most f g h p le =
      keeps_one m p (λ q. Gives (parts_of (b + before) count (q.globals n)) q) (λ q. Gives (parts_of (b + before) count (q.globals n)) q) (λ q. given m q (parts_of (b + before) count (q.globals n)))

  -- a write leaves the steps as they are
  written : (s : Spot) (parts : List Value) (q : Progress) → Keeps m q.left (Gives parts (written_at s parts q)) (Gives parts (written_at s parts (with_more m q)))
  written (OfLocal n b) parts q = (refl, omega arith)
  written (OfGlobal n b) parts q = (refl, omega arith)

  stepped_keeps : (s : Option Spot) (change : List Value → List Value) (gives : List Value → List Value → List Value) (p : Progress)
      → Keeps m p.left (stepped s change gives p) (stepped s change gives (with_more m p))
  stepped_keeps None change gives p = keeps_one m p (λ q. Gives [] q) (λ q. Gives [] q) (λ q. given m q [])
  stepped_keeps (Some (OfLocal n b)) change gives p =
      let f = λ (q : Progress). Gives (gives (read_at (OfLocal n b) 1 q) (change (read_at (OfLocal n b) 1 q))) (written_at (OfLocal n b) (change (read_at (OfLocal n b) 1 q)) q) in
      keeps_one m p f f (λ q. (refl, omega arith))
  stepped_keeps (Some (OfGlobal n b)) change gives p =
      let f = λ (q : Progress). Gives (gives (read_at (OfGlobal n b) 1 q) (change (read_at (OfGlobal n b) 1 q))) (written_at (OfGlobal n b) (change (read_at (OfGlobal n b) 1 q)) q) in
      keeps_one m p f f (λ q. (refl, omega arith))

  operand_keeps : (o : PrefixOperator) (b : Bool) (s : Option Spot) (most : ℕ) (f g : Progress → Outcome (List Value))
      → ValueKeeps most f g → ValueKeeps most (before_operand o b s f) (before_operand o b s g)
  operand_keeps o true s most f g h p le = stepped_keeps s (one_int (prefixed o)) (λ old new. new) p
  operand_keeps o false s most f g h p le =
      let go = λ (parts : List Value) (q : Progress). spend q (λ r. Gives (one_int (prefixed o) parts) r) in
      keeps_bind m p.left (f p) (g (with_more m p)) go go (h p le)
      (λ parts q less. keeps_one m q (λ r. Gives (one_int (prefixed o) parts) r) (λ r. Gives (one_int (prefixed o) parts) r) (λ r. given m r (one_int (prefixed o) parts)))

  -- a write that leaves the steps as they are
  abbrev WriteKeeps : (List Value → Progress → Progress) → Type 0
  WriteKeeps write = (parts : List Value) (q : Progress) → Keeps m q.left (Gives parts (write parts q)) (Gives parts (write parts (with_more m q)))

  unwritten_keeps : WriteKeeps unwritten
  unwritten_keeps parts q = given m q parts

  there_keeps : (s : Option Spot) → WriteKeeps (write_there s)
  there_keeps None parts q = given m q parts
  there_keeps (Some s) parts q = written s parts q

  operated_keeps : (self : ℕ) (o : BinaryOperator) (v w : List Value) (write : List Value → Progress → Progress) → WriteKeeps write → (p : Progress)
      → Keeps m p.left (operated self o v w write p) (operated self o v w write (with_more m p))
  operated_keeps self o v w write h p =
      let f = λ (q : Progress). Divides self q in
      let go = λ (r : Progress). Gives (operate o v w) (write (operate o v w) r) in
      keeps_chosen m p.left (divides_by_zero o w) f (λ q. spend q go) f (λ q. spend q go) p (with_more m p) refl (keeps_one m p go go (λ r. h (operate o v w) r))

  plain_keeps : (self : ℕ) (o : BinaryOperator) (most : ℕ) (f g f' g' : Progress → Outcome (List Value)) → ValueKeeps most f f' → ValueKeeps most g g' → (p : Progress) → p.left ≤ most
      → Keeps m p.left (bind (f p) (λ v q. bind (g q) (λ w r. operated self o v w unwritten r))) (bind (f' (with_more m p)) (λ v q. bind (g' q) (λ w r. operated self o v w unwritten r)))
  plain_keeps self o most f g f' g' h k p le =
      keeps_bind m p.left (f p) (f' (with_more m p)) (λ v q. bind (g q) (λ w r. operated self o v w unwritten r)) (λ v q. bind (g' q) (λ w r. operated self o v w unwritten r)) (h p le)
      (λ v q less. keeps_bind m q.left (g q) (g' (with_more m q)) (λ w r. operated self o v w unwritten r) (λ w r. operated self o v w unwritten r) (k q (omega (arith, less, le)))
      (λ w r fewer. operated_keeps self o v w unwritten unwritten_keeps r))

  -- the side that decides alone, and the other one
  decided : (b : Bool) (q : Progress) → Keeps m q.left (spend q (λ r. Gives (test_value b) r)) (spend (with_more m q) (λ r. Gives (test_value b) r))
  decided b q = keeps_one m q (λ r. Gives (test_value b) r) (λ r. Gives (test_value b) r) (λ r. given m r (test_value b))

  other_side : (self : ℕ) (o : BinaryOperator) (v : List Value) (most : ℕ) (g g' : Progress → Outcome (List Value)) → ValueKeeps most g g' → (q : Progress) → q.left ≤ most
      → Keeps m q.left (bind (g q) (λ w s. operated self o v w unwritten s)) (bind (g' (with_more m q)) (λ w s. operated self o v w unwritten s))
  other_side self o v most g g' k q le = keeps_bind m q.left (g q) (g' (with_more m q)) (λ w s. operated self o v w unwritten s) (λ w s. operated self o v w unwritten s) (k q le)
      (λ w r fewer. operated_keeps self o v w unwritten unwritten_keeps r)

  combined_keeps : (self : ℕ) (o : BinaryOperator) (most : ℕ) (f g f' g' : Progress → Outcome (List Value)) → ValueKeeps most f f' → ValueKeeps most g g' → (p : Progress) → p.left ≤ most
      → Keeps m p.left (combined self o f g p) (combined self o f' g' (with_more m p))
  combined_keeps self bin.And most f g f' g' h k p le =
      let other = λ (e : Progress → Outcome (List Value)) (v : List Value) (r : Progress). bind (e r) (λ w s. operated self bin.And v w unwritten s) in
      let alone = λ (r : Progress). spend r (λ s. Gives (test_value false) s) in
      keeps_bind m p.left (f p) (f' (with_more m p)) (λ v q. chosen (is_true v) (other g v) alone q) (λ v q. chosen (is_true v) (other g' v) alone q) (h p le)
      (λ v q less. keeps_chosen m q.left (is_true v) (other g v) alone (other g' v) alone q (with_more m q) (other_side self bin.And v most g g' k q (omega (arith, less, le))) (decided false q))
  combined_keeps self bin.Or most f g f' g' h k p le =
      let other = λ (e : Progress → Outcome (List Value)) (v : List Value) (r : Progress). bind (e r) (λ w s. operated self bin.Or v w unwritten s) in
      let alone = λ (r : Progress). spend r (λ s. Gives (test_value true) s) in
      keeps_bind m p.left (f p) (f' (with_more m p)) (λ v q. chosen (is_true v) alone (other g v) q) (λ v q. chosen (is_true v) alone (other g' v) q) (h p le)
      (λ v q less. keeps_chosen m q.left (is_true v) alone (other g v) alone (other g' v) q (with_more m q) (decided true q) (other_side self bin.Or v most g g' k q (omega (arith, less, le))))
  combined_keeps self o most f g f' g' h k p le = plain_keeps self o most f g f' g' h k p le

  read_keeps : (s : Option Spot) (count : ℕ) (q : Progress) → read_there s count (with_more m q) ≡ read_there s count q
  read_keeps None count q = refl
  read_keeps (Some (OfLocal n b)) count q = refl
  read_keeps (Some (OfGlobal n b)) count q = refl

  assigned_keeps : (self : ℕ) (o : Option BinaryOperator) (s : Option Spot) (count most : ℕ) (f g : Progress → Outcome (List Value)) → ValueKeeps most f g
      → ValueKeeps most (assigned self o s count f) (assigned self o s count g)
  assigned_keeps self None s count most f g h p le =
      let go = λ (parts : List Value) (q : Progress). spend q (λ r. Gives parts (write_there s parts r)) in
      keeps_bind m p.left (f p) (g (with_more m p)) go go (h p le)
      (λ parts q less. keeps_one m q (λ r. Gives parts (write_there s parts r)) (λ r. Gives parts (write_there s parts r)) (λ r. there_keeps s parts r))
  assigned_keeps self (Some o) s count most f g h p le =
      let go = λ (old : List Value) (w : List Value) (r : Progress). operated self o old w (write_there s) r in
      keeps_spend m p (λ q. bind (f q) (go (read_there s count q))) (λ q. bind (g q) (go (read_there s count q)))
      (λ k less.
      let q = record p { left = k } in
      subst (λ old. Keeps m k (bind (f q) (go (read_there s count q))) (bind (g (with_more m q)) (go old))) (sym (read_keeps s count q))
      (keeps_bind m k (f q) (g (with_more m q)) (go (read_there s count q)) (go (read_there s count q)) (h q (omega (arith, less, le)))
      (λ w r fewer. operated_keeps self o (read_there s count q) w (write_there s) (there_keeps s) r)))

-- ---- expressions

-- two callers, of which the second one may take m steps more
abbrev CallersKeep : ℕ → ℕ → Caller → Caller → Type 0
CallersKeep m most caller other = (f : ℕ) (values : List (List Value)) (p : Progress) → p.left < most → Keeps m p.left (caller f values p) (other f values (with_more m p))

-- scripts that a script runs
abbrev ExecuteKeeps : ℕ → (List ℕ → ℕ → Progress → Outcome (List Value)) → Type 0
ExecuteKeeps m execute = (script_name : List ℕ) (target : ℕ) (p : Progress) → Keeps m p.left (execute script_name target p) (execute script_name target (with_more m p))

module _ (m : ℕ) (c : Running) (executes : ExecuteKeeps m c.execute) where
  executed_keeps : (values : List Value) (p : Progress) → Keeps m p.left (executed c values p) (executed c values (with_more m p))
  executed_keeps (Text script_name ∷ Object target ∷ []) p = executes script_name target p
  executed_keeps values p = keeps_one m p (λ q. Gives [] q) (λ q. Gives [] q) (λ q. given m q [])

  asked_keeps : (routine : ℕ) (a : Arguments) (p : Progress) → Keeps m p.left (asked c routine a p) (asked c routine a (with_more m p))
  asked_keeps routine a p =
      let go = λ (q : Progress). answered (engine c.table c.tables routine (record { caller = c.self; values = all_parts a.values; action = a.action }) q.world) q in
      keeps_one m p go go (λ q. (refl, omega arith))

  engine_called_keeps : (routine : ℕ) (a : Arguments) (p : Progress) → Keeps m p.left (engine_called c routine a p) (engine_called c routine a (with_more m p))
  engine_called_keeps routine a p =
      keeps_chosen m p.left (runs_script c.table routine) (λ q. executed c (all_parts a.values) q)
      (λ q. asked c routine a q) (λ q. executed c (all_parts a.values) q) (λ q. asked c routine a q) p
      (with_more m p)
      (executed_keeps (all_parts a.values) p) (asked_keeps routine a p)

  module _ (most : ℕ) (caller other : Caller) (callers : CallersKeep m most caller other) where
    unit_called_keeps : (f : ℕ) (a : Arguments) (p : Progress) → p.left ≤ most → Keeps m p.left (unit_called caller f a p) (unit_called other f a (with_more m p))
    unit_called_keeps f a p le =
        let go = λ (by : Caller) (q : Progress). bind (by f a.values q) (λ parts r. Gives parts (record r { locals = q.locals })) in
        keeps_spend m p (go caller) (go other)
        (λ k less. let q = record p { left = k } in
        keeps_bind m k (caller f a.values q) (other f a.values (with_more m q)) (λ parts r. Gives parts (record r { locals = q.locals })) (λ parts r. Gives parts (record r { locals = q.locals }))
        (callers f a.values q (omega (arith, less, le))) (λ parts r fewer. (refl, omega arith)))

    abbrev ArgumentsKeep : (Progress → Outcome Arguments) → (Progress → Outcome Arguments) → Type 0
    ArgumentsKeep f g = (p : Progress) → p.left ≤ most → Keeps m p.left (f p) (g (with_more m p))

    called_keeps : (f : Callee) (ts : List Ty) (g h : Progress → Outcome Arguments) → ArgumentsKeep g h → (p : Progress) → p.left ≤ most
        → Keeps m p.left (callee_called c caller f ts g p) (callee_called c other f ts h (with_more m p))
    called_keeps (InUnit f) ts g h keep p le =
        keeps_bind m p.left (made ts p) (made ts (with_more m p)) (λ parts q. bind (g q) (λ a r. unit_called caller f a r)) (λ parts q. bind (h q) (λ a r. unit_called other f a r)) (made_keeps m ts p)
        (λ parts q less. keeps_bind m q.left (g q) (h (with_more m q)) (λ a r. unit_called caller f a r) (λ a r. unit_called other f a r) (keep q (omega (arith, less, le)))
        (λ a r fewer. unit_called_keeps f a r (omega (arith, fewer, less, le))))
    called_keeps (Engine routine) ts g h keep p le =
        keeps_bind m p.left (g p) (h (with_more m p)) (λ a q. engine_called c routine a q) (λ a q. engine_called c routine a q) (keep p le) (λ a q less. engine_called_keeps routine a q)

    argument_keeps : (sight : List ℕ) (b : Bool) (e : TypedExpr) (f g : Progress → Outcome (List Value)) → ValueKeeps m most f g → (a : Arguments) (p : Progress) → p.left ≤ most
        → Keeps m p.left (argument c sight b e f a p) (argument c sight b e g a (with_more m p))
    argument_keeps sight true e f g h a p le =
        let go = λ (q : Progress). Gives (record a { action = Some (deferred c sight e q) }) q in
        keeps_one m p go go (λ q. (refl, omega arith))
    argument_keeps sight false e f g h a p le =
        let go = λ (parts : List Value) (q : Progress). Gives (with_argument parts a) q in
        keeps_bind m p.left (f p) (g (with_more m p)) go go (h p le) (λ parts q less. given m q (with_argument parts a))

    mutual
      eval_keeps : (e : TypedExpr) (sight : List ℕ) → ValueKeeps m most (eval c caller sight e) (eval c other sight e)
      eval_keeps (literal k) sight p le = keeps_one m p (λ q. Gives (constant_value c.self k ∷ []) q) (λ q. Gives (constant_value c.self k ∷ []) q) (λ q. given m q (constant_value c.self k ∷ []))
      eval_keeps (name t place) sight p le = named_keeps m c.self place p
      eval_keeps (call t f es ks) sight p le =
          let go = λ (by : Caller) (values : List (List Value)) (r : Progress). evals c by sight es (record { values = values; action = None }) r in
          called_keeps f (cell_types c.structs t) (λ q. bind (defaults c.self ks q) (go caller)) (λ q. bind (defaults c.self ks q) (go other))
          (λ q less. keeps_bind m q.left (defaults c.self ks q) (defaults c.self ks (with_more m q)) (go caller) (go other) (defaults_keep m c.self ks q)
          (λ values r fewer. evals_keep es sight (record { values = values; action = None }) r (omega (arith, fewer, less)))) p le
      eval_keeps (member t e before) sight p le = member_keeps m (spot e) before (cells c.structs t) most (λ q. eval c caller sight e q) (λ q. eval c other sight e q) (eval_keeps e sight) p le
      eval_keeps (prefix t o e) sight p le = operand_keeps m o (is_step o) (spot e) most (λ q. eval c caller sight e q) (λ q. eval c other sight e q) (eval_keeps e sight) p le
      eval_keeps (postfix t o e) sight p le = stepped_keeps m (spot e) (one_int (postfixed o)) (λ old new. old) p
      eval_keeps (binary t o d e) sight p le =
          combined_keeps m c.self o most (λ q. eval c caller sight d q) (λ q. eval c caller sight e q)
          (λ q. eval c other sight d q) (λ q. eval c other sight e q) (eval_keeps d sight) (eval_keeps e sight) p le
      eval_keeps (assign t o d e) sight p le =
          assigned_keeps m c.self (applied o) (spot d) (cells c.structs t) most (λ q. eval c caller sight e q) (λ q. eval c other sight e q) (eval_keeps e sight) p le

      evals_keep : (es : TypedExprs) (sight : List ℕ) (a : Arguments) → ArgumentsKeep (evals c caller sight es a) (evals c other sight es a)
      evals_keep no_typed sight a p le = given m p a
      evals_keep (more_typed e es) sight a p le =
          let go = λ (by : Caller) (b : Arguments) (q : Progress). argument c sight (is_captured e) e (λ r. eval c by sight e r) b q in
          keeps_bind m p.left (evals c caller sight es a p) (evals c other sight es a (with_more m p)) (go caller) (go other) (evals_keep es sight a p le)
          (λ b q less. argument_keeps sight (is_captured e) e (λ r. eval c caller sight e r) (λ r. eval c other sight e r) (eval_keeps e sight) b q (omega (arith, less, le)))

    -- ---- statements

    abbrev FlowKeeps : (Progress → Outcome Flow) → (Progress → Outcome Flow) → Type 0
    FlowKeeps f g = (p : Progress) → p.left ≤ most → Keeps m p.left (f p) (g (with_more m p))

    next_keeps : (t : Flow) (f g : Progress → Outcome Flow) → FlowKeeps f g → FlowKeeps (on_next t f) (on_next t g)
    next_keeps Next f g h p le = h p le
    next_keeps Broke f g h p le = given m p Broke
    next_keeps Continued f g h p le = given m p Continued
    next_keeps (Returned parts) f g h p le = given m p (Returned parts)

    body_keeps : (t : Flow) (f g : Progress → Outcome Flow) (p : Progress) → Keeps m p.left (f p) (g (with_more m p)) → Keeps m p.left (on_body t f p) (on_body t g (with_more m p))
    body_keeps Next f g p h = h
    body_keeps Broke f g p h = given m p Next
    body_keeps Continued f g p h = h
    body_keeps (Returned parts) f g p h = given m p (Returned parts)

    turns_keep : (k : ℕ) (test test' third third' : Progress → Outcome (List Value))
        (body body' : Progress → Outcome Flow) → ValueKeeps m most test test' → FlowKeeps body body'
        → ValueKeeps m most third third'
        → (p : Progress) → p.left < k → p.left ≤ most → Keeps m p.left (turns k test body third p) (turns (m + k) test' body' third' (with_more m p))
    turns_keep zero test test' third third' body body' tests bodies thirds p few le = absurd (omega (arith, few))
    turns_keep (suc k) test test' third third' body body' tests bodies thirds p few le =
        let one : suc (m + k) ≡ m + suc k = omega arith in
        let turn = λ (j : ℕ) (a third : Progress → Outcome (List Value)) (body : Progress → Outcome Flow) (u : Progress). bind (third u) (λ w x. turns j a body third x) in
        let round = λ (j : ℕ) (a third : Progress → Outcome (List Value)) (body : Progress → Outcome Flow) (s : Progress). bind (body s) (λ f t. on_body f (λ u. turn j a third body u) t) in
        let after = λ (j : ℕ) (a third : Progress → Outcome (List Value)) (body : Progress → Outcome Flow)
        (v : List Value) (r : Progress). chosen (is_true v) (λ s. round j a third body s) (λ s. Gives Next s) r in
        subst (λ j. Keeps m p.left (turns (suc k) test body third p) (turns j test' body' third' (with_more m p))) one
        (keeps_bind m p.left (test p) (test' (with_more m p)) (λ v q. spend q (after k test third body v)) (λ v q. spend q (after (m + k) test' third' body' v)) (tests p le)
        (λ v q less. keeps_spend m q (after k test third body v) (after (m + k) test' third' body' v)
        (λ j fewer. let r = record q { left = j } in
        keeps_chosen m j (is_true v) (λ s. round k test third body s) (λ s. Gives Next s) (λ s. round (m + k) test' third' body' s) (λ s. Gives Next s) r (with_more m r)
        (keeps_bind m j (body r) (body' (with_more m r)) (λ f t. on_body f (λ u. turn k test third body u) t) (λ f t. on_body f (λ u. turn (m + k) test' third' body' u) t)
        (bodies r (omega (arith, fewer, less, le)))
        (λ f t below. body_keeps f (λ u. turn k test third body u) (λ u. turn (m + k) test' third' body' u) t
        (keeps_bind m t.left (third t) (third' (with_more m t)) (λ w x. turns k test body third x) (λ w x. turns (m + k) test' body' third' x) (thirds t (omega (arith, below, fewer, less, le)))
        (λ w x lower. turns_keep k test test' third third' body body' tests bodies thirds x (omega (arith, lower, below, fewer, less, few)) (omega (arith, lower, below, fewer, less, le))))))
        (given m r Next))))

    looped_keeps : (test test' third third' : Progress → Outcome (List Value)) (body body' : Progress → Outcome Flow)
        → ValueKeeps m most test test' → FlowKeeps body body' → ValueKeeps m most third third'
        → FlowKeeps (looped test body third) (looped test' body' third')
    looped_keeps test test' third third' body body' tests bodies thirds p le =
        let one : m + suc p.left ≡ suc (m + p.left) = omega arith in
        subst (λ j. Keeps m p.left (turns (suc p.left) test body third p) (turns j test' body' third' (with_more m p))) one
        (turns_keep (suc p.left) test test' third third' body body' tests bodies thirds p (omega arith) le)

    nothing_keeps : ValueKeeps m most (λ q. Gives [] q) (λ q. Gives [] q)
    nothing_keeps p le = given m p []

    maybe_keeps : (sight : List ℕ) (o : Option TypedExpr) → ValueKeeps m most (maybe c caller sight o) (maybe c other sight o)
    maybe_keeps sight None p le = given m p []
    maybe_keeps sight (Some e) p le = eval_keeps e sight p le

    tested_keeps : (sight : List ℕ) (o : Option TypedExpr) → ValueKeeps m most (tested c caller sight o) (tested c other sight o)
    tested_keeps sight None p le = keeps_one m p (λ q. Gives (Int (pos 1) ∷ []) q) (λ q. Gives (Int (pos 1) ∷ []) q) (λ q. given m q (Int (pos 1) ∷ []))
    tested_keeps sight (Some e) p le = eval_keeps e sight p le

    initial_keeps : (sight : List ℕ) (t : Ty) (o : Option TypedExpr) → ValueKeeps m most (initial c caller sight t o) (initial c other sight t o)
    initial_keeps sight t None p le = made_keeps m (cell_types c.structs t) p
    initial_keeps sight t (Some e) p le = eval_keeps e sight p le

    declared_keeps : (ds : List TypedName) (sight : List ℕ) → FlowKeeps (declared c caller sight ds) (declared c other sight ds)
    declared_keeps [] sight p le = given m p Next
    declared_keeps (d ∷ ds) sight p le =
        let go = λ (by : Caller) (parts : List Value) (q : Progress). declared c by (d.name.number ∷ sight) ds (record q { locals = with_variable q.locals d.name.number parts }) in
        keeps_bind m p.left (initial c caller sight d.name.ty d.value p) (initial c other sight d.name.ty d.value (with_more m p)) (go caller) (go other) (initial_keeps sight d.name.ty d.value p le)
        (λ parts q less. declared_keeps ds (d.name.number ∷ sight) (record q { locals = with_variable q.locals d.name.number parts }) (omega (arith, less, le)))

    mutual
      exec_keeps : (s : TypedStmt) (sight : List ℕ) → FlowKeeps (exec c caller sight s) (exec c other sight s)
      exec_keeps (block n xs) sight p le = execs_keep xs sight p le
      exec_keeps (empty n) sight p le = given m p Next
      exec_keeps (expression n e) sight p le =
          let go = λ (parts : List Value) (q : Progress). Gives Next q in
          keeps_bind m p.left (eval c caller sight e p) (eval c other sight e (with_more m p)) go go (eval_keeps e sight p le) (λ parts q less. given m q Next)
      exec_keeps (if_only n e a) sight p le =
          let go = λ (by : Caller) (v : List Value) (q : Progress). chosen (is_true v) (λ r. exec c by sight a r) (λ r. Gives Next r) q in
          keeps_bind m p.left (eval c caller sight e p) (eval c other sight e (with_more m p)) (go caller) (go other) (eval_keeps e sight p le)
          (λ v q less. keeps_chosen m q.left (is_true v) (λ r. exec c caller sight a r) (λ r. Gives Next r) (λ r. exec c other sight a r) (λ r. Gives Next r) q (with_more m q)
          (exec_keeps a sight q (omega (arith, less, le))) (given m q Next))
      exec_keeps (if_else n e a b) sight p le =
          let go = λ (by : Caller) (v : List Value) (q : Progress). chosen (is_true v) (λ r. exec c by sight a r) (λ r. exec c by sight b r) q in
          keeps_bind m p.left (eval c caller sight e p) (eval c other sight e (with_more m p)) (go caller) (go other) (eval_keeps e sight p le)
          (λ v q less. keeps_chosen m q.left (is_true v) (λ r. exec c caller sight a r) (λ r. exec c caller sight b r) (λ r. exec c other sight a r) (λ r. exec c other sight b r) q (with_more m q)
          (exec_keeps a sight q (omega (arith, less, le))) (exec_keeps b sight q (omega (arith, less, le))))
      exec_keeps (while_loop n e a) sight p le =
          looped_keeps (λ q. eval c caller sight e q) (λ q. eval c other sight e q) (λ q. Gives [] q) (λ q. Gives [] q) (λ q. exec c caller sight a q) (λ q. exec c other sight a q)
          (eval_keeps e sight) (exec_keeps a sight) nothing_keeps p le
      exec_keeps (do_loop n a e) sight p le =
          let loop = λ (by : Caller) (r : Progress). looped (λ s. eval c by sight e s) (λ s. exec c by sight a s) (λ s. Gives [] s) r in
          keeps_bind m p.left (exec c caller sight a p) (exec c other sight a (with_more m p)) (λ f q. on_body f (loop caller) q) (λ f q. on_body f (loop other) q) (exec_keeps a sight p le)
          (λ f q less. body_keeps f (loop caller) (loop other) q
          (looped_keeps (λ r. eval c caller sight e r) (λ r. eval c other sight e r) (λ r. Gives [] r) (λ r. Gives [] r) (λ r. exec c caller sight a r) (λ r. exec c other sight a r)
          (eval_keeps e sight) (exec_keeps a sight) nothing_keeps q (omega (arith, less, le))))
      exec_keeps (for_loop n x y z a) sight p le =
          let go = λ (by : Caller) (parts : List Value) (q : Progress). looped (λ r. tested c by sight y r) (λ r. exec c by sight a r) (λ r. maybe c by sight z r) q in
          keeps_bind m p.left (maybe c caller sight x p) (maybe c other sight x (with_more m p)) (go caller) (go other) (maybe_keeps sight x p le)
          (λ parts q less. looped_keeps (λ r. tested c caller sight y r) (λ r. tested c other sight y r) (λ r. maybe c caller sight z r) (λ r. maybe c other sight z r)
          (λ r. exec c caller sight a r) (λ r. exec c other sight a r) (tested_keeps sight y) (exec_keeps a sight) (maybe_keeps sight z) q (omega (arith, less, le)))
      exec_keeps (switch n e xs) sight p le =
          let ends = λ (f : Flow) (r : Progress). Gives (on_switch f) r in
          let go = λ (by : Caller) (v : List Value) (q : Progress). bind (selected c by sight v (λ r. from_default c by sight xs r) xs q) ends in
          keeps_bind m p.left (eval c caller sight e p) (eval c other sight e (with_more m p)) (go caller) (go other) (eval_keeps e sight p le)
          (λ v q less. keeps_bind m q.left (selected c caller sight v (λ r. from_default c caller sight xs r) xs q)
          (selected c other sight v (λ r. from_default c other sight xs r) xs (with_more m q)) ends ends
          (selected_keeps xs sight v (λ r. from_default c caller sight xs r) (λ r. from_default c other sight xs r) (default_keeps xs sight) q (omega (arith, less, le)))
          (λ f r fewer. given m r (on_switch f)))
      exec_keeps (break_off n) sight p le = keeps_one m p (λ q. Gives Broke q) (λ q. Gives Broke q) (λ q. given m q Broke)
      exec_keeps (continue_on n) sight p le = keeps_one m p (λ q. Gives Continued q) (λ q. Gives Continued q) (λ q. given m q Continued)
      exec_keeps (return_from n o) sight p le =
          let go = λ (parts : List Value) (q : Progress). spend q (λ r. Gives (Returned parts) r) in
          keeps_bind m p.left (maybe c caller sight o p) (maybe c other sight o (with_more m p)) go go (maybe_keeps sight o p le)
          (λ parts q less. keeps_one m q (λ r. Gives (Returned parts) r) (λ r. Gives (Returned parts) r) (λ r. given m r (Returned parts)))
      exec_keeps (declaration n t ds) sight p le = declared_keeps ds sight p le
      exec_keeps (case_label n k) sight p le = given m p Next
      exec_keeps (default_label n) sight p le = given m p Next

      execs_keep : (ss : TypedStmts) (sight : List ℕ) → FlowKeeps (execs c caller sight ss) (execs c other sight ss)
      execs_keep no_stmt sight p le = given m p Next
      execs_keep (more_stmts s ss) sight p le =
          let rest = λ (by : Caller) (r : Progress). execs c by (after_stmt s sight) ss r in
          keeps_bind m p.left (exec c caller sight s p) (exec c other sight s (with_more m p)) (λ f q. on_next f (rest caller) q) (λ f q. on_next f (rest other) q) (exec_keeps s sight p le)
          (λ f q less. next_keeps f (rest caller) (rest other) (execs_keep ss (after_stmt s sight)) q (omega (arith, less, le)))

      selected_keeps : (ss : TypedStmts) (sight : List ℕ) (v : List Value) (f g : Progress → Outcome Flow) → FlowKeeps f g → FlowKeeps (selected c caller sight v f ss) (selected c other sight v g ss)
      selected_keeps no_stmt sight v f g h p le = h p le
      selected_keeps (more_stmts (case_label n k) ss) sight v f g h p le =
          let go = λ (by : Caller) (e : Progress → Outcome Flow) (q : Progress). chosen
          (values_eq v (constant_value c.self k ∷ [])) (λ r. execs c by sight ss r)
          (λ r. selected c by sight v e ss r) q in
          keeps_spend m p (go caller f) (go other g)
          (λ j less. let q = record p { left = j } in
          keeps_chosen m j (values_eq v (constant_value c.self k ∷ [])) (λ r. execs c caller sight ss r)
          (λ r. selected c caller sight v f ss r) (λ r. execs c other sight ss r)
          (λ r. selected c other sight v g ss r)
          q (with_more m q) (execs_keep ss sight q (omega (arith, less, le))) (selected_keeps ss sight v f g h q (omega (arith, less, le))))
      selected_keeps (more_stmts s ss) sight v f g h p le = selected_keeps ss (after_stmt s sight) v f g h p le

      default_keeps : (ss : TypedStmts) (sight : List ℕ) → FlowKeeps (from_default c caller sight ss) (from_default c other sight ss)
      default_keeps no_stmt sight p le = given m p Next
      default_keeps (more_stmts (default_label n) ss) sight p le = execs_keep ss sight p le
      default_keeps (more_stmts s ss) sight p le = default_keeps ss (after_stmt s sight) p le

-- ---- functions and scripts

module _ (m : ℕ) (c : Running) (executes : ExecuteKeeps m c.execute) (fs : List Function) where
  body_run_keeps : (k : ℕ) (caller other : Caller) → CallersKeep m k caller other → (o : Option Function) (values : List (List Value)) (p : Progress) → p.left ≤ k
      → Keeps m p.left (body_run c caller o values p) (body_run c other o values (with_more m p))
  body_run_keeps k caller other callers None values p le = given m p []
  body_run_keeps k caller other callers (Some fn) values p le =
      let go = λ (flow : Flow) (q : Progress). Gives (result_of (cell_types c.structs fn.result) flow) q in
      let q = record p { locals = bound fn.parameters values } in
      keeps_bind m p.left (execs c caller (parameter_names fn.parameters) fn.body q) (execs c other (parameter_names fn.parameters) fn.body (with_more m q)) go go
      (execs_keep m c executes k caller other callers fn.body (parameter_names fn.parameters) q le)
      (λ flow r less. given m r (result_of (cell_types c.structs fn.result) flow))

  calls_keep : (k : ℕ) → CallersKeep m k (calls c fs k) (calls c fs (m + k))
  calls_keep zero f values p few = absurd (omega (arith, few))
  calls_keep (suc k) f values p few =
      let one : suc (m + k) ≡ m + suc k = omega arith in
      subst (λ j. Keeps m p.left (calls c fs (suc k) f values p) (calls c fs j f values (with_more m p))) one
      (body_run_keeps k (calls c fs k) (calls c fs (m + k)) (calls_keep k) (slice_get fs f) values p (omega (arith, few)))

  calling_keeps : (p : Progress) → CallersKeep m (suc p.left) (calling c fs p) (calling c fs (with_more m p))
  calling_keeps p =
      let one : m + suc p.left ≡ suc (m + p.left) = omega arith in
      subst (λ j. CallersKeep m (suc p.left) (calls c fs (suc p.left)) (calls c fs j)) one (calls_keep (suc p.left))

  entry_keeps : (e : EntryPoint) (p q : Progress) → q.left ≤ p.left → Keeps m q.left (entry_called (calling c fs p) e q) (entry_called (calling c fs (with_more m p)) e (with_more m q))
  entry_keeps (Main f) p q le = calling_keeps p f [] q (omega (arith, le))
  entry_keeps (Conditional f) p q le =
      keeps_bind m q.left (made (IntTy ∷ []) q) (made (IntTy ∷ []) (with_more m q)) (λ parts r. calling c fs p f [] r) (λ parts r. calling c fs (with_more m p) f [] r) (made_keeps m (IntTy ∷ []) q)
      (λ parts r less. calling_keeps p f [] r (omega (arith, less, le)))

module _ (m : ℕ) (c : Running) (executes : ExecuteKeeps m c.execute) where
  unit_keeps : (u : TypedUnit) (p : Progress) → Keeps m p.left (unit_started c u p) (unit_started c u (with_more m p))
  unit_keeps u p =
      let fs = functions u.items in
      let go = λ (flow : Flow) (q : Progress). entry_called (calling c fs q) u.entry (globals_made q) in
      let q = without_variables p in
      keeps_bind m p.left (declared c no_functions [] (global_names u.items) q) (declared c no_functions [] (global_names u.items) (with_more m q)) go go
      (declared_keeps m c executes p.left no_functions no_functions (λ f values r few. given m r []) (global_names u.items) [] q (omega arith))
      (λ flow r less. entry_keeps m c executes fs u.entry r (globals_made r) (omega arith))

module _ (m : ℕ) (s : Setting) where
  listed_keeps : (execute : ℕ → List ℕ → ℕ → Progress → Outcome (List Value)) → ((self : ℕ) → ExecuteKeeps m (execute self)) → (script self : ℕ) (o : Option Listed) (p : Progress)
      → Keeps m p.left (listed_started s execute script self o p) (listed_started s execute script self o (with_more m p))
  listed_keeps execute keeps script self None p = given m p []
  listed_keeps execute keeps script self (Some l) p =
      let c = running s (execute self) script self l.unit in
      let go = λ (q : Progress). bind (unit_started c l.unit q) (λ parts r. Gives [] r) in
      keeps_one m p go go
      (λ q. keeps_bind m q.left (unit_started c l.unit q) (unit_started c l.unit (with_more m q))
      (λ parts r. Gives [] r) (λ parts r. Gives [] r) (unit_keeps m c (keeps self) l.unit q)
      (λ parts r less. given m r []))

  StartKeeps : Option Starter → Type 0
  StartKeeps None = Unit {0}
  StartKeeps (Some start) = (script self : ℕ) (p : Progress) → Keeps m p.left (start script self p) (start script self (with_more m p))

  begun_keeps : (start : Option Starter) → StartKeeps start → (script : Option ℕ) (script_name : List ℕ) (target : ℕ) (p : Progress)
      → Keeps m p.left (starter_begun start script script_name target p) (starter_begun start script script_name target (with_more m p))
  unfolding StartKeeps
  begun_keeps start h None script_name target p =
      let go = λ (q : Progress). Gives [] (record q { world = no_script target script_name q.world }) in
      keeps_one m p go go (λ q. (refl, omega arith))
  begun_keeps None h (Some script) script_name target p =
      let go = λ (q : Progress). Gives [] (record q { world = too_deep target script_name q.world }) in
      keeps_one m p go go (λ q. (refl, omega arith))
  begun_keeps (Some start) h (Some script) script_name target p =
      let go = λ (parts : List Value) (q : Progress). spend (resumed p q) (λ r. Gives [] r) in
      keeps_bind m p.left (start script target p) (start script target (with_more m p)) go go (h script target p)
      (λ parts q less. keeps_one m (resumed p q) (λ r. Gives [] r) (λ r. Gives [] r) (λ r. given m r []))

  executing_keeps : (start : Option Starter) → StartKeeps start → (self : ℕ) → ExecuteKeeps m (executing s start self)
  executing_keeps start h self [] target p = keeps_one m p (λ q. Gives [] q) (λ q. Gives [] q) (λ q. given m q [])
  executing_keeps start h self (b ∷ script_name) target p =
      let go = λ (q : Progress). starter_begun start (script_named s.scripts (b ∷ script_name)) (b ∷ script_name) target q in
      let stays = λ (q : Progress). spend q (λ r. Gives [] r) in
      keeps_chosen m p.left (may_run self target p.world) go stays go stays p (with_more m p) (begun_keeps start h (script_named s.scripts (b ∷ script_name)) (b ∷ script_name) target p)
      (keeps_one m p (λ q. Gives [] q) (λ q. Gives [] q) (λ q. given m q []))

  started_keeps : (room script self : ℕ) (p : Progress) → Keeps m p.left (started s room script self p) (started s room script self (with_more m p))
  unfolding StartKeeps
  started_keeps zero script self p = listed_keeps (executing s None) (λ o. executing_keeps None tt o) script self (slice_get s.scripts script) p
  started_keeps (suc room) script self p =
      listed_keeps (executing s (Some (started s room))) (λ o. executing_keeps (Some (started s room)) (λ n t q. started_keeps room n t q) o) script self (slice_get s.scripts script) p

  resumed_keeps : (d : Deferred) (self : ℕ) (o : Option Listed) (p : Progress) → Keeps m p.left (call_resumed s d self o p) (call_resumed s d self o (with_more m p))
  unfolding StartKeeps
  resumed_keeps d self None p = given m p []
  resumed_keeps d self (Some l) p =
      let c = running s (executing s (first_starter s) self) d.script self l.unit in
      let fs = functions l.unit.items in
      let keeps = executing_keeps (first_starter s) (λ n t q. started_keeps 7 n t q) self in
      let q = record p { globals = d.globals; locals = d.locals } in
      eval_keeps m c keeps (suc p.left) (calling c fs q) (calling c fs (with_more m q)) (calling_keeps m c keeps fs q) d.call d.sight q (omega arith)

-- ---- entries

spends : (run : ℕ → Outcome (List Value)) → ((m n : ℕ) → Keeps m n (run n) (run (m + n))) → SpendsSteps run
spends run keeps = record {
  none_left = λ n p is. subst (λ r. Keeps 0 n r (run (0 + n))) is (keeps 0 n);
  given = λ n m parts p is. (subst (λ r. Keeps m n r (run (m + n))) is (keeps m n)).0;
  divided = λ n m self p is. subst (λ r. Keeps m n r (run (m + n))) is (keeps m n);
}

pub entries_spend_steps : EntriesSpendSteps
entries_spend_steps s self world = (
  λ script. spends (λ n. run_script s n script self world) (λ m n. started_keeps m s waiting_limit script self (with_steps n world)),
  λ d. spends (λ n. run_deferred s n d self world) (λ m n. resumed_keeps m s d self (slice_get s.scripts d.script) (with_steps n world)),
)
