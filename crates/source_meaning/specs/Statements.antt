-- What statements mean in a running script: how they are left, with the steps that they take and
-- what they change.
use Rattle.std.specs.Prelude.{ℕ, zero, suc, pos, List, [], ◌∷◌, Option, None, Some}
use Rattle.nss_tree.specs.Statements.{block, empty, expression, if_only, if_else, while_loop, do_loop, for_loop, switch, break_off, continue_on, return_from, declaration, case_label, default_label, no_stmt, more_stmts}
use Rattle.nwq_value.specs.declared.value.Ty.{Ty}
use Rattle.nwq_value.specs.declared.value.Value.{Value}
use Rattle.nwq_value.specs.declared.value.Value.TheVariants.{Int}
use Rattle.nwq_value.specs.Operators.{values_eq}
use Rattle.typing_rules.specs.Typed.{TypedExpr, TypedName, TypedStmt, TypedStmts}
use Rattle.typing_rules.specs.Cells.{cell_types}
use Rattle.source_meaning.specs.Values.{constant_value, is_true}
use Rattle.source_meaning.specs.Evaluation.{Progress, Outcome, Gives, OutOfSteps, bind, spend, chosen, with_variable}
use Rattle.source_meaning.specs.Expressions.{Running, Caller, made, eval}

-- how a statement is left
pub data Flow : Type 0 where
  -- at its end
  Next : Flow
  -- by `break`, by `continue`, and by `return` with the function's result
  Broke : Flow
  Continued : Flow
  Returned : List Value → Flow

-- what follows a statement that is left at its end
abbrev pub on_next : Flow → (Progress → Outcome Flow) → Progress → Outcome Flow
on_next Next go p = go p
on_next Broke go p = Gives Broke p
on_next Continued go p = Gives Continued p
on_next (Returned parts) go p = Gives (Returned parts) p

-- what follows the body of a loop: `continue` goes on with the loop, and `break` ends it
abbrev pub on_body : Flow → (Progress → Outcome Flow) → Progress → Outcome Flow
on_body Next go p = go p
on_body Broke go p = Gives Next p
on_body Continued go p = go p
on_body (Returned parts) go p = Gives (Returned parts) p

-- what the body of a switch is left by: `break` ends the switch
abbrev pub on_switch : Flow → Flow
on_switch Next = Next
on_switch Broke = Next
on_switch Continued = Continued
on_switch (Returned parts) = Returned parts

-- A loop: each test that is made is a step; where it holds, the body follows, then the third part,
-- and the next turn. At most so many turns are made.
abbrev pub turns : ℕ → (Progress → Outcome (List Value)) → (Progress → Outcome Flow)
    → (Progress → Outcome (List Value)) → Progress → Outcome Flow
turns zero test body third p = OutOfSteps p
turns (suc n) test body third p = bind (test p) (λ v q. spend q (λ r. chosen (is_true v)
    (λ s. bind (body s) (λ f t. on_body f
    (λ u. bind (third u) (λ w x. turns n test body third x)) t))
    (λ s. Gives Next s) r))

-- Each turn takes a step, so a loop makes no more turns than steps are left.
abbrev pub looped : (Progress → Outcome (List Value)) → (Progress → Outcome Flow)
    → (Progress → Outcome (List Value)) → Progress → Outcome Flow
looped test body third p = turns (suc p.left) test body third p

-- ---- the names in sight: those that are declared in front, in the same block or around it

abbrev pub after_names : List TypedName → List ℕ → List ℕ
after_names [] sight = sight
after_names (x ∷ xs) sight = after_names xs (x.name.number ∷ sight)

abbrev pub after_stmt : TypedStmt → List ℕ → List ℕ
after_stmt (declaration m t xs) sight = after_names xs sight
after_stmt _ sight = sight

-- ---- statements

module _ (c : Running) (caller : Caller) where
  -- an expression that may be left out
  abbrev pub maybe : List ℕ → Option TypedExpr → Progress → Outcome (List Value)
  maybe sight None p = Gives [] p
  maybe sight (Some x) p = eval c caller sight x p

  -- a test that is left out is true, and has the step of a literal
  abbrev pub tested : List ℕ → Option TypedExpr → Progress → Outcome (List Value)
  tested sight None p = spend p (λ q. Gives (Int (pos 1) ∷ []) q)
  tested sight (Some x) p = eval c caller sight x p

  -- the value with which a variable is declared
  abbrev pub initial : List ℕ → Ty → Option TypedExpr → Progress → Outcome (List Value)
  initial sight t None p = made (cell_types c.structs t) p
  initial sight t (Some x) p = eval c caller sight x p

  -- A name is in sight after its own value.
  abbrev pub declared : List ℕ → List TypedName → Progress → Outcome Flow
  declared sight [] p = Gives Next p
  declared sight (x ∷ xs) p = bind (initial sight x.name.ty x.value p)
      (λ parts q. declared (x.name.number ∷ sight) xs
      (record q { locals = with_variable q.locals x.name.number parts }))

  abbrev mutual
    pub exec : List ℕ → TypedStmt → Progress → Outcome Flow
    exec sight (block m xs) p = execs sight xs p
    exec sight (empty m) p = Gives Next p
    exec sight (expression m x) p = bind (eval c caller sight x p) (λ parts q. Gives Next q)
    exec sight (if_only m x a) p = bind (eval c caller sight x p)
        (λ v q. chosen (is_true v) (λ r. exec sight a r) (λ r. Gives Next r) q)
    exec sight (if_else m x a b) p = bind (eval c caller sight x p)
        (λ v q. chosen (is_true v) (λ r. exec sight a r) (λ r. exec sight b r) q)
    exec sight (while_loop m x a) p = looped (λ q. eval c caller sight x q) (λ q. exec sight a q)
        (λ q. Gives [] q) p
    -- the body once, then as `while`
    exec sight (do_loop m a x) p = bind (exec sight a p)
        (λ f q. on_body f (λ r. looped (λ s. eval c caller sight x s) (λ s. exec sight a s)
        (λ s. Gives [] s) r) q)
    exec sight (for_loop m x y z a) p = bind (maybe sight x p)
        (λ parts q. looped (λ r. tested sight y r) (λ r. exec sight a r) (λ r. maybe sight z r) q)
    exec sight (switch m x xs) p = bind (eval c caller sight x p)
        (λ v q. bind (selected sight v (λ r. from_default sight xs r) xs q)
        (λ f r. Gives (on_switch f) r))
    exec sight (break_off m) p = spend p (λ q. Gives Broke q)
    exec sight (continue_on m) p = spend p (λ q. Gives Continued q)
    exec sight (return_from m x) p = bind (maybe sight x p)
        (λ parts q. spend q (λ r. Gives (Returned parts) r))
    exec sight (declaration m t xs) p = declared sight xs p
    exec sight (case_label m k) p = Gives Next p
    exec sight (default_label m) p = Gives Next p

    pub execs : List ℕ → TypedStmts → Progress → Outcome Flow
    execs sight no_stmt p = Gives Next p
    execs sight (more_stmts x xs) p = bind (exec sight x p)
        (λ f q. on_next f (λ r. execs (after_stmt x sight) xs r) q)

    -- The cases of a switch are tested in order, each a step; the statements from the first one
    -- that fits on are executed. Where none fits, it goes on otherwise.
    pub selected : List ℕ → List Value → (Progress → Outcome Flow) → TypedStmts → Progress
        → Outcome Flow
    selected sight v otherwise no_stmt p = otherwise p
    selected sight v otherwise (more_stmts (case_label m k) xs) p = spend p (λ q.
        chosen (values_eq v (constant_value c.self k ∷ [])) (λ r. execs sight xs r)
        (λ r. selected sight v otherwise xs r) q)
    selected sight v otherwise (more_stmts x xs) p = selected (after_stmt x sight) v otherwise xs p

    -- the statements from `default` on, where there is one
    pub from_default : List ℕ → TypedStmts → Progress → Outcome Flow
    from_default sight no_stmt p = Gives Next p
    from_default sight (more_stmts (default_label m) xs) p = execs sight xs p
    from_default sight (more_stmts x xs) p = from_default (after_stmt x sight) xs p
