-- Frames that run and wait.
use Rattle.std.proofs.Common.{arith, ◌≡◌, ◌≢◌, ◌<◌, ◌≤◌, ℕ, List, [], ◌∷◌, ◌++◌, length, reverse, Option, Some, None, Bool, true, false, ap, ◌∙◌, refl, if◌then◌else◌}
use Rattle.std.specs.Prelude.{nat_lt}
use Rattle.std.proofs.lemmas.List.{reverse-append, length-reverse}
use Rattle.std.proofs.lemmas.Bool.Decides.{nat_tests}
use Rattle.saved_state.specs.declared.saved.Saved.{Saved}
use Rattle.machine_rules.specs.Frames.{Frame, started}
use Rattle.machine_rules.specs.Act.{Act, Moves, Returns}
use Rattle.machine_rules.specs.Machine.{Script, Host, State, Goes, waiting_limit, script_begun, executed, followed, over, script_named}
use Rattle.world_rules.specs.World.{World}
use Rattle.world_rules.specs.Engine.{may_run, no_script, too_deep}
use Rattle.ncs_machine.specs.Host.{EngineView, host}

pub pushed_last : {A : Type 0} (xs : List A) (x : A) → reverse (xs ++ x ∷ []) ≡ x ∷ reverse xs
pushed_last xs x = reverse-append xs (x ∷ [])

-- what a RETN comes to
pub moves_on : (h : Host (World Saved)) (s : State (World Saved)) (a : Act) (f : Frame) → a ≡ Moves f → followed h s a ≡ Goes (record s { running = f })
moves_on h s a f e = ap (followed h s) e

pub is_over : (h : Host (World Saved)) (s : State (World Saved)) (a : Act) → a ≡ Returns → followed h s a ≡ over s.waiting s
is_over h s a e = ap (followed h s) e

pub ruleset return_lemmas = (moves_on, is_over)

-- ---- a script that begins

pub missing_is : (scripts : List Script) (e : EngineView) (number : Option ℕ) (name : List ℕ) (target : ℕ) (f : Frame) (s : State (World Saved)) → number ≡ None
    → script_begun (host scripts e) number name target f s ≡ record s { running = f; world = no_script target name s.world }
unfolding host
missing_is scripts e number name target f s h = ap (λ number. script_begun (host scripts e) number name target f s) h

pub begins_is : (scripts : List Script) (e : EngineView) (number : Option ℕ) (script : ℕ) (name : List ℕ) (target : ℕ) (f : Frame) (s : State (World Saved)) → number ≡ Some script
    → length s.waiting < waiting_limit → script_begun (host scripts e) number name target f s ≡ record s { running = started script target; waiting = f ∷ s.waiting }
unfolding host
begins_is scripts e number script name target f s h less =
    let test : nat_lt (length s.waiting) waiting_limit ≡ true = grind (arith, nat_tests) in
    ap (λ number. script_begun (host scripts e) number name target f s) h
    ∙ ap (λ (b : Bool). if b then record s { running = started script target; waiting = f ∷ s.waiting } else record s { running = f; world = too_deep target name s.world }) test

pub deep_is : (scripts : List Script) (e : EngineView) (number : Option ℕ) (script : ℕ) (name : List ℕ) (target : ℕ) (f : Frame) (s : State (World Saved)) → number ≡ Some script
    → waiting_limit ≤ length s.waiting → script_begun (host scripts e) number name target f s ≡ record s { running = f; world = too_deep target name s.world }
unfolding host
deep_is scripts e number script name target f s h most =
    let test : nat_lt (length s.waiting) waiting_limit ≡ false = grind (arith, nat_tests) in
    ap (λ number. script_begun (host scripts e) number name target f s) h
    ∙ ap (λ (b : Bool). if b then record s { running = started script target; waiting = f ∷ s.waiting } else record s { running = f; world = too_deep target name s.world }) test

pub ruleset begin_lemmas = (missing_is, begins_is, deep_is, length-reverse)

pub nothing_named : (scripts : List Script) (e : EngineView) (name : List ℕ) (target : ℕ) (f : Frame) (s : State (World Saved)) → name ≡ []
    → executed (host scripts e) name target f s ≡ record s { running = f }
nothing_named scripts e name target f s h = ap (λ name. executed (host scripts e) name target f s) h

pub not_allowed : (scripts : List Script) (e : EngineView) (name : List ℕ) (target : ℕ) (f : Frame) (s : State (World Saved)) → may_run f.self target s.world ≡ false
    → executed (host scripts e) name target f s ≡ record s { running = f }
unfolding host
not_allowed scripts e [] target f s h = refl
not_allowed scripts e (b ∷ name) target f s h =
    ap (λ (c : Bool). if c then script_begun (host scripts e) (script_named scripts (b ∷ name)) (b ∷ name) target f s else record s { running = f }) h

pub is_allowed : (scripts : List Script) (e : EngineView) (name : List ℕ) (target : ℕ) (f : Frame) (s : State (World Saved)) → name ≢ [] → may_run f.self target s.world ≡ true
    → executed (host scripts e) name target f s ≡ script_begun (host scripts e) (script_named scripts name) name target f s
unfolding host
is_allowed scripts e [] target f s some h = absurd (some refl)
is_allowed scripts e (b ∷ name) target f s some h =
    ap (λ (c : Bool). if c then script_begun (host scripts e) (script_named scripts (b ∷ name)) (b ∷ name) target f s else record s { running = f }) h

pub ruleset execute_lemmas = (nothing_named, not_allowed, is_allowed)
