-- Scripts that are run do what running them means, by how many more may wait.
use Rattle.std.proofs.Common.{arith, ◌≡◌, ◌≤◌, ◌<◌, ◌+◌, ◌-◌, ℕ, zero, suc, Bool, true, false, List, [], ◌∷◌, map, length, Option, Some, None, slice_get, sym, subst, ◌∙◌, ap, ap₂, refl}
use Rattle.std.specs.Prelude.{nat_lt, if◌then◌else◌, cond, not}
use Rattle.std.specs.Char.{to_ascii_lowercase}
use Rattle.std.specs.List.{prefix_len, position_or_len}
use Rattle.std.specs.Str.{bytes_eq}
use Rattle.std.proofs.lemmas.Bool.Decides.{nat_tests}
use Rattle.std.proofs.lemmas.List.{length-map}
use Rattle.nwq_value.specs.declared.value.Ty.TheVariants.{Void}
use Rattle.nwq_value.specs.declared.value.Value.{Value}
use Rattle.saved_state.specs.declared.cell.Cell.{Cell}
use Rattle.saved_state.specs.declared.saved.Saved.{Saved}
use Rattle.world_rules.specs.World.{World}
use Rattle.world_rules.specs.Engine.{may_run, no_script, too_deep}
use Rattle.world_rules.specs.Alike.{Alike}
use Rattle.machine_rules.specs.Frames.{Frame}
use Rattle.machine_rules.specs.Machine.{Script, Goes, waiting_limit, step}
use Rattle.machine_rules.specs.Machine as machine
use Rattle.source_meaning.specs.Evaluation.{Deferred, Progress, Outcome, Gives, Divides, OutOfSteps, bind, spend}
use Rattle.source_meaning.specs.Scripts.{Listed, Setting, Starter, script_named, resumed, starter_begun, executing, started, next_starter, listed_started}
use Rattle.source_laws.specs.Ledger.{Machine, MachineHost, Took, Sim}
use Rattle.source_laws.specs.Kept.{Site, Kept, spot_at}
use Rattle.source_laws.specs.Carries.{Carries}
use Rattle.source_laws.specs.Simulation.{HoldsValue, value_place, value_credits}
use Rattle.source_laws.specs.Calling.{ExecutesRun}
use Rattle.source_laws.specs.Executing.{script_of, IsHostOf, start_state, IsAtLast, last_state, StartsDo, ScriptsExecute}
use Rattle.source_laws.proofs.Ledger.{took_none, took_cost, took_less, sim_after, sim_bind, sim_paid, sim_chosen}
use Rattle.world_rules.specs.StayAlike.{may_run_alike, no_script_keeps_alike, too_deep_keeps_alike}

-- ---- listed scripts by their names

front_of : (name : List ℕ) (ls : List Listed) → prefix_len (λ (c : Script). not (bytes_eq (map to_ascii_lowercase name) c.name)) (map script_of ls)
    ≡ prefix_len (λ (l : Listed). not (bytes_eq (map to_ascii_lowercase name) l.name)) ls
front_of name [] = refl
front_of name (l ∷ ls) = ap (λ (n : ℕ). cond (not (bytes_eq (map to_ascii_lowercase name) l.name)) (1 + n) 0) (front_of name ls)

-- machine and meaning have the same numbers of scripts
pub same_named : (name : List ℕ) (scripts : List Script) (ls : List Listed) → scripts ≡ map script_of ls → machine.script_named scripts name ≡ script_named ls name
same_named name scripts ls is =
    ap (λ cs. machine.script_named cs name) is
    ∙ ap₂ (λ (n m : ℕ). cond (nat_lt n m) (Some n) None) (front_of name ls) (length-map ls script_of)

listed_at : (ls : List Listed) (i : ℕ) → i < length ls → (l : Listed) × (slice_get ls i ≡ Some l)
listed_at [] i h = absurd (omega arith)
listed_at (l ∷ ls) zero h = (l, refl)
listed_at (l ∷ ls) (suc i) h = listed_at ls i (omega arith)

below : (b : Bool) (n m i : ℕ) → nat_lt n m ≡ b → cond b (Some n) None ≡ Some i → i < m
below true n m i h is =
    let same : n ≡ i = cc in
    let less : n < m = grind (arith, nat_tests, h) in
    omega (arith, same, less)
below false n m i h is = absurd cc

-- a script that is found by its name is listed
pub named_listed : (ls : List Listed) (name : List ℕ) (i : ℕ) → script_named ls name ≡ Some i → (l : Listed) × (slice_get ls i ≡ Some l)
named_listed ls name i is =
    let n = position_or_len (λ (l : Listed). bytes_eq (map to_ascii_lowercase name) l.name) ls in
    listed_at ls i (below (nat_lt n (length ls)) n (length ls) i refl is)

-- ---- credits that lie by

took_spare : (host : MachineHost) (n k d e : ℕ) (s : Machine) (m : ℕ) (t : Machine) → e ≤ d + k → Took host n 0 s m d t → Took host n k s m e t
took_spare host n k d e s m t enough a = record { count = a.count; goes = a.goes; spent = a.spent; paid = a.paid; few = let x = a.few in omega (arith, x, enough) }

sim_spare : (host : MachineHost) (R : Saved → Deferred → Type 0) (B : List Value → Progress → Type 0)
    (place : (v : List Value) (p : Progress) → B v p → Machine) (n k : ℕ) (s : Machine) (r : Outcome (List Value))
    → Sim host R B place n 0 s (λ v. 1) r → Sim host R B place n k s (λ v. 1 + k) r
sim_spare host R B place n k s (Gives v p) h = (h.0, took_spare host n k 1 (1 + k) s p.left (place v p h.0) (omega arith) h.1)
sim_spare host R B place n k s (Divides self p) h = (h.0, took_spare host n k 1 1 s p.left h.0 (omega arith) h.1, h.2, h.3, h.4)
sim_spare host R B place n k s (OutOfSteps p) h = (h.0, took_spare host n k 0 0 s 0 h.0 (omega arith) h.1, h.2)

-- ---- the instruction that runs a script

-- Of how scripts are started that a script at this site runs: there is such a way where fewer wait
-- than may, and it does what a start means.
abbrev Fits : Setting → MachineHost → Site → Option Starter → Type 0
Fits s host x None = nat_lt (length x.waiting) waiting_limit ≡ false
Fits s host x (Some begin) =
    (nat_lt (length x.waiting) waiting_limit ≡ true)
    × ((script : ℕ) (l : Listed) → slice_get s.scripts script ≡ Some l → (target : ℕ) (f : Frame) (p : Progress) (w : World Saved) → Alike (Carries s) w p.world
    → Sim host (Carries s) (IsAtLast host (Carries s) (f ∷ x.waiting)) (last_state host (Carries s) (f ∷ x.waiting))
    p.left 0 (start_state script target (f ∷ x.waiting) w) (λ v. 1) (begin script target p))

module _ (s : Setting) (host : MachineHost) (of : IsHostOf host s) (x : Site) (scope : List ℕ) (size next c : ℕ) (p : Progress)
    (kept : Kept (Carries s) x scope size p.globals p.locals p.world) (temps between : List Cell) (calls : List ℕ) (pending : List Saved)
    (m : Machine) (credit : 1 ≤ c) (world_is : m.world ≡ kept.machine) (waiting_is : m.waiting ≡ x.waiting) where
  -- the frame behind the instruction
  abbrev behind : Frame
  behind = (spot_at (Carries s) x next temps between calls pending kept).running

  abbrev Holds : List Value → Progress → Type 0
  Holds = HoldsValue (Carries s) x scope size Void

  abbrev there : (v : List Value) (q : Progress) → Holds v q → Machine
  there = value_place (Carries s) x scope size Void next temps between calls pending

  -- the same variables in other worlds
  abbrev in_worlds : (w : World Saved) (v : World Deferred) → Alike (Carries s) w v → Kept (Carries s) x scope size p.globals p.locals v
  in_worlds w v alike = record {
    under = kept.under;
    frame = kept.frame;
    machine = w;
    under_size = kept.under_size;
    frame_size = kept.frame_size;
    under_held = kept.under_held;
    frame_held = kept.frame_held;
    global_values = kept.global_values;
    local_values = kept.local_values;
    alike = alike;
  }

  alike_now : Alike (Carries s) m.world p.world
  alike_now = subst (λ w. Alike (Carries s) w p.world) (sym world_is) kept.alike

  -- no script is run, and the world changes by a line at most
  stays : (change : World Deferred → World Deferred) (w : World Saved) → step host m ≡ Some (Goes (record m { running = behind; world = w })) → Alike (Carries s) w (change p.world)
      → Sim host (Carries s) Holds there p.left c m (value_credits c) (spend p (λ q. Gives [] (record q { world = change q.world })))
  stays change w goes alike =
      let K = in_worlds w (change p.world) alike in
      let t = spot_at (Carries s) x next temps between calls pending K in
      let same : record m { running = behind; world = w } ≡ t = ap (λ (ws : List Frame). record t { waiting = ws }) waiting_is in
      sim_paid host (Carries s) Holds there c m (value_credits c) p (λ q. Gives [] (record q { world = change q.world })) alike_now
      (λ k left. (t, goes ∙ ap (λ u. Some (Goes u)) same, ((refl, K), took_less host (8 + c) (omega arith) (took_none host k (15 + c) t))))

  -- a script is run, and its last instruction leads back behind the call
  runs : (begin : Starter) (script target : ℕ) → step host m ≡ Some (Goes (start_state script target (behind ∷ m.waiting) m.world))
      → ((w : World Saved) → Alike (Carries s) w p.world → Sim host (Carries s) (IsAtLast host (Carries s) (behind ∷ x.waiting)) (last_state host (Carries s) (behind ∷ x.waiting))
      p.left 0 (start_state script target (behind ∷ x.waiting) w) (λ v. 1) (begin script target p))
      → Sim host (Carries s) Holds there p.left c m (value_credits c) (bind (begin script target p) (λ parts q. spend (resumed p q) (λ r. Gives [] r)))
  runs begin script target goes inner =
      let k = c - 1 in
      let t = start_state script target (behind ∷ x.waiting) kept.machine in
      let same : start_state script target (behind ∷ m.waiting) m.world ≡ t = ap₂ (λ ws w. start_state script target (behind ∷ ws) w) waiting_is world_is in
      let all = bind (begin script target p) (λ parts q. spend (resumed p q) (λ r. Gives [] r)) in
      sim_after host (Carries s) Holds there (value_credits c) all (took_cost host p.left c k m t (omega (arith, credit)) (goes ∙ ap (λ u. Some (Goes u)) same))
      (sim_bind host (Carries s) (IsAtLast host (Carries s) (behind ∷ x.waiting)) (last_state host (Carries s) (behind ∷ x.waiting)) Holds there
      p.left k t (λ v. 1 + k) (value_credits c) (begin script target p) (λ parts q. spend (resumed p q) (λ r. Gives [] r))
      (sim_spare host (Carries s) (IsAtLast host (Carries s) (behind ∷ x.waiting))
      (last_state host (Carries s) (behind ∷ x.waiting)) p.left k t (begin script target p)
      (inner kept.machine kept.alike))
      (λ v q h less.
      let K = in_worlds h.state.world q.world h.alike in
      let u = spot_at (Carries s) x next temps between calls pending K in
      sim_paid host (Carries s) Holds there (1 + k) h.state (value_credits c) (resumed p q) (λ r. Gives [] r) h.alike
      (λ j left. (u, h.ends, ((refl, K), took_less host (8 + c) (omega (arith, credit)) (took_none host j (15 + (1 + k)) u))))))

  -- ---- the cases, in the order in which machine and meaning test them

  begun_case : (start : Option Starter) → Fits s host x start → (o : Option ℕ) (name : List ℕ) (target : ℕ) → script_named s.scripts name ≡ o
      → step host m ≡ Some (Goes (machine.script_begun host o name target behind m))
      → Sim host (Carries s) Holds there p.left c m (value_credits c) (starter_begun start o name target p)
  begun_case start fits None name target is goes =
      stays (no_script target name) (host.no_script target name m.world) goes
      (subst (λ w. Alike (Carries s) w (no_script target name p.world)) (sym (of.unlisted target name m.world)) (no_script_keeps_alike (Carries s) target name m.world p.world alike_now))
  begun_case None fits (Some script) name target is goes =
      let full : nat_lt (length m.waiting) waiting_limit ≡ false = ap (λ (ws : List Frame). nat_lt (length ws) waiting_limit) waiting_is ∙ fits in
      stays (too_deep target name) (host.too_deep target name m.world)
      (goes ∙ ap (λ (b : Bool). Some (Goes (if b then start_state script target (behind ∷ m.waiting) m.world else record m { running = behind; world = host.too_deep target name m.world }))) full)
      (subst (λ w. Alike (Carries s) w (too_deep target name p.world)) (sym (of.deep target name m.world)) (too_deep_keeps_alike (Carries s) target name m.world p.world alike_now))
  begun_case (Some begin) fits (Some script) name target is goes =
      let room : nat_lt (length m.waiting) waiting_limit ≡ true = ap (λ (ws : List Frame). nat_lt (length ws) waiting_limit) waiting_is ∙ fits.0 in
      let l = named_listed s.scripts name script is in
      runs begin script target
      (goes ∙ ap (λ (b : Bool). Some (Goes (if b then start_state script target (behind ∷ m.waiting) m.world else record m { running = behind; world = host.too_deep target name m.world }))) room)
      (λ w alike. fits.1 script l.0 l.1 target behind p w alike)

  pub executing_runs : (start : Option Starter) → Fits s host x start → (name : List ℕ) (target : ℕ) → step host m ≡ Some (Goes (machine.executed host name target behind m))
      → Sim host (Carries s) Holds there p.left c m (value_credits c) (executing s start x.self name target p)
  executing_runs start fits [] target goes = stays (λ w. w) m.world goes alike_now
  executing_runs start fits (b ∷ name) target goes =
      let test : host.may_run x.self target m.world ≡ may_run x.self target p.world =
      of.tests x.self target m.world ∙ may_run_alike (Carries s) x.self target m.world p.world alike_now in
      let found = script_named s.scripts (b ∷ name) in
      let told : (t : Bool) → may_run x.self target p.world ≡ t
      → step host m ≡ Some (Goes (if t then machine.script_begun host (machine.script_named host.scripts (b ∷ name)) (b ∷ name) target behind m else record m { running = behind })) =
      λ t is. goes ∙ ap (λ (d : Bool). Some
      (Goes (if d then machine.script_begun host (machine.script_named host.scripts (b ∷ name))
      (b ∷ name) target behind m else record m { running = behind }))) (test ∙ is) in
      sim_chosen host (Carries s) Holds there p.left c m (value_credits c) (may_run x.self target p.world)
      (λ q. starter_begun start found (b ∷ name) target q) (λ q. spend q (λ r. Gives [] r)) p
      (λ yes. begun_case start fits found (b ∷ name) target refl
      (told true yes ∙ ap (λ o. Some (Goes (machine.script_begun host o (b ∷ name) target behind m))) (same_named (b ∷ name) host.scripts s.scripts of.scripts)))
      (λ no. stays (λ w. w) m.world (told false no) alike_now)

-- ---- by how many more may wait

pub started_is : (s : Setting) (room script self : ℕ) (l : Listed) (p : Progress) → slice_get s.scripts script ≡ Some l
    → started s room script self p ≡ listed_started s (executing s (next_starter s room)) script self (Some l) p
started_is s zero script self l p is = ap (λ o. listed_started s (executing s None) script self o p) is
started_is s (suc room) script self l p is = ap (λ o. listed_started s (executing s (Some (started s room))) script self o p) is

none_more : (n : ℕ) → n + 0 ≡ waiting_limit → nat_lt n waiting_limit ≡ false
none_more n h = grind (arith, nat_tests, h)

one_more : (n room : ℕ) → n + suc room ≡ waiting_limit → nat_lt n waiting_limit ≡ true
one_more n room h = grind (arith, nat_tests, h)

more_waiting : (a b room : ℕ) → a ≡ suc b → b + suc room ≡ waiting_limit → a + room ≡ waiting_limit
more_waiting a b room h deep = omega (arith, h, deep)

module _ (s : Setting) (host : MachineHost) (of : IsHostOf host s) (starts : StartsDo s host) where
  executes : (room : ℕ) (x : Site) → length x.waiting + room ≡ waiting_limit → (most : ℕ) → ExecutesRun host (Carries s) x (executing s (next_starter s room) x.self) most
  executes zero x deep most name target scope size next c p kept temps between calls pending m le credit world_is waiting_is held goes =
      executing_runs s host of x scope size next c p kept temps between calls pending m credit world_is waiting_is None (none_more (length x.waiting) deep) name target goes
  executes (suc room) x deep most name target scope size next c p kept temps between calls pending m le credit world_is waiting_is held goes =
      executing_runs s host of x scope size next c p kept temps between calls pending m credit world_is waiting_is (Some (started s room)) (
        one_more (length x.waiting) room deep,
        λ script l is aim f q w alike.
            subst (Sim host (Carries s) (IsAtLast host (Carries s) (f ∷ x.waiting)) (last_state host (Carries s) (f ∷ x.waiting)) q.left 0 (start_state script aim (f ∷ x.waiting) w) (λ v. 1))
            (sym (started_is s room script aim l q is))
            (starts script l is (next_starter s room) aim (f ∷ x.waiting) q w
            (λ y self_is rest_is many. subst (λ (o : ℕ). ExecutesRun host (Carries s) y (executing s (next_starter s room) o) many) self_is
            (executes room y (more_waiting (length y.waiting) (length x.waiting) room (ap length rest_is) deep) many)) alike),
      )
      name target goes

pub scripts_execute : ScriptsExecute
scripts_execute s host of starts room self waiting deep x self_is rest_is most =
    subst (λ (o : ℕ). ExecutesRun host (Carries s) x (executing s (next_starter s room) o) most) self_is
    (executes s host of starts room x (ap (λ (ws : List Frame). length ws + room) rest_is ∙ deep) most)
