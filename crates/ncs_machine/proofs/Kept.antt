-- What a step leaves of the world and of the frames' objects.
use Rattle.std.proofs.Common.{arith, ◌≡◌, ◌≤◌, ℕ, List, [], ◌∷◌, Option, Some, None, Bool, true, false, sym, subst, ap, ◌∙◌, refl, if◌then◌else◌}
use Rattle.std.specs.Prelude.{slice_get, ◌&&◌, nat_lt, length}
use Rattle.std.specs.Option.{option_map, option_and_then}
use Rattle.std.proofs.lemmas.Bool.Decides.{nat_tests}
use Rattle.nwq_value.specs.declared.value.Value.{Value}
use Rattle.nwq_value.specs.declared.value.Value.TheVariants.{Text, Object}
use Rattle.nwq_value.specs.declared.engine.Routine.{Routine}
use Rattle.nwq_value.specs.Engine.{EngineTable}
use Rattle.ncs_code.specs.Plain.{PlainOp}
use Rattle.ncs_code.specs.Plain as ops
use Rattle.saved_state.specs.declared.cell.Cell.{Cell}
use Rattle.saved_state.specs.declared.cell.Cell.TheVariants.{Value as Holds, Base}
use Rattle.saved_state.specs.declared.saved.Saved.{Saved}
use Rattle.stack_shape.specs.Ranges.{cell_count}
use Rattle.machine_rules.specs.Frames.{Frame, started}
use Rattle.machine_rules.specs.Cells.{zero_on_top}
use Rattle.machine_rules.specs.Calls.{Taken, arguments, is_execute_script}
use Rattle.machine_rules.specs.Act.{Act, Moves, Asks, Executes, Returns, Divides, act, moved, returned, restored, stored, stored_cells, asked, behind_call, engine_called, is_division}
use Rattle.machine_rules.specs.Act.{place_after, next_place, cells_after}
use Rattle.machine_rules.specs.Act as acts
use Rattle.machine_rules.specs.Machine.{Script, Host, State, Next, Goes, waiting_limit, script_begun, executed, followed, next_op, over, script_named, step, with_answer}
use Rattle.world_rules.specs.World.{World, count}
use Rattle.world_rules.specs.AlikeLaws.{call}
use Rattle.world_rules.specs.Engine.{may_run, no_script, too_deep}
use Rattle.world_rules.specs.Kept.{IsWorld, IsStep, EngineKeeps, NoScriptKeeps, TooDeepKeeps}
use Rattle.world_rules.specs.Settled.{IsLed, led_on}
use Rattle.ncs_machine.specs.Host.{EngineView, host, engine_answer}
use Rattle.ncs_machine.specs.Endings.{IsLeft}

-- ---- an act keeps self

abbrev SelfKept : Frame → Act → Type 0
SelfKept f (Moves g) = g.self ≡ f.self
SelfKept f (Asks n values action g) = g.self ≡ f.self
SelfKept f (Executes name target g) = g.self ≡ f.self
SelfKept f Returns = Unit {0}
SelfKept f Divides = Unit {0}

then_is : {A B : Type 0} (f : A → Option B) (o : Option A) (b : B) → option_and_then f o ≡ Some b → (a : A) × (o ≡ Some a) × (f a ≡ Some b)
then_is f None b h = absurd cc
then_is f (Some a) b h = (a, refl, h)

map_is : {A B : Type 0} (f : A → B) (o : Option A) (b : B) → option_map f o ≡ Some b → (a : A) × (o ≡ Some a) × (f a ≡ b)
map_is f None b h = absurd cc
map_is f (Some a) b h = (a, refl, cc)

some_is : {A : Type 0} (a b : A) → Some a ≡ Some b → a ≡ b
some_is a b e = cc

moved_self_as : (b : Bool) (f g : Frame) → g.self ≡ f.self → SelfKept f (if b then Divides else Moves g)
moved_self_as true f g e = tt
moved_self_as false f g e = e

moved_self : (op : PlainOp) (f : Frame) (a : Act) → moved op f ≡ Some a → SelfKept f a
moved_self op f a h =
    let m = map_is (λ cells. if is_division op && zero_on_top f.stack.cells then Divides
    else Moves (record f { place = place_after op f.place f.stack.cells; stack = record f.stack { cells = cells } })) (cells_after op f.self f.stack) a h in
    subst (SelfKept f) m.2 (moved_self_as (is_division op && zero_on_top f.stack.cells) f (record f { place = place_after op f.place f.stack.cells; stack = record f.stack { cells = m.0 } }) refl)

returned_self : (calls : List ℕ) (f : Frame) (a : Act) → returned calls f ≡ a → SelfKept f a
returned_self [] f a h = subst (SelfKept f) h tt
returned_self (place ∷ calls) f a h = subst (SelfKept f) h refl

restored_self : (cells : List Cell) (f : Frame) (a : Act) → restored cells f ≡ Some a → SelfKept f a
restored_self [] f a h = absurd cc
restored_self (Holds v ∷ cells) f a h = absurd cc
restored_self (Base bp ∷ cells) f a h = subst (SelfKept f) (some_is _ a h) refl

stored_self : (globals locals : ℕ) (f : Frame) (a : Act) → stored globals locals f ≡ Some a → SelfKept f a
stored_self globals locals f a h =
    let g = then_is (λ g. option_and_then (λ l. option_map (λ saved.
    Moves (record f { place = next_place f.place (ops.StoreState globals locals); pending = saved ∷ f.pending })) (stored_cells g l f)) (cell_count locals)) (cell_count globals) a h in
    let l = then_is (λ l. option_map
    (λ saved. Moves (record f {
      place = next_place f.place (ops.StoreState globals locals);
      pending = saved ∷ f.pending;
    })) (stored_cells g.0 l f)) (cell_count locals) a g.2 in
    let c = map_is (λ saved. Moves (record f { place = next_place f.place (ops.StoreState globals locals); pending = saved ∷ f.pending })) (stored_cells g.0 l.0 f) a l.2 in
    subst (SelfKept f) c.2 refl

executed_self : (values : List Value) (f g : Frame) (a : Act) → g.self ≡ f.self → acts.executed values g ≡ Some a → SelfKept f a
executed_self (Text name ∷ Object target ∷ []) f g a e h = subst (SelfKept f) (some_is _ a h) e
executed_self values f g a e h = absurd cc

asked_self : (n count : ℕ) (r : Routine) (f : Frame) (t : Taken) (a : Act) → asked n count r f t ≡ Some a → SelfKept f a
asked_self n count r f t a h = on (is_execute_script r.role) refl
  where
    on : (b : Bool) → is_execute_script r.role ≡ b → SelfKept f a
    on true e = executed_self t.values f (behind_call n count f t) a refl
        (sym (ap (λ (b : Bool). if b then acts.executed t.values (behind_call n count f t) else Some (Asks n t.values t.action (behind_call n count f t))) e) ∙ h)
    on false e = subst (SelfKept f) (some_is (Asks n t.values t.action (behind_call n count f t)) a
        (sym (ap (λ (b : Bool). if b then acts.executed t.values (behind_call n count f t) else Some (Asks n t.values t.action (behind_call n count f t))) e) ∙ h)) refl

called_self : (table : EngineTable) (n count : ℕ) (f : Frame) (a : Act) → engine_called table n count f ≡ Some a → SelfKept f a
called_self table n count f a h =
    let r = then_is (λ r. option_and_then (asked n count r f) (arguments r count f.stack.cells f.pending)) (slice_get table.routines n) a h in
    let t = then_is (asked n count r.0 f) (arguments r.0 count f.stack.cells f.pending) a r.2 in
    asked_self n count r.0 f t.0 a t.2

act_self : (table : EngineTable) (op : PlainOp) (f : Frame) (a : Act) → act table op f ≡ Some a → SelfKept f a
unfolding act
act_self table (ops.Action n count) f a h = called_self table n count f a h
act_self table (ops.Jsr offset) f a h = subst (SelfKept f) (some_is _ a h) refl
act_self table ops.Retn f a h = returned_self f.calls f a (some_is _ a h)
act_self table ops.SaveBp f a h = subst (SelfKept f) (some_is _ a h) refl
act_self table ops.RestoreBp f a h = restored_self f.stack.cells f a h
act_self table (ops.StoreState globals locals) f a h = stored_self globals locals f a h
act_self table op f a h = moved_self op f a h

-- ---- a step's act

pub record Acts {W : Type 0} (h : Host W) (s : State W) (next : Next W) : Type 0 where
  pub op : PlainOp
  pub stands : next_op h.scripts s.running ≡ Some op
  pub comes : Act
  pub is : act h.table op s.running ≡ Some comes
  pub follows : followed h s comes ≡ next

pub acts_of : {W : Type 0} (h : Host W) (s : State W) (next : Next W) → step h s ≡ Some next → Acts h s next
unfolding step
acts_of h s next e =
    let o = then_is (λ op. option_map (followed h s) (act h.table op s.running)) (next_op h.scripts s.running) next e in
    let a = map_is (followed h s) (act h.table o.0 s.running) next o.2 in
    record { op = o.0; stands = o.1; comes = a.0; is = a.1; follows = a.2 }

-- ---- objects

abbrev pub AllObjects : ℕ → List Frame → Type 0
AllObjects most [] = Unit {0}
AllObjects most (f ∷ fs) = (f.self ≤ most) × AllObjects most fs

pub record AreObjects (most : ℕ) (s : State (World Saved)) : Type 0 where
  pub running : s.running.self ≤ most
  pub waiting : AllObjects most s.waiting

-- what a step to another state leaves
pub record Leaves (s t : State (World Saved)) : Type 0 where
  pub objects : (most : ℕ) → count s.world ≡ most → AreObjects most s → AreObjects most t
  pub world : IsWorld s.world → s.running.self ≤ count s.world → IsWorld t.world
  pub left : IsWorld s.world → s.running.self ≤ count s.world → IsLeft 1 s.world t.world
  pub led : (first : World Saved) → IsLed first s.world → s.running.self ≤ count s.world → IsLed first t.world

same_left : (w : World Saved) → IsLeft 1 w w
same_left w = record { objects = refl; clock = refl; no_less = omega arith; few = omega arith; acting = λ o a. a }

step_left : (w v : World Saved) → IsStep w v → IsLeft 1 w v
step_left w v s = record { objects = s.objects; clock = s.clock; no_less = s.no_less; few = s.at_most_one; acting = s.acting }

pub record WorldLaws : Type 0 where
  pub engine : EngineKeeps Saved
  pub no_script : NoScriptKeeps Saved
  pub too_deep : TooDeepKeeps Saved

-- only the running frame changes, and keeps its self
moves_leaves : (s : State (World Saved)) (f : Frame) → f.self ≡ s.running.self → Leaves s (record s { running = f })
moves_leaves s f e = record {
  objects = λ most n o. record { running = subst (λ k. k ≤ most) (sym e) o.running; waiting = o.waiting };
  world = λ w o. w;
  left = λ w o. same_left s.world;
  led = λ first l o. l;
}

may_be : (caller target most : ℕ) (w : World Saved) → count w ≡ most → caller ≤ most → may_run caller target w ≡ true → target ≤ most
may_be caller target most w n c h = grind (arith, nat_tests)

over_leaves : (waiting : List Frame) (s t : State (World Saved)) → s.waiting ≡ waiting → over waiting s ≡ Goes t → Leaves s t
over_leaves [] s t e h = absurd cc
over_leaves (f ∷ waiting) s t e h = subst (Leaves s) (goes_is h) (record {
  objects = λ most n o. let all = subst (AllObjects most) e o.waiting in record { running = all.0; waiting = all.1 };
  world = λ w o. w;
  left = λ w o. same_left s.world;
  led = λ first l o. l;
})
  where
    goes_is : {a b : State (World Saved)} → Goes a ≡ Goes b → a ≡ b
    goes_is e = cc

module _ (laws : WorldLaws) (scripts : List Script) (e : EngineView) where
  told_leaves : (s : State (World Saved)) (f : Frame) (v : World Saved) → f.self ≡ s.running.self → (IsWorld s.world → IsStep s.world v) → Leaves s (record s { running = f; world = v })
  told_leaves s f v self keeps = record {
    objects = λ most n o. record { running = subst (λ k. k ≤ most) (sym self) o.running; waiting = o.waiting };
    world = λ w o. (keeps w).world;
    left = λ w o. step_left s.world v (keeps w);
    led = λ first l o. led_on first s.world v l (keeps l.world);
  }

  begun_leaves : (number : Option ℕ) (name : List ℕ) (target : ℕ) (f : Frame) (s : State (World Saved)) → f.self ≡ s.running.self → may_run s.running.self target s.world ≡ true
      → Leaves s (script_begun (host scripts e) number name target f s)
  unfolding host
  begun_leaves None name target f s self may = told_leaves s f (no_script target name s.world) self (λ w. laws.no_script target name s.world w)
  begun_leaves (Some script) name target f s self may = on (nat_lt (length s.waiting) waiting_limit)
    where
      on : (b : Bool) → Leaves s (if b then record s { running = started script target; waiting = f ∷ s.waiting } else record s { running = f; world = too_deep target name s.world })
      on true = record {
        objects = λ most n o. record { running = may_be s.running.self target most s.world n o.running may; waiting = (subst (λ k. k ≤ most) (sym self) o.running, o.waiting) };
        world = λ w o. w;
        left = λ w o. same_left s.world;
        led = λ first l o. l;
      }
      on false = told_leaves s f (too_deep target name s.world) self (λ w. laws.too_deep target name s.world w)

  executed_leaves : (name : List ℕ) (target : ℕ) (f : Frame) (s : State (World Saved)) → f.self ≡ s.running.self → Leaves s (executed (host scripts e) name target f s)
  unfolding host
  executed_leaves [] target f s self = moves_leaves s f self
  executed_leaves (b ∷ name) target f s self = on (may_run f.self target s.world) refl
    where
      on : (c : Bool) → may_run f.self target s.world ≡ c
          → Leaves s (if may_run f.self target s.world then script_begun (host scripts e) (script_named scripts (b ∷ name)) (b ∷ name) target f s else record s { running = f })
      on true h = subst (Leaves s) (sym (ap (λ (c : Bool). if c then script_begun (host scripts e) (script_named scripts (b ∷ name)) (b ∷ name) target f s else record s { running = f }) h))
          (begun_leaves (script_named scripts (b ∷ name)) (b ∷ name) target f s self (ap (λ k. may_run k target s.world) (sym self) ∙ h))
      on false h = subst (Leaves s) (sym (ap (λ (c : Bool). if c then script_begun (host scripts e) (script_named scripts (b ∷ name)) (b ∷ name) target f s else record s { running = f }) h))
          (moves_leaves s f self)

  answer_self : (v : Option Value) (f : Frame) → (with_answer v f).self ≡ f.self
  answer_self None f = refl
  answer_self (Some v) f = refl

  goes_is : {a b : State (World Saved)} → Goes a ≡ Goes b → a ≡ b
  goes_is h = cc

  followed_leaves : (s t : State (World Saved)) (a : Act) → SelfKept s.running a → followed (host scripts e) s a ≡ Goes t → Leaves s t
  unfolding host
  followed_leaves s t (Moves f) self h = subst (Leaves s) (goes_is h) (moves_leaves s f self)
  followed_leaves s t (Asks n values action f) self h =
      subst (Leaves s) (goes_is h) (asked_leaves s n values action f self)
    where
      asked_leaves : (s : State (World Saved)) (n : ℕ) (values : List Value) (action : Option Saved) (f : Frame) → f.self ≡ s.running.self
          → Leaves s (record s { running = with_answer (engine_answer e n f.self values action s.world).value f; world = (engine_answer e n f.self values action s.world).world })
      asked_leaves s n values action f self = record {
        objects = λ most n o. record { running = subst (λ k. k ≤ most) (sym (answer_self _ f ∙ self)) o.running; waiting = o.waiting };
        world = λ w o. (laws.engine e.table e.cell n (call f.self values action) s.world w (subst (λ k. k ≤ count s.world) (sym self) o)).world;
        left = λ w o. step_left s.world _ (laws.engine e.table e.cell n (call f.self values action) s.world w (subst (λ k. k ≤ count s.world) (sym self) o));
        led = λ first l o. led_on first s.world _ l
            (laws.engine e.table e.cell n (call f.self values action) s.world l.world (subst (λ k. k ≤ count s.world) (sym self) o));
      }
  followed_leaves s t (Executes name target f) self h = subst (Leaves s) (goes_is h) (executed_leaves name target f s self)
  followed_leaves s t Returns self h = over_leaves s.waiting s t refl h
  followed_leaves s t Divides self h = absurd cc

  pub step_leaves : (s t : State (World Saved)) → step (host scripts e) s ≡ Some (Goes t) → Leaves s t
  unfolding host
  step_leaves s t h = let a = acts_of (host scripts e) s (Goes t) h in
      followed_leaves s t a.comes (act_self e.table a.op s.running a.comes a.is) a.follows
