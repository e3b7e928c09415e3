-- How many instructions a play executes, and how many entries it posts.
use Rattle.std.proofs.Common.{◌≡◌, ◌≤◌, ◌+◌, ◌*◌, ◌-◌, ℕ, zero, suc, Bool, true, false, List, [], ◌∷◌, Option, Some, None, refl, arith}
use Rattle.std.specs.Prelude.{length, nat_lt, nat_le, ◌==◌, if◌then◌else◌}
use Rattle.std.specs.List.{find}
use Rattle.std.specs.Option.{option_map, option_and_then}
use Rattle.local_variables.specs.Laws.{PutKeepsDistinct, FilterKeepsDistinct}
use Rattle.action_queue.specs.declared.queue.Item.{Item}
use Rattle.action_queue.specs.declared.queue.Item.TheVariants.{Do, Wait, Speak}
use Rattle.delay_agenda.specs.declared.entry.Entry.{Entry}
use Rattle.delay_agenda.specs.declared.entry.Kind.{Kind}
use Rattle.delay_agenda.specs.declared.entry.Kind.TheVariants.{Event, Stored, Turn, Unapply}
use Rattle.saved_state.specs.declared.saved.Saved.{Saved}
use Rattle.machine_rules.specs.Frames.{Frame, started, continued}
use Rattle.machine_rules.specs.Act.{Act, Moves, Asks, Executes, Returns, Divides, act}
use Rattle.machine_rules.specs.Machine.{Script, State, Next, Goes, Ends, Divided, waiting_limit, script_begun, executed, followed, next_op, over, script_named, step}
use Rattle.machine_rules.specs.Runs.{Ran, after_step, run, run_script, run_stored, entry}
use Rattle.world_rules.specs.declared.data.Stood.{Stood}
use Rattle.world_rules.specs.World.{World, queue_of, effects_of}
use Rattle.world_rules.specs.Changes.{is_numbered}
use Rattle.world_rules.specs.AlikeLaws.{call}
use Rattle.world_rules.specs.Engine.{may_run}
use Rattle.world_rules.specs.Turns as turning
use Rattle.world_rules.specs.Turns.{Begun, begin, turn, turned, turn_done, next_turn, expired, fault}
use Rattle.world_rules.specs.Plays as plays
use Rattle.world_rules.specs.Plays.{Ending, Over, Stopped, Bounds, Progress, Played, Run, Entered, entry_entered, entered_as, event_entry, turn_entry, named_entry, finished_as, further, after_entry}
use Rattle.world_rules.specs.Plays.{next_entry, full}
use Rattle.ncs_machine.specs.Host.{EngineView, host}
use Rattle.module_player.specs.CodePlays.{code_runner, run_of, played_before}
use Rattle.play_states.specs.Resting.{PlaysCountFew}
use Rattle.play_states.proofs.Calls.{engine_leaves}

-- ---- a step posts one entry at most

abbrev PostsOne : World Saved → World Saved → Type 0
PostsOne w v = v.agenda.next ≤ w.agenda.next + 1

abbrev NextPosts : State (World Saved) → Next (World Saved) → Type 0
NextPosts s (Goes t) = PostsOne s.world t.world
NextPosts s Ends = Unit {0}
NextPosts s Divided = Unit {0}

abbrev StepPosts : State (World Saved) → Option (Next (World Saved)) → Type 0
StepPosts s None = Unit {0}
StepPosts s (Some next) = NextPosts s next

module _ (puts : PutKeepsDistinct) (filters : FilterKeepsDistinct) (scripts : List Script) (e : EngineView) where
  begun_posts : (number : Option ℕ) (name : List ℕ) (target : ℕ) (f : Frame) (s : State (World Saved)) → PostsOne s.world (script_begun (host scripts e) number name target f s).world
  unfolding host
  begun_posts None name target f s = omega arith
  begun_posts (Some script) name target f s = on (nat_lt (length s.waiting) waiting_limit)
    where
      on : (b : Bool) → PostsOne s.world
          (if b then record s { running = started script target; waiting = f ∷ s.waiting } else record s {
            running = f;
            world = (host scripts e).too_deep target name s.world;
          }).world
      on true = omega arith
      on false = omega arith

  executed_posts : (name : List ℕ) (target : ℕ) (f : Frame) (s : State (World Saved)) → PostsOne s.world (executed (host scripts e) name target f s).world
  unfolding host
  executed_posts [] target f s = omega arith
  executed_posts (b ∷ name) target f s = on (may_run f.self target s.world)
    where
      on : (c : Bool) → PostsOne s.world (if c then script_begun (host scripts e) (script_named scripts (b ∷ name)) (b ∷ name) target f s else record s { running = f }).world
      on true = begun_posts (script_named scripts (b ∷ name)) (b ∷ name) target f s
      on false = omega arith

  over_posts : (waiting : List Frame) (s : State (World Saved)) → NextPosts s (over waiting s)
  over_posts [] s = tt
  over_posts (f ∷ waiting) s = omega arith

  followed_posts : (s : State (World Saved)) (a : Act) → NextPosts s (followed (host scripts e) s a)
  unfolding host
  followed_posts s (Moves f) = omega arith
  followed_posts s (Asks n values action f) = (engine_leaves puts filters e.table e.cell n (call f.self values action) s.world).posts
  followed_posts s (Executes name target f) = executed_posts name target f s
  followed_posts s Returns = over_posts s.waiting s
  followed_posts s Divides = tt

  step_posts : (s : State (World Saved)) → StepPosts s (step (host scripts e) s)
  unfolding step
  step_posts s = by_op (next_op (host scripts e).scripts s.running)
    where
      by_act : (a : Option Act) → StepPosts s (option_map (followed (host scripts e) s) a)
      by_act None = tt
      by_act (Some a) = followed_posts s a

      by_op : (op : Option _) → StepPosts s (option_and_then (λ op. option_map (followed (host scripts e) s) (act (host scripts e).table op s.running)) op)
      by_op None = tt
      by_op (Some op) = by_act (act (host scripts e).table op s.running)

  -- ---- a run

  record IsFewRun (limit : ℕ) (w : World Saved) (r : Ran (World Saved)) : Type 0 where
    pub count : r.count ≤ limit
    pub posts : r.last.world.agenda.next ≤ w.agenda.next + limit

  after_few : (limit : ℕ) (next : Option (Next (World Saved))) (s : State (World Saved)) → StepPosts s next
      → ((t : State (World Saved)) → IsFewRun limit t.world (run (host scripts e) limit t)) → IsFewRun (suc limit) s.world (after_step next s (run (host scripts e) limit))
  after_few limit None s one go = record { count = omega arith; posts = omega arith }
  after_few limit (Some (Goes t)) s one go =
      let rest = go t in
      let a = rest.count in
      let b = rest.posts in
      record { count = omega arith; posts = omega (arith, one, b) }
  after_few limit (Some Ends) s one go = record { count = omega arith; posts = omega arith }
  after_few limit (Some Divided) s one go = record { count = omega arith; posts = omega arith }

  run_few : (limit : ℕ) (s : State (World Saved)) → IsFewRun limit s.world (run (host scripts e) limit s)
  run_few zero s = record { count = omega arith; posts = omega arith }
  run_few (suc limit) s = after_few limit (step (host scripts e) s) s (step_posts s) (run_few limit)

  -- ---- an entry

  record IsFewEntered (limit more : ℕ) (w : World Saved) (x : Entered Saved) : Type 0 where
    pub count : x.count ≤ limit
    pub posts : x.world.agenda.next ≤ w.agenda.next + (limit + more)

  done_posts : (o : ℕ) (items : List (Item Saved)) (w : World Saved) → PostsOne w (next_turn o items w)
  done_posts o [] w = omega arith
  done_posts o (item ∷ rest) w = omega arith

  turned_posts : (o : ℕ) (items : List (Item Saved)) (w : World Saved) → PostsOne w (turned o items w).world
  turned_posts o [] w = omega arith
  turned_posts o (Do x ∷ rest) w = omega arith
  turned_posts o (Wait ms ∷ rest) w = omega arith
  turned_posts o (Speak bytes ∷ rest) w = done_posts o _ _

  expired_posts : (o number : ℕ) (s : Option Stood) (w : World Saved) → PostsOne w (expired o number s w)
  expired_posts o number None w = omega arith
  expired_posts o number (Some s) w = omega arith

  finished_few : (limit : ℕ) (w : World Saved) (ending : Ending) (rest : World Saved → World Saved) (r : Run Saved) → r.count ≤ limit → r.world.agenda.next ≤ w.agenda.next + limit
      → ((v : World Saved) → PostsOne v (rest v)) → IsFewEntered limit 1 w (finished_as ending rest r)
  finished_few limit w Over rest r count posts one = let a = one r.world in record { count = count; posts = omega (arith, a, posts) }
  finished_few limit w (plays.Divided self) rest r count posts one = let a = one (fault self r.world) in record { count = count; posts = omega (arith, a, posts) }
  finished_few limit w Stopped rest r count posts one = record { count = count; posts = omega (arith, posts) }

  module _ (limit : ℕ) where
    named_few : (o : ℕ) (name : List ℕ) (found : Option ℕ) (w : World Saved) → IsFewEntered limit 1 w (named_entry (code_runner (host scripts e) limit) o name found w)
    unfolding code_runner
    named_few o name None w = record { count = omega arith; posts = omega arith }
    named_few o name (Some script) w =
        let r = run_few limit (entry (started script o) w) in
        finished_few limit w (run_of (run_script (host scripts e) limit script o w)).ending (λ v. v) (run_of (run_script (host scripts e) limit script o w)) r.count r.posts (λ v. omega arith)

    event_few : (o : ℕ) (name : List ℕ) (w : World Saved) → IsFewEntered limit 1 w (event_entry (code_runner (host scripts e) limit) o name w)
    unfolding code_runner host
    event_few o [] w = record { count = omega arith; posts = omega arith }
    event_few o (b ∷ name) w = named_few o (b ∷ name) (script_named scripts (b ∷ name)) w

    turn_few : (o : ℕ) (action : Option Saved) (w : World Saved) → IsFewEntered limit 1 w (turn_entry (code_runner (host scripts e) limit) o action w)
    unfolding code_runner
    turn_few o None w = record { count = omega arith; posts = omega arith }
    turn_few o (Some saved) w =
        let r = run_few limit (entry (continued saved o) w) in
        finished_few limit w (run_of (run_stored (host scripts e) limit saved o w)).ending (turn_done o) (run_of (run_stored (host scripts e) limit saved o w)) r.count r.posts
        (λ v. done_posts o (queue_of o v).actions v)

    kind_few : (kind : Kind Saved) (number : ℕ) (w : World Saved) → IsFewEntered limit 2 w (entered_as (code_runner (host scripts e) limit) kind number w)
    unfolding code_runner
    kind_few (Event o name user) number w = let x = event_few o name w in let a = x.posts in record { count = x.count; posts = omega (arith, a) }
    kind_few (Stored o saved) number w =
        let r = run_few limit (entry (continued saved o) w) in
        let x = finished_few limit w (run_of (run_stored (host scripts e) limit saved o w)).ending (λ v. v) (run_of (run_stored (host scripts e) limit saved o w)) r.count r.posts (λ v. omega arith) in
        let a = x.posts in
        record { count = x.count; posts = omega (arith, a) }
    kind_few (Turn o) number w =
        let t = turned_posts o (queue_of o w).actions w in
        let x = turn_few o (turn o w).action (turn o w).world in
        let a = x.posts in
        record { count = x.count; posts = omega (arith, a, t) }
    kind_few (Unapply o) number w =
        let t = expired_posts o number (find (is_numbered number) (effects_of o w)) w in record { count = omega arith; posts = omega (arith, t) }

    -- ---- a play

    record IsFewPlayed (left : ℕ) (p : Progress Saved) (q : Played Saved) : Type 0 where
      pub count : q.last.count ≤ p.count + left * limit
      pub posts : q.last.world.agenda.next ≤ p.world.agenda.next + left * (limit + 2)

    abbrev BegunPosts : World Saved → Option (Begun Saved) → Type 0
    BegunPosts w None = Unit {0}
    BegunPosts w (Some b) = b.world.agenda.next ≡ w.agenda.next

    begun_by : (w : World Saved) (b : Bool) (x : Begun Saved) → x.world.agenda.next ≡ w.agenda.next → BegunPosts w (if b then Some x else None)
    begun_by w true x same = same
    begun_by w false x same = tt

    begun_same : (until : ℕ) (es : List (Entry Saved)) (w : World Saved) → BegunPosts w (turning.entry_begun until es w)
    begun_same until [] w = tt
    begun_same until (x ∷ rest) w = begun_by w (nat_le x.due until) _ refl

    abbrev AllFew : ℕ → (Progress Saved → Played Saved) → Type 0
    AllFew left on = (p : Progress Saved) → IsFewPlayed left p (on p)

    -- one entry more
    one_more : (left limit a b : ℕ) → a ≤ b + limit → a + left * limit ≤ b + suc left * limit
    one_more left limit a b few = grind (arith, few)

    few_here : (left : ℕ) (p q : Progress Saved) → q.count ≤ p.count + limit → q.world.agenda.next ≤ p.world.agenda.next + (limit + 2) → (r : Played Saved) → IsFewPlayed left q r
        → IsFewPlayed (suc left) p r
    few_here left p q count posts r few =
        let a = one_more left limit q.count p.count count in
        let b = one_more left (limit + 2) q.world.agenda.next p.world.agenda.next posts in
        let c = few.count in
        let d = few.posts in
        record { count = omega (arith, a, c); posts = omega (arith, b, d) }

    stays_few : (left : ℕ) (p : Progress Saved) (ending : plays.PlayEnd) → IsFewPlayed left p (record { ending = ending; last = p })
    stays_few left p ending = record { count = grind arith; posts = grind arith }

    after_play : (left : ℕ) (on : Progress Saved → Played Saved) → AllFew left on → (p q : Progress Saved) → q.count ≤ p.count + limit
        → q.world.agenda.next ≤ p.world.agenda.next + (limit + 2) → (stopped : Bool) → IsFewPlayed (suc left) p (after_entry stopped q on)
    after_play left on rest p q count posts true = few_here left p q count posts (record { ending = plays.StoppedInside; last = q }) (stays_few left q plays.StoppedInside)
    after_play left on rest p q count posts false = few_here left p q count posts (on q) (rest q)

    next_few : (left : ℕ) (on : Progress Saved → Played Saved) → AllFew left on → (b : Option (Begun Saved)) (p : Progress Saved) → BegunPosts p.world b
        → IsFewPlayed (suc left) p (next_entry (code_runner (host scripts e) limit) b p on)
    next_few left on rest None p same = stays_few (suc left) p plays.Done
    next_few left on rest (Some b) p same =
        let x = entry_entered (code_runner (host scripts e) limit) b in
        let few = kind_few b.entry.kind b.entry.number b.world in
        let c = few.count in
        let d = few.posts in
        after_play left on rest p (further x p) (omega (arith, c)) (omega (arith, d, same)) x.stopped

    due_few : (left : ℕ) (on : Progress Saved → Played Saved) → AllFew left on → (is_full : Bool) (b : Option (Begun Saved)) (p : Progress Saved) → BegunPosts p.world b
        → IsFewPlayed (suc left) p (if is_full then record { ending = full b; last = p } else next_entry (code_runner (host scripts e) limit) b p on)
    due_few left on rest true b p same = stays_few (suc left) p (full b)
    due_few left on rest false b p same = next_few left on rest b p same

    plays_few : (bounds : Bounds) (left : ℕ) → AllFew left (plays.plays (code_runner (host scripts e) limit) bounds left)
    plays_few bounds zero p = stays_few zero p plays.Paused
    plays_few bounds (suc left) p =
        due_few left (plays.plays (code_runner (host scripts e) limit) bounds left) (plays_few bounds left) (p.entries == bounds.entries) (begin bounds.until p.world) p
        (begun_same bounds.until p.world.agenda.entries p.world)

pub plays_count_few : PutKeepsDistinct → FilterKeepsDistinct → PlaysCountFew
plays_count_few puts filters cell table scripts limits stop taken done w =
    let few = plays_few puts filters scripts (record { table = table; cell = cell }) limits.0
    (record { entries = limits.1; until = limits.2; stop = stop }) (stop - taken) (played_before taken done w) in
    (few.count, few.posts)
