-- What an inference keeps true: what it has found is there in every table that meets the rules,
-- perhaps with fewer slots beneath.
use Rattle.std.specs.Prelude.{◌≡◌, ◌≢◌, ◌≤◌, ◌<◌, ◌+◌, ◌-◌, ◌^◌, ℕ, zero, suc, ℤ, List, [], ◌++◌, ◌∷◌, length, take, min, Bool, true, false, Option, None, Some, IfSome, get_or, slice_get, ◌⊎◌, Contains}
use Rattle.nwq_value.specs.Engine.{EngineTable}
use Rattle.ncs_code.specs.Plain.{PlainOp}
use Rattle.ncs_code.specs.Plain as ops
use Rattle.ncs_code.specs.File.{jump_place, op_at, resume_place}
use Rattle.stack_shape.specs.declared.shape.Slot.{Slot}
use Rattle.stack_shape.specs.declared.shape.Entry.{Entry}
use Rattle.stack_shape.specs.declared.shape.Entry.TheVariants.{Start, Called, Stored}
use Rattle.stack_shape.specs.declared.store.StoredTypes.{StoredTypes}
use Rattle.stack_shape.specs.Stored.{TopShape, stored_shape, stored_types}
use Rattle.stack_shape.specs.Laws.{deeper}
use Rattle.stack_shape.specs.declared.reach.Reach.{Reach}
use Rattle.stack_rules.specs.Tables.{Callee, ShapeTable}
use Rattle.stack_shape.specs.Rule.{IsOneStep, rule}
use Rattle.stack_rules.specs.Rules.{AsksFurther, IsSound, MeetsRules, WellStacked}
use Rattle.stack_lists.specs.declared.held.Held.{Held}
use Rattle.stack_lists.specs.declared.held.Heap.{Heap}
use Rattle.stack_check.specs.declared.facts.Trial.{Trial}
use Rattle.stack_check.specs.declared.facts.Unseen.{Unseen}
use Rattle.stack_check.specs.declared.facts.Facts.{Facts}
use Rattle.stack_check.specs.declared.seen.Seen.{Seen}
use Rattle.stack_check.specs.declared.seen.Seen.TheVariants.{Quiet, Changed, Bad}
use Rattle.stack_check.specs.declared.leads.Lead.{Lead}
use Rattle.stack_check.specs.declared.leads.Lead.TheVariants.{One, Two}
use Rattle.stack_check.specs.declared.leads.Kind.{Kind}
use Rattle.stack_check.specs.declared.leads.Kind.TheVariants.{Call, Return, Store, Step}
use Rattle.stack_lists.specs.Shared.{read}
use Rattle.stack_lists.specs.Held.{HeapGrows, IsIn, shape_of}
use Rattle.stack_lists.specs.Rows.{RowAdded, row_in}
use Rattle.stack_lists.specs.declared.rows.ShapeRow.{ShapeRow}
use Rattle.stack_lists.specs.declared.todo.Call.{Call as KeptCall}
use Rattle.stack_lists.specs.declared.todo.Spot.{Spot}
use Rattle.stack_lists.specs.Worklist.{CallersAdded, IsMarked, Worklist, calls_of, waiting}
use Rattle.stack_check.specs.Facts.{FindsMore, current, first_place, first_held, callee_of, trial_table, unseen_cells, unseen_under}

-- ---- the facts hang together

pub record IsTrialOf (facts : Facts) (number : ℕ) (entry : Entry) : Type 0 where
  pub trial : Trial
  pub has : slice_get facts.trials number ≡ Some trial
  pub of : trial.entry ≡ entry

-- a script's start and a stored state have looked at their whole lists from the first
abbrev pub IsWhole : Entry → Unseen → Type 0
IsWhole Start unseen = (unseen.cells ≡ 0) × (unseen.under ≡ 0)
IsWhole (Called target) unseen = Unit {0}
IsWhole (Stored site) unseen = (unseen.cells ≡ 0) × (unseen.under ≡ 0)

pub record Formed (facts : Facts) : Type 0 where
  -- what counts for an entry is a trial of it
  pub currents : (entry : Entry) (number : ℕ) → current facts entry ≡ Some number
      → IsTrialOf facts number entry
  -- each trial has its first shape
  pub firsts : (number : ℕ) (trial : Trial) → slice_get facts.trials number ≡ Some trial
      → row_in facts.rows number (first_place trial.entry) ≡ Some (first_held trial)
  -- each row is of a trial
  pub owned : (number place : ℕ) (held : Held) → row_in facts.rows number place ≡ Some held
      → number < length facts.trials
  -- a script starts with nothing
  pub start : (number : ℕ) (trial : Trial) → slice_get facts.trials number ≡ Some trial
      → trial.entry ≡ Start → (trial.taken ≡ 0) × (trial.under ≡ 0)
  pub whole : (number : ℕ) (trial : Trial) → slice_get facts.trials number ≡ Some trial
      → IsWhole trial.entry trial.unseen

-- a trial's lists are there, with what was not looked at of them
pub record TrialIn (heap : Heap) (trial : Trial) : Type 0 where
  pub taken : trial.taken ≤ length heap.slots
  pub under : trial.under ≤ length heap.slots
  pub given : IfSome trial.given (λ given. given ≤ length heap.slots)
  pub unseen_cells : trial.unseen.cells ≤ length (read heap.slots trial.taken)
  pub unseen_under : trial.unseen.under ≤ length (read heap.slots trial.under)
  pub first_cells : (trial.unseen.cells ≤ trial.at_first.cells)
      × (trial.at_first.cells ≤ length (read heap.slots trial.taken))
  pub first_under : (trial.unseen.under ≤ trial.at_first.under)
      × (trial.at_first.under ≤ length (read heap.slots trial.under))

pub record AllIn (heap : Heap) (facts : Facts) : Type 0 where
  pub rows : (number place : ℕ) (held : Held) → row_in facts.rows number place ≡ Some held
      → IsIn heap held
  pub trials : (number : ℕ) (trial : Trial) → slice_get facts.trials number ≡ Some trial
      → TrialIn heap trial

-- ---- what was not looked at lies beneath

-- The shape lies on what its trial hasn't looked at, and so do its other lists.
pub record IsOver (heap : Heap) (trial : Trial) (shape : TopShape) : Type 0 where
  pub own : TopShape
  pub is : shape ≡ deeper (unseen_cells heap trial) (unseen_under heap trial) own

abbrev pub GivenOver : Heap → Trial → Option ℕ → Type 0
GivenOver heap trial None = Unit {0}
GivenOver heap trial (Some given) = (own : List Slot)
    × (read heap.slots given ≡ own ++ unseen_cells heap trial)

pub record AllOver (heap : Heap) (facts : Facts) : Type 0 where
  pub rows : (number place : ℕ) (held : Held) (trial : Trial)
      → row_in facts.rows number place ≡ Some held → slice_get facts.trials number ≡ Some trial
      → IsOver heap trial (shape_of heap held)
  pub givens : (number : ℕ) (trial : Trial) → slice_get facts.trials number ≡ Some trial
      → GivenOver heap trial trial.given

-- ---- comparison with a table

-- What a routine was found to give is what the table says, with the same slots beneath.
abbrev pub GivenFits : Option (List Slot) → Option (List Slot) → List Slot → Type 0
GivenFits None own x = Unit {0}
GivenFits (Some given) None x = ⊥
GivenFits (Some given) (Some own) x = given ≡ own ++ x

-- The table knows the routine, which takes no more than what is assumed.
pub record IsLonger (table : ShapeTable) (target : ℕ) (callee : Callee)
    (x y : List Slot) : Type 0 where
  pub own : Callee
  pub known : table.called target ≡ Some own
  pub taken : callee.taken ≡ own.taken ++ x
  pub under : callee.under ≡ own.under ++ y
  pub given : GivenFits callee.given own.given x

-- What lies beneath the table's slots in all shapes of a trial: something for a called routine
-- alone.
abbrev pub Beyond : ShapeTable → Entry → Callee → List Slot → List Slot → Type 0
Beyond table Start callee x y = (x ≡ []) × (y ≡ [])
Beyond table (Called target) callee x y = IsLonger table target callee x y
Beyond table (Stored site) callee x y = (x ≡ []) × (y ≡ [])

pub record RowFits (table : ShapeTable) (entry : Entry) (place : ℕ) (shape : TopShape)
    (x y : List Slot) : Type 0 where
  pub own : TopShape
  pub known : table.at entry place ≡ Some own
  pub is : shape ≡ deeper x y own

pub record TrialFits (table : ShapeTable) (heap : Heap) (facts : Facts) (number : ℕ)
    (trial : Trial) : Type 0 where
  pub x : List Slot
  pub y : List Slot
  pub beyond : Beyond table trial.entry (callee_of heap trial) x y
  pub rows : (place : ℕ) (held : Held) → row_in facts.rows number place ≡ Some held
      → RowFits table trial.entry place (shape_of heap held) x y
  -- the table's routine takes all that was looked at
  pub cells : length x ≤ trial.unseen.cells
  pub under : length y ≤ trial.unseen.under

pub record Compares (table : ShapeTable) (heap : Heap) (facts : Facts) : Type 0 where
  pub by : (number : ℕ) (trial : Trial) → slice_get facts.trials number ≡ Some trial
      → TrialFits table heap facts number trial

-- ---- what is kept

pub record Keeps (header : EngineTable) (code : List PlainOp) (heap : Heap)
    (facts : Facts) : Type 0 where
  pub formed : Formed facts
  pub inside : AllIn heap facts
  pub over : AllOver heap facts
  pub compares : (table : ShapeTable) → MeetsRules header code table → Compares table heap facts

abbrev pub Visited : EngineTable → List PlainOp → Heap → Facts → Seen → Type 0
Visited header code heap facts Quiet = Keeps header code heap facts
Visited header code heap facts Changed = Keeps header code heap facts
Visited header code heap facts Bad = WellStacked header code → ⊥

abbrev pub WhereQuiet : Seen → Type 0 → Type 0
WhereQuiet Quiet P = P
WhereQuiet Changed P = Unit {0}
WhereQuiet Bad P = Unit {0}

abbrev pub WhereChanged : Seen → Type 0 → Type 0
WhereChanged Quiet P = Unit {0}
WhereChanged Changed P = P
WhereChanged Bad P = Unit {0}

-- Where something was found, more is found, and less is left.
abbrev pub Takes : Facts → Facts → Seen → Type 0
Takes before after seen = WhereChanged seen (FindsMore before after)

-- What is quiet hands in nothing that is to be looked at.
abbrev pub NothingNew : Worklist → Worklist → Seen → Type 0
NothingNew before after seen = WhereQuiet seen (waiting after ≡ waiting before)

-- At most so many spots are handed in. Calls stay kept.
pub record Adds (before after : Worklist) (count : ℕ) : Type 0 where
  pub few : length (waiting after) ≤ length (waiting before) + count
  pub longer : length before.calls ≤ length after.calls

-- At most so many, and as many calls as are kept.
pub record AddsCalls (before after : Worklist) (count : ℕ) : Type 0 where
  pub few : length (waiting after) ≤ length (waiting before) + length after.calls + count
  pub longer : length before.calls ≤ length after.calls

-- What was found is looked at next.
abbrev pub HandedIn : Worklist → Worklist → Spot → Seen → Type 0
HandedIn before after spot seen = WhereChanged seen (waiting after ≡ waiting before ++ spot ∷ [])

-- the call is kept of the routine that begins there, so it is looked at when more is known of that
abbrev pub IsKept : Worklist → ℕ → Spot → Type 0
IsKept w target spot = Contains (calls_of w target) (record { spot = spot; target = target })

-- ---- one shape

-- Every table has the shape there, in the trial.
pub record Owed (header : EngineTable) (code : List PlainOp) (heap : Heap) (facts : Facts)
    (number place : ℕ) (held : Held) : Type 0 where
  pub trial : Trial
  pub has : slice_get facts.trials number ≡ Some trial
  pub by : (table : ShapeTable) → MeetsRules header code table
      → (fits : TrialFits table heap facts number trial)
      → RowFits table trial.entry place (shape_of heap held) fits.x fits.y
  pub over : IsOver heap trial (shape_of heap held)

-- the trial has this shape there
pub record RowIs (heap : Heap) (facts : Facts) (number place : ℕ) (shape : TopShape) : Type 0 where
  pub held : Held
  pub row : row_in facts.rows number place ≡ Some held
  pub is : shape_of heap held ≡ shape

abbrev pub Reached : Heap → Facts → Facts → ℕ → ℕ → Held → Seen → Type 0
Reached heap before after number place held Quiet = (after ≡ before)
    × RowIs heap before number place (shape_of heap held)
Reached heap before after number place held Changed =
    RowAdded before.rows after.rows number place held
    × (after ≡ record before { rows = after.rows })
Reached heap before after number place held Bad =
    (RowIs heap before number place (shape_of heap held) → ⊥)
    × ((h : Held) × (row_in before.rows number place ≡ Some h)) × (after ≡ before)

-- ---- a new trial

pub record TrialAdded (before after : Facts) (trial : Trial) : Type 0 where
  pub trials : after.trials ≡ before.trials ++ trial ∷ []
  pub kept : (t p : ℕ) (h : Held) → row_in before.rows t p ≡ Some h → row_in after.rows t p ≡ Some h
  pub here : row_in after.rows (length before.trials) (first_place trial.entry)
      ≡ Some (first_held trial)
  pub only : (t p : ℕ) (h : Held) → row_in after.rows t p ≡ Some h
      → (row_in before.rows t p ≡ Some h)
      ⊎ ((t ≡ length before.trials) × (p ≡ first_place trial.entry) × (h ≡ first_held trial))
  pub more : length after.rows ≡ length before.rows + 1
  pub room : length before.rows < 2 ^ 25
  pub end : after.rows ≡ before.rows ++ record {
    trial = length before.trials;
    place = first_place trial.entry;
    held = first_held trial;
  } ∷ []
  pub currents : (entry : Entry) (n : ℕ) → current after entry ≡ Some n
      → (current before entry ≡ Some n) ⊎ ((entry ≡ trial.entry) × (n ≡ length before.trials))
  -- what counted for another entry counts still
  pub counts : (entry : Entry) (n : ℕ) → current before entry ≡ Some n
      → current after entry ≡ Some n

-- how a trial that begins compares with a table
pub record FirstFits (table : ShapeTable) (heap : Heap) (trial : Trial) : Type 0 where
  pub x : List Slot
  pub y : List Slot
  pub beyond : Beyond table trial.entry (callee_of heap trial) x y
  pub first : RowFits table trial.entry (first_place trial.entry)
      (shape_of heap (first_held trial)) x y
  pub cells : length x ≤ trial.unseen.cells
  pub under : length y ≤ trial.unseen.under

pub record TrialBegins (header : EngineTable) (code : List PlainOp) (heap : Heap)
    (trial : Trial) : Type 0 where
  pub by : (table : ShapeTable) → MeetsRules header code table → FirstFits table heap trial
  pub over : IsOver heap trial (shape_of heap (first_held trial))
  pub whole : IsWhole trial.entry trial.unseen
  pub given : trial.given ≡ None
  pub few : (trial.unseen.cells ≤ 2 ^ 25) × (trial.unseen.under ≤ 2 ^ 25)

-- ---- where an instruction leads

unfoldable pub leads_of : ℕ → ℕ → PlainOp → Lead
leads_of place next (ops.Jmp offset) = One (jump_place place offset)
leads_of place next (ops.Jz offset) = Two (jump_place place offset) next
leads_of place next (ops.Jnz offset) = Two (jump_place place offset) next
leads_of place next op = One next

abbrev pub IsLed : Lead → ℕ → Type 0
IsLed (One target) place = place ≡ target
IsLed (Two first second) place = (place ≡ first) ⊎ (place ≡ second)

-- The trial has the shape wherever the instruction leads.
pub record AllLed (heap : Heap) (facts : Facts) (number : ℕ) (lead : Lead)
    (shape : TopShape) : Type 0 where
  pub by : (place : ℕ) → IsLed lead place → RowIs heap facts number place shape

-- rows are only added, and the trials stay
pub record RowsKept (before after : Facts) : Type 0 where
  pub by : (t p : ℕ) (h : Held) → row_in before.rows t p ≡ Some h → row_in after.rows t p ≡ Some h
  pub trials : after.trials ≡ before.trials

-- the shape lies on what the trial of this number hasn't looked at
pub record IsOverIn (heap : Heap) (facts : Facts) (number : ℕ) (shape : TopShape) : Type 0 where
  pub trial : Trial
  pub has : slice_get facts.trials number ≡ Some trial
  pub over : IsOver heap trial shape

-- The shape at a place of a trial, on which the instruction there has a rule, and the shape after
-- it.
pub record IsStep (header : EngineTable) (code : List PlainOp) (heap : Heap) (facts : Facts)
    (number place : ℕ) (held : Held) (op : PlainOp) (after : Held) : Type 0 where
  pub row : row_in facts.rows number place ≡ Some held
  pub stands : op_at code place ≡ Some op
  pub one : IsOneStep op
  pub has_rule : rule header op (shape_of heap held) ≡ Some (shape_of heap after)
  pub inside : IsIn heap after
  pub over : IsOverIn heap facts number (shape_of heap after)

-- The instruction at the place obeys the rules there, on the shape without what the trial hasn't
-- looked at.
pub record Sound (header : EngineTable) (code : List PlainOp) (heap : Heap) (facts : Facts)
    (number place : ℕ) (held : Held) : Type 0 where
  pub by : (entry : Entry) → current facts entry ≡ Some number → (trial : Trial)
      → slice_get facts.trials number ≡ Some trial
      → (over : IsOver heap trial (shape_of heap held))
      → IsSound header code (trial_table heap facts) entry place over.own

-- What a visit of a place leaves.
pub record Sees (header : EngineTable) (code : List PlainOp) (heap heap' : Heap)
    (facts facts' : Facts) (number place : ℕ) (held : Held) (seen : Seen) : Type 0 where
  pub grows : HeapGrows heap heap'
  pub keeps : Visited header code heap' facts' seen
  pub quiet : WhereQuiet seen ((facts' ≡ facts) × Sound header code heap facts number place held)
  pub takes : Takes facts facts' seen

-- every table says that the routine gives this, with fewer slots beneath
pub record GivenOwed (header : EngineTable) (code : List PlainOp) (heap : Heap) (facts : Facts)
    (number given : ℕ) : Type 0 where
  pub trial : Trial
  pub has : slice_get facts.trials number ≡ Some trial
  pub by : (table : ShapeTable) → MeetsRules header code table
      → (fits : TrialFits table heap facts number trial)
      → Beyond table trial.entry
      (callee_of heap (record trial { given = Some given })) fits.x fits.y
  pub over : GivenOver heap trial (Some given)
  pub new : trial.given ≡ None

-- what a visit comes to that has changed something before
abbrev pub after_change : Seen → Seen
after_change Bad = Bad
after_change Changed = Changed
after_change Quiet = Changed

-- The trial of this number counts for the entry, and for the others the same as before.
pub record CurrentSet (before after : Facts) (entry : Entry) (number : ℕ) : Type 0 where
  pub trials : after.trials ≡ before.trials
  pub rows : after.rows ≡ before.rows
  pub only : (e : Entry) (n : ℕ) → current after e ≡ Some n
      → (current before e ≡ Some n) ⊎ ((e ≡ entry) × (n ≡ number))
  pub others : (e : Entry) → e ≢ entry → current after e ≡ current before e

-- ---- calls

-- a JSR that leads to this place
pub record IsCall (code : List PlainOp) (place target : ℕ) : Type 0 where
  pub offset : ℤ
  pub stands : op_at code place ≡ Some (ops.Jsr offset)
  pub leads : jump_place place offset ≡ target

-- the trial that counts for the routine that begins at a place
pub record Calls (facts : Facts) (target : ℕ) (callee : Trial) : Type 0 where
  pub number : ℕ
  pub counts : current facts (Called target) ≡ Some number
  pub has : slice_get facts.trials number ≡ Some callee

-- how much of its lists a trial has looked at
abbrev pub window : Heap → Trial → Reach
window heap trial = record {
  cells = length (read heap.slots trial.taken) - trial.unseen.cells;
  under = length (read heap.slots trial.under) - trial.unseen.under;
}

-- The shape begins with what a trial has looked at.
pub record BeginsAlike (heap : Heap) (held : Held) (callee : Trial) : Type 0 where
  pub cells : take (window heap callee).cells (read heap.slots held.cells)
      ≡ take (window heap callee).cells (read heap.slots callee.taken)
  pub under : take (window heap callee).under (read heap.slots held.under)
      ≡ take (window heap callee).under (read heap.slots callee.under)

-- ---- looking

-- so many slots are there
pub record IsThere (s : TopShape) (reach : Reach) : Type 0 where
  pub cells : reach.cells ≤ length s.cells
  pub under : reach.under ≤ length s.under

-- what is not looked at, where all is that lies above so many slots of the cells and of the list
-- beneath BP
abbrev pub narrowed : Unseen → Bool → ℕ → ℕ → Unseen
narrowed unseen true cells under = record {
  cells = min unseen.cells cells;
  under = min unseen.under under;
}
narrowed unseen false cells under = record {
  cells = min (min unseen.cells cells) under;
  under = unseen.under;
}

abbrev pub is_nil : List (List Slot) → Bool
is_nil [] = true
is_nil (u ∷ us) = false

abbrev pub unseen_after : Unseen → TopShape → Reach → Unseen
unseen_after unseen s reach = narrowed unseen (is_nil s.saved) (length s.cells - reach.cells)
    (length s.under - reach.under)

-- less is unseen than before
pub record SeesMore (before after : Unseen) : Type 0 where
  pub cells : after.cells ≤ before.cells
  pub under : after.under ≤ before.under
  pub less : after.cells + after.under < before.cells + before.under

-- In each table so many slots are there in its own shape at the place.
pub record LooksOwed (header : EngineTable) (code : List PlainOp) (heap : Heap) (facts : Facts)
    (number place : ℕ) (reach : Reach) : Type 0 where
  pub by : (table : ShapeTable) → MeetsRules header code table → (trial : Trial)
      → slice_get facts.trials number ≡ Some trial → (own : TopShape)
      → table.at trial.entry place ≡ Some own → IsThere own reach

-- Each table's routine takes all but what is unseen then.
pub record UnseenOwed (header : EngineTable) (code : List PlainOp) (heap : Heap) (facts : Facts)
    (number : ℕ) (trial : Trial) (unseen : Unseen) : Type 0 where
  pub by : (table : ShapeTable) → MeetsRules header code table
      → (fits : TrialFits table heap facts number trial)
      → (length fits.x ≤ unseen.cells) × (length fits.y ≤ unseen.under)

-- So many slots are there above what the trial of this number hasn't looked at.
pub record Within (heap : Heap) (facts : Facts) (number : ℕ) (shape : TopShape)
    (reach : Reach) : Type 0 where
  pub trial : Trial
  pub has : slice_get facts.trials number ≡ Some trial
  pub own : TopShape
  pub is : shape ≡ deeper (unseen_cells heap trial) (unseen_under heap trial) own
  pub there : IsThere own reach

-- an instruction that stores no state
abbrev pub IsPlain : PlainOp → Type 0
IsPlain (ops.StoreState globals locals) = ⊥
IsPlain op = Unit {0}

-- what an instruction asks of the table besides, of the trial's own shape
abbrev pub AsksFurtherOf : EngineTable → Heap → Facts → ℕ → ℕ → PlainOp → Held → Type 0
AsksFurtherOf header heap facts number place op held = (trial : Trial)
    → slice_get facts.trials number ≡ Some trial
    → (over : IsOver heap trial (shape_of heap held)) → (after : TopShape)
    → rule header op over.own ≡ Some after
    → AsksFurther (trial_table heap facts) place op over.own

-- What the visit of an instruction with a rule of one shape leaves, but for what it stores.
pub record SeesStep (header : EngineTable) (code : List PlainOp) (heap heap' : Heap)
    (facts facts' : Facts) (number place : ℕ) (held : Held) (op : PlainOp)
    (seen : Seen) : Type 0 where
  pub grows : HeapGrows heap heap'
  pub keeps : Visited header code heap' facts' seen
  pub quiet : WhereQuiet seen ((facts' ≡ facts)
      × (AsksFurtherOf header heap facts number place op held
      → Sound header code heap facts number place held))
  pub takes : Takes facts facts' seen

-- the calls of a called routine are to be looked at again
abbrev pub CallsAgain : Worklist → Worklist → Entry → Type 0
CallsAgain before after Start = after ≡ before
CallsAgain before after (Called target) = CallersAdded before after target
CallsAgain before after (Stored site) = after ≡ before

-- Each call that was kept of the routine waits.
abbrev pub CallsWait : Worklist → Worklist → Entry → Type 0
CallsWait before after Start = Unit {0}
CallsWait before after (Called target) = (call : KeptCall) → Contains (calls_of before target) call
    → Contains (waiting after) call.spot
CallsWait before after (Stored site) = Unit {0}

-- of the trial with this number
pub record CallsOfWait (before after : Worklist) (facts : Facts) (number : ℕ) : Type 0 where
  pub trial : Trial
  pub has : slice_get facts.trials number ≡ Some trial
  pub by : CallsWait before after trial.entry

-- ---- each call that is kept is of a row of its own

-- so many of the first rows have a mark
abbrev pub marked : List ℕ → ℕ → ℕ
marked marks zero = 0
marked marks (suc n) = marked marks n + min (get_or marks n 0) 1

-- the call is the one of the row with this number
pub record IsCallOf (code : List PlainOp) (rows : List ShapeRow) (number : ℕ)
    (call : KeptCall) : Type 0 where
  pub row : ShapeRow
  pub has : slice_get rows number ≡ Some row
  pub spot : call.spot ≡ record { trial = row.trial; place = row.place }
  pub calls : IsCall code call.spot.place call.target

-- Each mark is of the call of its row, and there are as many calls as marks.
pub record CallsAreOfRows (code : List PlainOp) (rows : List ShapeRow) (w : Worklist) : Type 0 where
  pub inside : (number : ℕ) → get_or w.marks number 0 ≢ 0 → number < length rows
  pub of : (number : ℕ) (call : KeptCall) → IsMarked w number call → IsCallOf code rows number call
  pub count : length w.calls ≡ marked w.marks (length rows)

-- ---- what is found is handed in

-- What waited waits still, and calls that were kept are kept.
pub record Stays (before after : Worklist) : Type 0 where
  pub spots : (spot : Spot) → Contains (waiting before) spot → Contains (waiting after) spot
  pub calls : (target : ℕ) (call : KeptCall) → Contains (calls_of before target) call
      → Contains (calls_of after target) call

-- Of a trial more is known: it has looked at more, or what its routine gives is found.
pub record TrialGrows (before after : Trial) : Type 0 where
  pub entry : after.entry ≡ before.entry
  pub taken : after.taken ≡ before.taken
  pub under : after.under ≡ before.under
  pub unseen_cells : after.unseen.cells ≤ before.unseen.cells
  pub unseen_under : after.unseen.under ≤ before.unseen.under
  pub given : (given : ℕ) → before.given ≡ Some given → after.given ≡ Some given

-- One trial may be another one of its entry, and the others are as before.
pub record TrialIs (before after : Facts) (changed number : ℕ) (trial : Trial) : Type 0 where
  pub now : Trial
  pub has : slice_get after.trials number ≡ Some now
  pub grows : TrialGrows trial now
  pub known : (now ≡ trial) ⊎ (number ≡ changed)

pub record TrialSet (before after : Facts) (changed : ℕ) : Type 0 where
  pub rows : after.rows ≡ before.rows
  pub counts : (entry : Entry) → current after entry ≡ current before entry
  pub by : (number : ℕ) (trial : Trial) → slice_get before.trials number ≡ Some trial
      → TrialIs before after changed number trial

-- Of a trial the same is known as before, or each call that was kept of its routine waits.
pub record TrialStays (after : Facts) (w w' : Worklist) (number : ℕ) (trial : Trial) : Type 0 where
  pub now : Trial
  pub has : slice_get after.trials number ≡ Some now
  pub grows : TrialGrows trial now
  pub known : (now ≡ trial) ⊎ CallsWait w w' trial.entry

-- Rows are only added, and what counts for an entry counts on.
pub record FactsGrow (before after : Facts) : Type 0 where
  pub rows : (trial place : ℕ) (held : Held) → row_in before.rows trial place ≡ Some held
      → row_in after.rows trial place ≡ Some held
  pub counts : (entry : Entry) (number : ℕ) → current before entry ≡ Some number
      → current after entry ≡ Some number
  pub only : (entry : Entry) (number : ℕ) (trial : Trial)
      → slice_get before.trials number ≡ Some trial → current after entry ≡ Some number
      → current before entry ≡ Some number

-- Whatever was found waits: each row that is new, and the calls of each routine of which more is
-- known, what it gives or how deep it looks.
pub record HandsIn (code : List PlainOp) (before after : Facts) (w w' : Worklist) : Type 0 where
  pub rows : (trial place : ℕ) (held : Held) → row_in after.rows trial place ≡ Some held
      → (row_in before.rows trial place ≡ Some held)
      ⊎ Contains (waiting w') (record { trial = trial; place = place })
  pub trials : (number : ℕ) (trial : Trial) → slice_get before.trials number ≡ Some trial
      → TrialStays after w w' number trial
  pub grows : FactsGrow before after
  pub stays : Stays w w'
  pub marks : CallsAreOfRows code before.rows w → CallsAreOfRows code after.rows w'

-- ---- stored states

-- every table has this shape where a state resumes that is stored at this place
pub record Resumes (header : EngineTable) (code : List PlainOp) (site : ℕ)
    (shape : TopShape) : Type 0 where
  pub by : (table : ShapeTable) → MeetsRules header code table
      → table.at (Stored site) (resume_place site) ≡ Some shape

-- the trial that counts for what is stored there has it
pub record IsStored (heap : Heap) (facts : Facts) (site : ℕ) (shape : TopShape) : Type 0 where
  pub number : ℕ
  pub counts : current facts (Stored site) ≡ Some number
  pub row : RowIs heap facts number (resume_place site) shape

-- the instruction stores a state of these types
abbrev pub Stores : PlainOp → TopShape → StoredTypes → Type 0
Stores (ops.StoreState globals locals) shape types = stored_types globals locals shape.under shape.cells ≡ Some types
Stores op shape types = ⊥

-- and this is the shape with which the state resumes
pub record StoresAs (op : PlainOp) (shape resumed : TopShape) : Type 0 where
  pub types : StoredTypes
  pub stores : Stores op shape types
  pub is : resumed ≡ stored_shape types

-- ---- kinds of instructions

unfoldable pub kind_of : ℕ → PlainOp → Kind
kind_of place (ops.Jsr offset) = Call (jump_place place offset)
kind_of place ops.Retn = Return
kind_of place (ops.StoreState globals locals) = Store globals locals
kind_of place op = Step

-- ---- all rows

-- Whatever shape the trial has there obeys the rules.
pub record RowSound (header : EngineTable) (code : List PlainOp) (heap : Heap) (facts : Facts)
    (number place : ℕ) : Type 0 where
  pub by : (held : Held) → row_in facts.rows number place ≡ Some held
      → Sound header code heap facts number place held

-- what the look at a spot leaves
pub record SeesRow (header : EngineTable) (code : List PlainOp) (heap : Heap)
    (before facts : Facts) (seen : Seen) : Type 0 where
  pub keeps : Visited header code heap facts seen
  pub same : WhereQuiet seen (facts ≡ before)
  pub takes : Takes before facts seen

-- ---- what waits, and what is settled

-- If the instruction there is a call, it is kept of the routine that it calls.
pub record IsCallKept (code : List PlainOp) (w : Worklist) (number place : ℕ) : Type 0 where
  pub by : (target : ℕ) → IsCall code place target
      → IsKept w target (record { trial = number; place = place })

-- The row obeys the rules, and does so until more is known of the routine that it calls.
pub record IsSettled (header : EngineTable) (code : List PlainOp) (heap : Heap) (facts : Facts)
    (w : Worklist) (number place : ℕ) (held : Held) : Type 0 where
  pub sound : Sound header code heap facts number place held
  pub kept : IsCallKept code w number place

abbrev pub WaitsOrStands : EngineTable → List PlainOp → Heap → Facts → Worklist → ℕ → ℕ → Held
    → Type 0
WaitsOrStands header code heap facts w number place held =
    Contains (waiting w) (record { trial = number; place = place })
    ⊎ IsSettled header code heap facts w number place held

-- Each row waits or is settled. So once nothing waits, the table that was found meets the rules.
pub record AreSettled (header : EngineTable) (code : List PlainOp) (heap : Heap) (facts : Facts)
    (w : Worklist) : Type 0 where
  pub rows : (number place : ℕ) (held : Held) → row_in facts.rows number place ≡ Some held
      → WaitsOrStands header code heap facts w number place held
  pub marks : CallsAreOfRows code facts.rows w

-- each but the one that is looked at
pub record AreSettledBut (header : EngineTable) (code : List PlainOp) (heap : Heap) (facts : Facts)
    (w : Worklist) (spot : Spot) : Type 0 where
  pub rows : (number place : ℕ) (held : Held) → row_in facts.rows number place ≡ Some held
      → (record { trial = number; place = place } ≡ spot)
      ⊎ WaitsOrStands header code heap facts w number place held
  pub marks : CallsAreOfRows code facts.rows w

abbrev pub Goes : Seen → Type 0 → Type 0
Goes Quiet P = P
Goes Changed P = P
Goes Bad P = Unit {0}

-- what one turn of the inference leaves
pub record SeesTurn (header : EngineTable) (code : List PlainOp) (heap : Heap)
    (before facts : Facts) (w : Worklist) (seen : Seen) : Type 0 where
  pub keeps : Visited header code heap facts seen
  pub settled : Goes seen (AreSettled header code heap facts w)
  pub quiet : WhereQuiet seen ((facts ≡ before) × MeetsRules header code (trial_table heap facts))
  pub takes : Takes before facts seen

-- A table was found, and compares with every other.
pub record IsFound (header : EngineTable) (code : List PlainOp) (heap : Heap)
    (facts : Facts) : Type 0 where
  pub keeps : Keeps header code heap facts
  pub meets : MeetsRules header code (trial_table heap facts)
