-- What the functions on RETN owe.
use Rattle.std.proofs.Common.{◌≡◌, ℕ, List, [], ◌∷◌, Some, slice_get, sym, subst, refl}
use Rattle.nwq_value.specs.Engine.{EngineTable}
use Rattle.ncs_code.specs.Plain.{PlainOp}
use Rattle.ncs_code.specs.Plain as ops
use Rattle.ncs_code.specs.File.{op_at}
use Rattle.stack_shape.specs.declared.shape.Entry.{Entry}
use Rattle.stack_shape.specs.declared.shape.Entry.TheVariants.{Start, Called, Stored}
use Rattle.stack_rules.specs.Rules.{Returns}
use Rattle.stack_lists.specs.declared.held.Held.{Held}
use Rattle.stack_lists.specs.declared.held.Heap.{Heap}
use Rattle.stack_check.specs.declared.facts.Trial.{Trial}
use Rattle.stack_check.specs.declared.facts.Facts.{Facts}
use Rattle.stack_check.specs.declared.seen.Seen.TheVariants.{Quiet, Changed, Bad}
use Rattle.stack_lists.specs.Shared.{read}
use Rattle.stack_lists.specs.Rows.{row_in}
use Rattle.stack_check.specs.Facts.{FindsMore}
use Rattle.stack_check.specs.Inference.{Keeps, Sees}
use Rattle.stack_lists.specs.Growth.{heap_same}
use Rattle.stack_check.proofs.CallSteps.{sees_changed}
use Rattle.stack_check.proofs.Calling.{never_saved, never_pending, never_gives, return_owed, return_sound, end_sound}

pub saved_bad : (header : EngineTable) (code : List PlainOp) (heap : Heap) (facts : Facts) (n p target : ℕ) (held : Held) (trial : Trial) (top : ℕ) (rest : List ℕ)
    → Keeps header code heap facts → row_in facts.rows n p ≡ Some held → op_at code p ≡ Some ops.Retn → slice_get facts.trials n ≡ Some trial
    → trial.entry ≡ Called target → read heap.saved held.saved ≡ top ∷ rest → Sees header code heap heap facts facts n p held Bad
saved_bad header code heap facts n p target held trial top rest k r stands has e s =
    record { grows = heap_same heap; keeps = never_saved header code heap facts n p target held trial top rest k r stands has e s; quiet = tt; takes = tt }

pub pending_bad : (header : EngineTable) (code : List PlainOp) (heap : Heap) (facts : Facts) (n p target : ℕ) (held : Held) (trial : Trial)
    → Keeps header code heap facts → row_in facts.rows n p ≡ Some held → op_at code p ≡ Some ops.Retn → slice_get facts.trials n ≡ Some trial
    → trial.entry ≡ Called target → (held.pending ≡ 0 → ⊥) → Sees header code heap heap facts facts n p held Bad
pending_bad header code heap facts n p target held trial k r stands has e ne =
    record { grows = heap_same heap; keeps = never_pending header code heap facts n p target held trial k r stands has e ne; quiet = tt; takes = tt }

pub ruleset leaving = (saved_bad, pending_bad)

pub gives_bad : (header : EngineTable) (code : List PlainOp) (heap : Heap) (facts : Facts) (n p target : ℕ) (held : Held) (trial : Trial) (given : ℕ)
    → Keeps header code heap facts → row_in facts.rows n p ≡ Some held → op_at code p ≡ Some ops.Retn → slice_get facts.trials n ≡ Some trial
    → trial.entry ≡ Called target → trial.given ≡ Some given → (read heap.slots given ≡ read heap.slots held.cells → ⊥)
    → Sees header code heap heap facts facts n p held Bad
gives_bad header code heap facts n p target held trial given k r stands has e g ne =
    record { grows = heap_same heap; keeps = never_gives header code heap facts n p target held trial given k r stands has e g ne; quiet = tt; takes = tt }

pub gives_quiet : (header : EngineTable) (code : List PlainOp) (heap : Heap) (facts : Facts) (n p target : ℕ) (held : Held) (trial : Trial) (given : ℕ)
    → Keeps header code heap facts → op_at code p ≡ Some ops.Retn → slice_get facts.trials n ≡ Some trial
    → trial.entry ≡ Called target → trial.given ≡ Some given → read heap.slots given ≡ read heap.slots held.cells → read heap.saved held.saved ≡ []
    → held.pending ≡ 0 → Sees header code heap heap facts facts n p held Quiet
gives_quiet header code heap facts n p target held trial given k stands has e g same s z =
    record { grows = heap_same heap; keeps = k; quiet = (refl, return_sound header code heap facts n p target held trial given k stands has e g same s z); takes = tt }

pub gives_changed : (header : EngineTable) (code : List PlainOp) (heap : Heap) (facts after : Facts) (n p : ℕ) (held : Held) → Keeps header code heap after
    → FindsMore facts after → Sees header code heap heap facts after n p held Changed
gives_changed header code heap facts after n p held k l = sees_changed header code heap heap facts after n p held (heap_same heap) k l

pub ruleset giving = (gives_bad, gives_quiet, gives_changed, return_owed)

ends_start : (entry : Entry) → entry ≡ Start → (table : Rattle.stack_rules.specs.Tables.ShapeTable) (shape : Rattle.stack_shape.specs.Stored.TopShape)
    → Returns table entry shape
ends_start entry e table shape = subst (λ e. Returns table e shape) (sym e) tt

ends_stored : (entry : Entry) (site : ℕ) → entry ≡ Stored site → (table : Rattle.stack_rules.specs.Tables.ShapeTable)
    (shape : Rattle.stack_shape.specs.Stored.TopShape) → Returns table entry shape
ends_stored entry site e table shape = subst (λ e. Returns table e shape) (sym e) tt

pub start_quiet : (header : EngineTable) (code : List PlainOp) (heap : Heap) (facts : Facts) (n p : ℕ) (held : Held) (trial : Trial) → Keeps header code heap facts
    → op_at code p ≡ Some ops.Retn → slice_get facts.trials n ≡ Some trial → trial.entry ≡ Start → Sees header code heap heap facts facts n p held Quiet
start_quiet header code heap facts n p held trial k stands has e =
    record { grows = heap_same heap; keeps = k; quiet = (refl, end_sound header code heap facts n p held trial k stands has (ends_start trial.entry e)); takes = tt }

pub stored_quiet : (header : EngineTable) (code : List PlainOp) (heap : Heap) (facts : Facts) (n p site : ℕ) (held : Held) (trial : Trial)
    → Keeps header code heap facts → op_at code p ≡ Some ops.Retn → slice_get facts.trials n ≡ Some trial → trial.entry ≡ Stored site
    → Sees header code heap heap facts facts n p held Quiet
stored_quiet header code heap facts n p site held trial k stands has e =
    record { grows = heap_same heap; keeps = k; quiet = (refl, end_sound header code heap facts n p held trial k stands has (ends_stored trial.entry site e)); takes = tt }

pub ruleset ending = (start_quiet, stored_quiet)
