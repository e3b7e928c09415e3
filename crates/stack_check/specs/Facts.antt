-- What an inference has found, and the table of shapes that it stands for.
use Rattle.std.specs.Prelude.{◌<◌, ◌≤◌, ℕ, zero, suc, ◌+◌, ◌-◌, ◌*◌, List, [], ◌∷◌, length, take, drop, Option, None, Some, slice_get, slice_set, get_or}
use Rattle.std.specs.Option.{option_map, option_and_then}
use Rattle.ncs_code.specs.File.{header_size, resume_place}
use Rattle.stack_shape.specs.declared.shape.Slot.{Slot}
use Rattle.stack_shape.specs.declared.shape.Entry.{Entry}
use Rattle.stack_shape.specs.declared.shape.Entry.TheVariants.{Start, Called, Stored}
use Rattle.stack_shape.specs.Stored.{TopShape}
use Rattle.stack_shape.specs.Laws.{beneath_under}
use Rattle.stack_rules.specs.Tables.{Callee, ShapeTable}
use Rattle.stack_lists.specs.declared.held.Held.{Held}
use Rattle.stack_lists.specs.declared.held.Heap.{Heap}
use Rattle.stack_check.specs.declared.facts.Trial.{Trial}
use Rattle.stack_check.specs.declared.facts.Unseen.{Unseen}
use Rattle.stack_check.specs.declared.facts.Facts.{Facts}
use Rattle.stack_lists.specs.Shared.{read}
use Rattle.stack_lists.specs.Held.{shape_of}
use Rattle.stack_lists.specs.Rows.{row_in}

-- ---- trials: an entry, with the lists of its first call

-- a number at a place, where 0 is none
abbrev pub number_in : ℕ → Option ℕ
number_in zero = None
number_in (suc n) = Some (suc n)

-- the trial of an entry
abbrev pub current : Facts → Entry → Option ℕ
current facts Start = Some 0
current facts (Called target) = number_in (get_or facts.called target 0)
current facts (Stored site) = number_in (get_or facts.stored site 0)

-- the place at which an entry begins
abbrev pub first_place : Entry → ℕ
first_place Start = header_size
first_place (Called target) = target
first_place (Stored site) = resume_place site

-- the shape with which a trial begins
abbrev pub first_held : Trial → Held
first_held trial = record { cells = trial.taken; under = trial.under; saved = 0; pending = 0 }

-- what a trial knows of a called routine, with the whole lists of its first call
abbrev pub callee_of : Heap → Trial → Callee
callee_of heap trial =
    record {
      taken = read heap.slots trial.taken;
      under = read heap.slots trial.under;
      given = option_map (read heap.slots) trial.given;
    }

-- ---- what was looked at

-- the lowest slots of a list, so many
abbrev pub lowest : ℕ → List Slot → List Slot
lowest n slots = drop (length slots - n) slots

-- what no instruction of a trial's routine has looked at
abbrev pub unseen_cells : Heap → Trial → List Slot
unseen_cells heap trial = lowest trial.unseen.cells (read heap.slots trial.taken)

abbrev pub unseen_under : Heap → Trial → List Slot
unseen_under heap trial = lowest trial.unseen.under (read heap.slots trial.under)

-- a list without what lies lowest in it
abbrev pub without : List Slot → List Slot → List Slot
without lower slots = take (length slots - length lower) slots

abbrev pub cut_saved : List Slot → List Slot → List (List Slot) → List (List Slot)
cut_saved x y [] = []
cut_saved x y (u ∷ us) = without (beneath_under x y us) u ∷ cut_saved x y us

-- a shape without what lies beneath it
abbrev pub cut : List Slot → List Slot → TopShape → TopShape
cut x y s = record {
  cells = without x s.cells;
  under = without (beneath_under x y s.saved) s.under;
  saved = cut_saved x y s.saved;
  pending = s.pending;
}

abbrev pub cut_for : Heap → Trial → TopShape → TopShape
cut_for heap trial s = cut (unseen_cells heap trial) (unseen_under heap trial) s

-- what the routine takes and gives
abbrev pub kept_callee : Heap → Trial → Callee
kept_callee heap trial = record {
  taken = without (unseen_cells heap trial) (read heap.slots trial.taken);
  under = without (unseen_under heap trial) (read heap.slots trial.under);
  given = option_map (λ given. without (unseen_cells heap trial)
      (read heap.slots given)) trial.given;
}

-- ---- the table

-- the shape at a place of an entry, as it was found
abbrev pub whole_at : Heap → Facts → Entry → ℕ → Option TopShape
whole_at heap facts entry place = option_map (shape_of heap)
    (option_and_then (λ trial. row_in facts.rows trial place) (current facts entry))

-- and without what the trial hasn't looked at
abbrev pub cut_at : Heap → Facts → Entry → ℕ → Option TopShape
cut_at heap facts entry place = option_and_then (λ number. option_and_then (λ trial.
    option_map (λ held. cut_for heap trial (shape_of heap held)) (row_in facts.rows number place))
    (slice_get facts.trials number)) (current facts entry)

-- A script's start and a stored state have looked at all that they have.
abbrev pub shape_at : Heap → Facts → Entry → ℕ → Option TopShape
shape_at heap facts Start place = whole_at heap facts Start place
shape_at heap facts (Called target) place = cut_at heap facts (Called target) place
shape_at heap facts (Stored site) place = whole_at heap facts (Stored site) place

abbrev pub callee_at : Heap → Facts → ℕ → Option Callee
callee_at heap facts target = option_map (kept_callee heap)
    (option_and_then (slice_get facts.trials) (current facts (Called target)))

-- the table of the trials, each without what it didn't look at
abbrev pub trial_table : Heap → Facts → ShapeTable
trial_table heap facts = record { at = shape_at heap facts; called = callee_at heap facts }

-- ---- how much was found, and how much may still be

-- of all trials
abbrev pub total : (Trial → ℕ) → List Trial → ℕ
total of [] = 0
total of (trial ∷ trials) = of trial + total of trials

-- of a trial: what its routine gives, and the slots that it hasn't looked at
abbrev pub given_open : Option ℕ → ℕ
given_open None = 1
given_open (Some given) = 0

abbrev pub open_of : Trial → ℕ
open_of trial = given_open trial.given + trial.unseen.cells + trial.unseen.under

-- A row more, perhaps with a trial of its own, is worth more than all that is open of one trial.
unfoldable pub left : Facts → ℕ
left facts = 67108866 * (33554432 - length facts.rows) + total open_of facts.trials

-- of a trial: what its routine gives, and the slots that it has looked at since it began
abbrev pub given_found : Option ℕ → ℕ
given_found None = 0
given_found (Some given) = 1

abbrev pub seen_of : Trial → ℕ
seen_of trial = given_found trial.given + (trial.at_first.cells - trial.unseen.cells) +
    (trial.at_first.under - trial.unseen.under)

-- rows, given lists, and slots that were looked at
unfoldable pub found : Facts → ℕ
found facts = length facts.rows + total seen_of facts.trials

pub record FindsMore (before after : Facts) : Type 0 where
  pub left : left after < left before
  pub found : found before < found after
  pub rows : length before.rows ≤ length after.rows

-- a trial that has looked at more
abbrev pub with_unseen : Facts → ℕ → Trial → Unseen → Facts
with_unseen facts n trial unseen = record facts {
  trials = slice_set facts.trials n
      (record trial { unseen = unseen });
}
