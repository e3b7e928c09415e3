-- Each routine at its edges: numbers without an object, negative counts and delays, what stands
-- twice, and what isn't there.
use Rattle.std.proofs.Common.{◌≡◌, ℕ, ℤ, pos, negsuc, [], ◌∷◌, None, Some, true, false, refl}
use Rattle.std.specs.Prelude.{codes}
use Rattle.std.specs.Fmt.{digits}
use Rattle.area_rules.specs.Area.{PlainArea, object}
use Rattle.local_variables.specs.Variables.{IntVar, TextVar}
use Rattle.delay_agenda.specs.declared.entry.Kind.TheVariants.{Event, Stored, Turn}
use Rattle.nwq_value.specs.Header.{header_routines}
use Rattle.nwq_value.specs.HeaderTable.{header_table}
use Rattle.nwq_value.specs.Effect.{Effect}
use Rattle.nwq_value.specs.declared.value.Value.TheVariants as value
use Rattle.world_rules.specs.declared.data.Told.TheVariants as line
use Rattle.world_rules.specs.Pure.{pure}
use Rattle.world_rules.specs.World.{World, queue_of, effects_of}
use Rattle.world_rules.specs.Changes.{told}
use Rattle.world_rules.specs.Engine.{engine, may_run}
use Rattle.world_rules.specs.Turns.{new_world, begin, turn, turn_done, unapply}
use Rattle.world_rules.proofs.Played.{text, script, creature, area_of, start, no_cell, does, answers, begins, next_entry, turns}

abbrev two : PlainArea → World ℕ
two area = new_world (area_of area
    (creature "a" (IntVar (codes "n") (pos 5) ∷ TextVar (codes "n") (codes "x") ∷ []) [] ∷ creature "a" []
    (script "OnUserDefined" "other" ∷ []) ∷ [])) (10 ∷ 7 ∷ []) [] 1

abbrev newer : PlainArea → World ℕ
newer area = record (two area) { version = 2 }

-- ---- random numbers

random_none : (area : PlainArea) → does 0 1 (value.Int (pos 0) ∷ []) None (two area) ≡ two area
unfolding engine header_table header_routines
random_none area = refl

random_first : (area : PlainArea) → answers 0 1 (value.Int (pos 4) ∷ []) (two area) ≡ Some (value.Int (pos 2))
unfolding engine header_table header_routines
random_first area = refl

random_left : (area : PlainArea) → does 0 1 (value.Int (pos 1) ∷ []) None (two area) ≡ record (two area) { random = 7 ∷ [] }
unfolding engine header_table header_routines
random_left area = refl

random_used_up : (area : PlainArea) → answers 0 1 (value.Int (pos 4) ∷ []) (record (two area) { random = [] }) ≡ Some (value.Int (pos 0))
unfolding engine header_table header_routines
random_used_up area = refl

-- ---- stored actions

-- a number without an object assigns nothing, and a negative delay is none
assigned_to_none : (area : PlainArea) → does 6 1 (value.Object 0 ∷ []) (Some 9) (two area) ≡ two area
unfolding engine header_table header_routines
assigned_to_none area = refl

assigned_past_the_end : (area : PlainArea) → does 6 1 (value.Object 3 ∷ []) (Some 9) (two area) ≡ two area
unfolding engine header_table header_routines
assigned_past_the_end area = refl

delayed_by_less_than_none : (area : PlainArea) → (does 7 0 (value.Int (negsuc 4) ∷ []) (Some 9) (two area)).agenda.entries ≡ record { due = 0; number = 0; kind = Stored 0 9 } ∷ []
unfolding engine header_table header_routines
delayed_by_less_than_none area = refl

-- a delay counts from now
delayed_from_now : (area : PlainArea)
    → (does 7 2 (value.Int (pos 2147483647) ∷ []) (Some 9) (record (two area) { clock = 1000 })).agenda.entries
    ≡ record { due = 2147484647; number = 0; kind = Stored 2 9 } ∷ []
unfolding engine header_table header_routines
delayed_from_now area = refl

-- ---- queues

nobody_waits : (area : PlainArea) → does 11 0 (value.Int (pos 5) ∷ []) None (two area) ≡ two area
unfolding engine header_table header_routines
nobody_waits area = refl

nobody_clears : (area : PlainArea) → does 9 0 (value.Int (pos 0) ∷ []) None (newer area) ≡ newer area
unfolding engine header_table header_routines
nobody_clears area = refl

-- the second action posts no second Turn
abbrev speaks : World ℕ → World ℕ
speaks w = does 12 2 (text "yes" ∷ value.Int (pos 0) ∷ []) None w

speaks_twice : (area : PlainArea) → (speaks (speaks (two area))).agenda.entries ≡ record { due = 0; number = 0; kind = Turn 2 } ∷ []
unfolding engine header_table header_routines
speaks_twice area = refl

-- after one of two texts the object turns to the second one, and after that it rests
speaks_once : (area : PlainArea) → next_entry (turns 2 (begins (speaks (speaks (two area))))) ≡ Some (record { due = 0; number = 1; kind = Turn 2 })
unfolding engine header_table header_routines
speaks_once area = refl

speaks_no_more : (area : PlainArea) → queue_of 2 (turns 2 (begins (turns 2 (begins (speaks (speaks (two area))))))) ≡ record { actions = []; busy = false }
unfolding engine header_table header_routines
speaks_no_more area = refl

-- while a stored action of the queue runs, the object stays busy, and what the action appends posts
-- no Turn
abbrev acts : World ℕ → World ℕ
acts w = turns 2 (begins (does 10 2 [] (Some 9) w))

acts_action : (area : PlainArea) → (turn 2 (begins (does 10 2 [] (Some 9) (two area)))).action ≡ Some 9
unfolding engine header_table header_routines
acts_action area = refl

acts_and_speaks : (area : PlainArea) → (speaks (acts (two area))).agenda.entries ≡ []
unfolding engine header_table header_routines
acts_and_speaks area = refl

acts_and_turns : (area : PlainArea) → (turn_done 2 (speaks (acts (two area)))).agenda.entries ≡ record { due = 0; number = 1; kind = Turn 2 } ∷ []
unfolding engine header_table header_routines
acts_and_turns area = refl

-- an action that clears its own queue while it runs: the object stays busy until it is done, in
-- both versions
acts_and_clears : (area : PlainArea) → queue_of 2 (does 9 2 (value.Int (pos 0) ∷ []) None (acts (newer area))) ≡ record { actions = []; busy = true }
unfolding engine header_table header_routines
acts_and_clears area = refl

acts_and_rests : (area : PlainArea) → queue_of 2 (turn_done 2 (does 9 2 (value.Int (pos 0) ∷ []) None (acts (newer area)))) ≡ record { actions = []; busy = false }
unfolding engine header_table header_routines
acts_and_rests area = refl

-- what was delayed stays when a queue is emptied, and so does the Turn of another object
clears_its_own : (area : PlainArea)
    → (does 9 2 (value.Int (pos 0) ∷ []) None
    (does 11 1 (value.Int (pos 0) ∷ []) None
    (does 7 2 (value.Int (pos 3) ∷ []) (Some 9) (speaks (newer area))))).agenda.entries
    ≡ record { due = 0; number = 2; kind = Turn 1 } ∷ record { due = 3; number = 1; kind = Stored 2 9 } ∷ []
unfolding engine header_table header_routines
clears_its_own area = refl

-- ---- the area

tag_past_the_end : (area : PlainArea) → answers 15 1 (value.Object 3 ∷ []) (two area) ≡ Some (value.Text [])
unfolding engine header_table header_routines
tag_past_the_end area = refl

tag_of_one : (area : PlainArea) → answers 15 1 (value.Object 2 ∷ []) (two area) ≡ Some (text "a")
unfolding engine header_table header_routines
tag_of_one area = refl

valid_none : (area : PlainArea) → answers 16 1 (value.Object 0 ∷ []) (two area) ≡ Some (value.Int (pos 0))
unfolding engine header_table header_routines
valid_none area = refl

valid_last : (area : PlainArea) → answers 16 1 (value.Object 2 ∷ []) (two area) ≡ Some (value.Int (pos 1))
unfolding engine header_table header_routines
valid_last area = refl

second_by_tag : (area : PlainArea) → answers 14 1 (text "a" ∷ value.Int (pos 1) ∷ []) (two area) ≡ Some (value.Object 2)
unfolding engine header_table header_routines
second_by_tag area = refl

before_the_first_by_tag : (area : PlainArea) → answers 14 1 (text "a" ∷ value.Int (negsuc 0) ∷ []) (two area) ≡ Some (value.Object 0)
unfolding engine header_table header_routines
before_the_first_by_tag area = refl

int_of_none : (area : PlainArea) → answers 17 1 (value.Object 0 ∷ text "n" ∷ []) (two area) ≡ Some (value.Int (pos 0))
unfolding engine header_table header_routines
int_of_none area = refl

string_of_one : (area : PlainArea) → answers 19 1 (value.Object 1 ∷ text "n" ∷ []) (two area) ≡ Some (text "x")
unfolding engine header_table header_routines
string_of_one area = refl

set_of_none : (area : PlainArea) → does 18 1 (value.Object 3 ∷ text "n" ∷ value.Int (pos 1) ∷ []) None (two area) ≡ two area
unfolding engine header_table header_routines
set_of_none area = refl

-- names of ints and of strings are apart
deleted_int : (area : PlainArea) → (object (does 21 1 (value.Object 1 ∷ text "n" ∷ []) None (two area)).area 1).vars ≡ TextVar (codes "n") (codes "x") ∷ []
unfolding engine header_table header_routines
deleted_int area = refl

set_string : (area : PlainArea) → (object (does 20 1 (value.Object 2 ∷ text "n" ∷ text "y" ∷ []) None (two area)).area 2).vars ≡ TextVar (codes "n") (codes "y") ∷ []
unfolding engine header_table header_routines
set_string area = refl

-- ---- effects

abbrev heal : Effect
heal = record { routine = 26; ints = pos 4 ∷ [] }

abbrev harm : Effect
harm = record { routine = 26; ints = negsuc 3 ∷ [] }

abbrev apply : ℤ → Effect → ℕ → World ℕ → World ℕ
apply duration e o w = does 23 0 (value.Int duration ∷ value.Effect e ∷ value.Object o ∷ value.Int (pos 0) ∷ []) None w

applied_at_once : (area : PlainArea) → apply (pos 0) heal 1 (two area) ≡ told 1 (line.Apply (pos 0) heal) (two area)
unfolding engine header_table header_routines
applied_at_once area = refl

applied_for_good : (area : PlainArea) → effects_of 2 (apply (pos 2) heal 2 (two area)) ≡ record { number = None; effect = heal } ∷ []
unfolding engine header_table header_routines
applied_for_good area = refl

applied_otherwise : (area : PlainArea) → apply (pos 3) heal 1 (two area) ≡ two area
unfolding engine header_table header_routines
applied_otherwise area = refl

applied_to_none : (area : PlainArea) → apply (pos 0) heal 3 (two area) ≡ two area
unfolding engine header_table header_routines
applied_to_none area = refl

-- the first of two equal effects is removed, and one with other ints isn't
abbrev healed : World ℕ → World ℕ
healed w = apply (pos 2) heal 1 (apply (pos 1) heal 1 (apply (pos 2) harm 1 w))

removed_first : (area : PlainArea) → effects_of 1 (does 24 0 (value.Object 1 ∷ value.Effect heal ∷ []) None (healed (two area)))
    ≡ record { number = None; effect = harm } ∷ record { number = None; effect = heal } ∷ []
unfolding engine header_table header_routines
removed_first area = refl

-- the entry of an effect that was removed ends no other one
ended_once : (area : PlainArea) → unapply 1 0 (begins (does 24 0 (value.Object 1 ∷ value.Effect heal ∷ []) None (healed (two area))))
    ≡ begins (does 24 0 (value.Object 1 ∷ value.Effect heal ∷ []) None (healed (two area)))
unfolding engine header_table header_routines
ended_once area = refl

removed_none : (area : PlainArea) → does 24 0 (value.Object 2 ∷ value.Effect heal ∷ []) None (healed (two area)) ≡ healed (two area)
unfolding engine header_table header_routines
removed_none area = refl

-- ---- events

signalled_to_none : (area : PlainArea) → does 39 1 (value.Object 0 ∷ value.Event (pos 1) ∷ []) None (two area) ≡ two area
unfolding engine header_table header_routines
signalled_to_none area = refl

signalled_by_the_other_name : (area : PlainArea)
    → next_entry (does 39 1 (value.Object 2 ∷ value.Event (negsuc 0) ∷ []) None (two area))
    ≡ Some (record { due = 0; number = 0; kind = Event 2 (codes "other") (negsuc 0) })
unfolding engine header_table header_routines
signalled_by_the_other_name area = refl

-- an object without either field has an event without a script
signalled_without_a_script : (area : PlainArea) → next_entry (does 39 1 (value.Object 1 ∷ value.Event (pos 3) ∷ []) None (two area)) ≡ Some (record { due = 0; number = 0; kind = Event 1 [] (pos 3) })
unfolding engine header_table header_routines
signalled_without_a_script area = refl

-- ---- ExecuteScript's question, and entries

self_may_run : (area : PlainArea) → may_run 0 0 (two area) ≡ true
self_may_run area = refl

none_may_run : (area : PlainArea) → may_run 1 0 (two area) ≡ false
none_may_run area = refl

past_the_end_may_not_run : (area : PlainArea) → may_run 1 3 (two area) ≡ false
past_the_end_may_not_run area = refl

none_due : (area : PlainArea) → begin {X = ℕ} 4 (new_world (area_of area []) [] (start 5 0 "p" ∷ []) 2) ≡ None
none_due area = refl

due_at_the_end : (area : PlainArea) → (begins (new_world (area_of area []) [] (start 60000 0 "p" ∷ []) 2)).clock ≡ 60000
due_at_the_end area = refl

-- ---- strings and numbers

least_absolute : pure no_cell 0 (value.Int (negsuc 2147483647) ∷ []) ≡ Some (value.Int (negsuc 2147483647))
least_absolute = refl

absolute_of_less : pure no_cell 0 (value.Int (negsuc 6) ∷ []) ≡ Some (value.Int (pos 7))
absolute_of_less = refl

string_of_least : pure no_cell 1 (value.Int (negsuc 2147483647) ∷ []) ≡ Some (text "-2147483648")
unfolding digits
string_of_least = refl

number_before_letters : pure no_cell 2 (text "-12x" ∷ []) ≡ Some (value.Int (negsuc 11))
number_before_letters = refl

number_of_none : pure no_cell 2 (text "-" ∷ []) ≡ Some (value.Int (pos 0))
number_of_none = refl

number_of_blank : pure no_cell 2 (text " 1" ∷ []) ≡ Some (value.Int (pos 0))
number_of_blank = refl

number_modulo : pure no_cell 2 (text "4294967298" ∷ []) ≡ Some (value.Int (pos 2))
number_modulo = refl

number_of_half : pure no_cell 2 (text "2147483648" ∷ []) ≡ Some (value.Int (negsuc 2147483647))
number_of_half = refl

hex_of_less : pure no_cell 3 (value.Int (negsuc 0) ∷ []) ≡ Some (text "0xffffffff")
hex_of_less = refl

hex_of_byte : pure no_cell 3 (value.Int (pos 255) ∷ []) ≡ Some (text "0x000000ff")
hex_of_byte = refl

length_of_three : pure no_cell 4 (text "abc" ∷ []) ≡ Some (value.Int (pos 3))
length_of_three = refl

left_of_less : pure no_cell 5 (text "abc" ∷ value.Int (negsuc 0) ∷ []) ≡ Some (text "")
left_of_less = refl

left_of_two : pure no_cell 5 (text "abc" ∷ value.Int (pos 2) ∷ []) ≡ Some (text "ab")
left_of_two = refl

right_of_all : pure no_cell 6 (text "abc" ∷ value.Int (pos 5) ∷ []) ≡ Some (text "abc")
right_of_all = refl

right_of_one : pure no_cell 6 (text "abc" ∷ value.Int (pos 1) ∷ []) ≡ Some (text "c")
right_of_one = refl

middle_past_the_end : pure no_cell 7 (text "abc" ∷ value.Int (pos 4) ∷ value.Int (pos 1) ∷ []) ≡ Some (text "")
middle_past_the_end = refl

middle_from_less : pure no_cell 7 (text "abc" ∷ value.Int (negsuc 0) ∷ value.Int (pos 2) ∷ []) ≡ Some (text "")
middle_from_less = refl

middle_of_six : pure no_cell 7 (text "abcdef" ∷ value.Int (pos 2) ∷ value.Int (pos 3) ∷ []) ≡ Some (text "cde")
middle_of_six = refl

inserted_past_the_end : pure no_cell 8 (text "ab" ∷ text "X" ∷ value.Int (pos 9) ∷ []) ≡ Some (text "abX")
inserted_past_the_end = refl

inserted_before : pure no_cell 8 (text "ab" ∷ text "X" ∷ value.Int (negsuc 2) ∷ []) ≡ Some (text "Xab")
inserted_before = refl

no_eleventh : pure no_cell 10 [] ≡ None
no_eleventh = refl
