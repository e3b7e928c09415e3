-- The definitions at whole plays, entry by entry.
use Rattle.std.proofs.Common.{◌≡◌, ℕ, pos, [], ◌∷◌, None, Some, true, refl}
use Rattle.std.specs.Prelude.{codes}
use Rattle.std.specs.Fmt.{digits}
use Rattle.action_queue.specs.declared.queue.Item.TheVariants.{Wait, Speak}
use Rattle.area_rules.specs.Area.{PlainArea, object}
use Rattle.local_variables.specs.Variables.{IntVar}
use Rattle.delay_agenda.specs.declared.entry.Kind.TheVariants.{Event, Stored, Turn, Unapply}
use Rattle.nwq_value.specs.Header.{header_routines}
use Rattle.nwq_value.specs.HeaderTable.{header_table}
use Rattle.nwq_value.specs.Roles.{role_without_row}
use Rattle.nwq_value.specs.declared.value.Value.{Value}
use Rattle.nwq_value.specs.declared.value.Value.TheVariants as value
use Rattle.nwq_text.specs.Escape.{escaped, quoted, spelling}
use Rattle.nwq_text.specs.Values.{arguments_text, effect_text, value_text}
use Rattle.world_rules.specs.Trace.{line_text, trace_text}
use Rattle.world_rules.specs.World.{World, queue_of, effects_of}
use Rattle.world_rules.specs.Engine.{engine}
use Rattle.world_rules.specs.Turns.{new_world, unapply}
use Rattle.world_rules.proofs.Played.{text, script, creature, area_of, start, does, answers, begins, next_entry, turns}

-- an area of one creature, the guard
abbrev guarded : PlainArea → PlainArea
guarded area = area_of area (creature "guard" (IntVar (codes "count") (pos 5) ∷ []) (script "ScriptHeartbeat" "tick" ∷ script "ScriptUserDefine" "usr" ∷ []) ∷ [])

-- ---- an action that is assigned runs after the entry that assigned it

abbrev one : PlainArea → World ℕ
one area = begins (new_world (area_of area (creature "0" [] [] ∷ [])) [] (start 0 1 "p" ∷ []) 2)

abbrev assigned : PlainArea → World ℕ
assigned area = does 4 1 (value.Int (pos 1) ∷ []) None (does 6 1 (value.Object 1 ∷ []) (Some 0) (one area))

assigned_tag : (area : PlainArea) → answers 29 1 (value.Int (pos 0) ∷ []) (one area) ≡ Some (text "0")
unfolding engine header_table header_routines digits
assigned_tag area = refl

assigned_target : (area : PlainArea) → answers 14 1 (text "0" ∷ value.Int (pos 0) ∷ []) (one area) ≡ Some (value.Object 1)
unfolding engine header_table header_routines
assigned_target area = refl

assigned_next : (area : PlainArea) → next_entry (assigned area) ≡ Some (record { due = 0; number = 1; kind = Stored 1 0 })
unfolding engine header_table header_routines
assigned_next area = refl

assigned_trace : (area : PlainArea) → trace_text (does 4 1 (value.Int (pos 0) ∷ []) None (begins (assigned area))).trace ≡ codes "0 #1 print 1\n0 #1 print 0\n"
unfolding engine header_table header_routines trace_text line_text digits escaped spelling value_text
assigned_trace area = refl

-- ---- a queue that is emptied while its Turn waits

abbrev waits : PlainArea → ℕ → World ℕ
waits area version =
    does 12 1 (text "hi" ∷ value.Int (pos 0) ∷ []) None
    (does 11 1 (value.Int (pos 2000) ∷ []) None
    (begins (new_world (guarded area) [] (start 0 1 "a" ∷ start 1000 1 "b" ∷ []) version)))

waits_queue : (area : PlainArea) → queue_of 1 (waits area 1) ≡ record { actions = Wait (pos 2000) ∷ Speak (codes "hi") ∷ []; busy = true }
unfolding engine header_table header_routines
waits_queue area = refl

-- the two actions share one Turn, and the Wait posts the next one
abbrev waited : PlainArea → ℕ → World ℕ
waited area version = turns 1 (begins (waits area version))

waits_turn : (area : PlainArea) → next_entry (waits area 1) ≡ Some (record { due = 0; number = 2; kind = Turn 1 })
unfolding engine header_table header_routines
waits_turn area = refl

waited_left : (area : PlainArea) → (waited area 1).agenda.entries ≡ record { due = 1000; number = 1; kind = Event 1 (codes "b") (pos 0) } ∷ record { due = 2000; number = 3; kind = Turn 1 } ∷ []
unfolding engine header_table header_routines
waited_left area = refl

abbrev emptied : PlainArea → ℕ → World ℕ
emptied area version = does 9 1 (value.Int (pos 0) ∷ []) None (begins (waited area version))

-- in version 1 the Turn comes at its time, finds nothing to do and ends the mark
emptied_first : (area : PlainArea) → next_entry (emptied area 1) ≡ Some (record { due = 2000; number = 3; kind = Turn 1 })
unfolding engine header_table header_routines
emptied_first area = refl

emptied_end : (area : PlainArea) → turns 1 (begins (emptied area 1)) ≡ record (new_world (guarded area) [] [] 1) { clock = 2000; agenda = record { entries = []; next = 4 } }
unfolding engine header_table header_routines
emptied_end area = refl

-- in version 2 it is gone, and the mark with it
emptied_second : (area : PlainArea) → emptied area 2 ≡ record (new_world (guarded area) [] [] 2) { clock = 1000; agenda = record { entries = []; next = 4 } }
unfolding engine header_table header_routines
emptied_second area = refl

-- ---- an action that assigns itself anew

abbrev again : World ℕ → World ℕ
again w = does 6 1 (value.Object 1 ∷ []) (Some 7) (begins w)

again_left : (area : PlainArea)
    → (again (again (again (again (again (new_world (guarded area) [] (start 0 1 "s" ∷ []) 2)))))).agenda
    ≡ record { entries = record { due = 0; number = 5; kind = Stored 1 7 } ∷ []; next = 6 }
unfolding engine header_table header_routines
again_left area = refl

-- ---- an object's own event

abbrev signals : PlainArea → World ℕ
signals area = does 39 1 (value.Object 1 ∷ value.Event (pos 7) ∷ []) None (begins (new_world (guarded area) [] (start 0 1 "s" ∷ []) 2))

signals_event : (area : PlainArea) → answers 38 1 (value.Int (pos 7) ∷ []) (signals area) ≡ Some (value.Event (pos 7))
unfolding engine header_table header_routines
signals_event area = refl

signals_number : (area : PlainArea) → answers 40 1 [] (signals area) ≡ Some (value.Int (pos 0))
unfolding engine header_table header_routines
signals_number area = refl

signals_next : (area : PlainArea) → next_entry (signals area) ≡ Some (record { due = 0; number = 1; kind = Event 1 (codes "usr") (pos 7) })
unfolding engine header_table header_routines
signals_next area = refl

signalled_number : (area : PlainArea) → answers 40 1 [] (begins (signals area)) ≡ Some (value.Int (pos 7))
unfolding engine header_table header_routines
signalled_number area = refl

signals_trace : (area : PlainArea) → trace_text (does 4 1 (value.Int (pos 7) ∷ []) None (begins (does 4 1 (value.Int (pos 0) ∷ []) None (signals area)))).trace ≡ codes "0 #1 print 0\n0 #1 print 7\n"
unfolding engine header_table header_routines trace_text line_text digits escaped spelling value_text
signals_trace area = refl

-- ---- a heartbeat that counts, speaks and prints later

abbrev beats : ℕ → World ℕ → World ℕ
beats n w =
    does 7 1 (value.Int (pos 6000) ∷ []) (Some n)
    (does 12 1 (text "round" ∷ value.Int (pos 0) ∷ []) None
    (does 18 1 (value.Object 1 ∷ text "count" ∷ value.Int (pos n) ∷ []) None (begins w)))

abbrev planned : PlainArea → World ℕ
planned area = new_world (guarded area) [] (start 0 1 "tick" ∷ start 6000 1 "tick" ∷ []) 2

abbrev prints : ℕ → World ℕ → World ℕ
prints n w = does 4 1 (value.Int (pos n) ∷ []) None (begins w)

abbrev spoken : PlainArea → World ℕ
spoken area = turns 1 (begins (beats 6 (planned area)))

beats_count : (area : PlainArea) → answers 17 1 (value.Object 1 ∷ text "count" ∷ []) (begins (planned area)) ≡ Some (value.Int (pos 5))
unfolding engine header_table header_routines
beats_count area = refl

spoken_left : (area : PlainArea) → (spoken area).agenda.entries ≡ record { due = 6000; number = 1; kind = Event 1 (codes "tick") (pos 0) } ∷ record { due = 6000; number = 3; kind = Stored 1 6 } ∷ []
unfolding engine header_table header_routines
spoken_left area = refl

abbrev beaten : PlainArea → World ℕ
beaten area = prints 7 (turns 1 (begins (prints 6 (beats 7 (spoken area)))))

beaten_trace : (area : PlainArea) → trace_text (beaten area).trace ≡ codes "0 #1 speak round\n6000 #1 print 6\n6000 #1 speak round\n12000 #1 print 7\n"
unfolding engine header_table header_routines trace_text line_text digits escaped spelling value_text
beaten_trace area = refl

beaten_end : (area : PlainArea)
    → beaten area ≡ record (new_world
    (area_of area (record (object (guarded area) 1) {
      vars = IntVar (codes "count")
          (pos 7) ∷ [];
    } ∷ [])) [] [] 2) {
      clock = 12000;
      agenda = record { entries = []; next = 6 };
      trace = (beaten area).trace;
    }
unfolding engine header_table header_routines
beaten_end area = refl

-- ---- an effect for a time

abbrev hurts : PlainArea → World ℕ
hurts area = does 25 0 (value.Int (pos 3) ∷ value.Int (pos 8) ∷ value.Int (pos 0) ∷ []) None (begins (new_world (guarded area) [] (start 0 0 "p" ∷ []) 2))

abbrev damage : Value
damage = value.Effect (record { routine = 25; ints = pos 3 ∷ pos 8 ∷ pos 0 ∷ [] })

hurts_effect : (area : PlainArea) → answers 25 0 (value.Int (pos 3) ∷ value.Int (pos 8) ∷ value.Int (pos 0) ∷ []) (hurts area) ≡ Some damage
unfolding engine header_table header_routines role_without_row
hurts_effect area = refl

abbrev hurt : PlainArea → World ℕ
hurt area = does 23 0 (value.Int (pos 1) ∷ damage ∷ value.Object 1 ∷ value.Int (pos 500) ∷ []) None (hurts area)

hurt_stands : (area : PlainArea) → effects_of 1 (hurt area) ≡ record { number = Some 1; effect = record { routine = 25; ints = pos 3 ∷ pos 8 ∷ pos 0 ∷ [] } } ∷ []
unfolding engine header_table header_routines role_without_row
hurt_stands area = refl

hurt_next : (area : PlainArea) → next_entry (hurt area) ≡ Some (record { due = 500; number = 1; kind = Unapply 1 })
unfolding engine header_table header_routines role_without_row
hurt_next area = refl

healed_trace : (area : PlainArea) → trace_text (unapply 1 1 (begins (hurt area))).trace ≡ codes "0 #0 call EffectDamage(3,8,0)\n0 #1 apply 1 25(3,8,0)\n500 #1 expire 25(3,8,0)\n"
unfolding engine header_table header_routines role_without_row trace_text line_text digits escaped spelling quoted value_text effect_text arguments_text
healed_trace area = refl

healed_end : (area : PlainArea) → effects_of 1 (unapply 1 1 (begins (hurt area))) ≡ []
unfolding engine header_table header_routines role_without_row
healed_end area = refl
