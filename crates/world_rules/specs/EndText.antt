-- The text at a play's end: what stands and waits in its last world, and how it ended.
use Rattle.std.specs.Prelude.{ℕ, suc, List, [], ◌∷◌, ◌++◌, codes}
use Rattle.std.specs.List.{flat_map}
use Rattle.std.specs.Fmt.{decimal, signed_decimal}
use Rattle.action_queue.specs.declared.queue.Item.{Item}
use Rattle.action_queue.specs.declared.queue.Item.TheVariants.{Do, Wait, Speak}
use Rattle.delay_agenda.specs.declared.entry.Entry.{Entry}
use Rattle.delay_agenda.specs.declared.entry.Kind.{Kind}
use Rattle.delay_agenda.specs.declared.entry.Kind.TheVariants.{Event, Stored, Turn, Unapply}
use Rattle.nwq_text.specs.Escape.{escaped}
use Rattle.nwq_text.specs.Values.{effect_text, object_text}
use Rattle.world_rules.specs.declared.data.Stood.{Stood}
use Rattle.world_rules.specs.declared.data.Things.{Things}
use Rattle.world_rules.specs.World.{World}
use Rattle.world_rules.specs.Plays.{PlayEnd, Done, OutOfEntries, StoppedInside, Paused, Played}

-- the lines of things in order, each with the number of its object
abbrev pub by_object : {X : Type 0} → (ℕ → Things X → List ℕ) → ℕ → List (Things X) → List ℕ
by_object lines o [] = []
by_object lines o (t ∷ things) = lines o t ++ by_object lines (suc o) things

-- ---- effects that stand

abbrev pub standing_line : ℕ → Stood → List ℕ
standing_line o s = codes "effect " ++ object_text o ++ 32 ∷ effect_text s.effect ++ 10 ∷ []

abbrev pub standing_lines : {X : Type 0} → ℕ → Things X → List ℕ
standing_lines o t = flat_map (standing_line o) t.effects

-- ---- queues, where a stored action is printed as the name of its script

abbrev pub item_text : {X : Type 0} → (X → List ℕ) → Item X → List ℕ
item_text name_of (Do x) = codes "do " ++ escaped (name_of x)
item_text name_of (Wait ms) = codes "wait " ++ signed_decimal ms
item_text name_of (Speak bytes) = codes "speak " ++ escaped bytes

abbrev pub item_line : {X : Type 0} → (X → List ℕ) → ℕ → Item X → List ℕ
item_line name_of o item = codes "queue " ++ object_text o ++ 32 ∷ item_text name_of item ++ 10 ∷ []

abbrev pub queue_lines : {X : Type 0} → (X → List ℕ) → ℕ → Things X → List ℕ
queue_lines name_of o t = flat_map (item_line name_of o) t.queue.actions

-- ---- entries that wait

-- an event's script; `-` where it has none
abbrev pub script_text : List ℕ → List ℕ
script_text [] = codes "-"
script_text (b ∷ name) = escaped (b ∷ name)

abbrev pub kind_text : {X : Type 0} → (X → List ℕ) → Kind X → List ℕ
kind_text name_of (Event o name user) = codes "event " ++ object_text o ++ 32 ∷ script_text name
kind_text name_of (Stored o x) = codes "stored " ++ object_text o ++ 32 ∷ escaped (name_of x)
kind_text name_of (Turn o) = codes "turn " ++ object_text o
kind_text name_of (Unapply o) = codes "unapply " ++ object_text o

abbrev pub due_line : {X : Type 0} → (X → List ℕ) → Entry X → List ℕ
due_line name_of e = codes "due " ++ decimal e.due ++ 32 ∷ decimal e.number
    ++ 32 ∷ kind_text name_of e.kind ++ 10 ∷ []

-- ---- the whole

-- how the play ended; of one that is broken off no text is printed
abbrev pub end_word : PlayEnd → List ℕ
end_word Done = codes "done"
end_word OutOfEntries = codes "entries"
end_word StoppedInside = codes "instructions"
end_word Paused = codes "paused"

abbrev pub end_line : PlayEnd → ℕ → ℕ → ℕ → List ℕ
end_line ending clock entries count =
    codes "end " ++ end_word ending ++ codes " clock " ++ decimal clock ++ codes " entries "
    ++ decimal entries ++ codes " instructions " ++ decimal count ++ 10 ∷ []

-- what stands on objects, what is in their queues, and what waits on the agenda
unfoldable pub world_text : {X : Type 0} → (X → List ℕ) → World X → List ℕ
world_text name_of w = by_object standing_lines 1 w.things
    ++ by_object (queue_lines name_of) 1 w.things ++ flat_map (due_line name_of) w.agenda.entries

unfoldable pub end_text : {X : Type 0} → (X → List ℕ) → Played X → List ℕ
end_text name_of p = world_text name_of p.last.world
    ++ end_line p.ending p.last.world.clock p.last.entries p.last.count
