-- Plays, computed with scripts that are stood for by what they do.
use Rattle.std.proofs.Common.{◌≡◌, ℕ, pos, List, [], ◌∷◌, None, Some, refl}
use Rattle.std.specs.Prelude.{codes, ◌==◌, if◌then◌else◌}
use Rattle.std.specs.Fmt.{digits}
use Rattle.std.specs.Str.{bytes_eq}
use Rattle.action_queue.specs.declared.queue.Item.TheVariants.{Do, Speak}
use Rattle.area_rules.specs.Area.{PlainArea}
use Rattle.delay_agenda.specs.declared.entry.Kind.TheVariants.{Stored}
use Rattle.nwq_value.specs.declared.value.Value.TheVariants.{Int}
use Rattle.nwq_text.specs.Escape.{escaped, spelling}
use Rattle.nwq_text.specs.Values.{value_text}
use Rattle.world_rules.specs.declared.data.Told.TheVariants.{Print}
use Rattle.world_rules.specs.World.{World}
use Rattle.world_rules.specs.Changes.{told, post}
use Rattle.world_rules.specs.Rows.{appended}
use Rattle.world_rules.specs.Trace.{line_text, trace_text}
use Rattle.world_rules.specs.Turns.{Planned, new_world}
use Rattle.world_rules.specs.Plays.{Run, Over, Divided, Stopped, Runner, Bounds, PlayEnd, Played, play, play_on, unplayed}
use Rattle.world_rules.specs.EndText.{world_text, end_text}

abbrev printed : ℕ → ℕ → World ℕ → World ℕ
printed o n w = told o (Print (Int (pos n))) w

-- a stored action prints its number, where that isn't 0: 0 divides by zero, and whoever stores 9
-- meets the limit
abbrev stored_run : ℕ → ℕ → World ℕ → Run ℕ
stored_run x o w =
    if x == 0 then record { ending = Divided o; count = 3; world = w }
    else if x == 9 then record { ending = Stopped; count = 5; world = printed o x w }
    else record { ending = Over; count = 2; world = printed o x w }

-- script 0 has its object do 7 and then say something; script 1 delays 0 and 8
abbrev script_run : ℕ → ℕ → World ℕ → Run ℕ
script_run script o w =
    if script == 0 then record { ending = Over; count = 4; world = appended o (Speak (codes "hi")) (appended o (Do 7) w) }
    else record { ending = Over; count = 6; world = post 10 (Stored o 8) (post 5 (Stored o 0) w) }

abbrev runner : ℕ → Runner ℕ
runner ninth = record {
  named = λ name. if bytes_eq name (codes "acts") then Some 0 else if bytes_eq name (codes "delays") then Some 1 else None;
  script = script_run;
  stored = λ x o w. stored_run (if x == 8 then ninth else x) o w;
}

abbrev start : ℕ → ℕ → List ℕ → Planned
start due object name = record { due = due; object = object; script = name }

-- an area of one creature, whatever else is in it
abbrev world : PlainArea → List Planned → World ℕ
world area planned = new_world (record area { objects = record { tag = codes "guard"; vars = []; scripts = [] } ∷ [] }) [] planned 2

-- what is looked at: how a play ended, how many entries it took, the count, and the trace's text
record Seen : Type 0 where
  ending : PlayEnd
  entries : ℕ
  count : ℕ
  text : List ℕ

abbrev seen : Played ℕ → Seen
seen p = record { ending = p.ending; entries = p.last.entries; count = p.last.count; text = trace_text p.last.trace }

abbrev name_of : ℕ → List ℕ
name_of x = codes "s"

-- ---- a queue's actions, one Turn each

abbrev acts : PlainArea → ℕ → Played ℕ
acts area entries = play (runner 8) entries 60000 (world area (start 0 1 (codes "acts") ∷ start 2 0 (codes "none") ∷ start 3 0 [] ∷ []))

acts_done : (area : PlainArea) → seen (acts area 10) ≡ record { ending = PlayEnd.Done; entries = 5; count = 6; text = codes "0 #1 print 7\n0 #1 speak hi\n2 #0 noscript none\n" }
unfolding trace_text line_text digits escaped spelling value_text
acts_done area = refl

acts_end : (area : PlainArea) → end_text name_of (acts area 10) ≡ codes "end done clock 3 entries 5 instructions 6\n"
unfolding end_text world_text digits
acts_end area = refl

-- as many entries as there are, and fewer
acts_just : (area : PlainArea) → (acts area 5).ending ≡ PlayEnd.Done
acts_just area = refl

acts_few : (area : PlainArea)
    → end_text name_of (acts area 1)
    ≡ codes "queue #1 do s\nqueue #1 speak hi\ndue 0 3 turn #1\ndue 2 1 event #0 none\ndue 3 2 event #0 -\nend entries clock 0 entries 1 instructions 4\n"
unfolding end_text world_text digits escaped spelling
acts_few area = refl

-- ---- a division by zero, after which the play goes on; a stop, after which it doesn't

abbrev delays : PlainArea → ℕ → ℕ → Played ℕ
delays area ninth until = play (runner ninth) 10 until (world area (start 0 1 (codes "delays") ∷ []))

delays_done : (area : PlainArea) → seen (delays area 8 60000) ≡ record { ending = PlayEnd.Done; entries = 3; count = 11; text = codes "5 #1 fault divide\n10 #1 print 8\n" }
unfolding trace_text line_text digits escaped spelling value_text
delays_done area = refl

delays_stopped : (area : PlainArea) → seen (delays area 9 60000) ≡ record { ending = PlayEnd.StoppedInside; entries = 3; count = 14; text = codes "5 #1 fault divide\n10 #1 print 9\n" }
unfolding trace_text line_text digits escaped spelling value_text
delays_stopped area = refl

-- what isn't due yet stays
delays_early : (area : PlainArea) → end_text name_of (delays area 8 9) ≡ codes "due 10 2 stored #1 s\nend done clock 5 entries 2 instructions 9\n"
unfolding end_text world_text digits escaped spelling
delays_early area = refl

-- ---- a play that is broken off, and goes on from there

abbrev bounds : ℕ → Bounds
bounds stop = record { entries = 10; until = 60000; stop = stop }

broken : (area : PlainArea) → let w = world area (start 0 1 (codes "delays") ∷ []) in
    seen (play_on (runner 8) (bounds 2) (unplayed w)) ≡ record { ending = PlayEnd.Paused; entries = 2; count = 9; text = codes "5 #1 fault divide\n" }
unfolding trace_text line_text digits escaped spelling value_text
broken area = refl

joined : (area : PlainArea) → let w = world area (start 0 1 (codes "delays") ∷ []) in
    play_on (runner 8) (bounds 11) (play_on (runner 8) (bounds 2) (unplayed w)).last ≡ play_on (runner 8) (bounds 11) (unplayed w)
joined area = refl
