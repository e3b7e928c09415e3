-- What the words `save HEADER AREA PLAN ENTRIES STATE` and `resume STATE TO` mean.
use Rattle.std.specs.Prelude.{◌≡◌, ◌≢◌, ◌≤◌, ℕ, ◌*◌, ◌⊎◌, min, true, false, List, [], ◌++◌, codes, bytes_eq, length, map, Result, Ok}
use Rattle.nwq_value.specs.Engine.{EngineTable}
use Rattle.nwq_value.specs.Limits.{file_limit}
use Rattle.nwq_outside.specs.Outside.{Contents, content, with_content}
use Rattle.command_work.specs.Reading.{IsRead, IsUnread}
use Rattle.engine_table.specs.Headers.{HasTable}
use Rattle.gff_tree.specs.Whole.{PlainGff}
use Rattle.gff_read.specs.Stands.{Stands}
use Rattle.area_rules.specs.Area.{PlainArea, area_of}
use Rattle.area_rules.specs.Broken.{broken_places}
use Rattle.plan_text.specs.declared.plan.Plan.{Plan}
use Rattle.machine_rules.specs.Machine.{Script}
use Rattle.saved_state.specs.declared.saved.Saved.{Saved}
use Rattle.world_rules.specs.Pure.{CellLookup}
use Rattle.world_rules.specs.Trace.{trace_text}
use Rattle.world_rules.specs.Plays.{Done, StoppedInside, Bounds, Played, play_on, unplayed}
use Rattle.module_player.specs.CodePlays.{code_runner, played_before}
use Rattle.state_format.specs.declared.parts.Parts.{Parts}
use Rattle.state_format.specs.Fields.{parts_bytes}
use Rattle.state_format.specs.Place.{StateOf, StateStopsAt}
use Rattle.play_save.specs.Rules.{IsAccepted, IsUnfit}
use Rattle.source_meaning.specs.Evaluation.{Deferred}
use Rattle.source_meaning.specs.Scripts.{Listed}
use Rattle.source_meaning.specs.Plays.{runner}
use Rattle.source_laws.specs.Ledger.{step_cost}
use Rattle.source_laws.specs.Carries.{Carries}
use Rattle.source_laws.specs.Executing.{script_of}
use Rattle.play_meaning.specs.Together.{IsFirstPartOf, PlaysAlike, whole}
use Rattle.play_worlds.specs.Worlds.{plan_world}
use Rattle.command_work.specs.declared.flaw.AreaFlaw.TheVariants as flaw
use Rattle.command_work.specs.declared.status.Status.{Status}
use Rattle.command_work.specs.Refusal.{Refusal, BadArea}
use Rattle.command_work.specs.Work.{Finished, IsCut, Does}
use Rattle.command_plays.specs.Plays.{host_of, plan_played as whole_play, played_first}
use Rattle.command_meaning.specs.CodeEnds.{GoesWithoutFault}
use Rattle.command_play.specs.Games.{tells, plays}
use Rattle.command_save.specs.declared.inputs.HeaderFile.{HeaderFile}
use Rattle.command_save.specs.declared.inputs.AreaFile.{AreaFile}
use Rattle.command_save.specs.Inputs.{built_in as own_header, header_file}
use Rattle.command_save.specs.Laws.{IsFront, GoOn}
use Rattle.command_save.specs.Saves.{IsStateAt, saved_line, saves_plan, saves}
use Rattle.command_save.specs.Resumes.{Going, GoesFrom, played_rest}
use Rattle.nwq_top.specs.Accepting.{HasScripts, HasSources, ReadsPlan}
use Rattle.nwq_top.specs.Plays.{RefusesPlay}
use Rattle.nwq_top.specs.Refusing.{IsRefused}
use Rattle.nwq_top.specs.SourcePlans.{listing_of, source_plan_world}

-- ---- what is given to `save`: what is given to `play`, with the bytes of the header's file and of
-- the area's

pub data HasHeaderFile (c : Contents) (word : List ℕ) : HeaderFile → Type 0 where
  built_in : bytes_eq word (codes "-") ≡ true → HasHeaderFile c word own_header
  read : bytes_eq word (codes "-") ≡ false → (bytes : List ℕ) → IsRead c word bytes
      → (table : EngineTable) → HasTable bytes table
      → HasHeaderFile c word (header_file bytes table)

pub record HasAreaFile (c : Contents) (name : List ℕ) (file : AreaFile) : Type 0 where
  pub read : IsRead c name file.bytes
  pub tree : PlainGff
  pub stands : Stands file.bytes tree
  pub whole : broken_places tree.top ≡ []
  pub is : file.area ≡ area_of tree

-- all is accepted, as `play` accepts it
pub record AcceptsSave (header area plan : List ℕ) (c : Contents) (h : HeaderFile) (p : Plan)
    (scripts : List Script) (a : AreaFile) (left : Contents) : Type 0 where
  pub reads_plan : ReadsPlan c plan p
  pub has_header : HasHeaderFile c header h
  pub lists : HasScripts h.table p.scripts c scripts left
  pub reads_area : HasAreaFile left area a

-- the same where the plan lists sources alone
pub record AcceptsSourcesToSave (header area plan : List ℕ) (c : Contents) (h : HeaderFile)
    (p : Plan) (listed : List Listed) (a : AreaFile) (left : Contents) : Type 0 where
  pub reads_plan : ReadsPlan c plan p
  pub has_header : HasHeaderFile c header h
  pub lists : HasSources h.table p.scripts c listed left
  pub reads_area : HasAreaFile left area a

-- it is refused as `play` is, or accepted
pub data SaveComes (header area plan : List ℕ) (c : Contents) : Type 0 where
  refused : (why : Refusal) (left : Contents) → RefusesPlay header area plan c why left
      → SaveComes header area plan c
  accepted : (h : HeaderFile) (p : Plan) (scripts : List Script) (a : AreaFile) (left : Contents)
      → AcceptsSave header area plan c h p scripts a left
      → SaveComes header area plan c

-- ---- the first entries of a play

-- how far the first entries of a play go: at most n of them
abbrev pub first_entries : ℕ → Plan → Bounds
first_entries n p = record { entries = p.entries; until = p.until; stop = min n p.entries }

-- the first entries, as listed sources mean them, where an entry may take so many steps
unfoldable pub source_first : CellLookup → EngineTable → PlainArea → Plan → List Listed → ℕ → ℕ
    → Played Deferred
source_first cell header area p scripts n steps =
    play_on (runner (listing_of cell header scripts) steps) (first_entries n p)
    (unplayed (source_plan_world area p))

-- the same of their code, with the instructions that the plan allows
abbrev pub code_first : CellLookup → HeaderFile → AreaFile → Plan → List Listed → ℕ → Played Saved
code_first cell h a p listed n = played_first cell h.table p (map script_of listed) n
    (plan_world a.area p)

-- The first entries of listed sources are played and saved: their lines are told, and their world
-- is that of the state. These are what the sources mean. So it is where each of these entries of
-- the sources ends in some steps, and 16 times as many are within the limit; and, with as many
-- steps as the plan allows instructions, where none of the code was stopped. Where one was, the
-- lines told are a beginning of the sources'.
pub record FirstAsMeant (cell : CellLookup) (h : HeaderFile) (a : AreaFile) (p : Plan)
    (listed : List Listed) (n : ℕ) (name : List ℕ)
    (c : Contents) (t : List ℕ) (r : Result Finished Status) (c' : Contents)
    (t' : List ℕ) : Type 0 where
  pub does : Does (saves_plan cell h p (map script_of listed) n name a) c t r c' t'
  pub few : (steps : ℕ) → step_cost * steps ≤ p.limit
      → (source_first cell h.table a.area p listed n steps).ending ≢ StoppedInside
      → PlaysAlike (Carries (listing_of cell h.table listed)) (code_first cell h a p listed n)
      (source_first cell h.table a.area p listed n steps)
  pub unstopped : (code_first cell h a p listed n).ending ≢ StoppedInside
      → PlaysAlike (Carries (listing_of cell h.table listed)) (code_first cell h a p listed n)
      (source_first cell h.table a.area p listed n p.limit)
  pub stopped : (code_first cell h a p listed n).ending ≡ StoppedInside
      → IsFirstPartOf (code_first cell h a p listed n).last.trace
      (source_first cell h.table a.area p listed n p.limit).last.trace

-- ---- `save`

-- The file of the state holds the one list of bytes of the play's state after its first entries;
-- their lines and then the last one were put.
pub record IsSaved (header : HeaderFile) (file : AreaFile) (plan : Plan) (scripts : List Script)
    (n : ℕ) (name : List ℕ) (p : Played Saved)
    (c : Contents) (t : List ℕ) (c' : Contents) (t' : List ℕ) : Type 0 where
  pub state : Parts
  pub is : IsStateAt header file.bytes plan scripts p.last state
  pub small : length (parts_bytes state) ≤ file_limit
  pub taken : t' ≡ t ++ (trace_text p.last.trace ++ saved_line name p.last.entries)
  pub contents : c' ≡ with_content c name (parts_bytes state)
  -- so many entries were taken as are asked for and may be, or all that are due
  pub entries : (p.last.entries ≡ min n plan.entries) ⊎ (p.ending ≡ Done)

-- What `save HEADER AREA PLAN ENTRIES STATE` does, unless a failed call or want of memory cut it.
pub record MeansSave (cell : CellLookup) (header area plan : List ℕ) (n : ℕ) (name : List ℕ)
    (c : Contents) (t : List ℕ) (r : Result Finished Status)
    (c' : Contents) (t' : List ℕ) : Type 0 where
  pub comes : SaveComes header area plan c
  pub refused : (why : Refusal) (left : Contents) → RefusesPlay header area plan c why left
      → IsRefused why left t r c' t'
  pub played : (h : HeaderFile) (p : Plan) (scripts : List Script) (a : AreaFile) (left : Contents)
      → AcceptsSave header area plan c h p scripts a left
      → Does (saves_plan cell h p scripts n name a) left t r c' t'
  -- with status 0 the state is left of the play after the entries that it took
  pub saved : (h : HeaderFile) (p : Plan) (scripts : List Script) (a : AreaFile) (left : Contents)
      → AcceptsSave header area plan c h p scripts a left
      → r ≡ Ok tt → IsSaved h a p scripts n name
      (played_first cell h.table p scripts n (plan_world a.area p)) left t c' t'
  -- these are the first of the play, which goes on from there
  pub first : (h : HeaderFile) (p : Plan) (scripts : List Script) (a : AreaFile) (left : Contents)
      → AcceptsSave header area plan c h p scripts a left
      → IsFront (code_runner (host_of cell h.table scripts) p.limit) p n
      (played_first cell h.table p scripts n (plan_world a.area p))
      (whole_play cell h.table p scripts (plan_world a.area p))
  -- binaries may be listed too; no entry comes to a stack fault
  pub no_fault : (h : HeaderFile) (p : Plan) (scripts : List Script) (a : AreaFile)
      (left : Contents) → AcceptsSave header area plan c h p scripts a left
      → GoesWithoutFault (host_of cell h.table scripts) p.limit (first_entries n p)
      (unplayed (plan_world a.area p))
  pub meant : (h : HeaderFile) (p : Plan) (listed : List Listed) (a : AreaFile) (left : Contents)
      → AcceptsSourcesToSave header area plan c h p listed a left
      → FirstAsMeant cell h a p listed n name left t r c' t'

-- ---- what is given to `resume`

-- the file of this name is that of a state from which a play can go on
pub record ReadsState (c : Contents) (name : List ℕ) (s : Parts) : Type 0 where
  pub bytes : List ℕ
  pub read : IsRead c name bytes
  pub is : StateOf bytes s
  pub accepted : IsAccepted s

-- it isn't there or is too long; its bytes stop being those of a state at some place; or they are a
-- state's, and this is the first rule that it breaks
pub data RefusesState (c : Contents) (name : List ℕ) : Refusal → Type 0 where
  unread : (why : Refusal) → IsUnread c name why → RefusesState c name why
  stops : (bytes : List ℕ) → IsRead c name bytes → (place : ℕ) → StateStopsAt bytes place
      → RefusesState c name (BadArea name (flaw.State place))
  unfit : (bytes : List ℕ) → IsRead c name bytes → (s : Parts) (rule : ℕ) → StateOf bytes s
      → IsUnfit rule s → RefusesState c name (BadArea name (flaw.Unfit rule))

-- one or the other; and what a play goes on from that is accepted
pub data StateComes (c : Contents) (name : List ℕ) : Type 0 where
  refused : (why : Refusal) → RefusesState c name why → StateComes c name
  accepted : (s : Parts) (g : Going) → ReadsState c name s → GoesFrom s g → StateComes c name

-- ---- `resume`

-- how far the rest of a play goes
abbrev pub rest_entries : Parts → Bounds
rest_entries s = whole s.entries s.until

-- What `resume STATE TO` does, unless a failed call or want of memory cut it.
pub record MeansResume (cell : CellLookup) (name to : List ℕ) (c : Contents) (t : List ℕ)
    (r : Result Finished Status) (c' : Contents) (t' : List ℕ) : Type 0 where
  pub comes : StateComes c name
  pub refused : (why : Refusal) → RefusesState c name why → IsRefused why c t r c' t'
  -- the rest of the play is told, and its area left, from what the state tells
  pub played : (s : Parts) (g : Going) → ReadsState c name s → GoesFrom s g
      → Does (tells to g.scripts (played_rest cell s g)) c t r c' t'
  -- whoever made the state, the play comes to no stack fault
  pub no_fault : (s : Parts) (g : Going) → ReadsState c name s → GoesFrom s g
      → GoesWithoutFault (host_of cell g.table g.scripts) s.limit (rest_entries s)
      (played_before s.taken s.done g.world)
  -- where the file of the state holds the bytes that were saved of a play, by the same tables, what
  -- is told and left is the rest of that play, as it goes unbroken; what other files hold by then
  -- doesn't matter
  pub unbroken : (header area plan : List ℕ) (n : ℕ) (first saved all : Contents)
      (k told whole : List ℕ) (done : Finished) (s : Result Finished Status)
      → Does (saves cell header area plan n name) first k (Ok done) saved told
      → content c name ≡ content saved name
      → Does (plays cell header area plan to) first k s all whole → (IsCut s → ⊥)
      → GoOn name to c' all k told t t' whole r s
