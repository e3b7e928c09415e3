-- What the words `play HEADER AREA PLAN TO` mean.
use Rattle.std.specs.Prelude.{◌≡◌, ◌≢◌, ◌≤◌, ℕ, ◌*◌, List, ◌++◌, Result, Ok}
use Rattle.nwq_value.specs.Engine.{EngineTable}
use Rattle.nwq_outside.specs.Outside.{Contents, with_content}
use Rattle.gff_write.specs.File.{written, outcome_of}
use Rattle.area_rules.specs.Area.{PlainArea}
use Rattle.area_back.specs.Back.{tree_back}
use Rattle.plan_text.specs.declared.plan.Plan.{Plan}
use Rattle.machine_rules.specs.Machine.{Script}
use Rattle.world_rules.specs.Pure.{CellLookup}
use Rattle.world_rules.specs.Trace.{trace_text}
use Rattle.world_rules.specs.Plays.{Done, StoppedInside, Played}
use Rattle.play_meaning.specs.EndTexts.{source_end_text}
use Rattle.source_meaning.specs.Evaluation.{Deferred}
use Rattle.source_meaning.specs.Scripts.{Listed, Setting}
use Rattle.source_laws.specs.Ledger.{step_cost}
use Rattle.play_worlds.specs.Worlds.{plan_world}
use Rattle.command_plays.specs.Plays.{host_of}
use Rattle.command_meaning.specs.CodeEnds.{EndsWithoutFault}
use Rattle.command_work.specs.declared.status.Status.{Status}
use Rattle.command_work.specs.Refusal.{Refusal}
use Rattle.command_work.specs.Work.{Finished, Does}
use Rattle.command_play.specs.Games.{plays_plan}
use Rattle.nwq_top.specs.SourcePlans.{listing_of, source_plan_played, code_plan_played, DoesMeaning, DoesBeginning}
use Rattle.nwq_top.specs.Accepting.{HasHeader, HasScripts, HasSources, ReadsPlan, ReadsArea}
use Rattle.nwq_top.specs.Refusing.{RefusesPlan, RefusesHeader, RefusesScripts, RefusesArea, IsRefused}

-- ---- what is given

-- all is accepted: the plan, the header, the scripts that the plan lists, whose files are written,
-- and the area that is there then
pub record AcceptsPlay (header area plan : List ℕ) (c : Contents) (table : EngineTable) (p : Plan)
    (scripts : List Script) (a : PlainArea) (left : Contents) : Type 0 where
  pub reads_plan : ReadsPlan c plan p
  pub has_header : HasHeader c header table
  pub lists : HasScripts table p.scripts c scripts left
  pub reads_area : ReadsArea left area a

-- the same where the plan lists sources alone
pub record AcceptsSources (header area plan : List ℕ) (c : Contents) (table : EngineTable)
    (p : Plan) (listed : List Listed) (a : PlainArea) (left : Contents) : Type 0 where
  pub reads_plan : ReadsPlan c plan p
  pub has_header : HasHeader c header table
  pub lists : HasSources table p.scripts c listed left
  pub reads_area : ReadsArea left area a

-- the first of these is refused: the plan, the header, a script, the area; the files that were
-- written till then are left
pub data RefusesPlay (header area plan : List ℕ) (c : Contents) : Refusal → Contents → Type 0 where
  of_plan : (why : Refusal) → RefusesPlan c plan why → RefusesPlay header area plan c why c
  of_header : (p : Plan) (why : Refusal) → ReadsPlan c plan p → RefusesHeader c header why
      → RefusesPlay header area plan c why c
  of_script : (p : Plan) (table : EngineTable) (why : Refusal) (left : Contents)
      → ReadsPlan c plan p → HasHeader c header table
      → RefusesScripts table p.scripts c why left → RefusesPlay header area plan c why left
  of_area : (p : Plan) (table : EngineTable) (scripts : List Script) (why : Refusal)
      (left : Contents) → ReadsPlan c plan p → HasHeader c header table
      → HasScripts table p.scripts c scripts left → RefusesArea left area why
      → RefusesPlay header area plan c why left

-- one or the other
pub data PlayComes (header area plan : List ℕ) (c : Contents) : Type 0 where
  refused : (why : Refusal) (left : Contents) → RefusesPlay header area plan c why left
      → PlayComes header area plan c
  accepted : (table : EngineTable) (p : Plan) (scripts : List Script) (a : PlainArea)
      (left : Contents)
      → AcceptsPlay header area plan c table p scripts a left → PlayComes header area plan c

-- ---- what is told and left

-- A play of source was done: its lines and the text of its end were put, and the one file of its
-- area is left under this name.
pub record IsDone (to : List ℕ) (s : Setting) (count : ℕ) (source : Played Deferred)
    (bytes : List ℕ) (c : Contents) (t : List ℕ)
    (r : Result Finished Status) (c' : Contents) (t' : List ℕ) : Type 0 where
  pub answer : r ≡ Ok tt
  pub taken : t' ≡ t ++ (trace_text source.last.trace ++ source_end_text s count source)
  pub contents : c' ≡ with_content c to bytes

-- What is told, and left of the area, of the play of the listed sources, which `source_plan_played`
-- gives with so many steps for an entry. The play of their files is `code_plan_played`, with the
-- plan's own limit of instructions.
pub record MeansSources (cell : CellLookup) (table : EngineTable) (a : PlainArea) (p : Plan)
    (listed : List Listed) (to : List ℕ)
    (c : Contents) (t : List ℕ) (r : Result Finished Status) (c' : Contents)
    (t' : List ℕ) : Type 0 where
  -- where each entry of the sources ends in n steps, and 16 n is within the limit, all is as the
  -- sources mean
  pub few : (n : ℕ) → step_cost * n ≤ p.limit
      → (source_plan_played cell table a p listed n).ending ≢ StoppedInside
      → DoesMeaning to (listing_of cell table listed) (code_plan_played cell table a p listed)
      (source_plan_played cell table a p listed n) c t r c' t'
  -- so it is, with as many steps as the plan allows instructions, where no entry of the files was
  -- stopped
  pub unstopped : (code_plan_played cell table a p listed).ending ≢ StoppedInside
      → DoesMeaning to (listing_of cell table listed) (code_plan_played cell table a p listed)
      (source_plan_played cell table a p listed p.limit) c t r c' t'
  -- where one was stopped, all the instructions of the limit were made in it, the lines that are
  -- told are a beginning of the sources', and no area is left
  pub stopped : (code_plan_played cell table a p listed).ending ≡ StoppedInside
      → DoesBeginning cell table a p listed c t r c' t'
  -- where the play of the sources is done in n steps for an entry, 16 n is within the limit, and
  -- the file of the area isn't too large, so is this one
  pub complete : (n : ℕ) (bytes : List ℕ) → step_cost * n ≤ p.limit
      → (source_plan_played cell table a p listed n).ending ≡ Done
      → outcome_of (written (tree_back
      (source_plan_played cell table a p listed n).last.world.area)) ≡ Ok bytes
      → IsDone to (listing_of cell table listed) (code_plan_played cell table a p listed).last.count
      (source_plan_played cell table a p listed n) bytes c t r c' t'

-- What `play HEADER AREA PLAN TO` does, unless a failed call or want of memory cut it.
pub record MeansPlay (cell : CellLookup) (header area plan to : List ℕ) (c : Contents) (t : List ℕ)
    (r : Result Finished Status) (c' : Contents) (t' : List ℕ) : Type 0 where
  pub comes : PlayComes header area plan c
  pub refused : (why : Refusal) (left : Contents) → RefusesPlay header area plan c why left
      → IsRefused why left t r c' t'
  -- binaries may be listed too; the play comes to no stack fault
  pub played : (table : EngineTable) (p : Plan) (scripts : List Script) (a : PlainArea)
      (left : Contents)
      → AcceptsPlay header area plan c table p scripts a left
      → Does (plays_plan cell table a p scripts to) left t r c' t'
  pub no_fault : (table : EngineTable) (p : Plan) (scripts : List Script) (a : PlainArea)
      (left : Contents)
      → AcceptsPlay header area plan c table p scripts a left
      → EndsWithoutFault (host_of cell table scripts) p.limit p.entries p.until (plan_world a p)
  pub meant : (table : EngineTable) (p : Plan) (listed : List Listed) (a : PlainArea)
      (left : Contents)
      → AcceptsSources header area plan c table p listed a left
      → MeansSources cell table a p listed to left t r c' t'
