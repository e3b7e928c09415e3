-- Plans, areas, listed scripts and plays: it can't be that they come to no end.
use Rattle.std.proofs.Common.{◌≡◌, ℕ, nat_lt, min, ◌-◌, ◌^◌, Bool, true, false, cond, List, [], ◌∷◌, ◌++◌, length, Result, Ok, Err, refl, sym, subst, ◌∙◌, append_assoc}
use Rattle.std.proofs.lemmas.List.{append-nil}
use Rattle.nwq_value.specs.Limits.{file_limit}
use Rattle.nwq_value.specs.Engine.{EngineTable, IsTable}
use Rattle.nwq_outside.specs.Outside.{Contents, ContentsAreBytes, with_content}
use Rattle.gff_tree.specs.Whole.{PlainGff}
use Rattle.gff_write.specs.declared.fault.WriteFault.TheVariants as write_fault
use Rattle.gff_write.specs.File.{written, outcome_of}
use Rattle.area_rules.specs.Broken.{Place, broken_places}
use Rattle.area_rules.specs.Area.{PlainArea}
use Rattle.typing_rules.specs.Typed.{TypedUnit}
use Rattle.emission_rules.specs.Units.{unit_file}
use Rattle.ncs_code.specs.Plain.{PlainOp}
use Rattle.ncs_code.specs.Laws.{SizeLaws, PlaceLaws}
use Rattle.plan_text.specs.declared.plan.Plan.{Plan}
use Rattle.plan_text.specs.declared.plan.Script.{Script as ScriptLine}
use Rattle.plan_text.specs.Plans.{Draft, Gives, plan_of}
use Rattle.machine_rules.specs.Machine.{Script}
use Rattle.saved_state.specs.declared.saved.Saved.{Saved}
use Rattle.world_rules.specs.Pure.{CellLookup}
use Rattle.world_rules.specs.Plays.{PlayEnd, Played}
use Rattle.world_rules.specs.Plays as plays
use Rattle.nss_lexer.specs.Splitting.{SomeSplit}
use Rattle.nss_parser.specs.Sentence.{TreeOrPlace}
use Rattle.engine_table.specs.Headers.{OneHeader}
use Rattle.engine_table.specs.KeptTables.{HeadersHaveTables, BuiltInIsTable}
use Rattle.typing_rules.specs.Laws.{VerdictsAreRight, NoneKeptIsTyped}
use Rattle.command_work.specs.Work as work
use Rattle.command_work.specs.Work.{file_named, puts, writes}
use Rattle.command_work.specs.Reading.{IsRead}
use Rattle.command_sources.specs.Headers.{table_of_word}
use Rattle.command_files.specs.Checks.{checked_named, loaded_in}
use Rattle.command_files.specs.Trees.{tree_named}
use Rattle.command_compile.specs.Files.{code_name, compiled_named}
use Rattle.play_inputs.specs.Plans as plans
use Rattle.play_inputs.specs.Plans.{plan_by, plan_in, plan_named}
use Rattle.play_inputs.specs.Areas as areas
use Rattle.play_inputs.specs.Areas.{AreaFate, IsAreaFate, area_by, area_in, area_named}
use Rattle.play_inputs.specs.Finals.{final_by, final_written}
use Rattle.play_inputs.specs.Listings.{writes_loaded, source_named, code_by, playable, script_in, lists_on, scripts_listed}
use Rattle.command_play.specs.Games as games
use Rattle.command_play.specs.Games.{tells, plays_plan, plays_area, plays_scripts, plays_under}
use Rattle.command_save.specs.Resumes.{StateFate, IsStateFate, Whole, Stops, Unfit, whole, state_by, state_in, state_named, resumes_from, resumes_state, resumes}
use Rattle.play_save.specs.Rules.{IsAccepted}
use Rattle.play_save.specs.Written.{CodeIsBytes}
use Rattle.command_meaning.specs.Units.{code_of, Passes, UnitsPass}
use Rattle.command_meaning.specs.Scripts.{HoldBytes, ScriptsHaveUnits}
use Rattle.nwq_top.specs.Accepting as accepting
use Rattle.nwq_top.specs.Accepting.{HasHeader, HasCode, HasLine, HasScripts, ReadsPlan, with_file}
use Rattle.nwq_top.proofs.Headers.{is_table}
use Rattle.nwq_top.proofs.Sources.{IsMade}
use Rattle.nwq_top.proofs.Held.{held_after, still_bytes}
use Rattle.nwq_top.proofs.Running.{source_bytes}
use Rattle.nwq_top.proofs.Undeniable.{Undeniable, surely, with_it}
use Rattle.nwq_top.proofs.Going.{Goes, Anything, Still, goes_weaker, goes_next, goes_both, file_goes}
use Rattle.nwq_top.proofs.PlanFates.{plan_comes}
use Rattle.nwq_top.proofs.StateFates.{state_comes, goes_from}
use Rattle.nwq_top.proofs.TreeFates.{TreeLaws}
use Rattle.nwq_top.proofs.GoesSources.{table_goes, compiled_goes, loaded_goes, made_passes}
use Rattle.nwq_top.proofs.GoesFiles.{IsSomeFile, is_code, AreFiles, files_of_bytes, tree_goes, binary_goes}

-- ---- a plan

plan_fated : (bytes : List ℕ) → (end : Result Draft ℕ) × Gives bytes end → (fate : plans.PlanFate) × plans.IsPlanFate bytes fate
plan_fated bytes (Ok d, gives) = (plans.Whole (plan_of d), plans.whole (plan_of d) (d, gives, refl))
plan_fated bytes (Err line, gives) = (plans.Faulty line, plans.faulty line gives)

pub plan_goes : (name : List ℕ) (c : Contents) → Undeniable (Goes (plan_named name) c (Still c (ReadsPlan c name)))
unfolding plan_named plan_in
plan_goes name c =
    goes_both (file_named name) (plan_in name) c (Still c (IsRead c name)) (Still c (ReadsPlan c name)) (surely (file_goes name c))
    (λ bytes d is. with_it (plan_comes bytes) (λ k. let f = plan_fated bytes k in (f.0, f.1, by_fate bytes is.1 f.0 f.1 d is.0)))
  where
    by_fate : (bytes : List ℕ) → IsRead c name bytes → (fate : plans.PlanFate) → plans.IsPlanFate bytes fate → (d : Contents) → d ≡ c
        → Goes (plan_by name fate) d (Still c (ReadsPlan c name))
    by_fate bytes read (plans.Whole plan) (plans.whole _ is) d same = (same, record { bytes = bytes; read = read; is = is })
    by_fate bytes read (plans.Faulty line) h d same = tt

-- ---- an area

area_in_goes : (name : List ℕ) (tree : PlainGff) (d : Contents) → Goes (area_in name tree) d Anything
unfolding area_in
area_in_goes name tree d = by_places (broken_places tree.top) refl
  where
    by_places : (places : List Place) → broken_places tree.top ≡ places → (fate : AreaFate) × IsAreaFate tree.top fate × Goes (area_by name tree fate) d Anything
    by_places [] e = (areas.Whole, areas.whole e, tt)
    by_places (place ∷ others) e = (areas.Broken place, areas.broken place others e, tt)

area_goes : TreeLaws → (name : List ℕ) (c : Contents) → Goes (area_named name) c Anything
unfolding area_named
area_goes laws name c = goes_next (tree_named name) (area_in name) c (λ tree d. d ≡ c) Anything (tree_goes laws name c) (λ tree d is. area_in_goes name tree d)

-- ---- what is told and written last

final_goes : (name : List ℕ) (tree : PlainGff) (c : Contents) → Goes (final_written name tree) c Anything
unfolding final_written outcome_of writes
final_goes name tree c = by_size (nat_lt file_limit (length (written tree)))
  where
    by_size : (b : Bool) → Goes (final_by name (cond b (Err (write_fault.Large (min (length (written tree)) (2 ^ 64 - 1)))) (Ok (written tree)))) c Anything
    by_size true = tt
    by_size false = tt

ends_go : (e : PlayEnd) (to : List ℕ) (area : PlainArea) (text : List ℕ) (c : Contents) → Goes (games.ends_by e to area text) c Anything
unfolding puts
ends_go plays.Done to area text c = goes_next (final_written to _) (λ done. puts text) c Anything Anything (final_goes to _ c) (λ done d is. tt)
ends_go plays.OutOfEntries to area text c = λ x. x
ends_go plays.StoppedInside to area text c = λ x. x
ends_go plays.Paused to area text c = tt

tells_goes : (to : List ℕ) (scripts : List Script) (p : Played Saved) (c : Contents) → Goes (tells to scripts p) c Anything
tells_goes to scripts p c = ends_go p.ending to p.last.world.area _ c

-- ---- listed scripts

-- the files hold source texts that are bytes, and files of bytes or of code
pub record AreFine (c : Contents) : Type 0 where
  pub sources : HoldBytes c
  pub files : AreFiles c

pub fine_bytes : (c : Contents) → ContentsAreBytes c → AreFine c
fine_bytes c held = record { sources = source_bytes c held; files = files_of_bytes c held }

fine_more : CodeIsBytes → (c : Contents) (script : List ℕ) (unit : TypedUnit) (table : EngineTable) → Passes table unit → AreFine c → AreFine (with_file c script unit)
fine_more bytes_of c script unit table pass fine = record {
  sources = still_bytes bytes_of c script unit pass.loads fine.sources;
  files = λ other bytes is. held_after IsSomeFile c (code_name script) (unit_file unit) (is_code (code_of unit) pass.loads refl) other bytes (fine.files other bytes) is;
}

module _ (header : OneHeader) (some : SomeSplit) (trees : TreeOrPlace) (right : VerdictsAreRight) (settled : NoneKeptIsTyped) (pass : UnitsPass) (have : ScriptsHaveUnits)
    (reads : HeadersHaveTables) (own : BuiltInIsTable) (sizes : SizeLaws) (places : PlaceLaws) (bytes_of : CodeIsBytes) where
  module _ (table : EngineTable) (kept : IsTable table) where
    -- the line lists these instructions, and leaves fine files
    record IsLined (line : ScriptLine) (c : Contents) (ops : List PlainOp) (d : Contents) : Type 0 where
      has : HasLine table c line (playable line ops) d
      fine : AreFine d

    loads_go : (line : ScriptLine) (bytes : List ℕ) (c d : Contents) → line.binary ≡ false → AreFine c → Still c (IsMade table c line.name) bytes d
        → Goes (writes_loaded table (code_name line.name) bytes) d (IsLined line c)
    unfolding writes_loaded writes
    loads_go line bytes c d e fine (same, made) =
        let name = line.name in
        let passes = made_passes header some trees right settled pass have reads own table c name bytes kept fine.sources made in
        let has : HasLine table c line (playable line (code_of made.unit)) (with_file c name made.unit) =
        accepting.source e made.unit (record { script = made.script; small = made.small; passes = passes }) in
        subst (λ x. Goes (loaded_in table (code_name name) bytes) (with_content x (code_name name) bytes) (IsLined line c)) (sym same)
        (subst (λ b. Goes (loaded_in table (code_name name) b) (with_content c (code_name name) b) (IsLined line c)) (sym made.is)
        (goes_weaker (loaded_in table (code_name name) (unit_file made.unit)) (with_file c name made.unit) (Still (with_file c name made.unit) (λ ops. ops ≡ code_of made.unit))
        (IsLined line c) (loaded_goes table (code_name name) made.unit (with_file c name made.unit) passes)
        (λ ops d k. record {
          has = subst (λ x. HasLine table c line (playable line ops) x) (sym k.0) (subst (λ os. HasLine table c line (playable line os) (with_file c name made.unit)) (sym k.1) has);
          fine = subst AreFine (sym k.0) (fine_more bytes_of c name made.unit table passes fine);
        })))

    source_goes : (line : ScriptLine) (c : Contents) → line.binary ≡ false → AreFine c → Goes (source_named table line.name) c (IsLined line c)
    unfolding source_named
    source_goes line c e fine =
        goes_next (compiled_named table line.name) (writes_loaded table (code_name line.name)) c (Still c (IsMade table c line.name)) (IsLined line c)
        (compiled_goes right settled table some trees line.name c) (λ bytes d is. loads_go line bytes c d e fine is)

    code_goes : (b : Bool) (line : ScriptLine) (c : Contents) → line.binary ≡ b → AreFine c → Undeniable (Goes (code_by b table line.name) c (IsLined line c))
    code_goes true line c e fine =
        with_it (binary_goes sizes places table (code_name line.name) c fine.files)
        (λ g. goes_weaker (checked_named table (code_name line.name)) c (Still c (HasCode table c (code_name line.name))) (IsLined line c) g
        (λ ops d k. record {
          has = subst (λ x. HasLine table c line (playable line ops) x) (sym k.0) (accepting.binary e ops k.1);
          fine = subst AreFine (sym k.0) fine;
        }))
    code_goes false line c e fine = surely (source_goes line c e fine)

    -- these lines list these scripts behind others, and leave fine files
    record AreLined (lines : List ScriptLine) (before : List Script) (c : Contents) (all : List Script) (d : Contents) : Type 0 where
      scripts : List Script
      is : all ≡ before ++ scripts
      has : HasScripts table lines c scripts d
      fine : AreFine d

    script_goes : (line : ScriptLine) (c : Contents) → AreFine c → Undeniable (Goes (script_in table line) c (λ script d. HasLine table c line script d × AreFine d))
    unfolding script_in
    script_goes line c fine =
        goes_both (code_by line.binary table line.name) (λ ops. work.makes (playable line ops)) c (IsLined line c) (λ script d. HasLine table c line script d × AreFine d)
        (code_goes line.binary line c refl fine) (λ ops d is. surely (playable line ops, refl, (is.has, is.fine)))

    one_more : (line : ScriptLine) (lines : List ScriptLine) (before : List Script) (c d : Contents) (script : Script) → HasLine table c line script d
        → (all : List Script) (e : Contents) → AreLined lines (before ++ script ∷ []) d all e → AreLined (line ∷ lines) before c all e
    one_more line lines before c d script has all e k = record {
      scripts = script ∷ k.scripts;
      is = k.is ∙ append_assoc before (script ∷ []) k.scripts;
      has = accepting.more line lines c d e script k.scripts has k.has;
      fine = k.fine;
    }

    lists_go : (lines : List ScriptLine) (before : List Script) (c : Contents) → AreFine c → Undeniable (Goes (lists_on table before lines) c (AreLined lines before c))
    unfolding lists_on
    lists_go [] before c fine = surely (record { scripts = []; is = sym (append-nil before); has = accepting.none c; fine = fine })
    lists_go (line ∷ lines) before c fine =
        goes_both (script_in table line) (λ script. lists_on table (before ++ script ∷ []) lines) c (λ script d. HasLine table c line script d × AreFine d)
        (AreLined (line ∷ lines) before c) (script_goes line c fine)
        (λ script d is. with_it (lists_go lines (before ++ script ∷ []) d is.1)
        (λ g. goes_weaker (lists_on table (before ++ script ∷ []) lines) d (AreLined lines (before ++ script ∷ []) d) (AreLined (line ∷ lines) before c) g
        (one_more line lines before c d script is.0)))

    pub listed_goes : (lines : List ScriptLine) (c : Contents) → AreFine c
        → Undeniable (Goes (scripts_listed table lines) c (λ scripts d. HasScripts table lines c scripts d))
    unfolding scripts_listed
    listed_goes lines c fine =
        with_it (lists_go lines [] c fine)
        (λ g. goes_weaker (lists_on table [] lines) c (AreLined lines [] c) (λ scripts d. HasScripts table lines c scripts d) g
        (λ all d k. subst (λ xs. HasScripts table lines c xs d) (sym k.is) k.has))

  -- ---- the plays

  module _ (laws : TreeLaws) (cell : CellLookup) (word area to : List ℕ) (c : Contents) (held : ContentsAreBytes c) where
    area_plays : (table : EngineTable) (plan : Plan) (scripts : List Script) (d : Contents) → Goes (plays_area cell table area plan to scripts) d Anything
    unfolding plays_area plays_plan
    area_plays table plan scripts d =
        goes_next (area_named area) (λ a. plays_plan cell table a plan scripts to) d Anything Anything (area_goes laws area d) (λ a e is. tells_goes to scripts _ e)

    scripts_play : (plan : Plan) (table : EngineTable) (d : Contents) → Still c (HasHeader c word) table d → Undeniable (Goes (plays_scripts cell area plan to table) d Anything)
    unfolding plays_scripts
    scripts_play plan table d (same, has) =
        goes_both (scripts_listed table plan.scripts) (plays_area cell table area plan to) d (λ scripts e. HasScripts table plan.scripts d scripts e) Anything
        (listed_goes table (is_table reads own c word table held has) plan.scripts d (subst AreFine (sym same) (fine_bytes c held)))
        (λ scripts e is. surely (area_plays table plan scripts e))

    header_plays : (plan : Plan) (d : Contents) → d ≡ c → Undeniable (Goes (plays_under cell word area to plan) d Anything)
    unfolding plays_under
    header_plays plan d same =
        subst (λ x. Undeniable (Goes (plays_under cell word area to plan) x Anything)) (sym same)
        (goes_both (table_of_word word) (plays_scripts cell area plan to) c (Still c (HasHeader c word)) Anything (surely (table_goes header word c)) (scripts_play plan))

    pub play_goes : (plan : List ℕ) → Undeniable (Goes (games.plays cell word area plan to) c Anything)
    unfolding games.plays
    play_goes plan = goes_both (plan_named plan) (plays_under cell word area to) c (Still c (ReadsPlan c plan)) Anything (plan_goes plan c) (λ p d is. header_plays p d is.0)

-- ---- a play that goes on

state_goes : (name : List ℕ) (c : Contents) → Undeniable (Goes (state_named name) c (λ s d. IsAccepted s))
unfolding state_named state_in
state_goes name c =
    goes_both (file_named name) (state_in name) c (Still c (IsRead c name)) (λ s d. IsAccepted s) (surely (file_goes name c))
    (λ bytes d is. with_it (state_comes bytes) (λ f. (f.0, f.1, by_fate bytes f.0 f.1 d)))
  where
    by_fate : (bytes : List ℕ) (fate : StateFate) → IsStateFate bytes fate → (d : Contents) → Goes (state_by name fate) d (λ s e. IsAccepted s)
    by_fate bytes (Whole s) (whole _ of keeps) d = keeps
    by_fate bytes (Stops place) h d = tt
    by_fate bytes (Unfit rule) h d = tt

pub resume_goes : (cell : CellLookup) (name to : List ℕ) (c : Contents) → Undeniable (Goes (resumes cell name to) c Anything)
unfolding resumes resumes_state resumes_from
resume_goes cell name to c =
    goes_both (state_named name) (resumes_state cell to) c (λ s d. IsAccepted s) Anything (state_goes name c)
    (λ s d keeps. let g = goes_from s keeps in surely (g.0, g.1, tells_goes to g.0.scripts _ d))
