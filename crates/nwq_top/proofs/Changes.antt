-- What a command changes.
use Rattle.std.proofs.Common.{◌≡◌, ◌⊎◌, inl, inr, Bool, true, false, ℕ, List, [], ◌∷◌, ◌++◌, Option, Some, None, Result, Ok, Err, codes, bytes_eq, refl, sym, subst, ap}
use Rattle.nwq_value.specs.Engine.{EngineTable}
use Rattle.nwq_outside.specs.Outside.{Contents, with_content}
use Rattle.gff_write.specs.declared.fault.WriteFault.{WriteFault}
use Rattle.gff_write.specs.declared.fault.WriteFault.TheVariants as fault
use Rattle.gff_write.specs.File.{written, outcome_of}
use Rattle.gff_tree.specs.Whole.{PlainGff}
use Rattle.nss_include.specs.declared.file.Source.{Source}
use Rattle.ncs_code.specs.Plain.{PlainOp}
use Rattle.area_rules.specs.Area.{PlainArea}
use Rattle.area_back.specs.Back.{tree_back}
use Rattle.plan_text.specs.declared.plan.Plan.{Plan}
use Rattle.plan_text.specs.declared.plan.Script.{Script as ScriptLine}
use Rattle.machine_rules.specs.Machine.{Script}
use Rattle.world_rules.specs.Pure.{CellLookup}
use Rattle.world_rules.specs.Trace.{trace_text}
use Rattle.table_2da.specs.declared.tables.Named.{Named}
use Rattle.table_2da.specs.Look.{cell_of}
use Rattle.module_player.specs.CodePlays.{code_end_text}
use Rattle.play_worlds.specs.Worlds.{plan_world}
use Rattle.command_plays.specs.Plays.{plan_played, played_first}
use Rattle.saved_state.specs.declared.saved.Saved.{Saved}
use Rattle.state_format.specs.declared.parts.Parts.{Parts as StateParts}
use Rattle.state_format.specs.Fields.{parts_bytes}
use Rattle.world_rules.specs.Plays.{PlayEnd, Done, OutOfEntries, StoppedInside, Paused, Progress, Played}
use Rattle.command_work.specs.declared.status.Status.{Status}
use Rattle.command_work.specs.Work.{Work, Gives, Refused, Ends, Writes, Puts, Finds, then, makes, IsCut, Does, Finished, by_size, bytes_of, file_named, puts, writes}
use Rattle.command_work.specs.Calls.{IsName}
use Rattle.command_work.specs.Counts.{KeepsBut}
use Rattle.command_work.specs.KeepsLemmas.{keeps_all, keeps_write, keeps_with, keeps_fewer, keeps_then}
use Rattle.command_work.specs.Parts.{value_or}
use Rattle.command_work.specs.Sequences.{Parts, ends_first, goes_on, parts}
use Rattle.command_work.specs.Comes.{Came, gave, stopped, cut}
use Rattle.command_sources.specs.Headers as headers
use Rattle.command_sources.specs.Headers.{table_by, table_in, table_named, table_unless, table_of_word}
use Rattle.command_sources.specs.Units as units
use Rattle.command_sources.specs.Units.{PlainScript, unit_by, unit_of}
use Rattle.command_files.specs.Codes as codes_of
use Rattle.command_files.specs.Codes.{code_in, code_named}
use Rattle.command_files.specs.Checks as checks
use Rattle.command_files.specs.Checks.{check_by, checked_in, checked_named, loaded_in}
use Rattle.command_files.specs.Trees as trees
use Rattle.command_files.specs.Trees.{tree_by, tree_in, tree_named}
use Rattle.command_compile.specs.Typings as typings
use Rattle.command_compile.specs.Typings.{typing_by, typed_in}
use Rattle.command_compile.specs.Files.{code_name, file_by, file_in, compiled_in, compiled_named}
use Rattle.play_inputs.specs.Areas as areas
use Rattle.play_inputs.specs.Areas.{area_by, area_in, area_named, area_of_bytes}
use Rattle.play_inputs.specs.Plans as plans
use Rattle.play_inputs.specs.Plans.{plan_by, plan_in, plan_named}
use Rattle.play_inputs.specs.Finals.{final_by, final_written}
use Rattle.play_inputs.specs.Listings.{code_by, writes_loaded, source_named, playable, script_in, lists_on, scripts_listed, IsSourceFile}
use Rattle.command_play.specs.Games.{ends_by, tells, plays_plan, plays_area, plays_scripts, plays_under, plays}
use Rattle.command_save.specs.declared.inputs.HeaderFile.{HeaderFile}
use Rattle.command_save.specs.declared.inputs.AreaFile.{AreaFile}
use Rattle.command_save.specs.Inputs as inputs
use Rattle.command_save.specs.Inputs.{header_file, header_in, header_named, header_unless, header_of}
use Rattle.command_save.specs.Saves.{saved_line, state_by, state_told, state_written, saves_at, saves_by, saves_plan, saves_area, saves_scripts, saves_under, saves}
use Rattle.command_save.specs.Resumes as resuming
use Rattle.command_save.specs.Resumes.{state_in, state_named, played_rest, resumes_from, resumes_state, resumes}
use Rattle.command_tables.specs.Lists as lists
use Rattle.command_tables.specs.Lists.{names_by, names_in, names_listed}
use Rattle.command_tables.specs.Tables as tables
use Rattle.command_tables.specs.Tables.{table_file, with_table, one_more, all_behind, tables_listed, tables_given}
use Rattle.command_words.specs.Words.{Form, Run, Compile, Tree, Check, Disassemble, Assemble, Play, Generate, Save, Resume, NoForm, list_of}
use Rattle.nwq_top.specs.Accepting.{ReadsPlan}
use Rattle.nwq_top.specs.Refusing.{RefusesPlan}
use Rattle.nwq_top.specs.Changes.{IsListedFile, MayLeave, MayChange}
use Rattle.nwq_top.specs.Command.{MayWrite, work_with, whole_work}
use Rattle.nwq_top.specs.Laws.{NamesChange, WholeNamesChange}
use Rattle.nwq_top.proofs.PlansAndAreas.{plan_comes}

-- ---- works whose writes are of certain names

abbrev Within : {A : Type 0} → (List ℕ → Type 0) → Work A → Type 0
Within P (Gives a) = Unit {0}
Within P (Refused why) = Unit {0}
Within P (Ends status) = Unit {0}
Within P (Writes name bytes rest) = P name × Within P rest
Within P (Puts text rest) = Within P rest
Within P (Finds {B} Q next) = (b : B) → Within P (next b)

module _ (P : List ℕ → Type 0) where
  -- what is left of a write of such a name, whole or cut
  of_name : (name : List ℕ) (c c' : Contents) → P name → KeepsBut (IsName name) c c' → KeepsBut P c c'
  of_name name c c' may keeps = keeps_fewer (IsName name) P c c' (λ other same. subst P (sym same) may) keeps

  within_keeps : {A : Type 0} (w : Work A) → Within P w → (r : Result A Status) (c c' : Contents) (t t' : List ℕ) → Does w c t r c' t' → KeepsBut P c c'
  within_keeps (Gives a) inside r c c' t t' h = keeps_all P c c' h.1.0
  within_keeps (Refused why) inside r c c' t t' h = keeps_all P c c' h.1
  within_keeps (Ends status) inside r c c' t t' h = keeps_all P c c' h.1.0
  within_keeps (Writes name bytes rest) inside r c c' t t' (inl x) = of_name name c c' inside.0 (keeps_write name c c' x.1)
  within_keeps (Writes name bytes rest) inside r c c' t t' (inr x) =
      keeps_then P c (with_content c name bytes) c' (of_name name c (with_content c name bytes) inside.0 (keeps_with name bytes c))
      (within_keeps rest inside.1 r (with_content c name bytes) c' t t' x)
  within_keeps (Puts text rest) inside r c c' t t' (inl x) = keeps_all P c c' x.1
  within_keeps (Puts text rest) inside r c c' t t' (inr x) = within_keeps rest inside r c c' (t ++ text) t' x
  within_keeps (Finds Q next) inside r c c' t t' (inl x) = keeps_all P c c' x.1.0
  within_keeps (Finds Q next) inside r c c' t t' (inr x) = within_keeps (next x.found) (inside x.found) r c c' t t' x.goes

  within_then : {A B : Type 0} (w : Work A) (f : A → Work B) → Within P w → ((a : A) → Within P (f a)) → Within P (then w f)
  within_then (Gives a) f inside each = each a
  within_then (Refused why) f inside each = tt
  within_then (Ends status) f inside each = tt
  within_then (Writes name bytes rest) f inside each = (inside.0, within_then rest f inside.1 each)
  within_then (Puts text rest) f inside each = within_then rest f inside each
  within_then (Finds Q next) f inside each = λ b. within_then (next b) f (inside b) each

  -- ---- parts that write nothing

  size_within : (name bytes : List ℕ) (large : Bool) → Within P (by_size large name bytes)
  size_within name bytes true = tt
  size_within name bytes false = tt

  bytes_within : (name : List ℕ) (found : Option (List ℕ)) → Within P (bytes_of name found)
  bytes_within name None = tt
  bytes_within name (Some bytes) = size_within name bytes _

  read_within : (name : List ℕ) → Within P (file_named name)
  unfolding file_named
  read_within name = bytes_within name

  plan_by_within : (name : List ℕ) (fate : plans.PlanFate) → Within P (plan_by name fate)
  plan_by_within name (plans.Whole plan) = tt
  plan_by_within name (plans.Faulty line) = tt

  plan_within : (name : List ℕ) → Within P (plan_named name)
  unfolding plan_named plan_in
  plan_within name = within_then (file_named name) (plan_in name) (read_within name) (λ bytes. plan_by_within name)

  table_by_within : (name bytes : List ℕ) (fate : headers.HeaderFate) → Within P (table_by name bytes fate)
  table_by_within name bytes (headers.Whole table) = tt
  table_by_within name bytes (headers.Faulty why place) = tt

  table_named_within : (name : List ℕ) → Within P (table_named name)
  unfolding table_named table_in
  table_named_within name = within_then (file_named name) (table_in name) (read_within name) (λ bytes. table_by_within name bytes)

  unless_within : (built_in : Bool) (word : List ℕ) → Within P (table_unless built_in word)
  unless_within true word = λ made. tt
  unless_within false word = table_named_within word

  table_within : (word : List ℕ) → Within P (table_of_word word)
  unfolding table_of_word
  table_within word = unless_within (bytes_eq word (codes "-")) word

  tree_by_within : (name : List ℕ) (fate : trees.TreeFate) → Within P (tree_by name fate)
  tree_by_within name (trees.Whole tree) = tt
  tree_by_within name (trees.Faulty why) = tt

  tree_within : (name : List ℕ) → Within P (tree_named name)
  unfolding tree_named tree_in
  tree_within name = within_then (file_named name) (tree_in name) (read_within name) (λ bytes. tree_by_within name)

  area_within : (name : List ℕ) → Within P (area_named name)
  unfolding area_named area_in
  area_within name = within_then (tree_named name) (area_in name) (tree_within name) (λ tree. by_fate tree)
    where
      by_fate : (tree : PlainGff) (fate : areas.AreaFate) → Within P (area_by name tree fate)
      by_fate tree areas.Whole = tt
      by_fate tree (areas.Broken place) = tt

  header_file_within : (word : List ℕ) → Within P (header_of word)
  unfolding header_of header_named header_in table_in
  header_file_within word = by_dash (bytes_eq word (codes "-"))
    where
      by_fate : (bytes : List ℕ) (fate : headers.HeaderFate) → Within P (then (table_by word bytes fate) (λ table. Gives (header_file bytes table)))
      by_fate bytes (headers.Whole table) = tt
      by_fate bytes (headers.Faulty why place) = tt

      by_dash : (dash : Bool) → Within P (header_unless dash word)
      by_dash true = λ made. tt
      by_dash false = within_then (file_named word) (header_in word) (read_within word) (λ bytes. by_fate bytes)

  area_file_within : (name : List ℕ) → Within P (inputs.area_named name)
  unfolding inputs.area_named inputs.area_in area_of_bytes tree_in area_in
  area_file_within name = within_then (file_named name) (inputs.area_in name) (read_within name) (λ bytes. by_tree bytes)
    where
      by_area : (bytes : List ℕ) (tree : PlainGff) (fate : areas.AreaFate) → Within P (then (area_by name tree fate) (λ a. Gives (inputs.area_file bytes a)))
      by_area bytes tree areas.Whole = tt
      by_area bytes tree (areas.Broken place) = tt

      by_tree : (bytes : List ℕ) (fate : trees.TreeFate) → Within P (then (then (tree_by name fate) (area_in name)) (λ a. Gives (inputs.area_file bytes a)))
      by_tree bytes (trees.Whole tree) = by_area bytes tree
      by_tree bytes (trees.Faulty why) = tt

  state_within : (name : List ℕ) → Within P (state_named name)
  unfolding state_named state_in
  state_within name = within_then (file_named name) (state_in name) (read_within name) (λ bytes. by_fate)
    where
      by_fate : (fate : resuming.StateFate) → Within P (resuming.state_by name fate)
      by_fate (resuming.Whole s) = tt
      by_fate (resuming.Stops place) = tt
      by_fate (resuming.Unfit rule) = tt

  code_by_within : (name : List ℕ) (fate : codes_of.CodeFate) → Within P (codes_of.code_by name fate)
  code_by_within name (codes_of.Whole ops) = tt
  code_by_within name (codes_of.Faulty why) = tt

  bytes_code_within : (name bytes : List ℕ) → Within P (code_in name bytes)
  unfolding code_in
  bytes_code_within name bytes = code_by_within name

  check_within : (header : EngineTable) (name : List ℕ) (ops : List PlainOp) → Within P (checked_in header name ops)
  unfolding checked_in
  check_within header name ops = by_fate
    where
      by_fate : (fate : checks.CheckFate) → Within P (check_by name ops fate)
      by_fate checks.Passes = tt
      by_fate checks.Unstacked = tt

  binary_within : (header : EngineTable) (name : List ℕ) → Within P (checked_named header name)
  unfolding checked_named code_named
  binary_within header name =
      within_then (code_named name) (checked_in header name) (within_then (file_named name) (code_in name) (read_within name) (bytes_code_within name)) (check_within header name)

  unit_by_within : (fate : units.UnitFate) → Within P (unit_by fate)
  unit_by_within (units.Whole script) = tt
  unit_by_within (units.Lacks file) = tt
  unit_by_within (units.Exceeds file) = tt
  unit_by_within (units.Faulty why spot) = tt

  typing_within : (script : PlainScript) (fate : typings.TypingFate) → Within P (typing_by script fate)
  typing_within script (typings.Whole unit) = tt
  typing_within script (typings.Faulty fault) = tt

  file_within : (files : List Source) (large : Bool) (file : List ℕ) → Within P (file_by files large file)
  file_within files true file = tt
  file_within files false file = λ made. tt

  compiled_within : (header : EngineTable) (name : List ℕ) → Within P (compiled_named header name)
  unfolding compiled_named compiled_in unit_of typed_in file_in
  compiled_within header name =
      within_then (unit_of name) (compiled_in header) unit_by_within
      (λ script. within_then (typed_in header script) (file_in script.files) (typing_within script) (λ unit. file_within script.files _ _))

  -- ---- the scripts that a plan lists

  source_within : (header : EngineTable) (name : List ℕ) → P (code_name name) → Within P (source_named header name)
  unfolding source_named writes_loaded loaded_in writes
  source_within header name own =
      within_then (compiled_named header name) (writes_loaded header (code_name name)) (compiled_within header name)
      (λ bytes. (own, within_then (code_in (code_name name) bytes) (checked_in header (code_name name)) (bytes_code_within (code_name name) bytes) (check_within header (code_name name))))

  code_within : (header : EngineTable) (name : List ℕ) (binary : Bool) → (binary ≡ false → P (code_name name)) → Within P (code_by binary header name)
  code_within header name true own = binary_within header (code_name name)
  code_within header name false own = source_within header name (own refl)

  lines_within : (header : EngineTable) (lines : List ScriptLine) (scripts : List Script) → ((name : List ℕ) → IsSourceFile lines name → P name) → Within P (lists_on header scripts lines)
  unfolding lists_on script_in
  lines_within header [] scripts own = tt
  lines_within header (line ∷ lines) scripts own =
      within_then (script_in header line) (λ script. lists_on header (scripts ++ script ∷ []) lines)
      (within_then (code_by line.binary header line.name) (λ ops. makes (playable line ops))
      (code_within header line.name line.binary (λ is. own (code_name line.name) (inl (is, refl)))) (λ ops made. tt))
      (λ script. lines_within header lines (scripts ++ script ∷ []) (λ name is. own name (inr is)))

-- ---- the area that is left

cut_leaves : (r : Result Finished Status) → IsCut r → MayLeave r
cut_leaves (Ok done) x = tt
cut_leaves (Err status) x = x

end_leaves : (r : Result Finished Status) → r ≡ Ok tt → MayLeave r
end_leaves r is = subst MayLeave (sym is) tt

module _ (to text : List ℕ) (r : Result Finished Status) (c : Contents) (t : List ℕ) (c' : Contents) (t' : List ℕ) where
  abbrev Left : List ℕ → Type 0
  Left name = MayLeave r × (name ≡ to)

  all_left : (bytes : List ℕ) → MayLeave r → c' ≡ with_content c to bytes → KeepsBut Left c c'
  all_left bytes may is = subst (KeepsBut Left c) (sym is) (of_name Left to c (with_content c to bytes) (may, refl) (keeps_with to bytes c))

  written_keeps : (o : Result (List ℕ) WriteFault) → Does (then (final_by to o) (λ done. puts text)) c t r c' t' → KeepsBut Left c c'
  unfolding writes puts
  written_keeps (Ok bytes) (inl x) = of_name Left to c c' (cut_leaves r x.0, refl) (keeps_write to c c' x.1)
  written_keeps (Ok bytes) (inr (inl x)) = all_left bytes (cut_leaves r x.0) x.1
  written_keeps (Ok bytes) (inr (inr (g, s))) = all_left bytes (end_leaves r g) s.0
  written_keeps (Err (fault.Large size)) (g, s) = keeps_all Left c c' s
  written_keeps (Err fault.NoMemory) (g, s) = keeps_all Left c c' s.0

  told_keeps : (e : PlayEnd) (area : PlainArea) → Does (ends_by e to area text) c t r c' t' → KeepsBut Left c c'
  unfolding puts final_written
  told_keeps Done area does = written_keeps (outcome_of (written (tree_back area))) does
  told_keeps OutOfEntries area (inl x) = keeps_all Left c c' x.1
  told_keeps OutOfEntries area (inr (g, s)) = keeps_all Left c c' s.0
  told_keeps StoppedInside area (inl x) = keeps_all Left c c' x.1
  told_keeps StoppedInside area (inr (g, s)) = keeps_all Left c c' s.0
  told_keeps Paused area (inl x) = keeps_all Left c c' x.1
  told_keeps Paused area (inr (g, s)) = keeps_all Left c c' s.0

-- ---- the state that is left

module _ (name : List ℕ) (r : Result Finished Status) (c : Contents) (t : List ℕ) (c' : Contents) (t' : List ℕ) where
  state_keeps : (large : Bool) (bytes : List ℕ) (entries : ℕ) → Does (state_by large name bytes entries) c t r c' t' → KeepsBut (λ other. MayLeave r × (other ≡ name)) c c'
  unfolding state_told
  state_keeps true bytes entries (g, s) = keeps_all (λ other. MayLeave r × (other ≡ name)) c c' s
  state_keeps false bytes entries does = written_keeps name (saved_line name entries) r c t c' t' (Ok bytes) does

  at_keeps : (h : HeaderFile) (file : List ℕ) (p : Plan) (scripts : List Script) (q : Progress Saved) → Does (saves_at h file p scripts name q) c t r c' t'
      → KeepsBut (λ other. MayLeave r × (other ≡ name)) c c'
  unfolding saves_at state_written
  at_keeps h file p scripts q (inl x) = keeps_all (λ other. MayLeave r × (other ≡ name)) c c' x.1.0
  at_keeps h file p scripts q (inr x) = state_keeps _ (parts_bytes x.found) x.found.taken x.goes

  saves_by_keeps : (e : PlayEnd) (h : HeaderFile) (file : List ℕ) (p : Plan) (scripts : List Script) (q : Played Saved) → Does (saves_by e h file p scripts name q) c t r c' t'
      → KeepsBut (λ other. MayLeave r × (other ≡ name)) c c'
  saves_by_keeps StoppedInside h file p scripts q (inl x) = keeps_all (λ other. MayLeave r × (other ≡ name)) c c' x.1
  saves_by_keeps StoppedInside h file p scripts q (inr (g, s)) = keeps_all (λ other. MayLeave r × (other ≡ name)) c c' s.0
  saves_by_keeps Done h file p scripts q does = at_keeps h file p scripts q.last does
  saves_by_keeps OutOfEntries h file p scripts q does = at_keeps h file p scripts q.last does
  saves_by_keeps Paused h file p scripts q does = at_keeps h file p scripts q.last does

-- ---- the files of a plan, and what is done with them

module _ {H A : Type 0} (table_in : H → EngineTable) (plan : List ℕ) (header_work : Work H) (area_work : Work A) (final : H → Plan → List Script → A → Work Finished)
    (c : Contents) (r : Result Finished Status) (may : List ℕ → Type 0) where
  abbrev Changed : List ℕ → Type 0
  Changed name = IsListedFile c plan name ⊎ may name

  module _ (header_within : Within Changed header_work) (area_is_within : Within Changed area_work)
      (final_keeps : (h : H) (p : Plan) (scripts : List Script) (a : A) (d d' : Contents) (t t' : List ℕ) → Does (final h p scripts a) d t r d' t' → KeepsBut may d d') where
    area_keeps : (h : H) (p : Plan) (scripts : List Script) (d d' : Contents) (t t' : List ℕ) → Does (then area_work (final h p scripts)) d t r d' t' → KeepsBut Changed d d'
    area_keeps h p scripts d d' t t' does = by_parts (parts area_work (final h p scripts) d d' t t' r does)
      where
        by_parts : Parts area_work (final h p scripts) d t r d' t' → KeepsBut Changed d d'
        by_parts (ends_first k) = within_keeps Changed area_work area_is_within (Err k.status) d d' t t' k.does
        by_parts (goes_on k) =
            keeps_then Changed d k.between d' (within_keeps Changed area_work area_is_within (Ok k.value) d k.between t k.taken k.first)
            (keeps_fewer may Changed k.between d' (λ name left. inr left) (final_keeps h p scripts k.value k.between d' k.taken t' k.second))

    scripts_keep : (p : Plan) → ReadsPlan c plan p → (h : H) (d d' : Contents) (t t' : List ℕ)
        → Does (then (scripts_listed (table_in h) p.scripts) (λ scripts. then area_work (final h p scripts))) d t r d' t' → KeepsBut Changed d d'
    unfolding scripts_listed
    scripts_keep p has h d d' t t' does = by_parts (parts (lists_on (table_in h) [] p.scripts) (λ scripts. then area_work (final h p scripts)) d d' t t' r does)
      where
        inside : Within Changed (lists_on (table_in h) [] p.scripts)
        inside = lines_within Changed (table_in h) p.scripts [] (λ name is. inl (record { is = p; reads = has; listed = is }))

        by_parts : Parts (lists_on (table_in h) [] p.scripts) (λ scripts. then area_work (final h p scripts)) d t r d' t' → KeepsBut Changed d d'
        by_parts (ends_first k) = within_keeps Changed (lists_on (table_in h) [] p.scripts) inside (Err k.status) d d' t t' k.does
        by_parts (goes_on k) =
            keeps_then Changed d k.between d' (within_keeps Changed (lists_on (table_in h) [] p.scripts) inside (Ok k.value) d k.between t k.taken k.first)
            (area_keeps h p k.value k.between d' k.taken t' k.second)

    header_keeps : (p : Plan) → ReadsPlan c plan p → (d d' : Contents) (t t' : List ℕ)
        → Does (then header_work (λ h. then (scripts_listed (table_in h) p.scripts) (λ scripts. then area_work (final h p scripts)))) d t r d' t' → KeepsBut Changed d d'
    header_keeps p has d d' t t' does =
        by_parts (parts header_work (λ h. then (scripts_listed (table_in h) p.scripts) (λ scripts. then area_work (final h p scripts))) d d' t t' r does)
      where
        by_parts : Parts header_work (λ h. then (scripts_listed (table_in h) p.scripts) (λ scripts. then area_work (final h p scripts))) d t r d' t' → KeepsBut Changed d d'
        by_parts (ends_first k) = within_keeps Changed header_work header_within (Err k.status) d d' t t' k.does
        by_parts (goes_on k) =
            keeps_then Changed d k.between d' (within_keeps Changed header_work header_within (Ok k.value) d k.between t k.taken k.first)
            (scripts_keep p has k.value k.between d' k.taken t' k.second)

    plan_read : (p : Plan) (d : Contents) (t k : List ℕ) → Came (ReadsPlan c plan) (RefusesPlan c plan) c t (Ok p) d k → ReadsPlan c plan p
    plan_read p d t k (gave a has is e o) = subst (ReadsPlan c plan) (sym (ap (value_or p) is)) has
    plan_read p d t k (stopped why lacks is e o) = absurd cc
    plan_read p d t k (cut x) = absurd x

    files_keep : (c' : Contents) (t t' : List ℕ)
        → Does (then (plan_named plan) (λ p. then header_work (λ h. then (scripts_listed (table_in h) p.scripts) (λ scripts. then area_work (final h p scripts))))) c t r c' t'
        → KeepsBut Changed c c'
    files_keep c' t t' does =
        by_parts (parts (plan_named plan) (λ p. then header_work (λ h. then (scripts_listed (table_in h) p.scripts) (λ scripts. then area_work (final h p scripts)))) c c' t t' r does)
      where
        by_parts : Parts (plan_named plan) (λ p. then header_work (λ h. then (scripts_listed (table_in h) p.scripts) (λ scripts. then area_work (final h p scripts)))) c t r c' t'
            → KeepsBut Changed c c'
        by_parts (ends_first k) = within_keeps Changed (plan_named plan) (plan_within Changed plan) (Err k.status) c c' t t' k.does
        by_parts (goes_on k) =
            keeps_then Changed c k.between c' (within_keeps Changed (plan_named plan) (plan_within Changed plan) (Ok k.value) c k.between t k.taken k.first)
            (header_keeps k.value (plan_read k.value k.between t k.taken (plan_comes c t plan (Ok k.value) k.between k.taken k.first)) k.between c' k.taken t' k.second)

-- ---- the commands that do

module _ (to : List ℕ) (r : Result Finished Status) where
  -- a play is told, and leaves its area
  tells_keeps : (scripts : List Script) (p : Played Saved) (d d' : Contents) (t t' : List ℕ) → Does (tells to scripts p) d t r d' t'
      → KeepsBut (λ name. MayLeave r × (name ≡ to)) d d'
  tells_keeps scripts p d d' t t' (inl x) = keeps_all (λ name. MayLeave r × (name ≡ to)) d d' x.1
  tells_keeps scripts p d d' t t' (inr x) =
      told_keeps to (code_end_text scripts p) r d (t ++ trace_text p.last.trace) d' t' p.ending p.last.world.area x

  plan_keeps : (cell : CellLookup) (table : EngineTable) (p : Plan) (scripts : List Script) (a : PlainArea) (d d' : Contents) (t t' : List ℕ)
      → Does (plays_plan cell table a p scripts to) d t r d' t' → KeepsBut (λ name. MayLeave r × (name ≡ to)) d d'
  unfolding plays_plan
  plan_keeps cell table p scripts a d d' t t' does = tells_keeps scripts (plan_played cell table p scripts (plan_world a p)) d d' t t' does

  play_keeps : (cell : CellLookup) (header area plan : List ℕ) (c c' : Contents) (t t' : List ℕ) → Does (plays cell header area plan to) c t r c' t'
      → KeepsBut (λ name. IsListedFile c plan name ⊎ (MayLeave r × (name ≡ to))) c c'
  unfolding plays plays_under plays_scripts plays_area
  play_keeps cell header area plan c c' t t' does =
      files_keep (λ table. table) plan (table_of_word header) (area_named area) (λ table p scripts a. plays_plan cell table a p scripts to) c r (λ name. MayLeave r × (name ≡ to))
      (table_within (λ name. IsListedFile c plan name ⊎ (MayLeave r × (name ≡ to))) header) (area_within (λ name. IsListedFile c plan name ⊎ (MayLeave r × (name ≡ to))) area)
      (plan_keeps cell) c' t t' does

  resume_keeps : (cell : CellLookup) (name : List ℕ) (c c' : Contents) (t t' : List ℕ) → Does (resumes cell name to) c t r c' t'
      → KeepsBut (λ other. MayLeave r × (other ≡ to)) c c'
  unfolding resumes resumes_state resumes_from
  resume_keeps cell name c c' t t' does = by_parts (parts (state_named name) (resumes_state cell to) c c' t t' r does)
    where
      found_keeps : (s : StateParts) (d : Contents) (k : List ℕ) → Does (resumes_state cell to s) d k r c' t' → KeepsBut (λ other. MayLeave r × (other ≡ to)) d c'
      found_keeps s d k (inl x) = keeps_all (λ other. MayLeave r × (other ≡ to)) d c' x.1.0
      found_keeps s d k (inr x) = tells_keeps x.found.scripts (played_rest cell s x.found) d c' k t' x.goes

      by_parts : Parts (state_named name) (resumes_state cell to) c t r c' t' → KeepsBut (λ other. MayLeave r × (other ≡ to)) c c'
      by_parts (ends_first k) = within_keeps (λ other. MayLeave r × (other ≡ to)) (state_named name) (state_within (λ other. MayLeave r × (other ≡ to)) name) (Err k.status) c c' t t' k.does
      by_parts (goes_on k) =
          keeps_then (λ other. MayLeave r × (other ≡ to)) c k.between c'
          (within_keeps (λ other. MayLeave r × (other ≡ to)) (state_named name) (state_within (λ other. MayLeave r × (other ≡ to)) name) (Ok k.value) c k.between t k.taken k.first)
          (found_keeps k.value k.between k.taken k.second)

module _ (name : List ℕ) (r : Result Finished Status) where
  first_keeps : (cell : CellLookup) (n : ℕ) (h : HeaderFile) (p : Plan) (scripts : List Script) (a : AreaFile) (d d' : Contents) (t t' : List ℕ)
      → Does (saves_plan cell h p scripts n name a) d t r d' t' → KeepsBut (λ other. MayLeave r × (other ≡ name)) d d'
  unfolding saves_plan
  first_keeps cell n h p scripts a d d' t t' (inl x) = keeps_all (λ other. MayLeave r × (other ≡ name)) d d' x.1
  first_keeps cell n h p scripts a d d' t t' (inr x) =
      let first = played_first cell h.table p scripts n (plan_world a.area p) in
      saves_by_keeps name r d (t ++ trace_text first.last.trace) d' t' first.ending h a.bytes p scripts first x

  save_keeps : (cell : CellLookup) (header area plan : List ℕ) (n : ℕ) (c c' : Contents) (t t' : List ℕ) → Does (saves cell header area plan n name) c t r c' t'
      → KeepsBut (λ other. IsListedFile c plan other ⊎ (MayLeave r × (other ≡ name))) c c'
  unfolding saves saves_under saves_scripts saves_area
  save_keeps cell header area plan n c c' t t' does =
      files_keep (λ (h : HeaderFile). h.table) plan (header_of header) (inputs.area_named area) (λ h p scripts a. saves_plan cell h p scripts n name a) c r
      (λ other. MayLeave r × (other ≡ name))
      (header_file_within (λ other. IsListedFile c plan other ⊎ (MayLeave r × (other ≡ name))) header)
      (area_file_within (λ other. IsListedFile c plan other ⊎ (MayLeave r × (other ≡ name))) area)
      (first_keeps cell n) c' t t' does

pub names_change : NamesChange
names_change cell (Run header script) r c c' t t' kept does = kept
names_change cell (Compile header script) r c c' t t' kept does = kept
names_change cell (Tree file) r c c' t t' kept does = kept
names_change cell (Check header file) r c c' t t' kept does = kept
names_change cell (Disassemble file to) r c c' t t' kept does = kept
names_change cell (Assemble file to) r c c' t t' kept does = kept
names_change cell (Play header area plan to list) r c c' t t' kept does = play_keeps to r cell header area plan c c' t t' does
names_change cell (Generate number) r c c' t t' kept does = kept
names_change cell (Save header area plan entries state list) r c c' t t' kept does = save_keeps state r cell header area plan entries c c' t t' does
names_change cell (Resume state to list) r c c' t t' kept does = resume_keeps to r cell state c c' t t' does
names_change cell NoForm r c c' t t' kept does = kept

-- ---- the whole program, which reads tables first

-- no name
abbrev NoName : List ℕ → Type 0
NoName name = ⊥

-- what writes nothing leaves what there was
still : {A : Type 0} (w : Work A) → Within NoName w → (r : Result A Status) (c c' : Contents) (t t' : List ℕ) → Does w c t r c' t' → c' ≡ c
still (Gives a) inside r c c' t t' h = h.1.0
still (Refused why) inside r c c' t t' h = h.1
still (Ends status) inside r c c' t t' h = h.1.0
still (Writes name bytes rest) inside r c c' t t' h = absurd inside.0
still (Puts text rest) inside r c c' t t' (inl x) = x.1
still (Puts text rest) inside r c c' t t' (inr x) = still rest inside r c c' (t ++ text) t' x
still (Finds Q next) inside r c c' t t' (inl x) = x.1.0
still (Finds Q next) inside r c c' t t' (inr x) = still (next x.found) (inside x.found) r c c' t t' x.goes

names_within : (list : List ℕ) → Within NoName (names_listed list)
unfolding names_listed names_in
names_within list = within_then NoName (file_named list) (names_in list) (read_within NoName list) (λ bytes. by_fate)
  where
    by_fate : (fate : lists.ListFate) → Within NoName (names_by list fate)
    by_fate (lists.Whole names) = tt
    by_fate (lists.Faulty number) = tt

one_within : (file : List ℕ) → Within NoName (tables.table_in_file file)
unfolding tables.table_in_file tables.table_in
one_within file = within_then NoName (file_named file) (tables.table_in file) (read_within NoName file) (λ bytes. by_fate)
  where
    by_fate : (fate : tables.TableFate) → Within NoName (tables.table_by file fate)
    by_fate (tables.Whole table) = tt
    by_fate (tables.Faulty line) = tt

all_within : (names : List (List ℕ)) (before : List Named) → Within NoName (all_behind before names)
unfolding all_behind one_more
all_within [] before = tt
all_within (name ∷ names) before =
    within_then NoName (one_more before name) (λ more. all_behind more names)
    (within_then NoName (tables.table_in_file (table_file name)) (λ table. makes (with_table before name table)) (one_within (table_file name)) (λ table made. tt))
    (all_within names)

given_within : (list : Option (List ℕ)) → Within NoName (tables_given list)
unfolding tables_listed
given_within None = tt
given_within (Some list) = within_then NoName (names_listed list) (all_behind []) (names_within list) (λ names. all_within names [])

module _ (form : Form) (r : Result Finished Status) (c c' : Contents) (t t' : List ℕ) (kept : KeepsBut (MayWrite form) c c') where
  parts_change : Parts (tables_given (list_of form)) (work_with form) c t r c' t' → KeepsBut (MayChange form c r) c c'
  parts_change (ends_first k) =
      keeps_all (MayChange form c r) c c' (still (tables_given (list_of form)) (given_within (list_of form)) (Err k.status) c c' t t' k.does)
  parts_change (goes_on k) =
      let same = still (tables_given (list_of form)) (given_within (list_of form)) (Ok k.value) c k.between t k.taken k.first in
      names_change (cell_of k.value) form r c c' k.taken t' kept (subst (λ x. Does (work_with form k.value) x k.taken r c' t') same k.second)

pub whole_names_change : WholeNamesChange
unfolding whole_work
whole_names_change form r c c' t t' kept does = parts_change form r c c' t t' kept (parts (tables_given (list_of form)) (work_with form) c c' t t' r does)
