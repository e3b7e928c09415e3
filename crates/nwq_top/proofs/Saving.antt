-- What `save` does.
use Rattle.std.proofs.Common.{arith, ◌≡◌, ◌≤◌, ◌<◌, ◌+◌, ◌-◌, ℕ, zero, suc, Bool, true, false, ◌⊎◌, List, ◌++◌, map, Option, None, Some, Result, Ok, Err, refl, sym, ap, ◌∙◌, inl, inr, subst}
use Rattle.std.proofs.Common.{ltb-false, ⊎_elim}
use Rattle.std.proofs.lemmas.Bool.Decides.{eqb_tells}
use mathlib.Core.List.{append_assoc}
use Rattle.std.specs.Prelude.{nat_lt, length, min, ◌==◌, if◌then◌else◌}
use Rattle.nwq_value.specs.Engine.{EngineTable, IsTable}
use Rattle.nwq_value.specs.Limits.{file_limit}
use Rattle.nwq_outside.specs.Outside.{Contents, ContentsAreBytes, with_content}
use Rattle.plan_text.specs.declared.plan.Plan.{Plan}
use Rattle.machine_rules.specs.Machine.{Script}
use Rattle.saved_state.specs.declared.saved.Saved.{Saved}
use Rattle.state_format.specs.Fields.{parts_bytes}
use Rattle.world_rules.specs.Pure.{CellLookup}
use Rattle.world_rules.specs.Trace.{trace_text}
use Rattle.world_rules.specs.Plays as plays
use Rattle.world_rules.specs.Turns.{Begun, begin}
use Rattle.world_rules.specs.Plays.{Bounds, Runner, PlayEnd, Played, Progress, entry_entered, further, full, after_entry, next_entry, unplayed, plays as plays_from}
use Rattle.module_player.specs.CodePlays.{code_runner}
use Rattle.source_meaning.specs.Scripts.{Listed, Setting}
use Rattle.source_laws.specs.Executing.{script_of}
use Rattle.source_laws.specs.StayAlike.{EntriesKeepAlike}
use Rattle.typing_laws.specs.FaultLaws.{LeastIsTheKept}
use Rattle.engine_table.specs.KeptTables.{HeadersHaveTables, BuiltInIsTable}
use Rattle.play_save.specs.Written.{CodeIsBytes}
use Rattle.command_work.specs.declared.status.Status.{Status}
use Rattle.command_work.specs.Refusal.{Refusal}
use Rattle.command_work.specs.Work.{Work, IsCut, Does, Finished, puts, writes}
use Rattle.command_work.specs.Comes.{refusal_not_cut}
use Rattle.play_inputs.specs.Laws.{SurePlans}
use Rattle.play_inputs.specs.ListingLaws.{SureListed}
use Rattle.play_worlds.specs.Worlds.{begun_by, plan_world}
use Rattle.command_files.specs.CheckLaws.{SureLoaded}
use Rattle.command_plays.specs.Plays.{host_of, played_first}
use Rattle.command_meaning.specs.Units.{UnitsPass}
use Rattle.command_meaning.specs.Scripts.{ScriptsHaveUnits}
use Rattle.command_meaning.specs.CodeEnds.{CheckedPlaysHaveNoFault}
use Rattle.command_meaning.specs.ListedPlays.{AreUnitsOf, ListedPlaysEnd, ListedPlaysStop}
use Rattle.command_save.specs.declared.inputs.HeaderFile.{HeaderFile}
use Rattle.command_save.specs.declared.inputs.AreaFile.{AreaFile}
use Rattle.command_save.specs.Inputs.{header_of, area_named}
use Rattle.command_save.specs.Saves.{saved_line, state_by, state_told, state_written, saves_at, saves_by, saves_plan, saves_area, saves_scripts, saves_under, saves}
use Rattle.command_save.specs.Laws.{SureHeaderFiles, SureAreaFiles, SureSaves, FrontsGoOn}
use Rattle.nwq_top.specs.SourcePlans.{listing_of, source_plan_world}
use Rattle.nwq_top.specs.Plays.{RefusesPlay}
use Rattle.nwq_top.specs.Refusing.{IsRefused}
use Rattle.nwq_top.specs.Saves.{HasHeaderFile, HasAreaFile, AcceptsSave, AcceptsSourcesToSave, SaveComes, refused, accepted, first_entries, source_first, FirstAsMeant, IsSaved}
use Rattle.nwq_top.specs.WordLaws.{SavesMean}
use Rattle.nwq_top.proofs.Headers.{header_file_does, header_file_refuses, header_file_comes, header_of_file, file_of_header, is_table}
use Rattle.nwq_top.proofs.PlansAndAreas.{area_file_does, area_file_refuses, area_file_comes}
use Rattle.nwq_top.proofs.Listing.{are_scripts}
use Rattle.nwq_top.proofs.ListedUnits.{listed_units}
use Rattle.nwq_top.proofs.NoFaults.{lines_are_stacked}
use Rattle.nwq_top.proofs.PlayFiles.{ReadsHeaderBy, ReadsAreaBy, FilesCome, are_refused, are_accepted, files_come, files_refuse, files_go}
use Rattle.nwq_top.proofs.Running.{source_bytes, as_refused}
use Rattle.nwq_top.proofs.SourcePlans.{plan_alike}

-- ---- how many entries are taken

-- a play that is broken off took so many entries, and wasn't out of entries
record Comes (entries : ℕ) (p : Played Saved) : Type 0 where
  paused : p.ending ≡ plays.Paused → p.last.entries ≡ entries
  within : p.ending ≡ plays.OutOfEntries → ⊥

min_below : (n m : ℕ) → min n m ≤ m
min_below n m = omega arith

module _ (runner : Runner Saved) (bounds : Bounds) where
  after_comes : (entries : ℕ) (stopped : Bool) (p : Progress Saved) (go : Progress Saved → Played Saved) → Comes entries (go p) → Comes entries (after_entry stopped p go)
  after_comes entries true p go comes = record { paused = λ e. absurd cc; within = λ e. absurd cc }
  after_comes entries false p go comes = comes

  next_comes : (entries : ℕ) (b : Option (Begun Saved)) (p : Progress Saved) (go : Progress Saved → Played Saved)
      → ((q : Progress Saved) → q.entries ≡ p.entries + 1 → Comes entries (go q)) → Comes entries (next_entry runner b p go)
  next_comes entries None p go comes = record { paused = λ e. absurd cc; within = λ e. absurd cc }
  next_comes entries (Some b) p go comes =
      after_comes entries (entry_entered runner b).stopped (further (entry_entered runner b) p) go (comes (further (entry_entered runner b) p) refl)

  turn_comes : (entries : ℕ) (is_full : Bool) (end : PlayEnd) (b : Option (Begun Saved)) (p : Progress Saved) (go : Progress Saved → Played Saved) → is_full ≡ false
      → ((q : Progress Saved) → q.entries ≡ p.entries + 1 → Comes entries (go q))
      → Comes entries (if is_full then record { ending = end; last = p } else next_entry runner b p go)
  turn_comes entries true end b p go is comes = absurd cc
  turn_comes entries false end b p go is comes = next_comes entries b p go comes

  not_full : (a b : ℕ) → a < b → (a == b) ≡ false
  not_full a b less = ⊎_elim (λ k. absurd (omega (arith, k.1, less))) (λ k. k.0) (eqb_tells a b)

  goes_so : (k entries : ℕ) (p : Progress Saved) → p.entries + k ≡ entries → entries ≤ bounds.entries → Comes entries (plays_from runner bounds k p)
  goes_so zero entries p count below = record { paused = λ e. omega (arith, count); within = λ e. absurd cc }
  goes_so (suc k) entries p count below =
      turn_comes entries (p.entries == bounds.entries) (full (begin bounds.until p.world)) (begin bounds.until p.world) p (plays_from runner bounds k)
      (not_full p.entries bounds.entries (omega (arith, count, below)))
      (λ q one. goes_so k entries q (omega (arith, one, count)) below)

  comes_so : (entries : ℕ) (w : Progress Saved) → entries ≤ bounds.entries → w.entries ≡ 0 → Comes entries (plays_from runner bounds (entries - w.entries) w)
  comes_so entries w below from = goes_so (entries - w.entries) entries w (omega (arith, from)) below

-- ---- what is left and told where a state was saved

module _ (header : HeaderFile) (file : AreaFile) (plan : Plan) (scripts : List Script) (n : ℕ) (name : List ℕ) (c : Contents) (t : List ℕ) (r : Result Finished Status)
    (c' : Contents) (t' : List ℕ) (done : r ≡ Ok tt) where
  -- the file is written, which isn't too long, and its line put
  record Wrote (long : Bool) (bytes : List ℕ) (entries : ℕ) (k : List ℕ) : Type 0 where
    short : long ≡ false
    taken : t' ≡ k ++ saved_line name entries
    contents : c' ≡ with_content c name bytes

  wrote : (long : Bool) (bytes : List ℕ) (entries : ℕ) (k : List ℕ) → Does (state_by long name bytes entries) c k r c' t' → Wrote long bytes entries k
  unfolding state_told writes puts
  wrote true bytes entries k (inl x, s) = absurd (apart done x.0)
    where
      apart : {status : Status} → r ≡ Ok tt → r ≡ Err status → ⊥
      apart p q = absurd cc
  wrote true bytes entries k (inr x, s) = absurd (subst IsCut done x.0)
  wrote false bytes entries k (inl x) = absurd (subst IsCut done x.0)
  wrote false bytes entries k (inr (inl x)) = absurd (subst IsCut done x.0)
  wrote false bytes entries k (inr (inr h)) = record { short = refl; taken = h.1.1; contents = h.1.0 }

  -- so many entries, or all that are due
  abbrev Count : Played Saved → Type 0
  Count p = (p.last.entries ≡ min n plan.entries) ⊎ (p.ending ≡ plays.Done)

  saved_at : (p : Played Saved) → Count p → Does (saves_at header file.bytes plan scripts name p.last) c (t ++ trace_text p.last.trace) r c' t'
      → IsSaved header file plan scripts n name p c t c' t'
  unfolding saves_at state_written
  saved_at p count (inl x) = absurd (subst IsCut done x.0)
  saved_at p count (inr h) =
      let w = wrote (nat_lt file_limit (length (parts_bytes h.found))) (parts_bytes h.found) h.found.taken (t ++ trace_text p.last.trace) h.goes in
      record {
        state = h.found;
        is = h.is;
        small = ltb-false file_limit (length (parts_bytes h.found)) w.short;
        taken = w.taken ∙ (ap (λ (n : ℕ). (t ++ trace_text p.last.trace) ++ saved_line name n) h.is.come.taken
            ∙ append_assoc t (trace_text p.last.trace) (saved_line name p.last.entries));
        contents = w.contents;
        entries = count;
      }

  saved_by : (ending : PlayEnd) (p : Played Saved) → ending ≡ p.ending → Comes (min n plan.entries) p
      → Does (saves_by ending header file.bytes plan scripts name p) c (t ++ trace_text p.last.trace) r c' t' → IsSaved header file plan scripts n name p c t c' t'
  saved_by plays.StoppedInside p is comes (inl x) = absurd (subst IsCut done x.0)
  saved_by plays.StoppedInside p is comes (inr (x, s)) = absurd cc
  saved_by plays.Done p is comes does = saved_at p (inr (sym is)) does
  saved_by plays.OutOfEntries p is comes does = absurd (comes.within (sym is))
  saved_by plays.Paused p is comes does = saved_at p (inl (comes.paused (sym is))) does

  pub saved_so : (cell : CellLookup) → Does (saves_plan cell header plan scripts n name file) c t r c' t'
      → IsSaved header file plan scripts n name (played_first cell header.table plan scripts n (plan_world file.area plan)) c t c' t'
  unfolding saves_plan
  saved_so cell (inl x) = absurd (subst IsCut done x.0)
  saved_so cell (inr does) =
      saved_by _ (played_first cell header.table plan scripts n (plan_world file.area plan)) refl
      (comes_so (code_runner (host_of cell header.table scripts) plan.limit) (first_entries n plan) (min n plan.entries) (unplayed (plan_world file.area plan)) (min_below n plan.entries) refl)
      does

module _ (bytes_of : CodeIsBytes) (pass : UnitsPass) (units : ScriptsHaveUnits) (least : LeastIsTheKept) (reads : HeadersHaveTables) (own : BuiltInIsTable)
    (plans : SurePlans) (loaded : SureLoaded) (lists : SureListed) (headers : SureHeaderFiles) (areas : SureAreaFiles) (sure : SureSaves) where
  module _ (cell : CellLookup) (header area plan : List ℕ) (n : ℕ) (name : List ℕ) (c : Contents) (t : List ℕ) (r : Result Finished Status) (c' : Contents)
      (t' : List ℕ) (held : ContentsAreBytes c) (whole : IsCut r → ⊥) where
    abbrev table_in : HeaderFile → EngineTable
    table_in h = h.table

    abbrev header_reading : ReadsHeaderBy table_in (header_of header) header (λ d. HasHeaderFile d header)
    header_reading = record {
      does = λ d k h has. header_file_does d k header h has;
      refuses = λ d k why is. header_file_refuses d k header why is;
      comes = λ d k s d' k' does. header_file_comes d k header s d' k' does;
      has = λ d h has. header_of_file d header h has;
      of = λ d table has. file_of_header d header table has;
      sure = headers header;
    }

    abbrev area_reading : ReadsAreaBy (area_named area) area (λ d. HasAreaFile d area)
    area_reading = record {
      does = λ d k a has. area_file_does d k area a has;
      refuses = λ d k why is. area_file_refuses d k area why is;
      comes = λ d k s d' k' does. area_file_comes d k area s d' k' does;
      sure = areas area;
    }

    abbrev final : HeaderFile → Plan → List Script → AreaFile → Work Finished
    final h p scripts a = saves_plan cell h p scripts n name a

    as_comes : FilesCome table_in (λ d. HasHeaderFile d header) (λ d. HasAreaFile d area) header area plan c → SaveComes header area plan c
    as_comes (are_refused why left is) = refused why left is
    as_comes (are_accepted h p scripts a left k) =
        accepted h p scripts a left (record { reads_plan = k.reads_plan; has_header = k.has_header; lists = k.lists; reads_area = k.reads_area })

    pub save_comes : Does (saves cell header area plan n name) c t r c' t' → SaveComes header area plan c
    unfolding saves saves_under saves_scripts saves_area
    save_comes does =
        as_comes (files_come bytes_of pass units least reads own plans loaded lists table_in header area plan (header_of header) (λ d. HasHeaderFile d header) header_reading
        (area_named area) (λ d. HasAreaFile d area) area_reading final c t r c' t' held whole does)

    pub save_refused : (why : Refusal) (left : Contents) → RefusesPlay header area plan c why left → Does (saves cell header area plan n name) c t r c' t'
        → IsRefused why left t r c' t'
    unfolding saves saves_under saves_scripts saves_area
    save_refused why left is does =
        as_refused (saves cell header area plan n name) (sure cell header area plan n name) why c left c' t t' r whole (refusal_not_cut why)
        (files_refuse bytes_of pass units least reads own plans loaded lists table_in header area plan (header_of header) (λ d. HasHeaderFile d header) header_reading
        (area_named area) (λ d. HasAreaFile d area) area_reading final c t why left is) does

    pub save_goes : (h : HeaderFile) (p : Plan) (scripts : List Script) (a : AreaFile) (left : Contents) → AcceptsSave header area plan c h p scripts a left
        → Does (saves cell header area plan n name) c t r c' t' → Does (saves_plan cell h p scripts n name a) left t r c' t'
    unfolding saves saves_under saves_scripts saves_area
    save_goes h p scripts a left k does =
        files_go bytes_of pass units least reads own plans loaded lists table_in header area plan (header_of header) (λ d. HasHeaderFile d header) header_reading
        (area_named area) (λ d. HasAreaFile d area) area_reading final c t r c' t' held whole h p scripts a left
        (record { reads_plan = k.reads_plan; has_header = k.has_header; lists = k.lists; reads_area = k.reads_area }) does

  -- ---- what the sources mean

  module _ (ends : ListedPlaysEnd) (stops : ListedPlaysStop) (keep : EntriesKeepAlike) where
    first_as_meant : (cell : CellLookup) (header area plan : List ℕ) (n : ℕ) (name : List ℕ) (c : Contents) (t : List ℕ) (r : Result Finished Status) (c' : Contents) (t' : List ℕ)
        → ContentsAreBytes c → (IsCut r → ⊥) → Does (saves cell header area plan n name) c t r c' t' → (h : HeaderFile) (p : Plan) (listed : List Listed) (a : AreaFile)
        (left : Contents) → AcceptsSourcesToSave header area plan c h p listed a left → FirstAsMeant cell h a p listed n name left t r c' t'
    unfolding source_first
    first_as_meant cell header area plan n name c t r c' t' held whole does h p listed a left k =
        let kept : IsTable h.table = is_table reads own c header h.table held (header_of_file c header h k.has_header) in
        let s : Setting = listing_of cell h.table listed in
        let one : AreUnitsOf h.table listed = λ m l is. (listed_units h.table bytes_of units p.scripts c left listed (source_bytes c held) k.lists m l is).unit in
        let so = stops s kept one p.limit (first_entries n p) (plan_world a.area p) (source_plan_world a.area p) (plan_alike keep s a.area p) in
        record {
          does = save_goes cell header area plan n name c t r c' t' held whole h p (map script_of listed) a left
              (record { reads_plan = k.reads_plan; has_header = k.has_header; lists = are_scripts h.table p.scripts c left listed k.lists; reads_area = k.reads_area }) does;
          few = λ steps large goes. ends s kept one steps p.limit (first_entries n p) large (plan_world a.area p) (source_plan_world a.area p) (plan_alike keep s a.area p) goes;
          unstopped = so.ends;
          stopped = so.told;
        }

    pub saves_mean : CheckedPlaysHaveNoFault → FrontsGoOn → SavesMean
    saves_mean no_fault fronts cell header area plan n name c t r c' t' held whole does = record {
      comes = save_comes cell header area plan n name c t r c' t' held whole does;
      refused = λ why left is. save_refused cell header area plan n name c t r c' t' held whole why left is does;
      played = λ h p scripts a left k. save_goes cell header area plan n name c t r c' t' held whole h p scripts a left k does;
      saved = λ h p scripts a left k done.
          saved_so h a p scripts n name left t r c' t' done cell (save_goes cell header area plan n name c t r c' t' held whole h p scripts a left k does);
      first = λ h p scripts a left k. fronts cell h.table p scripts n (plan_world a.area p);
      no_fault = λ h p scripts a left k.
          no_fault cell h.table scripts p.limit (first_entries n p) a.area p.random (map (begun_by a.area) p.events) p.version
          (is_table reads own c header h.table held (header_of_file c header h k.has_header)) (lines_are_stacked h.table p.scripts c left scripts k.lists);
      meant = λ h p listed a left k. first_as_meant cell header area plan n name c t r c' t' held whole does h p listed a left k;
    }
