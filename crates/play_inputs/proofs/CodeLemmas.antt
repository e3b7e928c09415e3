-- A file is written, and then its code is loaded.
use Rattle.std.proofs.Common.{◌≡◌, ℕ, Bool, true, false, List, Result, Ok, Err, OnOk, refl, sym, subst, ◌∙◌}
use Rattle.nwq_value.specs.Engine.{EngineTable}
use Rattle.nwq_outside.specs.Outside.{Contents, next}
use Rattle.ncs_code.specs.Plain.{PlainOp}
use Rattle.plan_text.specs.declared.plan.Script.{Script as ScriptLine}
use Rattle.command_work.specs.declared.status.Status.{Status}
use Rattle.command_work.specs.declared.status.Status.TheVariants.{Memory}
use Rattle.command_work.specs.Work.{Does, MayBeCut, makes, Finished, file_named, writes}
use Rattle.command_work.specs.Counts.{Counts, Tallies, KeepsBut}
use Rattle.command_work.specs.Calls.{IsName}
use Rattle.command_work.specs.KeepsLemmas.{keeps_fewer}
use Rattle.command_work.specs.Parts.{cut_here, makes_does, may_then, then_ok, then_err}
use Rattle.command_sources.specs.Reads.{ReadsUnit, on_ok}
use Rattle.command_sources.specs.Units.{unit_of}
use Rattle.command_files.specs.Codes.{code_named}
use Rattle.command_files.specs.Checks.{checked_named, loaded_in}
use Rattle.command_compile.specs.Files.{code_name, compiled_named}
use Rattle.play_inputs.specs.Listings.{writes_loaded, source_named, code_by, playable, script_in, IsOwnFile}
use Rattle.play_inputs.specs.Reads.{ReadsCode}

module _ (header : EngineTable) (file written bytes : List ℕ) (c c1 : Contents) (t : List ℕ) (same : written ≡ bytes) where
  pub written_loaded : (loaded : List ℕ) (done : Finished) (r : Result (List PlainOp) Status) (t' : List ℕ) → loaded ≡ bytes
      → Does (writes file written) c t (Ok done) c1 t → Does (loaded_in header file loaded) c1 t r c1 t' → Does (writes_loaded header file bytes) c t r c1 t'
  unfolding writes_loaded
  written_loaded loaded done r t' too wrote goes =
      then_ok (writes file bytes) (λ d. loaded_in header file bytes) done c c1 c1 t t t' r (subst (λ b. Does (writes file b) c t (Ok done) c1 t) same wrote)
      (subst (λ b. Does (loaded_in header file b) c1 t r c1 t') too goes)

  pub not_written : (e : Status) → Does (writes file written) c t (Err e) c1 t → Does (writes_loaded header file bytes) c t (Err e) c1 t
  unfolding writes_loaded
  not_written e wrote =
      then_err (writes file bytes) (λ d. loaded_in header file bytes) e c c1 t t (subst (λ b. Does (writes file b) c t (Err e) c1 t) same wrote)

-- ---- a source is compiled first

module _ (header : EngineTable) (name file : List ℕ) (named : file ≡ code_name name) (c c1 : Contents) (t t1 : List ℕ) (bytes written : List ℕ)
    (compiled : Does (compiled_named header name) c t (Ok bytes) c1 t1) (same : written ≡ bytes) (c2 : Contents) where
  pub source_loads : (loaded : List ℕ) (done : Finished) (r : Result (List PlainOp) Status) (t' : List ℕ) → loaded ≡ bytes
      → Does (writes file written) c1 t1 (Ok done) c2 t1 → Does (loaded_in header file loaded) c2 t1 r c2 t' → Does (source_named header name) c t r c2 t'
  unfolding source_named
  source_loads loaded done r t' too wrote goes =
      then_ok (compiled_named header name) (writes_loaded header (code_name name)) bytes c c1 c2 t t1 t' r compiled
      (subst (λ f. Does (writes_loaded header f bytes) c1 t1 r c2 t') named (written_loaded header file written bytes c1 c2 t1 same loaded done r t' too wrote goes))

  pub source_unwritten : (e : Status) → Does (writes file written) c1 t1 (Err e) c2 t1 → Does (source_named header name) c t (Err e) c2 t1
  unfolding source_named
  source_unwritten e wrote =
      then_ok (compiled_named header name) (writes_loaded header (code_name name)) bytes c c1 c2 t t1 t1 (Err e) compiled
      (subst (λ f. Does (writes_loaded header f bytes) c1 t1 (Err e) c2 t1) named (not_written header file written bytes c1 c2 t1 same e wrote))

-- ---- the names of a script and of its file are still to be made

module _ (header : EngineTable) where
  may_code : (binary : Bool) (name : List ℕ) → MayBeCut (code_by binary header name)
  unfolding checked_named code_named file_named source_named compiled_named unit_of
  may_code true name = tt
  may_code false name = tt

  pub code_wanted : (binary : Bool) (name : List ℕ) (c : Contents) (t : List ℕ) → Does (code_by binary header name) c t (Err Memory) c t
  code_wanted binary name c t = cut_here (code_by binary header name) Memory c c t t (may_code binary name) tt refl refl

  pub script_wanted : (line : ScriptLine) (c : Contents) (t : List ℕ) → Does (script_in header line) c t (Err Memory) c t
  unfolding script_in
  script_wanted line c t =
      cut_here (script_in header line) Memory c c t t
      (may_then (code_by line.binary header line.name) (λ ops. makes (playable line ops)) (may_code line.binary line.name)) tt refl refl

-- what the code makes playable, or memory is wanted for it
pub ruleset plays = (script_wanted, cut_here, makes_does)

-- the counts of a part that was done go on to those of the next
pub counted_on : {A : Type 0} (r : Result A Status) (before between after : Counts) → between ≡ before → Tallies r between after → Tallies r before after
counted_on r before between after same tallies = subst (λ x. Tallies r x after) same tallies

-- ---- what is kept

-- where there is no binary the file of the source may be written
pub keeps_own : (line : ScriptLine) (file : List ℕ) (c c1 : Contents) → line.binary ≡ false → file ≡ code_name line.name → KeepsBut (IsName file) c c1
    → KeepsBut (IsOwnFile line) c c1
keeps_own line file c c1 is named keeps =
    keeps_fewer (IsName file) (IsOwnFile line) c c1 (λ other same. (is, same ∙ named)) keeps

-- ---- a script is there as a binary or as a source

module _ (binary : Bool) (name : List ℕ) (c : Contents) where
  pub by_binary : (header : EngineTable) (file : List ℕ) (c1 : Contents) (t t1 : List ℕ) (r : Result (List PlainOp) Status) → binary ≡ true → file ≡ code_name name
      → Does (checked_named header file) c t r c1 t1 → Does (code_by binary header name) c t r c1 t1
  by_binary header file c1 t t1 r is named does =
      subst (λ (b : Bool). Does (code_by b header name) c t r c1 t1) (sym is) (subst (λ f. Does (checked_named header f) c t r c1 t1) named does)

  pub by_source : (header : EngineTable) (given : List ℕ) (c1 : Contents) (t t1 : List ℕ) (r : Result (List PlainOp) Status) → binary ≡ false → given ≡ name
      → Does (source_named header given) c t r c1 t1 → Does (code_by binary header name) c t r c1 t1
  by_source header given c1 t t1 r is same does =
      subst (λ (b : Bool). Does (code_by b header name) c t r c1 t1) (sym is) (subst (λ n. Does (source_named header n) c t r c1 t1) same does)

  pub reads_binary : {A : Type 0} (r : Result A Status) (before now : ℕ) → binary ≡ true → now ≡ next before → OnOk r (ReadsCode binary c name before now)
  reads_binary r before now is once =
      subst (λ (b : Bool). OnOk r (ReadsCode b c name before now)) (sym is) (on_ok r (now ≡ next before) once)

  pub reads_source : {A : Type 0} (r : Result A Status) (given : List ℕ) (before now : ℕ) → binary ≡ false → given ≡ name → OnOk r (ReadsUnit c given before now)
      → OnOk r (ReadsCode binary c name before now)
  reads_source r given before now is same once =
      subst (λ (b : Bool). OnOk r (ReadsCode b c name before now)) (sym is) (subst (λ n. OnOk r (ReadsUnit c n before now)) same once)

pub ruleset coded = (by_binary, by_source, reads_binary, reads_source, keeps_own)
