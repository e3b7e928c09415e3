-- A saved play that is resumed goes on as the unbroken one: from what the commands did to what they
-- told.
use Rattle.std.proofs.Common.{◌≡◌, ◌≢◌, ◌≤◌, ◌+◌, ℕ, Bool, true, false, inl, inr, List, ◌++◌, length, Option, Some, Result, Ok, refl, ap, sym, subst, ◌∙◌, ltb-false}
use mathlib.Core.List.{append_assoc}
use Rattle.std.specs.Prelude.{nat_lt}
use Rattle.nwq_value.specs.Limits.{file_limit}
use Rattle.nwq_outside.specs.Outside.{Contents, content, with_content}
use Rattle.plan_text.specs.declared.plan.Plan.{Plan}
use Rattle.saved_state.specs.declared.saved.Saved.{Saved}
use Rattle.world_rules.specs.Pure.{CellLookup}
use Rattle.world_rules.specs.Trace.{trace_text}
use Rattle.world_rules.specs.World.{World}
use Rattle.world_rules.specs.Plays as plays
use Rattle.world_rules.specs.Plays.{PlayEnd, Progress, Played}
use Rattle.machine_rules.specs.Machine.{Script, Host}
use Rattle.module_player.specs.CodePlays.{code_play_on, code_end_text}
use Rattle.state_format.specs.declared.parts.Parts.{Parts}
use Rattle.state_format.specs.Fields.{parts_bytes}
use Rattle.state_format.specs.Place.{StateOf}
use Rattle.play_save.specs.Rules.{IsHeaderOf}
use Rattle.play_save.specs.States.{resting}
use Rattle.command_work.specs.declared.status.Status.{Status}
use Rattle.command_work.specs.Work.{Work, Puts, Finished, IsCut, Does, file_named, puts, writes}
use Rattle.command_work.specs.Parts.{ok_not_err, then_ok, finds_one}
use Rattle.command_work.specs.Sequences.{then_known}
use Rattle.command_work.specs.Comes.{read_does, gives_does}
use Rattle.command_work.specs.Outcomes.{IsPrefix, grows}
use Rattle.command_sources.specs.Headers.{table_of_word}
use Rattle.command_sources.specs.Laws.{SureTables}
use Rattle.play_inputs.specs.Areas as inputs
use Rattle.play_inputs.specs.Listings.{scripts_listed}
use Rattle.play_inputs.specs.ListingLaws.{SureListed}
use Rattle.play_inputs.specs.Laws.{SureAreas, SurePlans}
use Rattle.play_inputs.specs.Plans.{plan_named}
use Rattle.play_worlds.specs.Worlds.{plan_world}
use Rattle.command_plays.specs.Plays.{host_of, plan_played, played_first}
use Rattle.command_play.specs.Games.{tells_end, tells, plays_plan, plays_area, plays_scripts, plays_under, plays as plays_files}
use Rattle.command_save.specs.declared.inputs.HeaderFile.{HeaderFile}
use Rattle.command_save.specs.declared.inputs.AreaFile.{AreaFile}
use Rattle.command_save.specs.Inputs.{header_of, area_named}
use Rattle.command_save.specs.Saves.{IsStateAt, saved_line, state_by as written_by, state_told, state_written, saves_at, saves_by, saves_plan, saves_area, saves_scripts, saves_under, saves}
use Rattle.command_save.specs.Resumes.{Whole, IsStateFate, whole, state_by, state_in, state_named, Going, GoesFrom, played_rest, resumes_from, resumes_state, resumes}
use Rattle.command_save.specs.Laws.{GoOn, SavedPlaysGoOn}
use Rattle.command_save.proofs.OneState.{OneLaws, one_going}
use Rattle.command_save.proofs.OneSave.{sure_state}
use Rattle.command_save.proofs.ReadLemmas.{went_on, held_here, header_found, area_found}
use Rattle.command_save.proofs.RestLemmas.{goes, never_paused, plan_quiet, end_does, same_ending, trace_parts, EndAlike, ends_alike}

-- ---- what was saved

-- a state of the play was written, and told
pub record WasSaved (header : HeaderFile) (file : List ℕ) (plan : Plan) (scripts : List Script) (name : List ℕ) (p : Progress Saved) (c c' : Contents) (t t' : List ℕ) : Type 0 where
  pub state : Parts
  pub is : IsStateAt header file plan scripts p state
  pub small : length (parts_bytes state) ≤ file_limit
  pub contents : c' ≡ with_content c name (parts_bytes state)
  pub taken : t' ≡ t ++ saved_line name state.taken

module _ (header : HeaderFile) (file : List ℕ) (plan : Plan) (scripts : List Script) (name : List ℕ) (c c' : Contents) (t t' : List ℕ) (done : Finished) where
  saved_by : (p : Progress Saved) (s : Parts) → IsStateAt header file plan scripts p s → (long : Bool) → nat_lt file_limit (length (parts_bytes s)) ≡ long
      → Does (written_by long name (parts_bytes s) s.taken) c t (Ok done) c' t' → WasSaved header file plan scripts name p c c' t t'
  unfolding state_told writes puts
  saved_by p s is true long (inl x, k) = absurd (ok_not_err done _ x.0)
  saved_by p s is true long (inr x, k) = absurd x.0
  saved_by p s is false long (inl x) = absurd x.0
  saved_by p s is false long (inr (inl x)) = absurd x.0
  saved_by p s is false long (inr (inr k)) =
      record { state = s; is = is; small = ltb-false file_limit (length (parts_bytes s)) long; contents = k.1.0; taken = k.1.1 }

  saved_at : (p : Progress Saved) → Does (saves_at header file plan scripts name p) c t (Ok done) c' t' → WasSaved header file plan scripts name p c c' t t'
  unfolding saves_at state_written
  saved_at p (inl x) = absurd x.0
  saved_at p (inr h) = saved_by p h.found h.is (nat_lt file_limit (length (parts_bytes h.found))) refl h.goes

  pub was_saved : (ending : PlayEnd) (p : Played Saved) → Does (saves_by ending header file plan scripts name p) c t (Ok done) c' t'
      → (ending ≢ plays.StoppedInside) × WasSaved header file plan scripts name p.last c c' t t'
  was_saved plays.Done p does = (λ e. absurd cc, saved_at p.last does)
  was_saved plays.OutOfEntries p does = (λ e. absurd cc, saved_at p.last does)
  was_saved plays.Paused p does = (λ e. absurd cc, saved_at p.last does)
  was_saved plays.StoppedInside p (inl x) = absurd x.0
  was_saved plays.StoppedInside p (inr (is, k)) = absurd (ok_not_err done _ is)

-- ---- what is resumed from it

-- the bytes that were written are those of the state
state_does : (name : List ℕ) (s : Parts) (c : Contents) (t : List ℕ) → content c name ≡ Some (parts_bytes s) → length (parts_bytes s) ≤ file_limit
    → IsStateFate (parts_bytes s) (Whole s) → Does (state_named name) c t (Ok s) c t
unfolding state_named state_in
state_does name s c t held small fate =
    then_ok (file_named name) (state_in name) (parts_bytes s) c c c t t t (Ok s) (read_does c t name (parts_bytes s) (record { held = held; small = small }))
    (finds_one (λ (d : Contents) f. IsStateFate (parts_bytes s) f) (state_by name) (Whole s) c c t t (Ok s) fate (gives_does s c t))

module _ (laws : OneLaws) (cell : CellLookup) (header : HeaderFile) (file : List ℕ) (plan : Plan) (scripts : List Script) (p : Progress Saved) (s : Parts)
    (headed : IsHeaderOf header.text header.table) (is : IsStateAt header file plan scripts p s) where
  abbrev pub going : Going
  going = record { table = header.table; scripts = scripts; world = resting p.world }

  pub goes_from : GoesFrom s going
  goes_from = record {
    header = subst (λ (text : Option (List ℕ)). IsHeaderOf text header.table) (sym is.play.header) headed;
    scripts = is.play.scripts;
    spelled = is.spelled;
    world = is.world;
  }

  abbrev played_on : Played Saved
  played_on = code_play_on (host_of cell header.table scripts) plan.limit plan.entries plan.until (plan.entries + 1) p.entries p.count (resting p.world)

  played_same : played_rest cell s going ≡ played_on
  played_same =
      ap (λ (n : ℕ). code_play_on (host_of cell header.table scripts) n s.entries s.until (s.entries + 1) s.taken s.done (resting p.world)) is.play.limit
      ∙ ap (λ (n : ℕ). code_play_on (host_of cell header.table scripts) plan.limit n s.until (n + 1) s.taken s.done (resting p.world)) is.play.entries
      ∙ ap (λ (n : ℕ). code_play_on (host_of cell header.table scripts) plan.limit plan.entries n (plan.entries + 1) s.taken s.done (resting p.world)) is.play.until
      ∙ ap (λ (n : ℕ). code_play_on (host_of cell header.table scripts) plan.limit plan.entries plan.until (plan.entries + 1) n s.done (resting p.world)) is.come.taken
      ∙ ap (λ (n : ℕ). code_play_on (host_of cell header.table scripts) plan.limit plan.entries plan.until (plan.entries + 1) p.entries n (resting p.world)) is.come.done

  rest_told : (to : List ℕ) (c c' : Contents) (t t' : List ℕ) (r : Result Finished Status) → (IsCut r → ⊥) → Does (resumes_state cell to s) c t r c' t'
      → Does (tells to scripts played_on) c t r c' t'
  unfolding resumes_state resumes_from
  rest_told to c c' t t' r uncut (inl x) = absurd (uncut x.0)
  rest_told to c c' t t' r uncut (inr h) =
      subst (λ (q : Played Saved). Does (tells to scripts q) c t r c' t') played_same
      (subst (λ (g : Going). Does (tells to g.scripts (played_rest cell s g)) c t r c' t') (one_going laws s h.found going h.is goes_from) h.goes)

  pub resumed : (name to : List ℕ) (c c' : Contents) (t t' : List ℕ) (r : Result Finished Status) → content c name ≡ Some (parts_bytes s)
      → length (parts_bytes s) ≤ file_limit → (IsCut r → ⊥) → Does (resumes cell name to) c t r c' t' → Does (tells to scripts played_on) c t r c' t'
  unfolding resumes
  resumed name to c c' t t' r held small uncut does =
      let of : StateOf (parts_bytes s) s = record { form = is.form small; is = refl } in
      rest_told to c c' t t' r uncut
      (then_known (state_named name) (resumes_state cell to) (sure_state laws name) s c c c' t t t' r uncut
      (state_does name s c t held small (whole s of is.accepted)) does)

-- ---- both, after the files are read

told_end : (text : List ℕ) (w : Work Finished) (c c' : Contents) (t t' : List ℕ) (r : Result Finished Status) → (IsCut r → ⊥) → Does (Puts text w) c t r c' t' → Does w c (t ++ text) r c' t'
told_end text w c c' t t' r uncut (inl x) = absurd (uncut x.0)
told_end text w c c' t t' r uncut (inr does) = does

module _ (laws : OneLaws) (cell : CellLookup) (header : HeaderFile) (area : AreaFile) (plan : Plan) (scripts : List Script) (n : ℕ) (name to : List ℕ)
    (headed : IsHeaderOf header.text header.table) (c c1 d c2 c3 : Contents) (same : content d name ≡ content c1 name)
    (t t0 t1 t2 t3 t4 : List ℕ) (begun : IsPrefix t0 t) (done : Finished) (r2 r3 : Result Finished Status)
    (uncut : IsCut r2 → ⊥) (uncut_too : IsCut r3 → ⊥) where
  abbrev host : Host (World Saved)
  host = host_of cell header.table scripts

  abbrev w : World Saved
  w = plan_world area.area plan

  abbrev first : Played Saved
  first = played_first cell header.table plan scripts n w

  abbrev unbroken : Played Saved
  unbroken = plan_played cell header.table plan scripts w

  abbrev last : Played Saved
  last = code_play_on host plan.limit plan.entries plan.until (plan.entries + 1) first.last.entries first.last.count (resting first.last.world)

  -- what was told and left at the end of both
  ends_told : first.ending ≢ plays.StoppedInside → Does (tells_end to scripts last) d (t2 ++ trace_text last.last.trace) r2 c2 t3
      → Does (tells_end to scripts unbroken) c (t ++ trace_text unbroken.last.trace) r3 c3 t4
      → EndAlike to c2 c3 (t2 ++ trace_text last.last.trace) t3 (t ++ (trace_text first.last.trace ++ trace_text last.last.trace)) t4 r2 r3
  ends_told inside rested played_whole =
      let is = goes host plan.limit plan.entries plan.until n w (plan_quiet area.area plan) inside in
      let text = trace_parts _ _ scripts to first.last.trace unbroken last is in
      let ends : last.ending ≢ plays.Paused =
      λ e. never_paused host plan.limit plan.entries plan.until n w (plan_quiet area.area plan) (same_ending _ _ scripts to first.last.trace unbroken last is ∙ e) in
      ends_alike to (code_end_text scripts last) d c c2 c3 (t2 ++ trace_text last.last.trace) t3 (t ++ (trace_text first.last.trace ++ trace_text last.last.trace)) t4 r2 r3 uncut uncut_too
      last.ending last.last.world.area ends rested
      (subst (λ (x : List ℕ). Does (tells_end to scripts last) c (t ++ x) r3 c3 t4) text
      (end_does _ _ scripts to first.last.trace unbroken last is r3 c c3 (t ++ trace_text unbroken.last.trace) t4 played_whole))

  front_parts : (x a line : List ℕ) → (t ≡ t0 ++ x) → t1 ≡ (t ++ a) ++ line → t1 ≡ t0 ++ (x ++ a) ++ line
  front_parts x a line p q = q ∙ ap (λ (l : List ℕ). (l ++ a) ++ line) p ∙ simp append_assoc

  rest_parts : (x a b put : List ℕ) → (t ≡ t0 ++ x) → t4 ≡ (t ++ (a ++ b)) ++ put → t4 ≡ t0 ++ (x ++ a) ++ (b ++ put)
  rest_parts x a b put p q = q ∙ ap (λ (l : List ℕ). (l ++ (a ++ b)) ++ put) p ∙ simp append_assoc

  told_both : WasSaved header area.bytes plan scripts name first.last c c1 (t ++ trace_text first.last.trace) t1 → first.ending ≢ plays.StoppedInside
      → Does (resumes cell name to) d t2 r2 c2 t3 → Does (tells to scripts unbroken) c t r3 c3 t4 → GoOn name to c2 c3 t0 t1 t2 t3 t4 r2 r3
  told_both saved inside on_from unbroken_does =
      let s = saved.state in
      let held = same ∙ held_here c c1 name (parts_bytes s) saved.contents in
      let rest : Does (tells to scripts last) d t2 r2 c2 t3 = resumed laws cell header area.bytes plan scripts first.last s headed saved.is name to d c2 t2 t3 r2 held saved.small uncut on_from in
      let ends = ends_told inside (told_end (trace_text last.last.trace) (tells_end to scripts last) d c2 t2 t3 r2 uncut rest)
      (told_end (trace_text unbroken.last.trace) (tells_end to scripts unbroken) c c3 t t4 r3 uncut_too unbroken_does) in
      record {
        front = begun.0 ++ trace_text first.last.trace;
        rest = trace_text last.last.trace ++ ends.put;
        entries = s.taken;
        saved = front_parts begun.0 (trace_text first.last.trace) (saved_line name s.taken) begun.1 saved.taken;
        resumed = ends.first ∙ append_assoc t2 (trace_text last.last.trace) ends.put;
        unbroken = rest_parts begun.0 (trace_text first.last.trace) (trace_text last.last.trace) ends.put begun.1 ends.second;
        answer = ends.answer;
        area = ends.area;
      }

  pub go_on : Does (saves_plan cell header plan scripts n name area) c t (Ok done) c1 t1 → Does (resumes cell name to) d t2 r2 c2 t3
      → Does (plays_plan cell header.table area.area plan scripts to) c t r3 c3 t4 → GoOn name to c2 c3 t0 t1 t2 t3 t4 r2 r3
  unfolding saves_plan plays_plan
  go_on saves_does resumes_does plays_does =
      let by = was_saved header area.bytes plan scripts name c c1 (t ++ trace_text first.last.trace) t1 done first.ending first
      (told_end (trace_text first.last.trace) (saves_by first.ending header area.bytes plan scripts name first) c c1 t t1 (Ok done) (λ x. x) saves_does) in
      told_both by.1 by.0 resumes_does plays_does

-- ---- the files are read alike

prefix_on : (t u v : List ℕ) → IsPrefix t u → IsPrefix u v → IsPrefix t v
prefix_on t u v a b = (a.0 ++ b.0, b.1 ∙ ap (λ (x : List ℕ). x ++ b.0) a.1 ∙ append_assoc t a.0 b.0)

module _ (laws : OneLaws) (tables : SureTables) (listed : SureListed) (areas : SureAreas) (plans : SurePlans) (cell : CellLookup) (n : ℕ) (name to : List ℕ)
    (c1 d c2 c3 : Contents) (same : content d name ≡ content c1 name) (t0 t1 t2 t3 t4 : List ℕ) (done : Finished) (r2 r3 : Result Finished Status) (uncut : IsCut r2 → ⊥) (uncut_too : IsCut r3 → ⊥)
    (resumes_does : Does (resumes cell name to) d t2 r2 c2 t3) where
  abbrev Told : Type 0
  Told = GoOn name to c2 c3 t0 t1 t2 t3 t4 r2 r3

  by_area : (header : HeaderFile) (area : List ℕ) (plan : Plan) (scripts : List Script) (c : Contents) (t : List ℕ) → IsHeaderOf header.text header.table → IsPrefix t0 t
      → Does (saves_area cell header area plan n name scripts) c t (Ok done) c1 t1 → Does (plays_area cell header.table area plan to scripts) c t r3 c3 t4 → Told
  unfolding saves_area plays_area
  by_area header area plan scripts c t headed begun saves_does plays_does =
      let one = went_on (area_named area) (saves_plan cell header plan scripts n name) done c c1 t t1 saves_does in
      let found = area_found area one.value c one.between t one.taken one.first in
      go_on laws cell header one.value plan scripts n name to headed one.between c1 d c2 c3 same one.taken t0 t1 t2 t3 t4
      (prefix_on t0 t one.taken begun (grows (area_named area) (Ok one.value) c one.between t one.taken one.first)) done r2 r3 uncut uncut_too one.second resumes_does
      (then_known (inputs.area_named area) (λ a. plays_plan cell header.table a plan scripts to) (areas area) one.value.area c one.between c3 t one.taken t4 r3 uncut_too found plays_does)

  by_scripts : (header : HeaderFile) (area : List ℕ) (plan : Plan) (c : Contents) (t : List ℕ) → IsHeaderOf header.text header.table → IsPrefix t0 t
      → Does (saves_scripts cell area plan n name header) c t (Ok done) c1 t1 → Does (plays_scripts cell area plan to header.table) c t r3 c3 t4 → Told
  unfolding saves_scripts plays_scripts
  by_scripts header area plan c t headed begun saves_does plays_does =
      let one = went_on (scripts_listed header.table plan.scripts) (saves_area cell header area plan n name) done c c1 t t1 saves_does in
      by_area header area plan one.value one.between one.taken headed
      (prefix_on t0 t one.taken begun (grows (scripts_listed header.table plan.scripts) (Ok one.value) c one.between t one.taken one.first)) one.second
      (then_known (scripts_listed header.table plan.scripts) (plays_area cell header.table area plan to) (listed header.table plan.scripts) one.value c one.between c3 t one.taken t4 r3 uncut_too
      one.first plays_does)

  by_header : (header area : List ℕ) (plan : Plan) (c : Contents) (t : List ℕ) → IsPrefix t0 t
      → Does (saves_under cell header area n name plan) c t (Ok done) c1 t1 → Does (plays_under cell header area to plan) c t r3 c3 t4 → Told
  unfolding saves_under plays_under
  by_header header area plan c t begun saves_does plays_does =
      let one = went_on (header_of header) (saves_scripts cell area plan n name) done c c1 t t1 saves_does in
      let found = header_found header one.value c one.between t one.taken one.first in
      by_scripts one.value area plan one.between one.taken found.is
      (prefix_on t0 t one.taken begun (grows (header_of header) (Ok one.value) c one.between t one.taken one.first)) one.second
      (then_known (table_of_word header) (plays_scripts cell area plan to) (tables header) one.value.table c one.between c3 t one.taken t4 r3 uncut_too found.table plays_does)

  pub by_plan : (header area plan : List ℕ) (c : Contents) → Does (saves cell header area plan n name) c t0 (Ok done) c1 t1
      → Does (plays_files cell header area plan to) c t0 r3 c3 t4 → Told
  unfolding saves plays_files
  by_plan header area plan c saves_does plays_does =
      let one = went_on (plan_named plan) (saves_under cell header area n name) done c c1 t0 t1 saves_does in
      by_header header area one.value one.between one.taken (grows (plan_named plan) (Ok one.value) c one.between t0 one.taken one.first) one.second
      (then_known (plan_named plan) (plays_under cell header area to) (plans plan) one.value c one.between c3 t0 one.taken t4 r3 uncut_too one.first plays_does)

pub saved_plays : OneLaws → SureTables → SureListed → SureAreas → SurePlans → SavedPlaysGoOn
saved_plays laws tables listed areas plans cell header area plan name to n c c1 d c2 c3 t t1 t2 t3 t4 done r2 r3 saves_does same resumes_does uncut plays_does uncut_too =
    by_plan laws tables listed areas plans cell n name to c1 d c2 c3 same t t1 t2 t3 t4 done r2 r3 uncut uncut_too resumes_does header area plan c saves_does plays_does
