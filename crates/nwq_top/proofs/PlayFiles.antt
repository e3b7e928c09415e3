-- What the files of a play come to, which are read in order: its plan, its header, the scripts that
-- the plan lists, and its area. A play needs the table of its header, and its area; one that is
-- saved needs the bytes of their files too.
use Rattle.std.proofs.Common.{ℕ, List, [], ◌++◌, Result, Ok, Err, sym, subst, ap}
use Rattle.nwq_value.specs.Engine.{EngineTable}
use Rattle.nwq_outside.specs.Outside.{Contents, ContentsAreBytes}
use Rattle.plan_text.specs.declared.plan.Plan.{Plan}
use Rattle.machine_rules.specs.Machine.{Script}
use Rattle.typing_laws.specs.FaultLaws.{LeastIsTheKept}
use Rattle.engine_table.specs.KeptTables.{HeadersHaveTables, BuiltInIsTable}
use Rattle.play_save.specs.Written.{CodeIsBytes}
use Rattle.command_work.specs.declared.status.Status.{Status}
use Rattle.command_work.specs.Refusal.{Refusal, line_of, status_of}
use Rattle.command_work.specs.Work.{Work, then, IsCut, Does, Finished}
use Rattle.command_work.specs.Outcomes.{IsSure}
use Rattle.command_work.specs.Parts.{value_or, then_ok, then_err}
use Rattle.command_work.specs.Sequences.{Parts, ends_first, goes_on, parts, then_known}
use Rattle.command_work.specs.Comes.{Came, Follows, follows, ends, cuts, then_follows}
use Rattle.play_inputs.specs.Plans.{plan_named}
use Rattle.play_inputs.specs.Laws.{SurePlans}
use Rattle.command_files.specs.CheckLaws.{SureLoaded}
use Rattle.play_inputs.specs.Listings.{lists_on, scripts_listed}
use Rattle.play_inputs.specs.ListingLaws.{SureListed}
use Rattle.command_meaning.specs.Units.{UnitsPass}
use Rattle.command_meaning.specs.Scripts.{ScriptsHaveUnits}
use Rattle.nwq_top.specs.Accepting.{HasHeader, HasScripts, ReadsPlan}
use Rattle.nwq_top.specs.Refusing.{RefusesHeader, RefusesPlan, RefusesArea}
use Rattle.nwq_top.specs.Plays.{RefusesPlay, of_plan, of_header, of_script, of_area}
use Rattle.nwq_top.proofs.Headers.{HasTableIn, is_table}
use Rattle.nwq_top.proofs.PlansAndAreas.{plan_does, plan_refuses, plan_comes}
use Rattle.nwq_top.proofs.Listing.{scripts_do, scripts_refuse, Listings, all_listed, one_refused, scripts_come}
use Rattle.nwq_top.proofs.Running.{source_bytes}

-- How a header is read: what is read of it, its table in that, and that the work finds it where it
-- is there and refuses it where it isn't.
pub record ReadsHeaderBy {H : Type 0} (table_in : H → EngineTable) (w : Work H) (header : List ℕ) (Has : Contents → H → Type 0) : Type 1 where
  pub does : (c : Contents) (t : List ℕ) (h : H) → Has c h → Does w c t (Ok h) c t
  pub refuses : (c : Contents) (t : List ℕ) (why : Refusal) → RefusesHeader c header why → Does w c t (Err (status_of why)) c (t ++ line_of why)
  pub comes : (c : Contents) (t : List ℕ) (r : Result H Status) (c' : Contents) (t' : List ℕ) → Does w c t r c' t'
      → Came (Has c) (RefusesHeader c header) c t r c' t'
  pub has : (c : Contents) (h : H) → Has c h → HasHeader c header (table_in h)
  pub of : (c : Contents) (table : EngineTable) → HasHeader c header table → HasTableIn table_in (Has c) table
  pub sure : IsSure w

-- the same of an area
pub record ReadsAreaBy {A : Type 0} (w : Work A) (area : List ℕ) (Has : Contents → A → Type 0) : Type 1 where
  pub does : (c : Contents) (t : List ℕ) (a : A) → Has c a → Does w c t (Ok a) c t
  pub refuses : (c : Contents) (t : List ℕ) (why : Refusal) → RefusesArea c area why → Does w c t (Err (status_of why)) c (t ++ line_of why)
  pub comes : (c : Contents) (t : List ℕ) (r : Result A Status) (c' : Contents) (t' : List ℕ) → Does w c t r c' t'
      → Came (Has c) (RefusesArea c area) c t r c' t'
  pub sure : IsSure w

-- what is read and accepted, and what the files hold then
pub record Accepted {H A : Type 0} (table_in : H → EngineTable) (HasH : Contents → H → Type 0) (HasA : Contents → A → Type 0) (plan : List ℕ) (c : Contents)
    (h : H) (p : Plan) (scripts : List Script) (a : A) (left : Contents) : Type 0 where
  pub reads_plan : ReadsPlan c plan p
  pub has_header : HasH c h
  pub lists : HasScripts (table_in h) p.scripts c scripts left
  pub reads_area : HasA left a

-- refused or accepted
pub data FilesCome {H A : Type 0} (table_in : H → EngineTable) (HasH : Contents → H → Type 0) (HasA : Contents → A → Type 0) (header area plan : List ℕ) (c : Contents) : Type 0 where
  are_refused : (why : Refusal) (left : Contents) → RefusesPlay header area plan c why left → FilesCome table_in HasH HasA header area plan c
  are_accepted : (h : H) (p : Plan) (scripts : List Script) (a : A) (left : Contents) → Accepted table_in HasH HasA plan c h p scripts a left
      → FilesCome table_in HasH HasA header area plan c

module _ (bytes_of : CodeIsBytes) (pass : UnitsPass) (units : ScriptsHaveUnits) (least : LeastIsTheKept) (reads : HeadersHaveTables) (own : BuiltInIsTable)
    (plans : SurePlans) (loaded : SureLoaded) (lists : SureListed) where
  module _ {H A : Type 0} (table_in : H → EngineTable) (header area plan : List ℕ) (header_work : Work H) (HasH : Contents → H → Type 0)
      (by_header : ReadsHeaderBy table_in header_work header HasH) (area_work : Work A) (HasA : Contents → A → Type 0) (by_area : ReadsAreaBy area_work area HasA)
      (final : H → Plan → List Script → A → Work Finished) where
    -- ---- the work, part by part

    abbrev pub area_part : H → Plan → List Script → Work Finished
    area_part h p scripts = then area_work (final h p scripts)

    abbrev pub scripts_part : Plan → H → Work Finished
    scripts_part p h = then (scripts_listed (table_in h) p.scripts) (area_part h p)

    abbrev pub header_part : Plan → Work Finished
    header_part p = then header_work (scripts_part p)

    abbrev pub plan_part : Work Finished
    plan_part = then (plan_named plan) header_part

    module _ (c : Contents) (t : List ℕ) (r : Result Finished Status) (c' : Contents) (t' : List ℕ) (held : ContentsAreBytes c) (whole : IsCut r → ⊥) where
      abbrev Comes : Type 0
      Comes = FilesCome table_in HasH HasA header area plan c

      -- ---- refused or accepted

      area_follows : (p : Plan) (h : H) (scripts : List Script) (d : Contents) (k : List ℕ) → ReadsPlan c plan p → HasH c h
          → HasScripts (table_in h) p.scripts c scripts d
          → Follows (final h p scripts) (HasA d) (RefusesArea d area) d k r c' t' → Comes
      area_follows p h scripts d k has_plan has_header has_scripts (follows a has does) =
          are_accepted h p scripts a d (record { reads_plan = has_plan; has_header = has_header; lists = has_scripts; reads_area = has })
      area_follows p h scripts d k has_plan has_header has_scripts (ends why is e s o) =
          are_refused why d (of_area p (table_in h) scripts why d has_plan (by_header.has c h has_header) has_scripts is)
      area_follows p h scripts d k has_plan has_header has_scripts (cuts x) = absurd (whole x)

      area_plays : (p : Plan) (h : H) (scripts : List Script) (d : Contents) (k : List ℕ) → ReadsPlan c plan p → HasH c h
          → HasScripts (table_in h) p.scripts c scripts d → Does (area_part h p scripts) d k r c' t' → Comes
      area_plays p h scripts d k has_plan has_header has_scripts does =
          area_follows p h scripts d k has_plan has_header has_scripts
          (then_follows (final h p scripts) (HasA d) (RefusesArea d area) d k r c' t' area_work (by_area.comes d k) does)

      scripts_end : (p : Plan) (h : H) (status : Status) → ReadsPlan c plan p → HasH c h
          → Listings (table_in h) p.scripts [] c t (Err status) c' t' → Comes
      scripts_end p h status has_plan has_header (all_listed scripts hs is o) = absurd cc
      scripts_end p h status has_plan has_header (one_refused why hs is o) =
          are_refused why c' (of_script p (table_in h) why c' has_plan (by_header.has c h has_header) hs)

      scripts_go : (p : Plan) (h : H) (value : List Script) (d : Contents) (k : List ℕ) → ReadsPlan c plan p → HasH c h
          → Does (area_part h p value) d k r c' t' → Listings (table_in h) p.scripts [] c t (Ok value) d k → Comes
      scripts_go p h value d k has_plan has_header does (all_listed scripts hs is o) =
          area_plays p h value d k has_plan has_header
          (subst (λ xs. HasScripts (table_in h) p.scripts c xs d) (sym (ap (value_or value) is)) hs) does
      scripts_go p h value d k has_plan has_header does (one_refused why hs is o) = absurd cc

      scripts_play : (p : Plan) (h : H) → ReadsPlan c plan p → HasH c h → Does (scripts_part p h) c t r c' t' → Comes
      unfolding scripts_listed
      scripts_play p h has_plan has_header does =
          by_parts (parts (lists_on (table_in h) [] p.scripts) (area_part h p) c c' t t' r does)
        where
          by_parts : Parts (lists_on (table_in h) [] p.scripts) (area_part h p) c t r c' t' → Comes
          by_parts (ends_first k) =
              scripts_end p h k.status has_plan has_header
              (scripts_come bytes_of pass units loaded least (table_in h) (is_table reads own c header (table_in h) held (by_header.has c h has_header)) p.scripts [] c t (Err k.status) c' t'
              (source_bytes c held) (λ x. whole (subst IsCut (sym k.is) x)) k.does)
          by_parts (goes_on k) =
              scripts_go p h k.value k.between k.taken has_plan has_header k.second
              (scripts_come bytes_of pass units loaded least (table_in h) (is_table reads own c header (table_in h) held (by_header.has c h has_header)) p.scripts [] c t (Ok k.value) k.between k.taken
              (source_bytes c held) (λ x. x) k.first)

      header_follows : (p : Plan) → ReadsPlan c plan p → Follows (scripts_part p) (HasH c) (RefusesHeader c header) c t r c' t' → Comes
      header_follows p has_plan (follows h has does) = scripts_play p h has_plan has does
      header_follows p has_plan (ends why is e s o) = are_refused why c (of_header p why has_plan is)
      header_follows p has_plan (cuts x) = absurd (whole x)

      plan_follows : Follows header_part (ReadsPlan c plan) (RefusesPlan c plan) c t r c' t' → Comes
      plan_follows (follows p has does) =
          header_follows p has (then_follows (scripts_part p) (HasH c) (RefusesHeader c header) c t r c' t' header_work (by_header.comes c t) does)
      plan_follows (ends why is e s o) = are_refused why c (of_plan why is)
      plan_follows (cuts x) = absurd (whole x)

      pub files_come : Does plan_part c t r c' t' → Comes
      files_come does = plan_follows (then_follows header_part (ReadsPlan c plan) (RefusesPlan c plan) c t r c' t' (plan_named plan) (plan_comes c t plan) does)

      -- ---- where they are accepted

      pub files_go : (h : H) (p : Plan) (scripts : List Script) (a : A) (left : Contents) → Accepted table_in HasH HasA plan c h p scripts a left
          → Does plan_part c t r c' t' → Does (final h p scripts a) left t r c' t'
      unfolding scripts_listed
      files_go h p scripts a left k does =
          then_known area_work (final h p scripts) by_area.sure a left left c' t t t' r whole (by_area.does left t a k.reads_area)
          (then_known (scripts_listed (table_in h) p.scripts) (area_part h p) (lists (table_in h) p.scripts) scripts c left c' t t t' r whole
          (scripts_do (table_in h) p.scripts c left t scripts [] k.lists)
          (then_known header_work (scripts_part p) by_header.sure h c c c' t t t' r whole (by_header.does c t h k.has_header)
          (then_known (plan_named plan) header_part (plans plan) p c c c' t t t' r whole (plan_does c t plan p k.reads_plan) does)))

    -- ---- where one is refused

    pub files_refuse : (c : Contents) (t : List ℕ) (why : Refusal) (left : Contents) → RefusesPlay header area plan c why left
        → Does plan_part c t (Err (status_of why)) left (t ++ line_of why)
    unfolding scripts_listed
    files_refuse c t why left (of_plan _ is) =
        then_err (plan_named plan) header_part (status_of why) c c t (t ++ line_of why) (plan_refuses c t plan why is)
    files_refuse c t why left (of_header p _ has_plan is) =
        then_ok (plan_named plan) header_part p c c c t t (t ++ line_of why) (Err (status_of why)) (plan_does c t plan p has_plan)
        (then_err header_work (scripts_part p) (status_of why) c c t (t ++ line_of why) (by_header.refuses c t why is))
    files_refuse c t why left (of_script p table _ _ has_plan has_table is) =
        let k = by_header.of c table has_table in
        then_ok (plan_named plan) header_part p c c left t t (t ++ line_of why) (Err (status_of why)) (plan_does c t plan p has_plan)
        (then_ok header_work (scripts_part p) k.header c c left t t (t ++ line_of why) (Err (status_of why)) (by_header.does c t k.header k.has)
        (subst (λ x. Does (then (scripts_listed x p.scripts) (area_part k.header p)) c t (Err (status_of why)) left (t ++ line_of why)) (sym k.same)
        (then_err (scripts_listed table p.scripts) (area_part k.header p) (status_of why) c left t (t ++ line_of why)
        (scripts_refuse least table p.scripts c left t why [] is))))
    files_refuse c t why left (of_area p table scripts _ _ has_plan has_table has_scripts is) =
        let k = by_header.of c table has_table in
        then_ok (plan_named plan) header_part p c c left t t (t ++ line_of why) (Err (status_of why)) (plan_does c t plan p has_plan)
        (then_ok header_work (scripts_part p) k.header c c left t t (t ++ line_of why) (Err (status_of why)) (by_header.does c t k.header k.has)
        (subst (λ x. Does (then (scripts_listed x p.scripts) (area_part k.header p)) c t (Err (status_of why)) left (t ++ line_of why)) (sym k.same)
        (then_ok (scripts_listed table p.scripts) (area_part k.header p) scripts c left left t t (t ++ line_of why) (Err (status_of why))
        (scripts_do table p.scripts c left t scripts [] has_scripts)
        (then_err area_work (final k.header p scripts) (status_of why) left left t (t ++ line_of why) (by_area.refuses left t why is)))))
