-- The scripts that a plan lists.
use Rattle.std.proofs.Common.{◌≡◌, inl, inr, Bool, true, false, ℕ, List, [], ◌∷◌, ◌++◌, map, Result, Ok, Err, sym, subst, ap, ◌∙◌, refl, append_assoc}
use Rattle.std.proofs.lemmas.List.{append-nil}
use Rattle.nwq_value.specs.Engine.{EngineTable, IsTable}
use Rattle.nwq_outside.specs.Outside.{Contents, with_content}
use Rattle.typing_rules.specs.Typed.{TypedUnit}
use Rattle.typing_laws.specs.FaultLaws.{LeastIsTheKept}
use Rattle.ncs_code.specs.Plain.{PlainOp}
use Rattle.emission_rules.specs.Units.{unit_file}
use Rattle.plan_text.specs.declared.plan.Script.{Script as ScriptLine}
use Rattle.machine_rules.specs.Machine.{Script}
use Rattle.source_meaning.specs.Scripts.{Listed}
use Rattle.source_laws.specs.Executing.{script_of}
use Rattle.command_work.specs.declared.status.Status.{Status}
use Rattle.command_work.specs.Refusal.{Refusal, line_of, status_of}
use Rattle.command_work.specs.Work.{Gives, makes, IsCut, Does, writes}
use Rattle.command_work.specs.Parts.{value_or, status_or, makes_does, then_ok, then_err}
use Rattle.command_work.specs.Outcomes.{agree}
use Rattle.command_work.specs.Sequences.{Parts, ends_first, goes_on, parts}
use Rattle.command_work.specs.Comes.{Came, gave, stopped, cut, gives_does, Follows, follows, ends, cuts, then_follows}
use Rattle.play_save.specs.Written.{CodeIsBytes}
use Rattle.command_files.specs.Codes.{code_in}
use Rattle.command_files.specs.Codes as code
use Rattle.command_files.specs.Checks.{checked_in, loaded_in}
use Rattle.command_files.specs.Checks as check
use Rattle.command_compile.specs.Files.{code_name, compiled_named}
use Rattle.command_files.specs.CheckLaws.{SureLoaded}
use Rattle.play_inputs.specs.Listings.{writes_loaded, source_named, code_by, playable, script_in, lists_on}
use Rattle.command_meaning.specs.Units.{code_of, Passes, UnitsPass}
use Rattle.command_meaning.specs.Scripts.{HoldBytes, ScriptsHaveUnits}
use Rattle.nwq_top.specs.Accepting.{Compiles, HasCode, with_file, HasLine, HasScripts, HasSources}
use Rattle.nwq_top.specs.Accepting as accepting
use Rattle.nwq_top.specs.Refusing.{RefusesSource, RefusesBinary, RefusesLine, RefusesScripts, here, later}
use Rattle.nwq_top.specs.Refusing as refusing
use Rattle.nwq_top.proofs.Held.{still_bytes}
use Rattle.nwq_top.proofs.Sources.{IsMade, source_does, source_refuses, source_comes, binary_does, binary_refuses, binary_comes}

-- ---- one line

module _ (header : EngineTable) (c : Contents) (line : ScriptLine) where
  line_bytes : CodeIsBytes → (script : Script) (d : Contents) → HoldBytes c → HasLine header c line script d → HoldBytes d
  line_bytes bytes_of script d held (accepting.source e unit h) = still_bytes bytes_of c line.name unit h.passes.loads held
  line_bytes bytes_of script d held (accepting.binary e ops h) = held

pub loaded_does : (header : EngineTable) (file : List ℕ) (unit : TypedUnit) (c : Contents) (t : List ℕ) → Passes header unit
    → Does (loaded_in header file (unit_file unit)) c t (Ok (code_of unit)) c t
unfolding loaded_in code_in checked_in
loaded_does header file unit c t pass =
    inr (record {
      found = code.Whole (code_of unit);
      is = code.whole (code_of unit) pass.loads refl;
      goes = inr (record { found = check.Passes; is = check.passes pass.stacked; goes = gives_does (code_of unit) c t });
    })

module _ (header : EngineTable) (c : Contents) (t : List ℕ) (line : ScriptLine) where
  named_does : (unit : TypedUnit) → Compiles header c line.name unit
      → Does (source_named header line.name) c t (Ok (code_of unit)) (with_file c line.name unit) t
  unfolding source_named writes_loaded writes
  named_does unit h =
      then_ok (compiled_named header line.name) (writes_loaded header (code_name line.name)) (unit_file unit) c c (with_file c line.name unit) t t t (Ok (code_of unit))
      (source_does header c t line.name unit h.script h.small) (inr (loaded_does header (code_name line.name) unit (with_file c line.name unit) t h.passes))

  line_does : (script : Script) (d : Contents) → HasLine header c line script d → Does (script_in header line) c t (Ok script) d t
  unfolding script_in
  line_does script d (accepting.source e unit h) =
      then_ok (code_by line.binary header line.name) (λ ops. makes (playable line ops)) (code_of unit) c d d t t t (Ok script)
      (subst (λ b. Does (code_by b header line.name) c t (Ok (code_of unit)) d t) (sym e) (named_does unit h)) (makes_does script script d d t t refl refl refl)
  line_does script d (accepting.binary e ops h) =
      then_ok (code_by line.binary header line.name) (λ os. makes (playable line os)) ops c d d t t t (Ok script)
      (subst (λ b. Does (code_by b header line.name) c t (Ok ops) d t) (sym e) (binary_does header c t (code_name line.name) ops h)) (makes_does script script d d t t refl refl refl)

  line_refuses : LeastIsTheKept → (why : Refusal) → RefusesLine header c line why → Does (script_in header line) c t (Err (status_of why)) c (t ++ line_of why)
  unfolding script_in source_named
  line_refuses least why (refusing.source e _ is) =
      then_err (code_by line.binary header line.name) (λ ops. makes (playable line ops)) (status_of why) c c t (t ++ line_of why)
      (subst (λ b. Does (code_by b header line.name) c t (Err (status_of why)) c (t ++ line_of why)) (sym e)
      (then_err (compiled_named header line.name) (writes_loaded header (code_name line.name)) (status_of why) c c t (t ++ line_of why)
      (source_refuses header c t line.name least why is)))
  line_refuses least why (refusing.binary e _ is) =
      then_err (code_by line.binary header line.name) (λ ops. makes (playable line ops)) (status_of why) c c t (t ++ line_of why)
      (subst (λ b. Does (code_by b header line.name) c t (Err (status_of why)) c (t ++ line_of why)) (sym e)
      (binary_refuses header c t (code_name line.name) why is))

  -- it was listed, or refused
  data Lined (r : Result Script Status) (c' : Contents) (t' : List ℕ) : Type 0 where
    lists : (script : Script) → HasLine header c line script c' → r ≡ Ok script → t' ≡ t → Lined r c' t'
    refuses : (why : Refusal) → RefusesLine header c line why → r ≡ Err (status_of why) → c' ≡ c → t' ≡ t ++ line_of why → Lined r c' t'

  data Coded (s : Result (List PlainOp) Status) (d : Contents) (k : List ℕ) : Type 0 where
    has : (ops : List PlainOp) → HasLine header c line (playable line ops) d → s ≡ Ok ops → k ≡ t → Coded s d k
    lacks : (why : Refusal) → RefusesLine header c line why → s ≡ Err (status_of why) → d ≡ c → k ≡ t ++ line_of why → Coded s d k

module _ (pass : UnitsPass) (units : ScriptsHaveUnits) (sure : SureLoaded) (header : EngineTable) (table : IsTable header) where
  pub compiles : (c : Contents) (name bytes : List ℕ) → HoldBytes c → (made : IsMade header c name bytes) → Compiles header c name made.unit
  compiles c name bytes held made = record {
    script = made.script;
    small = made.small;
    passes = pass header made.unit table (units header c name made.unit held made.script) made.small;
  }

  module _ (least : LeastIsTheKept) (c : Contents) (t : List ℕ) (line : ScriptLine) (held : HoldBytes c) where
    module _ (s : Result (List PlainOp) Status) (d : Contents) (k : List ℕ) (whole : IsCut s → ⊥) where
      made_comes : line.binary ≡ false → (bytes : List ℕ) → IsMade header c line.name bytes → Does (writes_loaded header (code_name line.name) bytes) c t s d k
          → Coded header c t line s d k
      unfolding writes_loaded writes
      made_comes e bytes made (inl x) = absurd (whole x.0)
      made_comes e bytes made (inr does) =
          let h : Compiles header c line.name made.unit = compiles c line.name bytes held made in
          let left : Contents = with_file c line.name made.unit in
          let loads : Does (loaded_in header (code_name line.name) (unit_file made.unit)) left t s d k =
          subst (λ (b : List ℕ). Does (loaded_in header (code_name line.name) b) (with_content c (code_name line.name) b) t s d k) made.is does in
          let same = agree (loaded_in header (code_name line.name) (unit_file made.unit)) (sure header (code_name line.name) (unit_file made.unit))
          s (Ok (code_of made.unit)) left d left t k t whole (λ x. x) loads (loaded_does header (code_name line.name) made.unit left t h.passes) in
          has (code_of made.unit) (subst (HasLine header c line (playable line (code_of made.unit))) (sym same.contents) (accepting.source e made.unit h))
          same.answer same.taken

      source_follows : line.binary ≡ false → Follows (writes_loaded header (code_name line.name)) (IsMade header c line.name) (RefusesSource header c line.name) c t s d k
          → Coded header c t line s d k
      source_follows e (follows bytes made does) = made_comes e bytes made does
      source_follows e (ends why is p q o) = lacks why (refusing.source e why is) p q o
      source_follows e (cuts x) = absurd (whole x)

      binary_coded : line.binary ≡ true → Came (HasCode header c (code_name line.name)) (RefusesBinary header c (code_name line.name)) c t s d k → Coded header c t line s d k
      binary_coded e (gave ops h p q o) = has ops (subst (HasLine header c line (playable line ops)) (sym q) (accepting.binary e ops h)) p o
      binary_coded e (stopped why is p q o) = lacks why (refusing.binary e why is) p q o
      binary_coded e (cut x) = absurd (whole x)

      code_comes : (b : Bool) → line.binary ≡ b → Does (code_by b header line.name) c t s d k → Coded header c t line s d k
      unfolding source_named
      code_comes true e does = binary_coded e (binary_comes header c t (code_name line.name) s d k does)
      code_comes false e does =
          source_follows e (then_follows (writes_loaded header (code_name line.name)) (IsMade header c line.name) (RefusesSource header c line.name) c t s d k
          (compiled_named header line.name) (source_comes header c t line.name least) does)

    module _ (r : Result Script Status) (c' : Contents) (t' : List ℕ) (whole : IsCut r → ⊥) where
      code_ends : (status : Status) → r ≡ Err status → Coded header c t line (Err status) c' t' → Lined header c t line r c' t'
      code_ends status is (has ops h p q) = absurd cc
      code_ends status is (lacks why refuse p q o) = refuses why refuse (is ∙ ap Err (ap (status_or status) p)) q o

      code_goes : (ops : List PlainOp) (d : Contents) (k : List ℕ) → Does (makes (playable line ops)) d k r c' t' → Coded header c t line (Ok ops) d k
          → Lined header c t line r c' t'
      code_goes ops d k (inl x) h = absurd (whole x.0)
      code_goes ops d k (inr made) (has os h p q) =
          lists (playable line ops)
          (subst (λ x. HasLine header c line (playable line x) c') (sym (ap (value_or ops) p)) (subst (HasLine header c line (playable line os)) (sym made.goes.1.0) h))
          (made.goes.0 ∙ ap Ok made.is) (made.goes.1.1 ∙ q)
      code_goes ops d k (inr made) (lacks why refuse p q o) = absurd cc

      line_comes : Does (script_in header line) c t r c' t' → Lined header c t line r c' t'
      unfolding script_in
      line_comes does = by_parts (parts (code_by line.binary header line.name) (λ ops. makes (playable line ops)) c c' t t' r does)
        where
          by_parts : Parts (code_by line.binary header line.name) (λ ops. makes (playable line ops)) c t r c' t' → Lined header c t line r c' t'
          by_parts (ends_first h) =
              code_ends h.status h.is (code_comes (Err h.status) c' t' (λ x. whole (subst IsCut (sym h.is) x)) line.binary refl h.does)
          by_parts (goes_on h) =
              code_goes h.value h.between h.taken h.second (code_comes (Ok h.value) h.between h.taken (λ x. x) line.binary refl h.first)

-- ---- all of them

pub scripts_do : (header : EngineTable) (lines : List ScriptLine) (c d : Contents) (t : List ℕ) (scripts before : List Script) → HasScripts header lines c scripts d
    → Does (lists_on header before lines) c t (Ok (before ++ scripts)) d t
unfolding lists_on
scripts_do header lines c d t scripts before (accepting.none _) =
    subst (λ xs. Does (Gives before) c t (Ok xs) c t) (sym (append-nil before)) (gives_does before c t)
scripts_do header lines c d t scripts before (accepting.more line rest _ e _ script more h hs) =
    then_ok (script_in header line) (λ s. lists_on header (before ++ s ∷ []) rest) script c e d t t t (Ok (before ++ script ∷ more))
    (line_does header c t line script e h)
    (subst (λ xs. Does (lists_on header (before ++ script ∷ []) rest) e t (Ok xs) d t) (append_assoc before (script ∷ []) more)
    (scripts_do header rest e d t more (before ++ script ∷ []) hs))

pub scripts_refuse : LeastIsTheKept → (header : EngineTable) (lines : List ScriptLine) (c d : Contents) (t : List ℕ) (why : Refusal) (before : List Script)
    → RefusesScripts header lines c why d → Does (lists_on header before lines) c t (Err (status_of why)) d (t ++ line_of why)
unfolding lists_on
scripts_refuse least header lines c d t why before (here line rest _ _ is) =
    then_err (script_in header line) (λ s. lists_on header (before ++ s ∷ []) rest) (status_of why) c c t (t ++ line_of why) (line_refuses header c t line least why is)
scripts_refuse least header lines c d t why before (later line rest _ e _ script _ h hs) =
    then_ok (script_in header line) (λ s. lists_on header (before ++ s ∷ []) rest) script c e d t t (t ++ line_of why) (Err (status_of why))
    (line_does header c t line script e h) (scripts_refuse least header rest e d t why (before ++ script ∷ []) hs)

-- they were listed, or one was refused
pub data Listings (header : EngineTable) (lines : List ScriptLine) (before : List Script) (c : Contents) (t : List ℕ) (r : Result (List Script) Status)
    (c' : Contents) (t' : List ℕ) : Type 0 where
  all_listed : (scripts : List Script) → HasScripts header lines c scripts c' → r ≡ Ok (before ++ scripts) → t' ≡ t → Listings header lines before c t r c' t'
  one_refused : (why : Refusal) → RefusesScripts header lines c why c' → r ≡ Err (status_of why) → t' ≡ t ++ line_of why → Listings header lines before c t r c' t'

module _ (bytes_of : CodeIsBytes) (pass : UnitsPass) (units : ScriptsHaveUnits) (sure : SureLoaded) (least : LeastIsTheKept) (header : EngineTable) (table : IsTable header) where
  module _ (line : ScriptLine) (lines : List ScriptLine) (before : List Script) (c : Contents) (t : List ℕ) (r : Result (List Script) Status)
      (c' : Contents) (t' : List ℕ) (held : HoldBytes c) (whole : IsCut r → ⊥) where
    abbrev All : Type 0
    All = Listings header (line ∷ lines) before c t r c' t'

    line_ends : (status : Status) → r ≡ Err status → Lined header c t line (Err status) c' t' → All
    line_ends status is (lists script h p q) = absurd cc
    line_ends status is (refuses why h p q o) =
        one_refused why (subst (RefusesScripts header (line ∷ lines) c why) (sym q) (here line lines c why h)) (is ∙ ap Err (ap (status_or status) p)) o

    rest_listed : (script : Script) (d : Contents) (k : List ℕ) → HasLine header c line script d → k ≡ t
        → Listings header lines (before ++ script ∷ []) d k r c' t' → All
    rest_listed script d k h q (all_listed scripts hs p o) =
        all_listed (script ∷ scripts) (accepting.more line lines c d c' script scripts h hs) (p ∙ ap Ok (append_assoc before (script ∷ []) scripts)) (o ∙ q)
    rest_listed script d k h q (one_refused why hs p o) =
        one_refused why (later line lines c d c' script why h hs) p (o ∙ ap (λ x. x ++ line_of why) q)

    line_goes : (value : Script) (d : Contents) (k : List ℕ) → (HoldBytes d → Listings header lines (before ++ value ∷ []) d k r c' t')
        → Lined header c t line (Ok value) d k → All
    line_goes value d k on (lists script h p q) =
        let is : value ≡ script = ap (value_or value) p in
        let same : HasLine header c line value d = subst (λ x. HasLine header c line x d) (sym is) h in
        rest_listed value d k same q (on (line_bytes header c line bytes_of value d held same))
    line_goes value d k on (refuses why h p q o) = absurd cc

    by_parts : ((script : Script) (d : Contents) (k : List ℕ) → HoldBytes d → Does (lists_on header (before ++ script ∷ []) lines) d k r c' t'
        → Listings header lines (before ++ script ∷ []) d k r c' t')
        → Parts (script_in header line) (λ script. lists_on header (before ++ script ∷ []) lines) c t r c' t' → All
    by_parts on (ends_first h) =
        line_ends h.status h.is (line_comes pass units sure header table least c t line held (Err h.status) c' t' (λ x. whole (subst IsCut (sym h.is) x)) h.does)
    by_parts on (goes_on h) =
        line_goes h.value h.between h.taken (λ held. on h.value h.between h.taken held h.second)
        (line_comes pass units sure header table least c t line held (Ok h.value) h.between h.taken (λ x. x) h.first)

  pub scripts_come : (lines : List ScriptLine) (before : List Script) (c : Contents) (t : List ℕ) (r : Result (List Script) Status) (c' : Contents) (t' : List ℕ)
      → HoldBytes c → (IsCut r → ⊥) → Does (lists_on header before lines) c t r c' t' → Listings header lines before c t r c' t'
  unfolding lists_on
  scripts_come [] before c t r c' t' held whole (gives, s) =
      all_listed [] (subst (HasScripts header [] c []) (sym s.0) (accepting.none c)) (gives ∙ ap Ok (sym (append-nil before))) s.1
  scripts_come (line ∷ lines) before c t r c' t' held whole does =
      by_parts line lines before c t r c' t' held whole
      (λ script d k on more. scripts_come lines (before ++ script ∷ []) d k r c' t' on whole more)
      (parts (script_in header line) (λ script. lists_on header (before ++ script ∷ []) lines) c c' t t' r does)

-- a list of sources is one of their code
pub are_scripts : (header : EngineTable) (lines : List ScriptLine) (c d : Contents) (listed : List Listed) → HasSources header lines c listed d
    → HasScripts header lines c (map script_of listed) d
are_scripts header lines c d listed (accepting.none _) = accepting.none c
are_scripts header lines c d listed (accepting.more line rest _ _ unit others e h hs) =
    accepting.more line rest c (with_file c line.name unit) d (playable line (code_of unit)) (map script_of others) (accepting.source e unit h)
    (are_scripts header rest (with_file c line.name unit) d others hs)
