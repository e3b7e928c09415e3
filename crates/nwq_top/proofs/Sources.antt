-- Scripts that are compiled or refused, and files of bytecode that are checked.
use Rattle.std.proofs.Common.{arith, ◌≡◌, ◌↔◌, ◌≤◌, inl, inr, Bool, true, false, ℕ, nat_lt, List, ◌++◌, length, Some, None, Result, Ok, Err, sym, subst, ap, refl, le-ltb, lt-ltb}
use Rattle.std.proofs.lemmas.Bool.Decides.{nat_tests}
use Rattle.nwq_value.specs.Limits.{file_limit}
use Rattle.nwq_value.specs.Engine.{EngineTable}
use Rattle.nwq_outside.specs.Outside.{Contents, content}
use Rattle.nss_include.specs.declared.file.Source.{Source}
use Rattle.typing_rules.specs.declared.fault.Fault.{Fault}
use Rattle.typing_rules.specs.Nodes.{kept, IsLeast}
use Rattle.typing_rules.specs.Typed.{TypedUnit}
use Rattle.typing_rules.specs.Meaning.{TypesUnit, FaultInUnit}
use Rattle.typing_rules.specs.Verdicts.{unit_faults}
use Rattle.typing_laws.specs.FaultLaws.{OneLeastFault, LeastIsTheKept}
use Rattle.emission_rules.specs.Units.{unit_file}
use Rattle.ncs_code.specs.Plain.{PlainOp}
use Rattle.ncs_code.specs.File.{file_bytes}
use Rattle.command_work.specs.declared.cause.Cause.TheVariants as cause
use Rattle.command_work.specs.declared.flaw.CodeFlaw.TheVariants as code_flaw
use Rattle.command_work.specs.declared.status.Status.{Status}
use Rattle.command_work.specs.Refusal.{Refusal, Absent, TooLong, BadCode, line_of, status_of}
use Rattle.command_work.specs.Work.{Refused, then, Does, file_named}
use Rattle.command_work.specs.Parts.{makes_does, then_ok, then_err}
use Rattle.command_work.specs.Reading.{IsRead, IsUnread}
use Rattle.command_work.specs.Comes.{Came, cut, gives_does, refused_does, given_comes, made_comes, refusal_comes, then_comes, read_does, unread_does, file_comes}
use Rattle.command_sources.specs.Units.{PlainScript, UnitFate, Whole, Lacks, Exceeds, Faulty, IsUnitFate, grammar_symbols, unit_by, unit_of, at_spot, at_token, spot_of}
use Rattle.command_sources.specs.Units as units
use Rattle.command_sources.specs.Laws.{SureUnits}
use Rattle.command_files.specs.Codes.{code_in, code_named}
use Rattle.command_files.specs.Codes as code
use Rattle.command_files.specs.Checks.{CheckFate, IsCheckFate, check_by, checked_in, checked_named}
use Rattle.command_files.specs.Checks as check
use Rattle.command_compile.specs.Typings.{cause_of, TypingFate, IsTypingFate, typing_by, typed_in}
use Rattle.command_compile.specs.Typings as typing
use Rattle.command_compile.specs.Files.{file_by, file_in, compiled_in, compiled_named}
use Rattle.command_meaning.specs.Scripts.{IsScript}
use Rattle.nwq_top.specs.Accepting.{HasCode, ReadsCode}
use Rattle.nwq_top.specs.Refusing.{RefusesSource, lacks, exceeds, faulty, untyped, large, RefusesBinary, RefusesCode, broken}
use Rattle.nwq_top.specs.Refusing as refusing
use Rattle.nwq_top.specs.WordLaws.{OneFaultRefuses}

-- ---- the fault for which a source is refused

-- the fault that is kept of a unit with a tree is its least one
as_kept : LeastIsTheKept → (header : EngineTable) (c : Contents) (name : List ℕ) (script : PlainScript) (fault : Fault)
    → IsUnitFate (content c) name (Whole script) → (kept None (unit_faults header script.tree) ≡ Some fault) ↔ IsLeast (FaultInUnit header script.tree) fault
as_kept least header c name script fault (units.whole _ unit nest parses) = least header (grammar_symbols script.tokens) script.tree fault parses

-- two of them are one
one_here : OneLeastFault → (header : EngineTable) (c : Contents) (name : List ℕ) (script : PlainScript) (f g : Fault)
    → IsUnitFate (content c) name (Whole script) → IsLeast (FaultInUnit header script.tree) f → IsLeast (FaultInUnit header script.tree) g → f ≡ g
one_here one header c name script f g (units.whole _ unit nest parses) = one header (grammar_symbols script.tokens) script.tree f g parses

abbrev script_or : PlainScript → UnitFate → PlainScript
script_or other (Whole script) = script
script_or other (Lacks file) = other
script_or other (Exceeds file) = other
script_or other (Faulty why spot) = other

-- a source has one script, and it one least fault
pub one_fault : SureUnits → OneLeastFault → OneFaultRefuses
unfolding unit_of
one_fault sure one header c name script other f g is least is_too least_too =
    let same : script ≡ other = ap (script_or script) ((sure name).0 c (Whole script) (Whole other) is is_too) in
    (same, one_here one header c name script f g is least (subst (λ x. IsLeast (FaultInUnit header x.tree) g) (sym same) least_too))

-- ---- a source

-- the file of a script's unit
pub record IsMade (header : EngineTable) (c : Contents) (name bytes : List ℕ) : Type 0 where
  pub unit : TypedUnit
  pub script : IsScript header c name unit
  pub small : length (unit_file unit) ≤ file_limit
  pub is : bytes ≡ unit_file unit

module _ (header : EngineTable) (c : Contents) (t : List ℕ) (name : List ℕ) where
  file_does : (files : List Source) (b : Bool) (file : List ℕ) → b ≡ false → Does (file_by files b file) c t (Ok file) c t
  file_does files true file e = absurd cc
  file_does files false file e = makes_does file file c c t t refl refl refl

  file_refuses : (files : List Source) (b : Bool) (file : List ℕ) → b ≡ true
      → Does (file_by files b file) c t (Err (status_of (at_spot cause.Large (spot_of files None)))) c (t ++ line_of (at_spot cause.Large (spot_of files None)))
  file_refuses files true file e = refused_does (at_spot cause.Large (spot_of files None)) c t
  file_refuses files false file e = absurd cc

  pub source_does : (unit : TypedUnit) → IsScript header c name unit → length (unit_file unit) ≤ file_limit
      → Does (compiled_named header name) c t (Ok (unit_file unit)) c t
  unfolding compiled_named unit_of compiled_in typed_in file_in
  source_does unit h small =
      inr (record {
        found = Whole h.script;
        is = h.is;
        goes = inr (record {
          found = typing.Whole unit;
          is = typing.whole unit h.types;
          goes = file_does h.script.files (nat_lt file_limit (length (unit_file unit))) (unit_file unit) (le-ltb file_limit (length (unit_file unit)) small);
        });
      })

  pub source_refuses : LeastIsTheKept → (why : Refusal) → RefusesSource header c name why
      → Does (compiled_named header name) c t (Err (status_of why)) c (t ++ line_of why)
  unfolding compiled_named unit_of compiled_in typed_in file_in
  source_refuses least why (lacks file is) = inr (record { found = Lacks file; is = is; goes = refused_does (Absent file) c t })
  source_refuses least why (exceeds file is) = inr (record { found = Exceeds file; is = is; goes = refused_does (TooLong file) c t })
  source_refuses least why (faulty cause spot is) = inr (record { found = Faulty cause spot; is = is; goes = refused_does (at_spot cause spot) c t })
  source_refuses least why (untyped script fault is first) =
      inr (record {
        found = Whole script;
        is = is;
        goes = inr (record {
          found = typing.Faulty fault;
          is = typing.faulty fault ((as_kept least header c name script fault is).1 first);
          goes = refused_does (at_token script fault.token (cause_of fault.kind)) c t;
        });
      })
  source_refuses least why (large script unit is types more) =
      inr (record {
        found = Whole script;
        is = is;
        goes = inr (record {
          found = typing.Whole unit;
          is = typing.whole unit types;
          goes = file_refuses script.files (nat_lt file_limit (length (unit_file unit))) (unit_file unit) (lt-ltb file_limit (length (unit_file unit)) more);
        });
      })

  module _ (least : LeastIsTheKept) (r : Result (List ℕ) Status) (c' : Contents) (t' : List ℕ) where
    abbrev SourceComes : Type 0
    SourceComes = Came (IsMade header c name) (RefusesSource header c name) c t r c' t'

    stops : (why : Refusal) → RefusesSource header c name why → Does {A = List ℕ} (Refused why) c t r c' t' → SourceComes
    stops why refuses does = refusal_comes (IsMade header c name) (RefusesSource header c name) c t r c' t' why refuses does

    sized_comes : (script : PlainScript) → IsUnitFate (content c) name (Whole script) → (unit : TypedUnit) → TypesUnit header script.tree unit
        → (b : Bool) → nat_lt file_limit (length (unit_file unit)) ≡ b → Does (file_by script.files b (unit_file unit)) c t r c' t' → SourceComes
    sized_comes script is unit types true e does =
        stops (at_spot cause.Large (spot_of script.files None)) (large script unit is types (grind (arith, nat_tests))) does
    sized_comes script is unit types false e does =
        made_comes (IsMade header c name) (RefusesSource header c name) c t r c' t' (unit_file unit)
        (record { unit = unit; script = record { script = script; is = is; types = types }; small = grind (arith, nat_tests); is = refl }) does

    typed_comes : (script : PlainScript) → IsUnitFate (content c) name (Whole script) → (fate : TypingFate) → IsTypingFate header script.tree fate
        → Does (then (typing_by script fate) (file_in script.files)) c t r c' t' → SourceComes
    unfolding file_in
    typed_comes script is (typing.Whole unit) (typing.whole _ types) does = sized_comes script is unit types (nat_lt file_limit (length (unit_file unit))) refl does
    typed_comes script is (typing.Faulty fault) (typing.faulty _ first) does =
        stops (at_token script fault.token (cause_of fault.kind)) (untyped script fault is ((as_kept least header c name script fault is).0 first)) does

    whole_comes : (script : PlainScript) → IsUnitFate (content c) name (Whole script) → Does (compiled_in header script) c t r c' t' → SourceComes
    unfolding compiled_in typed_in
    whole_comes script is (inl x) = cut x.0
    whole_comes script is (inr h) = typed_comes script is h.found h.is h.goes

    unit_comes : (fate : UnitFate) → IsUnitFate (content c) name fate → Does (then (unit_by fate) (compiled_in header)) c t r c' t' → SourceComes
    unit_comes (Whole script) is does = whole_comes script is does
    unit_comes (Lacks file) is does = stops (Absent file) (lacks file is) does
    unit_comes (Exceeds file) is does = stops (TooLong file) (exceeds file is) does
    unit_comes (Faulty why spot) is does = stops (at_spot why spot) (faulty why spot is) does

    pub source_comes : Does (compiled_named header name) c t r c' t' → SourceComes
    unfolding compiled_named unit_of
    source_comes (inl x) = cut x.0
    source_comes (inr h) = unit_comes h.found h.is h.goes

-- ---- a file of bytecode

module _ (c : Contents) (t : List ℕ) (name : List ℕ) where
  pub ops_do : (ops : List PlainOp) → ReadsCode c name ops → Does (code_named name) c t (Ok ops) c t
  unfolding code_named code_in
  ops_do ops h =
      then_ok (file_named name) (code_in name) (file_bytes ops) c c c t t t (Ok ops) (read_does c t name (file_bytes ops) h.read)
      (inr (record { found = code.Whole ops; is = code.whole ops h.code refl; goes = gives_does ops c t }))

  pub ops_refuse : (why : Refusal) → RefusesCode c name why → Does (code_named name) c t (Err (status_of why)) c (t ++ line_of why)
  unfolding code_named code_in
  ops_refuse why (refusing.unread _ is) = then_err (file_named name) (code_in name) (status_of why) c c t (t ++ line_of why) (unread_does c t name why is)
  ops_refuse why (broken bytes is flaw fate) =
      then_ok (file_named name) (code_in name) bytes c c c t t (t ++ line_of why) (Err (status_of why)) (read_does c t name bytes is)
      (inr (record { found = code.Faulty flaw; is = fate; goes = refused_does (BadCode name flaw) c t }))

  module _ (r : Result (List PlainOp) Status) (c' : Contents) (t' : List ℕ) where
    abbrev OpsCome : Type 0
    OpsCome = Came (ReadsCode c name) (RefusesCode c name) c t r c' t'

    ops_by : (bytes : List ℕ) → IsRead c name bytes → (fate : code.CodeFate) → code.IsCodeFate bytes fate → Does (code.code_by name fate) c t r c' t' → OpsCome
    ops_by bytes is (code.Whole ops) (code.whole _ whole same) does =
        given_comes (ReadsCode c name) (RefusesCode c name) c t r c' t' ops (record { read = subst (IsRead c name) same is; code = whole }) does
    ops_by bytes is (code.Faulty why) fate does =
        refusal_comes (ReadsCode c name) (RefusesCode c name) c t r c' t' (BadCode name why) (broken bytes is why fate) does

    ops_in : (bytes : List ℕ) → IsRead c name bytes → Does (code_in name bytes) c t r c' t' → OpsCome
    unfolding code_in
    ops_in bytes is (inl x) = cut x.0
    ops_in bytes is (inr h) = ops_by bytes is h.found h.is h.goes

    pub ops_come : Does (code_named name) c t r c' t' → OpsCome
    unfolding code_named
    ops_come does =
        then_comes (file_named name) (code_in name) (IsRead c name) (IsUnread c name) (ReadsCode c name) (RefusesCode c name) c t r c' t' (file_comes c t name) ops_in refusing.unread does

module _ (header : EngineTable) (c : Contents) (t : List ℕ) (name : List ℕ) where
  pub binary_does : (ops : List PlainOp) → HasCode header c name ops → Does (checked_named header name) c t (Ok ops) c t
  unfolding checked_named checked_in
  binary_does ops h =
      then_ok (code_named name) (checked_in header name) ops c c c t t t (Ok ops) (ops_do c t name ops (record { read = h.read; code = h.code }))
      (inr (record { found = check.Passes; is = check.passes h.stacked; goes = gives_does ops c t }))

  pub binary_refuses : (why : Refusal) → RefusesBinary header c name why → Does (checked_named header name) c t (Err (status_of why)) c (t ++ line_of why)
  unfolding checked_named checked_in
  binary_refuses why (refusing.unread _ is) =
      then_err (code_named name) (checked_in header name) (status_of why) c c t (t ++ line_of why) (ops_refuse c t name why (refusing.unread why is))
  binary_refuses why (refusing.faulty bytes is flaw fate) =
      then_err (code_named name) (checked_in header name) (status_of why) c c t (t ++ line_of why) (ops_refuse c t name why (broken bytes is flaw fate))
  binary_refuses why (refusing.unstacked ops is whole none) =
      then_ok (code_named name) (checked_in header name) ops c c c t t (t ++ line_of why) (Err (status_of why)) (ops_do c t name ops (record { read = is; code = whole }))
      (inr (record { found = check.Unstacked; is = check.unstacked none; goes = refused_does (BadCode name code_flaw.Unstacked) c t }))

  denied : (why : Refusal) → RefusesCode c name why → RefusesBinary header c name why
  denied why (refusing.unread _ is) = refusing.unread why is
  denied why (broken bytes is flaw fate) = refusing.faulty bytes is flaw fate

  module _ (r : Result (List PlainOp) Status) (c' : Contents) (t' : List ℕ) where
    abbrev BinaryComes : Type 0
    BinaryComes = Came (HasCode header c name) (RefusesBinary header c name) c t r c' t'

    check_comes : (ops : List PlainOp) → ReadsCode c name ops → (fate : CheckFate) → IsCheckFate header ops fate → Does (check_by name ops fate) c t r c' t' → BinaryComes
    check_comes ops h check.Passes (check.passes stacked) does =
        given_comes (HasCode header c name) (RefusesBinary header c name) c t r c' t' ops (record { read = h.read; code = h.code; stacked = stacked }) does
    check_comes ops h check.Unstacked (check.unstacked none) does =
        refusal_comes (HasCode header c name) (RefusesBinary header c name) c t r c' t' (BadCode name code_flaw.Unstacked)
        (refusing.unstacked ops h.read h.code none) does

    checked_comes : (ops : List PlainOp) → ReadsCode c name ops → Does (checked_in header name ops) c t r c' t' → BinaryComes
    unfolding checked_in
    checked_comes ops h (inl x) = cut x.0
    checked_comes ops h (inr k) = check_comes ops h k.found k.is k.goes

    pub binary_comes : Does (checked_named header name) c t r c' t' → BinaryComes
    unfolding checked_named
    binary_comes does =
        then_comes (code_named name) (checked_in header name) (ReadsCode c name) (RefusesCode c name) (HasCode header c name) (RefusesBinary header c name) c t r c' t'
        (ops_come c t name) checked_comes denied does
