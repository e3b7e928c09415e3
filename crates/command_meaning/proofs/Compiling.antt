-- A script that is compiled has a typed unit, of which its file is.
use Rattle.std.proofs.Common.{◌≡◌, ◌≤◌, ◌⊎◌, inl, inr, ℕ, List, length, Bool, true, false, nat_lt, Result, Ok, None, subst, ap, ◌∙◌, refl, arith}
use Rattle.std.proofs.lemmas.Bool.Decides.{nat_tests}
use Rattle.nwq_value.specs.Limits.{file_limit}
use Rattle.nwq_value.specs.Engine.{EngineTable, IsTable}
use Rattle.nwq_outside.specs.Outside.{Contents, content}
use Rattle.nss_lexer.specs.Strings.{ValuesAreBytes}
use Rattle.typing_rules.specs.Typed.{TypedUnit}
use Rattle.typing_rules.specs.Meaning.{TypesUnit}
use Rattle.nss_include.specs.declared.file.Source.{Source}
use Rattle.emission_rules.specs.Units.{unit_file}
use Rattle.world_rules.specs.Pure.{CellLookup}
use Rattle.command_work.specs.declared.status.Status.{Status}
use Rattle.command_work.specs.Work.{then, Stays, Does, Finished}
use Rattle.command_work.specs.Parts.{value_or}
use Rattle.command_work.specs.Sequences.{Parts, ends_first, goes_on, parts}
use Rattle.command_sources.specs.Units.{PlainScript, UnitFate, Whole, Lacks, Exceeds, Faulty, IsUnitFate, whole, unit_by, unit_of}
use Rattle.command_compile.specs.Typings.{TypingFate, Whole as IsTyped, Faulty as Misfits, IsTypingFate, whole as typed, typing_by, typed_in}
use Rattle.command_compile.specs.Files.{file_by, file_in, compiled_in, compiled_named}
use Rattle.command_plays.specs.Scripts.{plays_file}
use Rattle.command_meaning.specs.Units.{IsUnitOf}
use Rattle.command_meaning.specs.Scripts.{HoldBytes, IsScript, ScriptsHaveUnits, EndsCompiling, PlaysScript, ScriptsPlayUnits}
use Rattle.command_meaning.proofs.Gathered.{unit_known}

-- ---- the unit of a script

gathered : ValuesAreBytes → (header : EngineTable) (c : Contents) (name : List ℕ) (u : TypedUnit) → HoldBytes c → (script : PlainScript)
    → TypesUnit header script.tree u → IsUnitFate (content c) name (Whole script) → IsUnitOf header u
gathered values header c name u held script types (whole _ unit nest parses) =
    let known = unit_known values (content c) held name script.tokens script.files None unit in
    record { tokens = _; tree = script.tree; few = known.0; literals = known.1; parses = parses; types = types }

pub scripts_have_units : ValuesAreBytes → ScriptsHaveUnits
scripts_have_units values header c name u held h = gathered values header c name u held h.script h.types h.is

-- ---- a script's file

record Compiled (header : EngineTable) (c : Contents) (name bytes : List ℕ) : Type 0 where
  unit : TypedUnit
  is : IsScript header c name unit
  bytes_are : bytes ≡ unit_file unit
  small : length (unit_file unit) ≤ file_limit

module _ (header : EngineTable) (c : Contents) (name bytes : List ℕ) (t : List ℕ) (c' : Contents) (t' : List ℕ) where
  abbrev Makes : Type 0
  Makes = Compiled header c name bytes × Stays c c' t t'

  made_small : (files : List Source) (u : TypedUnit) (script : PlainScript) → IsUnitFate (content c) name (Whole script) → TypesUnit header script.tree u
      → (b : Bool) → nat_lt file_limit (length (unit_file u)) ≡ b → Does (file_by files b (unit_file u)) c t (Ok bytes) c' t' → Makes
  made_small files u script is types true large (inl refused, s) = absurd cc
  made_small files u script is types true large (inr cut, s) = absurd cut.0
  made_small files u script is types false small (inl cut) = absurd cut.0
  made_small files u script is types false small (inr h) = (
    record {
      unit = u;
      is = record { script = script; is = is; types = types };
      bytes_are = ap (value_or bytes) h.goes.0 ∙ h.is;
      small = grind (arith, nat_tests);
    },
    h.goes.1,
  )

  made_file : (files : List Source) (u : TypedUnit) (script : PlainScript) → IsUnitFate (content c) name (Whole script) → TypesUnit header script.tree u
      → Does (file_in files u) c t (Ok bytes) c' t' → Makes
  unfolding file_in
  made_file files u script is types does = made_small files u script is types (nat_lt file_limit (length (unit_file u))) refl does

  made_typed : (script : PlainScript) → IsUnitFate (content c) name (Whole script) → (fate : TypingFate) → IsTypingFate header script.tree fate
      → Does (then (typing_by script fate) (file_in script.files)) c t (Ok bytes) c' t' → Makes
  made_typed script is (IsTyped u) (typed _ types) does = made_file script.files u script is types does
  made_typed script is (Misfits fault) fits (inl refused, s) = absurd cc
  made_typed script is (Misfits fault) fits (inr cut, s) = absurd cut.0

  made_whole : (script : PlainScript) → IsUnitFate (content c) name (Whole script) → Does (compiled_in header script) c t (Ok bytes) c' t' → Makes
  unfolding compiled_in typed_in
  made_whole script is (inl cut) = absurd cut.0
  made_whole script is (inr h) = made_typed script is h.found h.is h.goes

  made_by : (fate : UnitFate) → IsUnitFate (content c) name fate → Does (then (unit_by fate) (compiled_in header)) c t (Ok bytes) c' t' → Makes
  made_by (Whole script) is does = made_whole script is does
  made_by (Lacks file) is (inl refused, s) = absurd cc
  made_by (Lacks file) is (inr cut, s) = absurd cut.0
  made_by (Exceeds file) is (inl refused, s) = absurd cc
  made_by (Exceeds file) is (inr cut, s) = absurd cut.0
  made_by (Faulty why spot) is (inl refused, s) = absurd cc
  made_by (Faulty why spot) is (inr cut, s) = absurd cut.0

  compiled : Does (compiled_named header name) c t (Ok bytes) c' t' → Makes
  unfolding compiled_named unit_of
  compiled (inl cut) = absurd cut.0
  compiled (inr h) = made_by h.found h.is h.goes

-- ---- a script that is played

module _ (cell : CellLookup) (header : EngineTable) (name file : List ℕ) (c : Contents) (t : List ℕ) (r : Result Finished Status) (c' : Contents) (t' : List ℕ)
    (units : ScriptsHaveUnits) (table : IsTable header) (held : HoldBytes c) where
  play_made : (between : Contents) (taken bytes : List ℕ) → Compiled header c name bytes → Stays c between t taken
      → Does (plays_file cell header name file bytes) between taken r c' t' → PlaysScript cell header name c t r c' t'
  play_made between taken bytes made stays does = record {
    unit = made.unit;
    script = made.is;
    plays = record {
      table = table;
      unit = units header c name made.unit held made.is;
      small = made.small;
      file = file;
      does = subst (λ (b : List ℕ). Does (plays_file cell header name file b) c t r c' t') made.bytes_are
          (subst (λ (d : Contents). Does (plays_file cell header name file bytes) d t r c' t') stays.0
          (subst (λ (k : List ℕ). Does (plays_file cell header name file bytes) between k r c' t') stays.1 does));
    };
  }

  play_parts : Parts (compiled_named header name) (plays_file cell header name file) c t r c' t' → EndsCompiling header name c t r c' t' ⊎ PlaysScript cell header name c t r c' t'
  play_parts (ends_first h) = inl (record { status = h.status; is = h.is; does = h.does })
  play_parts (goes_on h) =
      let made = compiled header c name h.value t h.between h.taken h.first in
      inr (play_made h.between h.taken h.value made.0 made.1 h.second)

pub scripts_play_units : ScriptsHaveUnits → ScriptsPlayUnits
scripts_play_units units cell header name file c t r c' t' table held does =
    play_parts cell header name file c t r c' t' units table held (parts (compiled_named header name) (plays_file cell header name file) c c' t t' r does)
