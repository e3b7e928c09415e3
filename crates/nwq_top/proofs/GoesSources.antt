-- Headers and scripts come to an end that is no cut, and so do the commands that compile.
use Rattle.std.proofs.Common.{◌≡◌, ◌⊎◌, inl, inr, ℕ, ◌≤◌, nat_lt, Bool, true, false, List, [], length, codes, bytes_eq, Option, Some, None, Result, Ok, Err, refl, sym, subst, arith, ltb-false}
use Rattle.std.proofs.lemmas.Cmp.{nat_list_cmp_total}
use Rattle.std.specs.FinMap as map
use Rattle.nwq_value.specs.Limits.{file_limit}
use Rattle.nwq_value.specs.Engine.{EngineTable, IsTable}
use Rattle.nwq_value.specs.HeaderTable.{header_table}
use Rattle.nwq_outside.specs.Outside.{Contents, ContentsAreBytes, content}
use Rattle.nss_lexer.specs.Splitting.{Lexeme, SomeSplit}
use Rattle.nss_tree.specs.Source.{SourceTree}
use Rattle.nss_symbols.specs.Nest.{IsFirstOver, IsWithinNest}
use Rattle.nss_parser.specs.Sentence.{IsPlace, Parses, TreeOrPlace}
use Rattle.nss_include.specs.declared.fault.GatherFault.{GatherFault}
use Rattle.nss_include.specs.declared.fault.GatherFault.TheVariants as gather
use Rattle.nss_include.specs.declared.file.Source.{Source}
use Rattle.nss_include.specs.Units.{IsUnit}
use Rattle.engine_table.specs.declared.fault.HeaderFault.{HeaderFault}
use Rattle.engine_table.specs.declared.fault.HeaderFault.TheVariants as header_fault
use Rattle.engine_table.specs.Headers.{OneHeader, IsAnswer}
use Rattle.engine_table.specs.KeptTables.{HeadersHaveTables, BuiltInIsTable}
use Rattle.typing_rules.specs.declared.fault.Fault.{Fault}
use Rattle.typing_rules.specs.Nodes.{kept}
use Rattle.typing_rules.specs.Typed.{TypedUnit}
use Rattle.typing_rules.specs.Meaning.{TypesUnit}
use Rattle.typing_rules.specs.Verdicts.{unit_faults}
use Rattle.typing_rules.specs.Laws.{VerdictsAreRight, NoneKeptIsTyped}
use Rattle.emission_rules.specs.Units.{unit_file}
use Rattle.ncs_code.specs.Plain.{PlainOp}
use Rattle.world_rules.specs.Pure.{CellLookup}
use Rattle.world_rules.specs.Plays.{PlayEnd}
use Rattle.world_rules.specs.Plays as plays
use Rattle.play_generator.specs.Made.{number_limit, play_of}
use Rattle.generator_laws.specs.Scripts.{SourcesCompile}
use Rattle.command_work.specs.declared.cause.Cause.TheVariants as cause
use Rattle.command_work.specs.Work.{file_named, puts, writes}
use Rattle.command_work.specs.Reading.{IsRead}
use Rattle.command_sources.specs.Headers.{HeaderFate, IsHeaderFate, table_by, table_in, table_named, table_unless, table_of_word}
use Rattle.command_sources.specs.Headers as headers
use Rattle.command_sources.specs.Units.{PlainScript, UnitFate, IsUnitFate, grammar_symbols, unit_by, unit_of, spot_at}
use Rattle.command_sources.specs.Units as units
use Rattle.command_files.specs.Codes.{code_in}
use Rattle.command_files.specs.Codes as code
use Rattle.command_files.specs.Checks.{checked_in, loaded_in}
use Rattle.command_files.specs.Checks as check
use Rattle.command_files.specs.Commands.{writes_and_puts}
use Rattle.command_compile.specs.Typings.{typed_in}
use Rattle.command_compile.specs.Typings as typing
use Rattle.command_compile.specs.Files.{file_by, file_in, compiled_in, compiled_named, code_name, compiled_line, writes_code, compiles_under, compiles}
use Rattle.command_plays.specs.Plays.{ends_by}
use Rattle.command_plays.specs.Scripts.{plays_code, plays_file}
use Rattle.command_run.specs.Runs.{runs_under, runs}
use Rattle.command_generate.specs.Generated.{source_compiled, plays_made, checks_made, generates}
use Rattle.command_meaning.specs.Units.{code_of, Passes, UnitsPass}
use Rattle.command_meaning.specs.Scripts.{HoldBytes, IsScript, ScriptsHaveUnits}
use Rattle.nwq_top.specs.Accepting.{HasHeader, built_in, read}
use Rattle.nwq_top.specs.Generated.{made_files}
use Rattle.nwq_top.proofs.Headers.{is_table}
use Rattle.nwq_top.proofs.Sources.{IsMade, source_does}
use Rattle.nwq_top.proofs.MadeSource.{made_bytes}
use Rattle.nwq_top.proofs.Running.{source_bytes}
use Rattle.nwq_top.proofs.UnitFates.{IsTold, unit_comes, nest_comes}
use Rattle.nwq_top.proofs.Going.{Goes, Anything, Still, goes_next, file_goes}

-- ---- a header

module _ (header : OneHeader) where
  fault_fated : (bytes : List ℕ) (f : HeaderFault) → IsAnswer bytes (Err f) → (fate : HeaderFate) × IsHeaderFate bytes fate
  fault_fated bytes (header_fault.Bad place) h = (headers.Faulty cause.Bad place, headers.bad place h.1)
  fault_fated bytes (header_fault.Header place) h = (headers.Faulty cause.Header place, headers.header place h.1)
  fault_fated bytes (header_fault.Twice place) h = (headers.Faulty cause.Twice place, headers.twice place h.1)
  fault_fated bytes (header_fault.Many place) h = (headers.Faulty cause.Many place, headers.many place h.1)
  fault_fated bytes header_fault.NoMemory h = absurd (h.0 refl)

  answer_fated : (bytes : List ℕ) (answer : Result EngineTable HeaderFault) → IsAnswer bytes answer → (fate : HeaderFate) × IsHeaderFate bytes fate
  answer_fated bytes (Ok table) h = (headers.Whole table, headers.whole table h)
  answer_fated bytes (Err f) h = fault_fated bytes f h

  pub header_fated : (bytes : List ℕ) → (fate : HeaderFate) × IsHeaderFate bytes fate
  header_fated bytes = let a = header.some_answer bytes in answer_fated bytes a.0 a.1

  module _ (word : List ℕ) (c : Contents) where
    fate_goes : bytes_eq word (codes "-") ≡ false → (bytes : List ℕ) → IsRead c word bytes → (fate : HeaderFate) → IsHeaderFate bytes fate
        → Goes (table_by word bytes fate) c (Still c (HasHeader c word))
    fate_goes e bytes is (headers.Whole table) (headers.whole _ has) = (refl, read e bytes is table has)
    fate_goes e bytes is (headers.Faulty why place) h = tt

    in_goes : bytes_eq word (codes "-") ≡ false → (bytes : List ℕ) (d : Contents) → Still c (IsRead c word) bytes d → Goes (table_in word bytes) d (Still c (HasHeader c word))
    unfolding table_in
    in_goes e bytes d (same, is) =
        let f = header_fated bytes in
        (f.0, f.1, subst (λ x. Goes (table_by word bytes f.0) x (Still c (HasHeader c word))) (sym same) (fate_goes e bytes is f.0 f.1))

    unless_goes : (b : Bool) → bytes_eq word (codes "-") ≡ b → Goes (table_unless b word) c (Still c (HasHeader c word))
    unfolding table_named
    unless_goes true e = (header_table, refl, (refl, built_in e))
    unless_goes false e =
        goes_next (file_named word) (table_in word) c (Still c (IsRead c word)) (Still c (HasHeader c word)) (file_goes word c) (in_goes e)

    pub table_goes : Goes (table_of_word word) c (Still c (HasHeader c word))
    unfolding table_of_word
    table_goes = unless_goes (bytes_eq word (codes "-")) refl

-- ---- a script's unit

module _ (some : SomeSplit) (trees : TreeOrPlace) (name : List ℕ) (c : Contents) where
  -- the script is one that the files hold
  abbrev IsHeld : PlainScript → Type 0
  IsHeld script = IsUnitFate (content c) name (units.Whole script)

  abbrev UnitGoes : UnitFate → Type 0
  UnitGoes fate = Goes (unit_by fate) c (Still c IsHeld)

  abbrev Fated : Type 0
  Fated = (fate : UnitFate) × IsUnitFate (content c) name fate × UnitGoes fate

  module _ (tokens : List Lexeme) (files : List Source) (unit : IsUnit (content c) name tokens files None) where
    tree_fated : IsWithinNest (grammar_symbols tokens)
        → ((x : SourceTree) × Parses (grammar_symbols tokens) x) ⊎ ((i : ℕ) × IsPlace (grammar_symbols tokens) i) → Fated
    tree_fated within (inl (tree, parses)) =
        let is : IsUnitFate (content c) name (units.Whole (record { tokens = tokens; files = files; tree = tree })) =
        units.whole (record { tokens = tokens; files = files; tree = tree }) unit within parses in
        (units.Whole (record { tokens = tokens; files = files; tree = tree }), is, (refl, is))
    tree_fated within (inr (i, place)) = (units.Faulty cause.Syntax (spot_at files tokens i), units.syntax tokens files i unit within place, tt)

    nest_fated : IsWithinNest (grammar_symbols tokens) ⊎ ((i : ℕ) × IsFirstOver (grammar_symbols tokens) i) → Fated
    nest_fated (inl within) = tree_fated within (trees (grammar_symbols tokens))
    nest_fated (inr (i, over)) = (units.Faulty cause.Nested (spot_at files tokens i), units.nested tokens files i unit over, tt)

    whole_fated : Fated
    whole_fated = nest_fated (nest_comes (grammar_symbols tokens))

  unit_fated : (tokens : List Lexeme) (files : List Source) (ending : Option GatherFault) → IsUnit (content c) name tokens files ending → IsTold ending → Fated
  unit_fated tokens files None unit told = whole_fated tokens files unit
  unit_fated tokens files (Some (gather.Missing file)) unit told = (units.Lacks file, units.lacks tokens files file unit, tt)
  unit_fated tokens files (Some (gather.Long file)) unit told = (units.Exceeds file, units.exceeds tokens files file unit, tt)
  unit_fated tokens files (Some gather.Fault) unit told = absurd told
  unit_fated tokens files (Some (gather.Bad spot)) unit told = (units.Faulty cause.Bad spot, units.bad tokens files spot unit, tt)
  unit_fated tokens files (Some (gather.Tokens spot)) unit told = (units.Faulty cause.Tokens spot, units.many tokens files spot unit, tt)
  unit_fated tokens files (Some (gather.Include spot)) unit told = (units.Faulty cause.Include spot, units.include tokens files spot unit, tt)
  unit_fated tokens files (Some gather.NoMemory) unit told = absurd told

  unit_goes : Goes (unit_of name) c (Still c IsHeld)
  unfolding unit_of
  unit_goes = let u = unit_comes some (content c) name in unit_fated u.tokens u.files u.ending u.is u.told

-- ---- its typed unit, and its file

module _ (right : VerdictsAreRight) (settled : NoneKeptIsTyped) (header : EngineTable) where
  typing_by_kept : (script : PlainScript) (c : Contents) (o : Option Fault) → kept None (unit_faults header script.tree) ≡ o
      → Goes (typed_in header script) c (Still c (TypesUnit header script.tree))
  unfolding typed_in
  typing_by_kept script c None e =
      let t = settled header script.tree e in
      let types : TypesUnit header script.tree t.0 = (right header script.tree t.0).0 t.1 in
      (typing.Whole t.0, typing.whole t.0 types, (refl, types))
  typing_by_kept script c (Some fault) e = (typing.Faulty fault, typing.faulty fault e, tt)

  sized_goes : (files : List Source) (unit : TypedUnit) (name : List ℕ) (c : Contents) → IsScript header c name unit → (b : Bool) → nat_lt file_limit (length (unit_file unit)) ≡ b
      → Goes (file_by files b (unit_file unit)) c (Still c (IsMade header c name))
  sized_goes files unit name c is true e = tt
  sized_goes files unit name c is false e =
      (unit_file unit, refl, (refl, record { unit = unit; script = is; small = ltb-false file_limit (length (unit_file unit)) e; is = refl }))

  module _ (some : SomeSplit) (trees : TreeOrPlace) (name : List ℕ) (c : Contents) where
    typed_goes : (script : PlainScript) → IsUnitFate (content c) name (units.Whole script) → (unit : TypedUnit) (d : Contents) → Still c (TypesUnit header script.tree) unit d
        → Goes (file_in script.files unit) d (Still c (IsMade header c name))
    unfolding file_in
    typed_goes script is unit d (same, types) =
        subst (λ x. Goes (file_in script.files unit) x (Still c (IsMade header c name))) (sym same)
        (sized_goes script.files unit name c (record { script = script; is = is; types = types }) (nat_lt file_limit (length (unit_file unit))) refl)

    script_goes : (script : PlainScript) (d : Contents) → Still c (λ s. IsUnitFate (content c) name (units.Whole s)) script d
        → Goes (compiled_in header script) d (Still c (IsMade header c name))
    unfolding compiled_in
    script_goes script d (same, is) =
        subst (λ x. Goes (compiled_in header script) x (Still c (IsMade header c name))) (sym same)
        (goes_next (typed_in header script) (file_in script.files) c (Still c (TypesUnit header script.tree)) (Still c (IsMade header c name))
        (typing_by_kept script c (kept None (unit_faults header script.tree)) refl) (typed_goes script is))

    pub compiled_goes : Goes (compiled_named header name) c (Still c (IsMade header c name))
    unfolding compiled_named
    compiled_goes =
        goes_next (unit_of name) (compiled_in header) c (Still c (λ s. IsUnitFate (content c) name (units.Whole s))) (Still c (IsMade header c name))
        (unit_goes some trees name c) script_goes

pub loaded_goes : (header : EngineTable) (file : List ℕ) (unit : TypedUnit) (d : Contents) → Passes header unit
    → Goes (loaded_in header file (unit_file unit)) d (Still d (λ ops. ops ≡ code_of unit))
unfolding loaded_in code_in checked_in
loaded_goes header file unit d pass =
    (code.Whole (code_of unit), code.whole (code_of unit) pass.loads refl, (check.Passes, check.passes pass.stacked, (refl, refl)))

-- ---- what is told last

end_goes : (e : PlayEnd) (c : Contents) → Goes (ends_by e) c Anything
end_goes plays.Done c = tt
end_goes plays.OutOfEntries c = λ x. x
end_goes plays.StoppedInside c = λ x. x
end_goes plays.Paused c = tt

-- ---- the commands

module _ (header : OneHeader) (some : SomeSplit) (trees : TreeOrPlace) (right : VerdictsAreRight) (settled : NoneKeptIsTyped) (pass : UnitsPass) (have : ScriptsHaveUnits)
    (reads : HeadersHaveTables) (own : BuiltInIsTable) where
  pub made_passes : (table : EngineTable) (c : Contents) (name bytes : List ℕ) → IsTable table → HoldBytes c → (made : IsMade table c name bytes) → Passes table made.unit
  made_passes table c name bytes kept held made = pass table made.unit kept (have table c name made.unit held made.script) made.small

  module _ (cell : CellLookup) (word script : List ℕ) (c : Contents) (held : ContentsAreBytes c) where
    played_goes : (table : EngineTable) (name : List ℕ) (ops : List PlainOp) (d : Contents) → Goes (plays_code cell table name ops) d Anything
    unfolding plays_code
    played_goes table name ops d = end_goes _ d

    run_file_goes : (table : EngineTable) → HasHeader c word table → (bytes : List ℕ) (d : Contents) → Still c (IsMade table c script) bytes d
        → Goes (plays_file cell table script (code_name script) bytes) d Anything
    unfolding plays_file
    run_file_goes table has bytes d (same, made) =
        goes_next (loaded_in table (code_name script) bytes) (plays_code cell table script) d (Still d (λ ops. ops ≡ code_of made.unit)) Anything
        (subst (λ b. Goes (loaded_in table (code_name script) b) d (Still d (λ ops. ops ≡ code_of made.unit))) (sym made.is)
        (loaded_goes table (code_name script) made.unit d
        (made_passes table c script bytes (is_table reads own c word table held has) (source_bytes c held) made)))
        (λ ops e is. played_goes table script ops e)

    run_script_goes : (table : EngineTable) (d : Contents) → Still c (HasHeader c word) table d → Goes (runs_under cell script table) d Anything
    unfolding runs_under
    run_script_goes table d (same, has) =
        subst (λ x. Goes (runs_under cell script table) x Anything) (sym same)
        (goes_next (compiled_named table script) (plays_file cell table script (code_name script)) c (Still c (IsMade table c script)) Anything
        (compiled_goes right settled table some trees script c) (run_file_goes table has))

    pub run_goes : Goes (runs cell word script) c Anything
    unfolding runs
    run_goes = goes_next (table_of_word word) (runs_under cell script) c (Still c (HasHeader c word)) Anything (table_goes header word c) run_script_goes

  written_goes : (name bytes line : List ℕ) (c : Contents) → Goes (writes_and_puts name bytes line) c Anything
  unfolding writes_and_puts writes puts
  written_goes name bytes line c = tt

  module _ (word script : List ℕ) (c : Contents) where
    compile_script_goes : (table : EngineTable) (d : Contents) → Still c (HasHeader c word) table d → Goes (compiles_under script table) d Anything
    unfolding compiles_under
    compile_script_goes table d (same, has) =
        goes_next (compiled_named table script) (writes_code script) d (Still d (IsMade table d script)) Anything
        (compiled_goes right settled table some trees script d) (λ bytes e is. written_goes (code_name script) bytes (compiled_line (code_name script) (length bytes)) e)

    pub compile_goes : Goes (compiles word script) c Anything
    unfolding compiles
    compile_goes = goes_next (table_of_word word) (compiles_under script) c (Still c (HasHeader c word)) Anything (table_goes header word c) compile_script_goes

  module _ (made : SourcesCompile) (cell : CellLookup) (n : ℕ) (few : n ≤ number_limit) where
    source_held : content (made_files n) (codes "beat.nss") ≡ Some (play_of n).source
    source_held = map.get-insert nat_list_cmp_total map.empty (codes "beat.nss") (play_of n).source (codes "beat.nss")

    pub generate_goes : (c : Contents) → Goes (generates cell n) c Anything
    unfolding generates source_compiled checks_made plays_made
    generate_goes c =
        let b = made n (made_files n) few source_held in
        let script : IsScript header_table (made_files n) (codes "beat") b.unit = record { script = b.script; is = b.is; types = b.types } in
        let passes : Passes header_table b.unit = pass header_table b.unit own (have header_table (made_files n) (codes "beat") b.unit (made_bytes n (omega (arith, few))) script) b.small in (
          unit_file b.unit,
          record { text = []; compiled = source_does header_table (made_files n) [] (codes "beat") b.unit script b.small },
          goes_next (loaded_in header_table (codes "beat.ncs") (unit_file b.unit)) (plays_made cell n) c (Still c (λ ops. ops ≡ code_of b.unit)) Anything
              (loaded_goes header_table (codes "beat.ncs") b.unit c passes) (λ ops e is. end_goes _ e),
        )
