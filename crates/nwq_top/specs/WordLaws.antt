-- What the work of words means, where the files hold bytes and the work isn't cut, and that typing
-- refuses a source at one fault. Each stands on the contract of a function of `word_laws`.
use Rattle.std.specs.Prelude.{◌≡◌, ◌≤◌, ℕ, List, Result}
use Rattle.nwq_value.specs.Engine.{EngineTable}
use Rattle.nwq_outside.specs.Outside.{Contents, ContentsAreBytes, content}
use Rattle.typing_rules.specs.declared.fault.Fault.{Fault}
use Rattle.typing_rules.specs.Nodes.{IsLeast}
use Rattle.typing_rules.specs.Meaning.{FaultInUnit}
use Rattle.world_rules.specs.Pure.{CellLookup}
use Rattle.play_generator.specs.Made.{number_limit}
use Rattle.command_work.specs.declared.status.Status.{Status}
use Rattle.command_work.specs.Work.{then, IsCut, Does, Finished}
use Rattle.command_sources.specs.Headers.{table_of_word}
use Rattle.command_sources.specs.Units.{PlainScript, Whole, IsUnitFate}
use Rattle.command_compile.specs.Files.{code_name, compiled_named, compiles}
use Rattle.command_plays.specs.Scripts.{plays_file}
use Rattle.command_play.specs.Games.{plays}
use Rattle.command_save.specs.Saves.{saves}
use Rattle.command_save.specs.Resumes.{resumes}
use Rattle.command_generate.specs.Generated.{generates}
use Rattle.nwq_top.specs.Runs.{MeansRun, MeansCompile}
use Rattle.nwq_top.specs.Plays.{MeansPlay}
use Rattle.nwq_top.specs.Saves.{MeansSave, MeansResume}
use Rattle.nwq_top.specs.Generated.{MeansGenerate}

-- a header is read, a script compiled under it, and its file, which isn't written, is played
abbrev pub RunsMean : Type 0
RunsMean =
    (cell : CellLookup) (header script : List ℕ) (c : Contents) (t : List ℕ)
    (r : Result Finished Status) (c' : Contents) (t' : List ℕ) → ContentsAreBytes c
    → (IsCut r → ⊥)
    → Does (then (table_of_word header)
    (λ table. then (compiled_named table script)
    (plays_file cell table script (code_name script)))) c t r c' t'
    → MeansRun cell header script c t r c' t'

-- a script is compiled, and its file written
abbrev pub CompilesMean : Type 0
CompilesMean =
    (header script : List ℕ) (c : Contents) (t : List ℕ) (r : Result Finished Status)
    (c' : Contents) (t' : List ℕ) → ContentsAreBytes c → (IsCut r → ⊥)
    → Does (compiles header script) c t r c' t' → MeansCompile header script c t r c' t'

-- a plan is played over an area
abbrev pub PlaysMean : Type 0
PlaysMean =
    (cell : CellLookup) (header area plan to : List ℕ) (c : Contents) (t : List ℕ)
    (r : Result Finished Status) (c' : Contents) (t' : List ℕ) → ContentsAreBytes c
    → (IsCut r → ⊥)
    → Does (plays cell header area plan to) c t r c' t'
    → MeansPlay cell header area plan to c t r c' t'

-- the first entries of a plan are played over an area, and the play's state is saved
abbrev pub SavesMean : Type 0
SavesMean =
    (cell : CellLookup) (header area plan : List ℕ) (n : ℕ) (name : List ℕ) (c : Contents)
    (t : List ℕ) (r : Result Finished Status) (c' : Contents) (t' : List ℕ)
    → ContentsAreBytes c → (IsCut r → ⊥) → Does (saves cell header area plan n name) c t r c' t'
    → MeansSave cell header area plan n name c t r c' t'

-- a play goes on from its state
abbrev pub ResumesMean : Type 0
ResumesMean =
    (cell : CellLookup) (name to : List ℕ) (c : Contents) (t : List ℕ) (r : Result Finished Status)
    (c' : Contents) (t' : List ℕ) → (IsCut r → ⊥)
    → Does (resumes cell name to) c t r c' t' → MeansResume cell name to c t r c' t'

-- a play is made from a number, compiled and played
abbrev pub GeneratesMean : Type 0
GeneratesMean =
    (cell : CellLookup) (n : ℕ) (c : Contents) (t : List ℕ) (r : Result Finished Status)
    (c' : Contents) (t' : List ℕ) → n ≤ number_limit → (IsCut r → ⊥)
    → Does (generates cell n) c t r c' t' → MeansGenerate cell n c t r c' t'

-- two least faults of a source are one, with its token and its kind, and so is the script that has
-- them
abbrev pub OneFaultRefuses : Type 0
OneFaultRefuses =
    (header : EngineTable) (c : Contents) (name : List ℕ) (script other : PlainScript) (f g : Fault)
    → IsUnitFate (content c) name (Whole script) → IsLeast (FaultInUnit header script.tree) f
    → IsUnitFate (content c) name (Whole other) → IsLeast (FaultInUnit header other.tree) g
    → (script ≡ other) × (f ≡ g)
