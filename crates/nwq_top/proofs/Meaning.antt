-- The work of words does what they mean.
use Rattle.std.proofs.Common.{ℕ, List, Result, map, string_bytes, String, Global, ◌≡◌, subst}
use Rattle.nwq_outside.specs.Outside.{Contents}
use Rattle.world_rules.specs.Pure.{CellLookup}
use Rattle.command_work.specs.declared.status.Status.{Status}
use Rattle.command_work.specs.Work.{then, IsCut, Does, Finished, ending}
use Rattle.command_sources.specs.Headers.{table_of_word}
use Rattle.command_compile.specs.Files.{code_name, compiled_named}
use Rattle.command_plays.specs.Scripts.{plays_file}
use Rattle.nwq_top.specs.WordLaws.{RunsMean, CompilesMean, PlaysMean, SavesMean, ResumesMean, GeneratesMean}
use Rattle.command_words.specs.Words.{Run, Compile, Tree, Check, Disassemble, Assemble, Play, Generate, Save, Resume, NoForm, form_of}
use Rattle.command_run.specs.Runs.{runs_under, runs}
use Rattle.command_files.specs.CheckLaws.{SureChecks}
use Rattle.command_files.specs.Laws.{SureCommands}
use Rattle.nwq_top.specs.Meaning.{Means, WorkMeans}
use Rattle.nwq_top.proofs.FileCommands.{tree_means, check_means, disassembles_mean, assembles_mean, no_form_means}

-- the parts of a run in a row
as_parts : (cell : CellLookup) (header script : List ℕ) (c : Contents) (t : List ℕ) (r : Result Finished Status) (c' : Contents) (t' : List ℕ)
    → Does (runs cell header script) c t r c' t'
    → Does (then (table_of_word header) (λ table. then (compiled_named table script) (plays_file cell table script (code_name script)))) c t r c' t'
unfolding runs runs_under
as_parts cell header script c t r c' t' does = does

pub work_means : SureCommands → SureChecks → RunsMean → CompilesMean → PlaysMean → SavesMean → ResumesMean → GeneratesMean → WorkMeans
work_means files checks run compile play save resume generate cell (Run header script) c t r c' t' held whole does =
    run cell header script c t r c' t' held whole (as_parts cell header script c t r c' t' does)
work_means files checks run compile play save resume generate cell (Compile header script) c t r c' t' held whole does = compile header script c t r c' t' held whole does
work_means files checks run compile play save resume generate cell (Tree file) c t r c' t' held whole does = tree_means files c t r c' t' whole file does
work_means files checks run compile play save resume generate cell (Check header file) c t r c' t' held whole does = check_means checks header file c t r c' t' whole does
work_means files checks run compile play save resume generate cell (Disassemble file to) c t r c' t' held whole does = disassembles_mean files c t r c' t' whole file to does
work_means files checks run compile play save resume generate cell (Assemble file to) c t r c' t' held whole does = assembles_mean files c t r c' t' whole file to does
work_means files checks run compile play save resume generate cell (Play header area plan to list) c t r c' t' held whole does = play cell header area plan to c t r c' t' held whole does
work_means files checks run compile play save resume generate cell (Generate number) c t r c' t' held whole does = λ small. generate cell number c t r c' t' small whole does
work_means files checks run compile play save resume generate cell (Save header area plan entries state list) c t r c' t' held whole does =
    save cell header area plan entries state c t r c' t' held whole does
work_means files checks run compile play save resume generate cell (Resume state to list) c t r c' t' held whole does = resume cell state to c t r c' t' whole does
work_means files checks run compile play save resume generate cell NoForm c t r c' t' held whole does = no_form_means c t r c' t' whole does

-- equal words mean the same
pub same_meaning : (cell : CellLookup) (words all : List (String Global)) (told status : Status) (c c' : Contents) (t t' : List ℕ) → words ≡ all → told ≡ status
    → ((IsCut (ending told) → ⊥) → Means cell (form_of (map string_bytes words)) c t (ending told) c' t')
    → (IsCut (ending status) → ⊥) → Means cell (form_of (map string_bytes all)) c t (ending status) c' t'
same_meaning cell words all told status c c' t t' same is means =
    subst (λ s. (IsCut (ending s) → ⊥) → Means cell (form_of (map string_bytes all)) c t (ending s) c' t') is
    (subst (λ ws. (IsCut (ending told) → ⊥) → Means cell (form_of (map string_bytes ws)) c t (ending told) c' t') same means)
