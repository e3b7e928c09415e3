-- A play that is told of equal names and bytes, or for which memory was wanted.
use Rattle.std.proofs.Common.{◌≡◌, ℕ, List, Result, Err, refl, subst}
use Rattle.nwq_value.specs.Engine.{EngineTable}
use Rattle.nwq_outside.specs.Outside.{Contents}
use Rattle.world_rules.specs.Pure.{CellLookup}
use Rattle.command_work.specs.declared.status.Status.{Status}
use Rattle.command_work.specs.declared.status.Status.TheVariants.{Memory}
use Rattle.command_work.specs.Work.{Does, Finished}
use Rattle.command_work.specs.Parts.{cut_here}
use Rattle.command_files.specs.Codes.{code_in}
use Rattle.command_files.specs.Checks.{loaded_in}
use Rattle.command_plays.specs.Scripts.{plays_file}

pub same_play : (cell : CellLookup) (header : EngineTable) (a b file code bytes items : List ℕ) (r : Result Finished Status) (c : Contents) (t t' : List ℕ)
    → a ≡ b → file ≡ code → bytes ≡ items → Does (plays_file cell header a file bytes) c t r c t' → Does (plays_file cell header b code items) c t r c t'
same_play cell header a b file code bytes items r c t t' name place same does =
    subst (λ x. Does (plays_file cell header b code x) c t r c t') same
    (subst (λ x. Does (plays_file cell header b x bytes) c t r c t') place
    (subst (λ x. Does (plays_file cell header x file bytes) c t r c t') name does))

-- the name of its file is still to be made
pub file_wanted : (cell : CellLookup) (header : EngineTable) (name file bytes : List ℕ) (c : Contents) (t : List ℕ)
    → Does (plays_file cell header name file bytes) c t (Err Memory) c t
unfolding plays_file loaded_in code_in
file_wanted cell header name file bytes c t = cut_here (plays_file cell header name file bytes) Memory c c t t tt tt refl refl
