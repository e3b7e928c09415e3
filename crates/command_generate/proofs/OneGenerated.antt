-- One thing comes of a number.
use Rattle.std.proofs.Common.{◌≡◌, ℕ, List, [], Result, Ok, Err, ap}
use Rattle.nwq_value.specs.HeaderTable.{header_table}
use Rattle.nwq_outside.specs.Outside.{Contents}
use Rattle.ncs_code.specs.Plain.{PlainOp}
use Rattle.std.specs.Prelude.{codes}
use Rattle.saved_state.specs.declared.saved.Saved.{Saved}
use Rattle.world_rules.specs.Pure.{CellLookup}
use Rattle.world_rules.specs.Plays.{PlayEnd, Done, OutOfEntries, StoppedInside, Paused, Played}
use Rattle.play_generator.specs.Made.{play_of}
use Rattle.command_work.specs.declared.status.Status.{Status}
use Rattle.command_work.specs.Outcomes.{IsSure, agree, sure_then}
use Rattle.command_compile.specs.Files.{compiled_named}
use Rattle.command_compile.specs.Laws.{SureCompiled}
use Rattle.command_files.specs.Checks.{loaded_in}
use Rattle.command_files.specs.CheckLaws.{SureLoaded}
use Rattle.play_worlds.specs.Worlds.{plan_world}
use Rattle.command_plays.specs.Plays.{ends_by, plan_played}
use Rattle.command_plays.specs.Scripts.{listed}
use Rattle.command_generate.specs.Generated.{files_with, IsFileOf, source_compiled, plan_of, made_area, tells, plays_made, checks_made, generates}
use Rattle.command_generate.specs.Laws.{SureGenerated}

-- ---- the source

abbrev Answer : Type 0
Answer = Result (List ℕ) Status

abbrev file_or : List ℕ → Answer → List ℕ
file_or other (Ok file) = file
file_or other (Err status) = other

abbrev Same : Answer → Answer → Type 0
Same r s = r ≡ s

ok_same : (f g : List ℕ) → Same (Ok f) (Ok g) → f ≡ g
ok_same f g e = ap (file_or f) e

one_file : SureCompiled → (source f g : List ℕ) → IsFileOf source f → IsFileOf source g → f ≡ g
one_file compiled source f g x y =
    ok_same f g
    (agree (compiled_named header_table (codes "beat")) (compiled header_table (codes "beat")) (Ok f) (Ok g) (files_with source) (files_with source) (files_with source)
    [] x.text y.text (λ cut. cut) (λ cut. cut) x.compiled y.compiled).answer

sure_source : SureCompiled → (source : List ℕ) → IsSure (source_compiled source)
unfolding source_compiled
sure_source compiled source = (λ (c : Contents) f g x y. one_file compiled source f g x y, λ file. tt)

-- ---- the play

sure_end : (ending : PlayEnd) → IsSure (ends_by ending)
sure_end Done = tt
sure_end OutOfEntries = tt
sure_end StoppedInside = tt
sure_end Paused = tt

sure_tells : (n : ℕ) (p : Played Saved) → IsSure (tells n p)
sure_tells n p = sure_end p.ending

sure_plays : (cell : CellLookup) (n : ℕ) (ops : List PlainOp) → IsSure (plays_made cell n ops)
unfolding plays_made
sure_plays cell n ops = sure_tells n (plan_played cell header_table (plan_of n) (listed (codes "beat") ops) (plan_world (made_area n) (plan_of n)))

sure_checks : SureLoaded → (cell : CellLookup) (n : ℕ) (file : List ℕ) → IsSure (checks_made cell n file)
unfolding checks_made
sure_checks loaded cell n file =
    sure_then (loaded_in header_table (codes "beat.ncs") file) (plays_made cell n) (loaded header_table (codes "beat.ncs") file) (sure_plays cell n)

pub sure_generated : SureCompiled → SureLoaded → SureGenerated
unfolding generates
sure_generated compiled loaded cell n =
    sure_then (source_compiled (play_of n).source) (checks_made cell n) (sure_source compiled (play_of n).source) (sure_checks loaded cell n)
