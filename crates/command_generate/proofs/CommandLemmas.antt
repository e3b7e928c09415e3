-- The parts of the command, one after another, where the header is the built-in one and the source
-- is that of the number.
use Rattle.std.proofs.Common.{◌≡◌, ℕ, List, codes, Result, Ok, ap, ◌∙◌, subst}
use Rattle.nwq_value.specs.Engine.{EngineTable}
use Rattle.nwq_value.specs.HeaderTable.{header_table}
use Rattle.nwq_outside.specs.Outside.{Contents}
use Rattle.ncs_code.specs.Plain.{PlainOp}
use Rattle.world_rules.specs.Pure.{CellLookup}
use Rattle.play_generator.specs.Made.{Play, play_of}
use Rattle.command_work.specs.declared.status.Status.{Status}
use Rattle.command_work.specs.Work.{Does, Finished}
use Rattle.command_work.specs.Counts.{Counts, Tallies}
use Rattle.command_work.specs.Parts.{then_ok}
use Rattle.command_files.specs.Checks.{loaded_in}
use Rattle.command_generate.specs.Generated.{source_compiled, plays_made, checks_made, generates}

module _ (cell : CellLookup) (n : ℕ) (r : Result Finished Status) (c : Contents) (t t1 t2 : List ℕ) where
  pub checked_then : (header : EngineTable) (file : List ℕ) (ops : List PlainOp) → header ≡ header_table
      → Does (loaded_in header (codes "beat.ncs") file) c t (Ok ops) c t1 → Does (plays_made cell n ops) c t1 r c t2 → Does (checks_made cell n file) c t r c t2
  unfolding checks_made
  checked_then header file ops built_in loaded played =
      then_ok (loaded_in header_table (codes "beat.ncs") file) (plays_made cell n) ops c c c t t1 t2 r
      (subst (λ h. Does (loaded_in h (codes "beat.ncs") file) c t (Ok ops) c t1) built_in loaded) played

  pub compiled_then : (made : Play) (source file items : List ℕ) → made ≡ play_of n → source ≡ made.source → items ≡ file
      → Does (source_compiled source) c t (Ok file) c t1 → Does (checks_made cell n items) c t1 r c t2 → Does (generates cell n) c t r c t2
  unfolding generates
  compiled_then made source file items is from same compiled played =
      then_ok (source_compiled (play_of n).source) (checks_made cell n) file c c c t t1 t2 r
      (subst (λ s. Does (source_compiled s) c t (Ok file) c t1) (from ∙ ap (λ (m : Play). m.source) is) compiled)
      (subst (λ x. Does (checks_made cell n x) c t1 r c t2) same played)

-- the counts of a part that was done go on to those of the next
pub counted_on : (r : Result Finished Status) (before between after : Counts) → between ≡ before → Tallies r between after → Tallies r before after
counted_on r before between after same tallies = subst (λ x. Tallies r x after) same tallies
