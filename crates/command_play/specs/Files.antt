-- What the play of a plan writes, by what its parts write. No contract speaks of these lemmas; they
-- serve the proofs of commands that play.
use mathlib.Core.Path.{subst}
use mathlib.Core.Logic.{inl, inr}
use Rattle.std.specs.Prelude.{◌≡◌, ℕ, List, [], ◌∷◌, Result, Err}
use Rattle.nwq_outside.specs.declared.counts.FileCounts.{FileCounts}
use Rattle.nwq_outside.specs.Outside.{Contents}
use Rattle.plan_text.specs.declared.plan.Script.{Script as ScriptLine}
use Rattle.plan_text.specs.declared.plan.Plan.{Plan}
use Rattle.plan_text.specs.Plans.{AreListed, IsPlan}
use Rattle.command_work.specs.declared.status.Status.{Status}
use Rattle.command_work.specs.Calls.{IsName, TalliesOn}
use Rattle.command_work.specs.Counts.{Counted, KeepsBut, Tallies}
use Rattle.command_work.specs.Work.{Finished}
use Rattle.command_work.specs.KeepsLemmas.{keeps_fewer, keeps_then}
use Rattle.play_inputs.specs.Listings.{IsSourceFile}
use Rattle.command_play.specs.Tellings.{IsCodeFile, IsGameFile, KeepsTo, StopsGame}

-- the file of a listed source is a file of bytecode
code_file : (lines : List ScriptLine) (name : List ℕ) → AreListed lines → IsSourceFile lines name
    → IsCodeFile name
code_file [] name all own = absurd own
code_file (line ∷ lines) name all
    (inl own) = record { script = line.name; named = all.0; is = own.1 }
code_file (line ∷ lines) name all (inr more) = code_file lines name all.2 more

module _ (plan : Plan) (kept : IsPlan plan) (to : List ℕ) (c c1 : Contents) where
  pub keeps_listing : (lines : List ScriptLine) → lines ≡ plan.scripts
      → KeepsBut (IsSourceFile lines) c c1 → KeepsBut (IsGameFile to) c c1
  keeps_listing lines same before =
      keeps_fewer (IsSourceFile lines) (IsGameFile to) c c1
      (λ name source. inl (code_file plan.scripts name kept.scripts
      (subst (λ ls. IsSourceFile ls name) same source))) before

-- ---- one part after another

module _ {F S : Type 0} (counts_of : F → FileCounts) (faults_of : S → ℕ)
    (contents_of : F → Contents) where
  module _ (own : List ℕ → Type 0) (stops : Status → Type 0) (files mid files' : F)
      (out told out' : S) where
    -- a part that stops the whole
    pub keeps_end : (e : Status)
        → TalliesOn {A = Finished} counts_of faults_of (Err e) files out mid told
        → KeepsBut own (contents_of files) (contents_of mid) → stops e
        → KeepsTo counts_of faults_of contents_of own stops (Err e) files out mid told
    keeps_end e counts names only = record { counts = counts; names = names; only = only }

    -- the rest, behind a part that was done
    pub keeps_rest : (r : Result Finished Status)
        → Counted (counts_of mid) (faults_of told) ≡ Counted (counts_of files) (faults_of out)
        → KeepsBut own (contents_of files) (contents_of mid)
        → KeepsTo counts_of faults_of contents_of own stops r mid told files' out'
        → KeepsTo counts_of faults_of contents_of own stops r files out files' out'
    keeps_rest r same names rest =
        let after = contents_of files' in
        record {
          counts = subst (λ x. Tallies r x (Counted (counts_of files') (faults_of out'))) same
              rest.counts;
          names = keeps_then own (contents_of files) (contents_of mid) after names rest.names;
          only = rest.only;
        }

  -- what keeps to the one name keeps to a play's files
  pub keeps_to_game : (to : List ℕ) (r : Result Finished Status) (files : F) (out : S) (files' : F)
      (out' : S)
      → KeepsTo counts_of faults_of contents_of (IsName to) StopsGame r files out files' out'
      → KeepsTo counts_of faults_of contents_of (IsGameFile to) StopsGame r files out files' out'
  keeps_to_game to r files out files' out' k =
      let after = contents_of files' in
      record {
        counts = k.counts;
        names = keeps_fewer (IsName to) (IsGameFile to) (contents_of files) after
            (λ name is. inr is) k.names;
        only = k.only;
      }
