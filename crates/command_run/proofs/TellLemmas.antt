-- A play that is told does the work of its text.
use Rattle.std.proofs.Common.{◌≡◌, IfErr, ℕ, inl, inr, List, ◌++◌, Result, Ok, Err, refl, subst, sym}
use Rattle.nwq_outside.specs.Outside.{Contents, TookPrefix}
use Rattle.saved_state.specs.declared.saved.Saved.{Saved}
use Rattle.world_rules.specs.Trace.{trace_text}
use Rattle.machine_rules.specs.Machine.{Script}
use Rattle.world_rules.specs.Plays.{Played}
use Rattle.module_player.specs.CodePlays.{code_end_text}
use Rattle.command_work.specs.declared.status.Status.{Status}
use Rattle.command_work.specs.declared.status.Status.TheVariants as status
use Rattle.command_work.specs.Work.{Does, CutsShort, Finished}
use Rattle.command_work.specs.Counts.{Counts, Tallies, TalliesEnd, Refusing}
use Rattle.command_plays.specs.Plays.{ends_by}
use Rattle.command_plays.specs.Scripts.{tells_end, tells}

-- ---- the text of the end, and the end

module _ (scripts : List Script) (p : Played Saved) (c : Contents) (t t' : List ℕ) where
  pub end_whole : (r : Result Finished Status) → t' ≡ t ++ code_end_text scripts p → Does (ends_by p.ending) c t' r c t' → Does (tells_end scripts p) c t r c t'
  end_whole r taken does = inr (subst (λ x. Does (ends_by p.ending) c x r c t') taken does)

  pub end_cut : (cut : Status) → CutsShort cut × TookPrefix (code_end_text scripts p) t t' → Does (tells_end scripts p) c t (Err cut) c t'
  end_cut cut h = inl (h.0, refl, h.1)

pub limit_refuses : (s : Status) → s ≡ status.Limit → Refusing status.Limit s
limit_refuses s is = inl is

pub cut_refuses : (s : Status) → CutsShort s → Refusing status.Limit s
cut_refuses s cut = inr cut

-- the counts stay where the text is put
pub limit_counts : (r : Result Finished Status) (before now : Counts) → IfErr r (λ s. s ≡ status.Limit) → now ≡ before → Tallies r before now
limit_counts (Ok done) before now only same = same
limit_counts (Err s) before now only same = subst (λ x. TalliesEnd x before now) (sym only) same

-- the counts of a part that was done go on to those of the next
pub counted_on : (r : Result Finished Status) (before between after : Counts) → between ≡ before → Tallies r between after → Tallies r before after
counted_on r before between after same tallies = subst (λ x. Tallies r x after) same tallies

pub ruleset ends = (limit_counts, end_whole, end_cut, limit_refuses, cut_refuses)

-- ---- the trace, and what follows

module _ (scripts : List Script) (p : Played Saved) (c : Contents) (t t' : List ℕ) where
  pub trace_cut : (s : Status) → CutsShort s × TookPrefix (trace_text p.last.trace) t t' → Does (tells scripts p) c t (Err s) c t'
  trace_cut s h = inl (h.0, refl, h.1)

  pub trace_whole : (r : Result Finished Status) (t'' : List ℕ) → t' ≡ t ++ trace_text p.last.trace → Does (tells_end scripts p) c t' r c t''
      → Does (tells scripts p) c t r c t''
  trace_whole r t'' taken does = inr (subst (λ x. Does (tells_end scripts p) c x r c t'') taken does)
