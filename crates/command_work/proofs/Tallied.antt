-- How the counts stand after a put that was cut, alone or of the line of a refused read.
use Rattle.std.proofs.Common.{ℕ, inl, inr, refl}
use Rattle.nwq_outside.specs.declared.counts.CountOf.TheVariants.{Absences, Longs}
use Rattle.nwq_outside.specs.declared.counts.FileCounts.{FileCounts}
use Rattle.nwq_outside.specs.Outside.{Rose}
use Rattle.command_work.specs.declared.status.Status.{Status}
use Rattle.command_work.specs.declared.status.Status.TheVariants.{Done, Words, Script, Code, Area, Limit, Missing, Fault, Memory, Long}
use Rattle.command_work.specs.Counts.{Counted, TalliesEnd, CutsPut, RefusesOne}

module _ (puts puts' : ℕ) where
  -- a put that was cut, where at most one refused read was counted before it
  cut_after : (cut : Status) (files files' : FileCounts) → RefusesOne files files' → CutsPut cut puts puts' → TalliesEnd cut (Counted files puts) (Counted files' puts')
  cut_after Done files files' one h = absurd h
  cut_after Words files files' one h = absurd h
  cut_after Script files files' one h = absurd h
  cut_after Code files files' one h = absurd h
  cut_after Area files files' one h = absurd h
  cut_after Limit files files' one h = absurd h
  cut_after Missing files files' one h = absurd h
  cut_after Fault files files' one h = inr (one, h)
  cut_after Memory files files' one h = (one, h)
  cut_after Long files files' one h = absurd h

  pub put_cut : (cut : Status) (files : FileCounts) → CutsPut cut puts puts' → TalliesEnd cut (Counted files puts) (Counted files puts')
  put_cut cut files h = cut_after cut files files (inl refl) h

  pub absent_cut : (cut : Status) (files files' : FileCounts) → Rose Absences files files' → CutsPut cut puts puts'
      → TalliesEnd cut (Counted files puts) (Counted files' puts')
  absent_cut cut files files' rose h = cut_after cut files files' (inr (inl rose)) h

  pub long_cut : (cut : Status) (files files' : FileCounts) → Rose Longs files files' → CutsPut cut puts puts'
      → TalliesEnd cut (Counted files puts) (Counted files' puts')
  long_cut cut files files' rose h = cut_after cut files files' (inr (inr rose)) h
