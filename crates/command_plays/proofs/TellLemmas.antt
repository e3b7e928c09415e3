-- What a play's answer tells, and how its command ends.
use Rattle.std.proofs.Common.{◌≡◌, ◌≢◌, ℕ, inl, inr, List, ◌++◌, None, Some, Ok, Err, refl, subst, sym}
use Rattle.nwq_outside.specs.declared.counts.FileCounts.{FileCounts}
use Rattle.nwq_outside.specs.Outside.{Contents, TookPrefix}
use Rattle.saved_state.specs.declared.saved.Saved.{Saved}
use Rattle.world_rules.specs.World.{World}
use Rattle.world_rules.specs.Plays.{PlayEnd, Played}
use Rattle.module_player.specs.Answers.{EndsAs, WherePlayed, TakesTrace, CountsPlay}
use Rattle.module_player.specs.EndTexts.{HasText, IsEnding}
use Rattle.module_player.specs.declared.played.How.{How}
use Rattle.module_player.specs.declared.played.How.TheVariants.{Done, InstrStop, EntryStop, Pause, Fault, NoMemory}
use Rattle.module_player.specs.declared.played.Played.{Played as Answer}
use Rattle.command_work.specs.declared.status.Status.{Status}
use Rattle.command_work.specs.declared.status.Status.TheVariants as status
use Rattle.command_work.specs.Work.{Does, CutsShort}
use Rattle.command_work.specs.Counts.{Counted, TalliesEnd}
use Rattle.command_plays.specs.Plays.{ends_by}
use Rattle.command_plays.specs.Tellings.{cut_of}

-- ---- a play's answer

same_status : {x y : Status} → Some x ≡ Some y → x ≡ y
same_status e = cc

module _ (how : How) (s : Status) (is : Some s ≡ cut_of how) where
  pub cut_takes : (text t t' : List ℕ) → TakesTrace how text t t' → CutsShort s × TookPrefix text t t'
  cut_takes text t t' took = by_how how is took
    where
      by_how : (h : How) → Some s ≡ cut_of h → TakesTrace h text t t' → CutsShort s × TookPrefix text t t'
      by_how Done e k = absurd cc
      by_how InstrStop e k = absurd cc
      by_how EntryStop e k = absurd cc
      by_how Pause e k = absurd cc
      by_how Fault e k = (subst CutsShort (same_status (sym e)) tt, k)
      by_how NoMemory e k = (subst CutsShort (same_status (sym e)) tt, k)

  pub cut_counts : (puts puts' : ℕ) (files : FileCounts) → CountsPlay how puts puts' → TalliesEnd s (Counted files puts) (Counted files puts')
  cut_counts puts puts' files counts = by_how how is counts
    where
      by_how : (h : How) → Some s ≡ cut_of h → CountsPlay h puts puts' → TalliesEnd s (Counted files puts) (Counted files puts')
      by_how Done e k = absurd cc
      by_how InstrStop e k = absurd cc
      by_how EntryStop e k = absurd cc
      by_how Pause e k = absurd cc
      by_how Fault e k =
          subst (λ x. TalliesEnd x (Counted files puts) (Counted files puts')) (same_status (sym e)) (inr (inl refl, k))
      by_how NoMemory e k =
          subst (λ x. TalliesEnd x (Counted files puts) (Counted files puts')) (same_status (sym e)) (inl refl, k)

  pub cut_shorts : CutsShort s
  cut_shorts = by_how how is
    where
      by_how : (h : How) → Some s ≡ cut_of h → CutsShort s
      by_how Done e = absurd cc
      by_how InstrStop e = absurd cc
      by_how EntryStop e = absurd cc
      by_how Pause e = absurd cc
      by_how Fault e = subst CutsShort (same_status (sym e)) tt
      by_how NoMemory e = subst CutsShort (same_status (sym e)) tt

pub whole_takes : (how : How) (text t t' : List ℕ) → None ≡ cut_of how → TakesTrace how text t t' → t' ≡ t ++ text
whole_takes Done text t t' is took = took
whole_takes InstrStop text t t' is took = took
whole_takes EntryStop text t t' is took = took
whole_takes Pause text t t' is took = took
whole_takes Fault text t t' is took = absurd cc
whole_takes NoMemory text t t' is took = absurd cc

pub whole_counts : (how : How) (puts puts' : ℕ) → None ≡ cut_of how → CountsPlay how puts puts' → puts' ≡ puts
whole_counts Done puts puts' is counts = counts
whole_counts InstrStop puts puts' is counts = counts
whole_counts EntryStop puts puts' is counts = counts
whole_counts Pause puts puts' is counts = counts
whole_counts Fault puts puts' is counts = absurd cc
whole_counts NoMemory puts puts' is counts = absurd cc

-- a whole play has a text at its end
pub text_there : (how : How) → None ≡ cut_of how → how ≢ Pause → HasText how
text_there Done is whole = tt
text_there InstrStop is whole = tt
text_there EntryStop is whole = tt
text_there Pause is whole = absurd (whole refl)
text_there Fault is whole = absurd cc
text_there NoMemory is whole = absurd cc

-- what an answer tells where the play wasn't cut short holds of a whole one
pub where_told : (how : How) (fact : Type 0) → None ≡ cut_of how → WherePlayed how fact → fact
where_told Done fact is h = h
where_told InstrStop fact is h = h
where_told EntryStop fact is h = h
where_told Pause fact is h = h
where_told Fault fact is h = absurd cc
where_told NoMemory fact is h = absurd cc

pub ending_is : (answer : Answer) (p : Played Saved) (w : World Saved) → None ≡ cut_of answer.how → EndsAs answer.how p.ending
    → WherePlayed answer.how (answer.entries ≡ p.last.entries) → WherePlayed answer.how (answer.instructions ≡ p.last.count)
    → WherePlayed answer.how (w ≡ p.last.world) → IsEnding answer p w
ending_is answer p w told ending entries count world = record {
  ending = ending;
  entries = where_told answer.how _ told entries;
  instructions = where_told answer.how _ told count;
  world = where_told answer.how _ told world;
}

-- ---- the end

pub ends_done : (ending : PlayEnd) (c : Contents) (t : List ℕ) → EndsAs Done ending → Does (ends_by ending) c t (Ok tt) c t
ends_done ending c t is = subst (λ e. Does (ends_by e) c t (Ok tt) c t) (sym is) (refl, (refl, refl))

pub ends_stopped : (ending : PlayEnd) (c : Contents) (t : List ℕ) → EndsAs InstrStop ending → Does (ends_by ending) c t (Err status.Limit) c t
ends_stopped ending c t is = subst (λ e. Does (ends_by e) c t (Err status.Limit) c t) (sym is) (refl, (refl, refl))

pub ends_full : (ending : PlayEnd) (c : Contents) (t : List ℕ) → EndsAs EntryStop ending → Does (ends_by ending) c t (Err status.Limit) c t
ends_full ending c t is = subst (λ e. Does (ends_by e) c t (Err status.Limit) c t) (sym is) (refl, (refl, refl))

pub ruleset endings = (ends_done, ends_stopped, ends_full)
