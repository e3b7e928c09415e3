-- What a play leaves and tells does the work of its end.
use Rattle.std.proofs.Common.{◌≡◌, ℕ, inl, inr, List, ◌++◌, Result, Ok, Err, refl, subst, sym, ap, ◌∙◌}
use Rattle.nwq_outside.specs.Outside.{Contents, TookPrefix}
use Rattle.gff_tree.specs.Whole.{PlainGff}
use Rattle.area_rules.specs.Area.{PlainArea}
use Rattle.area_back.specs.Back.{tree_back}
use Rattle.saved_state.specs.declared.saved.Saved.{Saved}
use Rattle.world_rules.specs.World.{World}
use Rattle.machine_rules.specs.Machine.{Script}
use Rattle.world_rules.specs.Plays as plays
use Rattle.world_rules.specs.Plays.{PlayEnd, Played}
use Rattle.module_player.specs.Answers.{EndsAs}
use Rattle.module_player.specs.CodePlays.{code_end_text}
use Rattle.module_player.specs.EndTexts.{IsEnding}
use Rattle.module_player.specs.declared.played.How.TheVariants.{Done, InstrStop, EntryStop}
use Rattle.module_player.specs.declared.played.Played.{Played as Answer}
use Rattle.command_work.specs.declared.status.Status.{Status}
use Rattle.command_work.specs.declared.status.Status.TheVariants as status
use Rattle.command_work.specs.Work.{Does, CutsShort, Finished, Puts, Ends, then, puts}
use Rattle.command_work.specs.Counts.{Counts, Tallies, Refusing}
use Rattle.command_work.specs.Parts.{PutsWhole, cut_here, may_put, puts_does, then_ok, then_err}
use Rattle.play_inputs.specs.Finals.{final_written}
use Rattle.play_inputs.specs.Wanted.{final_cut}
use Rattle.command_play.specs.Games.{ends_by, tells_end}

-- ---- a limit

pub limit_does : (text : List ℕ) (c : Contents) (t t' : List ℕ) → t' ≡ t ++ text → Does {A = Finished} (Puts text (Ends status.Limit)) c t (Err status.Limit) c t'
limit_does text c t t' taken = inr (refl, (refl, taken))

pub limit_cut : (text : List ℕ) (e : Status) (c : Contents) (t t' : List ℕ) → CutsShort e × TookPrefix text t t'
    → Does {A = Finished} (Puts text (Ends status.Limit)) c t (Err e) c t'
limit_cut text e c t t' h = inl (h.0, refl, h.1)

pub limit_refuses : (e : Status) → CutsShort e → Refusing status.Limit e
limit_refuses e cut = inr cut

pub ruleset limits = (limit_does, limit_cut, limit_refuses)

-- ---- a file, and then the text

pub large_refuses : (e : Status) → CutsShort e → Refusing status.Area e
large_refuses e cut = inr cut

pub left_told : (to : List ℕ) (tree : PlainGff) (text : List ℕ) (done : Finished) (r : Result Finished Status) (c c1 : Contents) (t t1 t' : List ℕ)
    → Does (final_written to tree) c t (Ok done) c1 t1 → PutsWhole text t1 r t' → Does (then (final_written to tree) (λ done. puts text)) c t r c1 t'
left_told to tree text done r c c1 t t1 t' left told = then_ok (final_written to tree) (λ d. puts text) done c c1 c1 t t1 t' r left (puts_does text r c1 t1 t' told)

pub not_left : (to : List ℕ) (tree : PlainGff) (text : List ℕ) (e : Status) (c c1 : Contents) (t t1 : List ℕ)
    → Does (final_written to tree) c t (Err e) c1 t1 → Does (then (final_written to tree) (λ done. puts text)) c t (Err e) c1 t1
not_left to tree text e c c1 t t1 left = then_err (final_written to tree) (λ d. puts text) e c c1 t t1 left

-- the counts of a part that was done go on to those of the next
pub counted_on : (r : Result Finished Status) (before between after : Counts) → between ≡ before → Tallies r between after → Tallies r before after
counted_on r before between after same tallies = subst (λ x. Tallies r x after) same tallies

pub ruleset put_last = (left_told, not_left, counted_on, large_refuses)

-- ---- by how the play ended

module _ (to : List ℕ) (area : PlainArea) (text : List ℕ) (ending : PlayEnd) (r : Result Finished Status) (c c' : Contents) (t t' : List ℕ) where
  pub done_does : EndsAs Done ending → Does (then (final_written to (tree_back area)) (λ done. puts text)) c t r c' t'
      → Does (ends_by ending to area text) c t r c' t'
  done_does is does = subst (λ e. Does (ends_by e to area text) c t r c' t') (sym is) does

  pub stopped_does : EndsAs InstrStop ending → Does (Puts text (Ends status.Limit)) c t r c' t' → Does (ends_by ending to area text) c t r c' t'
  stopped_does is does = subst (λ e. Does (ends_by e to area text) c t r c' t') (sym is) does

  pub full_does : EndsAs EntryStop ending → Does (Puts text (Ends status.Limit)) c t r c' t' → Does (ends_by ending to area text) c t r c' t'
  full_does is does = subst (λ e. Does (ends_by e to area text) c t r c' t') (sym is) does

pub ruleset endings = (done_does, stopped_does, full_does)

-- ---- its text is still to be made

module _ (to : List ℕ) (area : PlainArea) (text : List ℕ) (c : Contents) (t : List ℕ) where
  by_ending : (ending : PlayEnd) → Does (ends_by ending to area text) c t (Err status.Memory) c t
  by_ending plays.Done = then_err (final_written to (tree_back area)) (λ done. puts text) status.Memory c c t t (final_cut to c t (tree_back area))
  by_ending plays.OutOfEntries = cut_here {A = Finished} (Puts text (Ends status.Limit)) status.Memory c c t t tt tt refl refl
  by_ending plays.StoppedInside = cut_here {A = Finished} (Puts text (Ends status.Limit)) status.Memory c c t t tt tt refl refl
  by_ending plays.Paused = cut_here (puts text) status.Memory c c t t (may_put text) tt refl refl

-- ---- in the last world

module _ (to : List ℕ) (scripts : List Script) (p : Played Saved) where
  -- the end of a play, by its area and text as they were found
  pub end_does : (answer : Answer) (w : World Saved) (area : PlainArea) (text : List ℕ) (r : Result Finished Status) (c c' : Contents) (t t' : List ℕ)
      → IsEnding answer p w → area ≡ w.area → (IsEnding answer p w → text ≡ code_end_text scripts p)
      → Does (ends_by p.ending to area text) c t r c' t' → Does (tells_end to scripts p) c t r c' t'
  end_does answer w area text r c c' t t' ends same texts does =
      subst (λ x. Does (ends_by p.ending to p.last.world.area x) c t r c' t') (texts ends)
      (subst (λ a. Does (ends_by p.ending to a text) c t r c' t') (same_area ends same) does)
    where
      same_area : IsEnding answer p w → area ≡ w.area → area ≡ p.last.world.area
      same_area e s = s ∙ ap (λ (v : World Saved). v.area) e.world

  pub end_cut : (c : Contents) (t : List ℕ) → Does (tells_end to scripts p) c t (Err status.Memory) c t
  end_cut c t = by_ending to p.last.world.area (code_end_text scripts p) c t p.ending

pub ruleset ends = (end_does, end_cut)
