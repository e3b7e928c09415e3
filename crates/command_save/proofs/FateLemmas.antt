-- What comes of the bytes of a state does the work of finding it.
use Rattle.std.proofs.Common.{ℕ, List, Result, Ok, Err, refl}
use Rattle.nwq_outside.specs.Outside.{Contents}
use Rattle.state_format.specs.declared.parts.Parts.{Parts}
use Rattle.state_format.specs.Place.{StateOf}
use Rattle.play_save.specs.declared.fault.StateFault.TheVariants as fault
use Rattle.play_save.specs.Rules.{IsAccepted}
use Rattle.play_save.specs.States.{Refuses as RefusesState}
use Rattle.command_work.specs.declared.flaw.AreaFlaw.TheVariants as flaw
use Rattle.command_work.specs.declared.status.Status.{Status}
use Rattle.command_work.specs.declared.status.Status.TheVariants.{Memory}
use Rattle.command_work.specs.Refusal.{BadArea}
use Rattle.command_work.specs.Work.{Does}
use Rattle.command_work.specs.Parts.{Refuses, cut_here, finds_one, refused}
use Rattle.command_save.specs.Resumes.{StateFate, Whole, Stops, Unfit, IsStateFate, whole, stops, unfit, state_by, state_in}

module _ (name bytes : List ℕ) (c : Contents) where
  goes : (fate : StateFate) (r : Result Parts Status) (t t' : List ℕ) → IsStateFate bytes fate → Does (state_by name fate) c t r c t'
      → Does (state_in name bytes) c t r c t'
  unfolding state_in
  goes fate r t t' is does = finds_one (λ (d : Contents) (f : StateFate). IsStateFate bytes f) (state_by name) fate c c t t' r is does

  pub state_does : (s : Parts) (t : List ℕ) → StateOf bytes s → IsAccepted s → Does (state_in name bytes) c t (Ok s) c t
  state_does s t of accepted = goes (Whole s) (Ok s) t t (whole s of accepted) (refl, (refl, refl))

  pub state_stops : (place : ℕ) (answer : Status) (t t' : List ℕ) → RefusesState bytes (fault.Place place) → Refuses (BadArea name (flaw.State place)) t answer t'
      → Does (state_in name bytes) c t (Err answer) c t'
  state_stops place answer t t' is h =
      goes (Stops place) (Err answer) t t' (stops place is) (refused (BadArea name (flaw.State place)) answer c t t' h)

  pub state_unfit : (rule : ℕ) (answer : Status) (t t' : List ℕ) → RefusesState bytes (fault.Unfit rule) → Refuses (BadArea name (flaw.Unfit rule)) t answer t'
      → Does (state_in name bytes) c t (Err answer) c t'
  state_unfit rule answer t t' is h =
      goes (Unfit rule) (Err answer) t t' (unfit is.0 rule is.1 is.2) (refused (BadArea name (flaw.Unfit rule)) answer c t t' h)

  pub state_cut : (t : List ℕ) → Does (state_in name bytes) c t (Err Memory) c t
  unfolding state_in
  state_cut t = cut_here (state_in name bytes) Memory c c t t tt tt refl refl

pub ruleset fates = (state_does, state_stops, state_unfit, state_cut)
