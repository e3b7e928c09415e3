-- What comes of a state's bytes does the work of writing it.
use Rattle.std.proofs.Common.{◌≡◌, ◌<◌, ◌≤◌, ℕ, Bool, inr, List, length, Result, Err, sym, subst, lt-ltb, le-ltb}
use Rattle.nwq_value.specs.Limits.{file_limit}
use Rattle.nwq_outside.specs.Outside.{Contents}
use Rattle.state_format.specs.declared.parts.Parts.{Parts}
use Rattle.state_format.specs.Fields.{parts_bytes}
use Rattle.state_format.specs.Place.{StateOf}
use Rattle.command_work.specs.declared.flaw.AreaFlaw.TheVariants as flaw
use Rattle.command_work.specs.declared.status.Status.{Status}
use Rattle.command_work.specs.declared.status.Status.TheVariants.{Area}
use Rattle.command_work.specs.Refusal.{BadArea}
use Rattle.command_work.specs.Work.{Does, CutsShort, Finished}
use Rattle.command_work.specs.Counts.{Refusing}
use Rattle.command_work.specs.Parts.{Refuses, refused}
use Rattle.command_save.specs.Saves.{state_by, state_told, state_written}

module _ (name : List ℕ) (s : Parts) where
  pub state_put : (bytes : List ℕ) (entries : ℕ) (r : Result Finished Status) (c c' : Contents) (t t' : List ℕ) → StateOf bytes s → length bytes ≤ file_limit → s.taken ≡ entries
      → Does (state_told name bytes entries) c t r c' t' → Does (state_written name s) c t r c' t'
  unfolding state_written
  state_put bytes entries r c c' t t' of small taken does =
      let least : length (parts_bytes s) ≤ file_limit = subst (λ (b : List ℕ). length b ≤ file_limit) of.is small in
      subst (λ (long : Bool). Does (state_by long name (parts_bytes s) s.taken) c t r c' t') (sym (le-ltb file_limit (length (parts_bytes s)) least))
      (subst (λ (b : List ℕ). Does (state_told name b s.taken) c t r c' t') of.is (subst (λ (n : ℕ). Does (state_told name bytes n) c t r c' t') (sym taken) does))

  pub state_large : (size : ℕ) (answer : Status) (c : Contents) (t t' : List ℕ) → (file_limit < length (parts_bytes s)) × (size ≡ length (parts_bytes s))
      → Refuses (BadArea name (flaw.Large size)) t answer t' → Does (state_written name s) c t (Err answer) c t'
  unfolding state_written
  state_large size answer c t t' is h =
      subst (λ (long : Bool). Does (state_by long name (parts_bytes s) s.taken) c t (Err answer) c t') (sym (lt-ltb file_limit (length (parts_bytes s)) is.0))
      (refused (BadArea name (flaw.Large (length (parts_bytes s)))) answer c t t' (subst (λ (n : ℕ). Refuses (BadArea name (flaw.Large n)) t answer t') is.1 h))

pub cut_refuses : (status : Status) → CutsShort status → Refusing Area status
cut_refuses status cut = inr cut
