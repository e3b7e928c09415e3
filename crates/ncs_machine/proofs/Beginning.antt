-- How an entry begins.
use Rattle.std.proofs.Common.{arith, ◌≡◌, ◌<◌, ℕ, zero, suc, List, [], ◌∷◌, length, Some, refl, ap, ◌∙◌, subst}
use Rattle.std.specs.Prelude.{slice_get}
use Rattle.std.specs.Option.{option_map}
use Rattle.std.proofs.lemmas.Option.{slice_get-map}
use Rattle.nwq_value.specs.Engine.{EngineTable}
use Rattle.saved_state.specs.declared.saved.Saved.{Saved}
use Rattle.hook_table.specs.declared.hook.Known.{Known}
use Rattle.machine_rules.specs.Frames.{Frame, started, continued}
use Rattle.machine_rules.specs.Machine.{Host}
use Rattle.machine_rules.specs.Runs.{entry, run}
use Rattle.stack_rules.specs.Fits.{Tables, FitsOne, IsListed}
use Rattle.stack_rules.specs.Safe.{IsSafeFrame}
use Rattle.stack_rules.specs.Laws.{AllMeet, StartsSafely, ContinuesSafely}
use Rattle.ncs_machine.specs.declared.scripts.Loaded.{Loaded}
use Rattle.ncs_machine.specs.declared.scripts.Begin.{Begin}
use Rattle.ncs_machine.specs.declared.scripts.Begin.TheVariants.{Start, Stored}
use Rattle.world_rules.specs.World.{World}
use Rattle.ncs_machine.specs.declared.entry.Ran.{Ran}
use Rattle.ncs_machine.specs.Begins.{RunsAlone}
use Rattle.ncs_machine.specs.Endings.{FitsBegin, IsCut, IsRunOf, WhereCut}
use Rattle.ncs_machine.specs.Host.{first_frame, script_of, scripts_of}
use Rattle.ncs_machine.specs.Remarks.{WhereStopped}
use Rattle.ncs_machine.specs.Settings.{CheckedListing, CodeSetting, checked_listing, code_setting, host_in, scripts_in, tables_in}
use Rattle.ncs_machine.specs.Steps.{Frames, Untouched, state}

some_in : {A : Type 0} (xs : List A) (i : ℕ) → i < length xs → (x : A) × (slice_get xs i ≡ Some x)
some_in [] i less = absurd (omega arith)
some_in (x ∷ xs) zero less = (x, refl)
some_in (x ∷ xs) (suc i) less = some_in xs i (omega arith)

is_listed : (scripts : List Loaded) (i : ℕ) → i < length scripts → IsListed (scripts_of scripts) i
is_listed scripts i less = let l = some_in scripts i less in (script_of l.0, slice_get-map script_of scripts i ∙ ap (option_map script_of) l.1)

pub start_safe : (scripts : List Loaded) (tables : Tables) (header : EngineTable) (script self : ℕ) → StartsSafely → script < length scripts → AllMeet header (scripts_of scripts) tables
    → IsSafeFrame (scripts_of scripts) tables (started script self)
start_safe scripts tables header script self law less meets = law header (scripts_of scripts) tables script self meets (is_listed scripts script less)

fits_stored : (scripts : List Loaded) (tables : Tables) (begin : Begin) (saved : Saved) → begin ≡ Stored saved → FitsBegin (scripts_of scripts) tables begin → FitsOne (scripts_of scripts) tables saved
fits_stored scripts tables (Start) saved e f = absurd cc
fits_stored scripts tables (Stored s) saved e f = on (same e) f
  where
    same : Stored s ≡ Stored saved → s ≡ saved
    same e = cc

    on : s ≡ saved → FitsOne (scripts_of scripts) tables s → FitsOne (scripts_of scripts) tables saved
    on e f = subst (FitsOne (scripts_of scripts) tables) e f

pub stored_safe : (scripts : List Loaded) (tables : Tables) (begin : Begin) (saved : Saved) (self : ℕ) → ContinuesSafely → begin ≡ Stored saved → FitsBegin (scripts_of scripts) tables begin
    → IsSafeFrame (scripts_of scripts) tables (continued saved self)
stored_safe scripts tables begin saved self law e f = law (scripts_of scripts) tables saved self (fits_stored scripts tables begin saved e f)

-- an entry that was cut short before its first instruction
pub not_begun : (h : Host (World Saved)) (script : ℕ) (begin : Begin) (caller : ℕ) (w : World Saved) → IsCut h 0 caller (entry (first_frame script begin caller) w) w
not_begun h script (Start) caller w = record { ending = refl; counted = refl; own = refl; world = Untouched refl }
not_begun h script (Stored saved) caller w = record { ending = refl; counted = refl; own = refl; world = Untouched refl }

-- ---- a setting by its parts

pub setting_is : (l : CheckedListing) (scripts : List Loaded) (table : EngineTable) (hooks : List Known) → scripts ≡ l.scripts → table ≡ l.table
    → code_setting (checked_listing scripts table) hooks ≡ code_setting l hooks
setting_is l scripts table hooks a b = rw (a, b) refl

pub runs_here : (s t : CodeSetting) (f : Frame) (m : Frames) → s ≡ t → record { running = f; waiting = [] } ≡ m → IsSafeFrame (scripts_in s) (tables_in s) f
    → RunsAlone (scripts_in t) (tables_in t) m
runs_here s t f m same alone h =
    subst (RunsAlone (scripts_in t) (tables_in t)) alone
    (record { safe = subst (λ k. IsSafeFrame (scripts_in k) (tables_in k) f) same h; alone = refl })

module _ (s t : CodeSetting) (answer : Ran) (n o : ℕ) (m : Frames) (f : Frame) (w v : World Saved) where
  pub run_here : (limit : ℕ) → s ≡ t → m ≡ record { running = f; waiting = [] }
      → IsRunOf answer n o (run (host_in s) limit (state m w)) (scripts_in s) (tables_in s) w v
      → IsRunOf answer n o (run (host_in t) limit (entry f w)) (scripts_in t) (tables_in t) w v
  run_here limit same alone h =
      subst (λ k. IsRunOf answer n o (run (host_in k) limit (entry f w)) (scripts_in k) (tables_in k) w v) same
      (subst (λ k. IsRunOf answer n o (run (host_in s) limit (state k w)) (scripts_in s) (tables_in s) w v) alone h)

  pub cut_here : s ≡ t → m ≡ record { running = f; waiting = [] }
      → WhereCut answer (IsCut (host_in s) n o (state m w) v)
      → WhereCut answer (IsCut (host_in t) n o (entry f w) v)
  cut_here same alone h =
      subst (λ k. WhereCut answer (IsCut (host_in k) n o (entry f w) v)) same
      (subst (λ k. WhereCut answer (IsCut (host_in s) n o (state k w) v)) alone h)

  pub last_here : (limit : ℕ) (k : Frames) → s ≡ t → m ≡ record { running = f; waiting = [] }
      → WhereStopped answer (state k v ≡ (run (host_in s) limit (state m w)).last)
      → WhereStopped answer (state k v ≡ (run (host_in t) limit (entry f w)).last)
  last_here limit k same alone h =
      subst (λ c. WhereStopped answer (state k v ≡ (run (host_in c) limit (entry f w)).last)) same
      (subst (λ n. WhereStopped answer (state k v ≡ (run (host_in s) limit (state n w)).last)) alone h)

pub ruleset begin_lemmas = (start_safe, stored_safe, not_begun)
