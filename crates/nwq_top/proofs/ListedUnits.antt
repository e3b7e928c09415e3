-- What is listed of a plan of sources are their typed units.
use Rattle.std.proofs.Common.{◌≡◌, false, ℕ, zero, suc, List, [], ◌∷◌, map, Some, slice_get, Ok, sym, subst, ap, refl}
use Rattle.nwq_value.specs.Engine.{EngineTable}
use Rattle.nwq_outside.specs.Outside.{Contents}
use Rattle.typing_laws.specs.FaultLaws.{LeastIsTheKept}
use Rattle.plan_text.specs.declared.plan.Script.{Script as ScriptLine}
use Rattle.machine_rules.specs.Machine.{Script}
use Rattle.source_meaning.specs.Scripts.{Listed}
use Rattle.source_laws.specs.Executing.{script_of}
use Rattle.play_save.specs.Written.{CodeIsBytes}
use Rattle.command_work.specs.Parts.{value_or}
use Rattle.command_files.specs.CheckLaws.{SureLoaded}
use Rattle.play_inputs.specs.Listings.{scripts_listed}
use Rattle.command_meaning.specs.Units.{UnitsPass}
use Rattle.command_meaning.specs.Scripts.{HoldBytes, ScriptsHaveUnits}
use Rattle.nwq_top.specs.Accepting.{with_file, HasLine, HasScripts, HasSources}
use Rattle.nwq_top.specs.Accepting as accepting
use Rattle.nwq_top.specs.ListedUnits.{AreSources, IsListedUnit, AreListedUnits, PlansListUnits}
use Rattle.nwq_top.proofs.Held.{still_bytes}
use Rattle.nwq_top.proofs.Listing.{Listings, all_listed, one_refused, scripts_come}

module _ (header : EngineTable) where
  -- scripts that are listed of sources alone
  record SourcesOf (lines : List ScriptLine) (c : Contents) (scripts : List Script) (d : Contents) : Type 0 where
    listed : List Listed
    code : scripts ≡ map script_of listed
    has : HasSources header lines c listed d

  more_sources : (line : ScriptLine) (lines : List ScriptLine) (c d e : Contents) (script : Script) (scripts : List Script) → line.binary ≡ false
      → HasLine header c line script e → SourcesOf lines e scripts d → SourcesOf (line ∷ lines) c (script ∷ scripts) d
  more_sources line lines c d _ _ scripts source (accepting.source e unit h) rest = record {
    listed = record { name = line.name; unit = unit } ∷ rest.listed;
    code = ap (λ (xs : List Script). script_of (record { name = line.name; unit = unit }) ∷ xs) rest.code;
    has = accepting.more line lines c d unit rest.listed e h rest.has;
  }
  more_sources line lines c d _ _ scripts source (accepting.binary e ops h) rest = absurd cc

  sources_of : (lines : List ScriptLine) (c d : Contents) (scripts : List Script) → AreSources lines → HasScripts header lines c scripts d → SourcesOf lines c scripts d
  sources_of lines c d scripts sources (accepting.none _) = record { listed = []; code = refl; has = accepting.none c }
  sources_of lines c d scripts sources (accepting.more line rest _ e _ script others h hs) =
      more_sources line rest c d e script others sources.0 h (sources_of rest e d others sources.1 hs)

  same_names : (lines : List ScriptLine) (c d : Contents) (listed : List Listed) → HasSources header lines c listed d
      → map (λ (l : Listed). l.name) listed ≡ map (λ (line : ScriptLine). line.name) lines
  same_names lines c d listed (accepting.none _) = refl
  same_names lines c d listed (accepting.more line rest _ _ unit others e h hs) =
      ap (λ (ns : List (List ℕ)). line.name ∷ ns) (same_names rest (with_file c line.name unit) d others hs)

  -- each is the unit of a script
  pub listed_units : CodeIsBytes → ScriptsHaveUnits → (lines : List ScriptLine) (c d : Contents) (listed : List Listed) → HoldBytes c → HasSources header lines c listed d
      → (n : ℕ) (l : Listed) → slice_get listed n ≡ Some l → IsListedUnit header l
  listed_units bytes_of units lines c d listed held (accepting.none _) n l is = absurd cc
  listed_units bytes_of units lines c d listed held (accepting.more line rest _ _ unit others e h hs) zero l is =
      let same : record { name = line.name; unit = unit } ≡ l = cc in
      subst (IsListedUnit header) same (record { contents = c; script = h.script; unit = units header c line.name unit held h.script })
  listed_units bytes_of units lines c d listed held (accepting.more line rest _ _ unit others e h hs) (suc n) l is =
      listed_units bytes_of units rest (with_file c line.name unit) d others (still_bytes bytes_of c line.name unit h.passes.loads held) hs n l is

  are_listed : CodeIsBytes → ScriptsHaveUnits → (lines : List ScriptLine) (scripts : List Script) (c d : Contents) → HoldBytes c → SourcesOf lines c scripts d
      → AreListedUnits header lines scripts
  are_listed bytes_of units lines scripts c d held all = record {
    listed = all.listed;
    code = all.code;
    names = same_names lines c d all.listed all.has;
    units = listed_units bytes_of units lines c d all.listed held all.has;
  }

  of_listings : CodeIsBytes → ScriptsHaveUnits → (lines : List ScriptLine) (scripts : List Script) (c : Contents) (t : List ℕ) (d : Contents) (k : List ℕ) → HoldBytes c → AreSources lines
      → Listings header lines [] c t (Ok scripts) d k → AreListedUnits header lines scripts
  of_listings bytes_of units lines scripts c t d k held sources (all_listed others hs is o) =
      are_listed bytes_of units lines scripts c d held
      (sources_of lines c d scripts sources (subst (λ xs. HasScripts header lines c xs d) (sym (ap (value_or scripts) is)) hs))
  of_listings bytes_of units lines scripts c t d k held sources (one_refused why hs is o) = absurd cc

pub plans_list_units : CodeIsBytes → UnitsPass → ScriptsHaveUnits → SureLoaded → LeastIsTheKept → PlansListUnits
unfolding scripts_listed
plans_list_units bytes_of pass units sure least header lines scripts c t c' t' table held sources does =
    of_listings header bytes_of units lines scripts c t c' t' held sources (scripts_come bytes_of pass units sure least header table lines [] c t (Ok scripts) c' t' held (λ x. x) does)
