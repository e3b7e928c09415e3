-- What `generate` does.
use Rattle.std.proofs.Common.{arith, ◌≡◌, inl, inr, ℕ, zero, suc, List, [], ◌∷◌, ◌++◌, map, codes, Result, Ok, Err, refl, subst, ap, ◌∙◌}
use Rattle.nwq_value.specs.Engine.{EngineTable}
use Rattle.nwq_value.specs.HeaderTable.{header_table}
use Rattle.nwq_outside.specs.Outside.{Contents}
use Rattle.typing_rules.specs.Typed.{TypedUnit}
use Rattle.emission_rules.specs.Units.{unit_file}
use Rattle.world_rules.specs.Pure.{CellLookup}
use Rattle.source_meaning.specs.Scripts.{Listed}
use Rattle.source_laws.specs.Executing.{script_of}
use Rattle.typing_laws.specs.FaultLaws.{LeastIsTheKept}
use Rattle.engine_table.specs.KeptTables.{BuiltInIsTable}
use Rattle.command_work.specs.declared.status.Status.{Status}
use Rattle.command_work.specs.declared.status.Status.TheVariants.{Memory}
use Rattle.command_work.specs.Work.{then, IsCut, Does, Finished}
use Rattle.command_work.specs.Parts.{value_or, cut_here}
use Rattle.command_work.specs.Sequences.{then_known}
use Rattle.command_work.specs.Comes.{Came, gave, stopped, cut}
use Rattle.command_files.specs.Checks.{loaded_in}
use Rattle.command_files.specs.CheckLaws.{SureLoaded}
use Rattle.command_play.specs.Games.{plays_plan}
use Rattle.command_generate.specs.Generated.{source_compiled, plan_of, made_area, plays_made, checks_made, generates}
use Rattle.command_meaning.specs.Units.{code_of, IsUnitOf, UnitsPass}
use Rattle.command_meaning.specs.ListedPlays.{AreUnitsOf}
use Rattle.command_meaning.specs.CodeEnds.{CheckedPlaysHaveNoFault}
use Rattle.play_worlds.specs.Worlds.{begun_by}
use Rattle.command_meaning.specs.Runs.{answer_by, EndsAreAnswered}
use Rattle.command_meaning.specs.Scripts.{HoldBytes, ScriptsHaveUnits}
use Rattle.play_meaning.specs.Together.{whole}
use Rattle.nwq_top.specs.SourcePlans.{PlaysSources, FewStepsPlayAsMeant, UnstoppedPlansPlayAsMeant, StoppedPlansBeginAsMeant, listing_of}
use Rattle.nwq_top.specs.Accepting.{Compiles}
use Rattle.nwq_top.specs.Refusing.{RefusesSource}
use Rattle.nwq_top.proofs.Sources.{IsMade, source_comes}
use Rattle.nwq_top.proofs.Listing.{compiles, loaded_does}
use Rattle.nwq_top.specs.Generated.{made_files, beat_of, source_made, code_made, MeansMade, MeansGenerate}
use Rattle.nwq_top.specs.WordLaws.{GeneratesMean}
use Rattle.nwq_top.proofs.MadeSource.{made_bytes}
use Rattle.nwq_top.proofs.MadeTelling.{Told, made_told, same_summary}

the_unit : (header : EngineTable) (unit : TypedUnit) → IsUnitOf header unit → AreUnitsOf header (beat_of unit)
the_unit header unit h zero l is = let same : record { name = codes "beat"; unit = unit } ≡ l = cc in subst (λ (x : Listed). IsUnitOf header x.unit) same h
the_unit header unit h (suc n) l is = absurd cc

module _ (pass : UnitsPass) (units : ScriptsHaveUnits) (least : LeastIsTheKept) (own : BuiltInIsTable) (sure : SureLoaded) (answered : EndsAreAnswered)
    (few : FewStepsPlayAsMeant) (unstopped : UnstoppedPlansPlayAsMeant) (ended : StoppedPlansBeginAsMeant) (no_fault : CheckedPlaysHaveNoFault) where
  module _ (cell : CellLookup) (n : ℕ) (held : HoldBytes (made_files n)) (c : Contents) (t : List ℕ) (r : Result Finished Status) (c' : Contents) (t' : List ℕ)
      (uncut : IsCut r → ⊥) where
    -- a play has its trace to put, so it may be cut as it begins, and the laws on plans speak of
    -- this one
    as_plan : (unit : TypedUnit) → Compiles header_table (made_files n) (codes "beat") unit
        → PlaysSources cell header_table (made_area n) (plan_of n) (beat_of unit) [] c t (Err Memory) c t
    unfolding plays_plan
    as_plan unit h = record {
      table = own;
      units = the_unit header_table unit (units header_table (made_files n) (codes "beat") unit held h.script);
      does = cut_here (plays_plan cell header_table (made_area n) (plan_of n) (script_of (record { name = codes "beat"; unit = unit }) ∷ []) []) Memory c c t t tt tt refl refl;
    }

    meant : (unit : TypedUnit) → Compiles header_table (made_files n) (codes "beat") unit → Does (plays_made cell n (code_of unit)) c t r c' t' → MeansMade cell n unit c t r c' t'
    meant unit h does =
        let told : Told n (code_made cell n unit) c t r c' t' = made_told answered cell n unit c t r c' t' uncut does in
        let s = listing_of cell header_table (beat_of unit) in
        record {
          few = λ k large goes.
              let alike = (few cell header_table (made_area n) (plan_of n) (beat_of unit) [] c t (Err Memory) c t (as_plan unit h) k large goes).alike in
              record {
                alike = alike;
                taken = told.taken ∙ ap (λ x. t ++ x) (same_summary s n (code_made cell n unit) (source_made cell n unit k) alike);
                answer = told.answer ∙ ap answer_by alike.ending;
                contents = told.contents;
              };
          unstopped = λ goes.
              let alike = (unstopped cell header_table (made_area n) (plan_of n) (beat_of unit) [] c t (Err Memory) c t (as_plan unit h) goes).alike in
              record {
                alike = alike;
                taken = told.taken ∙ ap (λ x. t ++ x) (same_summary s n (code_made cell n unit) (source_made cell n unit (plan_of n).limit) alike);
                answer = told.answer ∙ ap answer_by alike.ending;
                contents = told.contents;
              };
          stopped = λ is.
              let k = ended cell header_table (made_area n) (plan_of n) (beat_of unit) [] c t (Err Memory) c t (as_plan unit h) is in
              record { stopped = k.stopped; begins = k.begins; taken = told.taken; answer = told.answer ∙ ap answer_by is; contents = told.contents };
          no_fault = no_fault cell header_table (map script_of (beat_of unit)) (plan_of n).limit (whole (plan_of n).entries (plan_of n).until) (made_area n) (plan_of n).random
              (map (begun_by (made_area n)) (plan_of n).events) (plan_of n).version own (h.passes.stacked, tt);
        }

    file_comes : (file text : List ℕ) → Does (checks_made cell n file) c t r c' t'
        → Came (IsMade header_table (made_files n) (codes "beat")) (RefusesSource header_table (made_files n) (codes "beat")) (made_files n) [] (Ok file) (made_files n) text
        → MeansGenerate cell n c t r c' t'
    unfolding checks_made
    file_comes file text does (gave bytes made is p q) =
        let h = compiles pass units sure header_table own (made_files n) (codes "beat") bytes held made in
        let same : file ≡ unit_file made.unit = ap (value_or file) is ∙ made.is in
        let plays : Does (plays_made cell n (code_of made.unit)) c t r c' t' =
        then_known (loaded_in header_table (codes "beat.ncs") (unit_file made.unit)) (plays_made cell n) (sure header_table (codes "beat.ncs") (unit_file made.unit))
        (code_of made.unit) c c c' t t t' r uncut (loaded_does header_table (codes "beat.ncs") made.unit c t h.passes)
        (subst (λ (b : List ℕ). Does (then (loaded_in header_table (codes "beat.ncs") b) (plays_made cell n)) c t r c' t') same does) in
        record { unit = made.unit; compiles = h; means = meant made.unit h plays }
    file_comes file text does (stopped why is p q o) = absurd cc
    file_comes file text does (cut x) = absurd x

    generated : Does (generates cell n) c t r c' t' → MeansGenerate cell n c t r c' t'
    unfolding generates source_compiled
    generated (inl x) = absurd (uncut x.0)
    generated (inr h) =
        file_comes h.found h.is.text h.goes (source_comes header_table (made_files n) [] (codes "beat") least (Ok h.found) (made_files n) h.is.text h.is.compiled)

  pub generates_mean : GeneratesMean
  generates_mean cell n c t r c' t' small uncut does = generated cell n (made_bytes n (omega (arith, small))) c t r c' t' uncut does
