-- The source of a number, compiled over files of its own: it is never refused.
use Rattle.std.proofs.Common.{◌≡◌, ◌≢◌, ℕ, inl, inr, true, false, Bool, List, [], codes, Result, Ok, Err, Some, refl, ap, subst, ◌⊎◌, ◌∙◌, arith}
use Rattle.std.proofs.lemmas.Bool.{le-ltb}
use Rattle.std.proofs.lemmas.Cmp.{nat_list_cmp_total}
use Rattle.std.specs.Prelude.{length, nat_lt}
use Rattle.std.specs.FinMap as fin_map
use Rattle.nwq_value.specs.Engine.{EngineTable}
use Rattle.nwq_value.specs.HeaderTable.{header_table}
use Rattle.nwq_value.specs.Limits.{file_limit}
use Rattle.nwq_outside.specs.declared.counts.FileCounts.{FileCounts}
use Rattle.nwq_outside.specs.Outside.{Contents, content}
use Rattle.nss_include.specs.declared.file.Source.{Source}
use Rattle.emission_rules.specs.Units.{unit_file}
use Rattle.command_work.specs.declared.status.Status.{Status}
use Rattle.command_work.specs.declared.status.Status.TheVariants.{Done, Words, Script, Code, Area, Limit, Missing, Fault, Memory, Long}
use Rattle.command_work.specs.Work.{Does, CutsShort}
use Rattle.command_work.specs.Counts.{Counted, TalliesEnd}
use Rattle.command_work.specs.Parts.{makes_does}
use Rattle.command_work.specs.Outcomes.{agree}
use Rattle.command_sources.specs.Units.{Whole as IsScript, unit_of}
use Rattle.command_compile.specs.Typings.{Whole as IsTyped, whole as typed, typed_in}
use Rattle.command_compile.specs.Files.{file_by, file_in, compiled_in, compiled_named}
use Rattle.command_compile.specs.Laws.{SureCompiled}
use Rattle.generator_laws.specs.Scripts.{BeatCompiles, SourcesCompile}
use Rattle.command_generate.specs.Generated.{files_with, faultless, Compiles, IsMadeSource, IsFileOf, source_compiled}

-- ---- a source that has a file

module _ (c : Contents) (h : BeatCompiles c) where
  file_does : (files : List Source) (b : Bool) → b ≡ false → Does (file_by files b (unit_file h.unit)) c [] (Ok (unit_file h.unit)) c []
  file_does files true e = absurd cc
  file_does files false e = makes_does (unit_file h.unit) (unit_file h.unit) c c [] [] refl refl refl

  beat_does : Does (compiled_named header_table (codes "beat")) c [] (Ok (unit_file h.unit)) c []
  unfolding compiled_named unit_of compiled_in typed_in file_in
  beat_does =
      inr (record {
        found = IsScript h.script;
        is = h.is;
        goes = inr (record {
          found = IsTyped h.unit;
          is = typed h.unit h.types;
          goes = file_does h.script.files (nat_lt file_limit (length (unit_file h.unit))) (le-ltb file_limit (length (unit_file h.unit)) h.small);
        });
      })

-- the file is there
held : (source : List ℕ) → content (files_with source) (codes "beat.nss") ≡ Some source
held source = fin_map.get-insert nat_list_cmp_total fin_map.empty (codes "beat.nss") source (codes "beat.nss")

made_does : SourcesCompile → (source : List ℕ) → IsMadeSource source → (file : List ℕ) × Compiles source (Ok file) []
made_does law source made =
    let h = law made.number (files_with source) made.few (held source ∙ ap Some made.is) in (unit_file h.unit, beat_does (files_with source) h)

-- ---- so only want of memory stops the work

cut_or_not : (s : Status) → CutsShort s ⊎ (CutsShort s → ⊥)
cut_or_not Done = inr (λ cut. cut)
cut_or_not Words = inr (λ cut. cut)
cut_or_not Script = inr (λ cut. cut)
cut_or_not Code = inr (λ cut. cut)
cut_or_not Area = inr (λ cut. cut)
cut_or_not Limit = inr (λ cut. cut)
cut_or_not Missing = inr (λ cut. cut)
cut_or_not Fault = inl tt
cut_or_not Memory = inl tt
cut_or_not Long = inr (λ cut. cut)

memory_left : (s : Status) → CutsShort s → s ≢ Fault → s ≡ Memory
memory_left Done cut other = absurd cut
memory_left Words cut other = absurd cut
memory_left Script cut other = absurd cut
memory_left Code cut other = absurd cut
memory_left Area cut other = absurd cut
memory_left Limit cut other = absurd cut
memory_left Missing cut other = absurd cut
memory_left Fault cut other = absurd (other refl)
memory_left Memory cut other = refl
memory_left Long cut other = absurd cut

abbrev Gave : Result (List ℕ) Status → Type 0
Gave (Ok file) = Unit {0}
Gave (Err status) = ⊥

cuts_alone : SourcesCompile → SureCompiled → (source : List ℕ) → IsMadeSource source → (s : Status) (text : List ℕ) → Compiles source (Err s) text → CutsShort s
cuts_alone law sure source made s text compiled = by_case (cut_or_not s)
  where
    by_case : CutsShort s ⊎ (CutsShort s → ⊥) → CutsShort s
    by_case (inl cut) = cut
    by_case (inr plain) =
        let (file, does) = made_does law source made in
        let same = agree (compiled_named header_table (codes "beat")) (sure header_table (codes "beat")) (Ok file) (Err s) (files_with source) (files_with source)
        (files_with source) [] [] text (λ cut. cut) plain does compiled in
        absurd (subst Gave same.answer tt)

-- files and a sink in memory have no faults
no_fault : (s : Status) (absences longs absences' longs' : ℕ)
    → TalliesEnd s (Counted (faultless absences longs) 0) (Counted (faultless absences' longs') 0) → s ≢ Fault
no_fault s absences longs absences' longs' tallies is =
    by_case (subst (λ x. TalliesEnd x (Counted (faultless absences longs) 0) (Counted (faultless absences' longs') 0)) is tallies)
  where
    by_case : TalliesEnd Fault (Counted (faultless absences longs) 0) (Counted (faultless absences' longs') 0) → ⊥
    by_case (inl files) = let rose : 0 ≡ 1 = ap (λ (f : FileCounts). f.faults) files.0 in omega (arith, rose)
    by_case (inr sink) = omega (arith, sink.1)

-- ---- a source that is compiled

module _ (header : EngineTable) (built_in : header ≡ header_table) (source : List ℕ) (files after : Contents) (is : files ≡ files_with source) (same : after ≡ files) where
  compiled_so : (r : Result (List ℕ) Status) (t t' : List ℕ) → t ≡ [] → Does (compiled_named header (codes "beat")) files t r after t' → Compiles source r t'
  compiled_so r t t' nothing does =
      subst (λ h. Does (compiled_named h (codes "beat")) (files_with source) [] r (files_with source) t') built_in
      (subst (λ x. Does (compiled_named header (codes "beat")) (files_with source) x r (files_with source) t') nothing
      (subst (λ d. Does (compiled_named header (codes "beat")) (files_with source) t r d t') (same ∙ is)
      (subst (λ d. Does (compiled_named header (codes "beat")) d t r after t') is does)))

  pub file_of : (file t t' : List ℕ) → t ≡ [] → Does (compiled_named header (codes "beat")) files t (Ok file) after t' → IsFileOf source file
  file_of file t t' nothing does = record { text = t'; compiled = compiled_so (Ok file) t t' nothing does }

  pub want_alone : SourcesCompile → SureCompiled → IsMadeSource source → (s : Status) (t t' : List ℕ) → t ≡ [] → Does (compiled_named header (codes "beat")) files t (Err s) after t'
      → (absences longs absences' longs' : ℕ) → TalliesEnd s (Counted (faultless absences longs) 0) (Counted (faultless absences' longs') 0) → s ≡ Memory
  want_alone law sure made s t t' nothing does absences longs absences' longs' tallies =
      memory_left s (cuts_alone law sure source made s t' (compiled_so (Err s) t t' nothing does)) (no_fault s absences longs absences' longs' tallies)

pub found_does : (source file : List ℕ) (c : Contents) (t : List ℕ) → IsFileOf source file → Does (source_compiled source) c t (Ok file) c t
unfolding source_compiled
found_does source file c t is = inr (record { found = file; is = is; goes = (refl, (refl, refl)) })

pub ruleset compiles = (file_of, want_alone)
