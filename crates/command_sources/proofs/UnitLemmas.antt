-- What comes of a script does the work of its unit.
use Rattle.std.proofs.Common.{ℕ, ◌<◌, inr, List, [], ◌∷◌, length, arith, None, Result, Ok, Err, refl}
use Rattle.nwq_outside.specs.Outside.{Contents, content}
use Rattle.nss_include.specs.declared.fault.GatherFault.TheVariants as fault
use Rattle.nss_include.specs.declared.fault.Spot.{Spot}
use Rattle.nss_include.specs.declared.file.Source.{Source}
use Rattle.nss_include.specs.Units.{IsUnit}
use Rattle.nss_include.specs.View.{Gathered}
use Rattle.nss_include.specs.Gather.{Gathers, HasScript}
use Rattle.nss_symbols.specs.Nest.{IsFirstOver, IsWithinNest}
use Rattle.nss_parser.specs.Sentence.{IsPlace}
use Rattle.command_work.specs.declared.cause.Cause.{Cause}
use Rattle.command_work.specs.declared.cause.Cause.TheVariants as cause
use Rattle.command_work.specs.declared.status.Status.{Status}
use Rattle.command_work.specs.declared.status.Status.TheVariants.{Memory}
use Rattle.command_work.specs.Refusal.{Refusal, Absent, TooLong, line_of}
use Rattle.command_work.specs.Work.{CutsShort, Does}
use Rattle.command_work.specs.Parts.{Refuses, cut_here, finds_one, refused, took_nothing}
use Rattle.command_sources.specs.Units.{PlainScript, UnitFate, Whole, Lacks, Exceeds, Faulty, IsUnitFate, lacks, exceeds, bad, many, include, nested, syntax, whole, grammar_symbols, spot_at, at_spot}
use Rattle.command_sources.specs.Units.{unit_by, unit_of}
use Rattle.command_sources.specs.Reading.{HasTree}

-- want of memory before a line could be made
pub cut_refuses : (refusal : Refusal) (t : List ℕ) → Refuses refusal t Memory t
cut_refuses refusal t = inr (tt, took_nothing (line_of refusal) t t refl)

module _ (c : Contents) (name : List ℕ) where
  goes : (fate : UnitFate) (r : Result PlainScript Status) (t t' : List ℕ) → IsUnitFate (content c) name fate → Does (unit_by fate) c t r c t'
      → Does (unit_of name) c t r c t'
  unfolding unit_of
  goes fate r t t' is does = finds_one (λ (d : Contents) (f : UnitFate). IsUnitFate (content d) name f) unit_by fate c c t t' r is does

  pub cut_does : (cut : Status) (t : List ℕ) → CutsShort cut → Does (unit_of name) c t (Err cut) c t
  unfolding unit_of
  cut_does cut t cuts = cut_here (unit_of name) cut c c t t tt cuts refl refl

  pub whole_does : (script : PlainScript) (t : List ℕ) → IsUnit (content c) name script.tokens script.files None
      → HasTree (record { files = script.files; tokens = script.tokens }) script.tree → Does (unit_of name) c t (Ok script) c t
  whole_does script t is has = goes (Whole script) (Ok script) t t (whole script is has.nest has.parses) (refl, (refl, refl))

  module _ (answer : Status) (t t' : List ℕ) where
    pub lacks_does : (file : List ℕ) → Gathers (content c) name (Err (fault.Missing file)) → Refuses (Absent file) t answer t'
        → Does (unit_of name) c t (Err answer) c t'
    lacks_does file (tokens, files, unit) h = goes (Lacks file) (Err answer) t t' (lacks tokens files file unit) (refused (Absent file) answer c t t' h)

    pub exceeds_does : (file : List ℕ) → Gathers (content c) name (Err (fault.Long file)) → Refuses (TooLong file) t answer t'
        → Does (unit_of name) c t (Err answer) c t'
    exceeds_does file (tokens, files, unit) h = goes (Exceeds file) (Err answer) t t' (exceeds tokens files file unit) (refused (TooLong file) answer c t t' h)

    module _ (unit : Gathered) (is : IsUnit (content c) name unit.tokens unit.files None) (i : ℕ) where
      pub nested_does : IsFirstOver (grammar_symbols unit.tokens) i → Refuses (at_spot cause.Nested (spot_at unit.files unit.tokens i)) t answer t'
          → Does (unit_of name) c t (Err answer) c t'
      nested_does over h =
          goes (Faulty cause.Nested (spot_at unit.files unit.tokens i)) (Err answer) t t' (nested unit.tokens unit.files i is over)
          (refused (at_spot cause.Nested (spot_at unit.files unit.tokens i)) answer c t t' h)

      pub syntax_does : IsWithinNest (grammar_symbols unit.tokens) → IsPlace (grammar_symbols unit.tokens) i → Refuses (at_spot cause.Syntax (spot_at unit.files unit.tokens i)) t answer t'
          → Does (unit_of name) c t (Err answer) c t'
      syntax_does nest place h =
          goes (Faulty cause.Syntax (spot_at unit.files unit.tokens i)) (Err answer) t t' (syntax unit.tokens unit.files i is nest place)
          (refused (at_spot cause.Syntax (spot_at unit.files unit.tokens i)) answer c t t' h)

    module _ (spot : Spot) where
      faulty : (why : Cause) → IsUnitFate (content c) name (Faulty why spot) → Refuses (at_spot why spot) t answer t'
          → Does (unit_of name) c t (Err answer) c t'
      faulty why is h = goes (Faulty why spot) (Err answer) t t' is (refused (at_spot why spot) answer c t t' h)

      pub bad_does : Gathers (content c) name (Err (fault.Bad spot)) → Refuses (at_spot cause.Bad spot) t answer t' → Does (unit_of name) c t (Err answer) c t'
      bad_does (tokens, files, unit) h = faulty cause.Bad (bad tokens files spot unit) h

      pub many_does : Gathers (content c) name (Err (fault.Tokens spot)) → Refuses (at_spot cause.Tokens spot) t answer t'
          → Does (unit_of name) c t (Err answer) c t'
      many_does (tokens, files, unit) h = faulty cause.Tokens (many tokens files spot unit) h

      pub include_does : Gathers (content c) name (Err (fault.Include spot)) → Refuses (at_spot cause.Include spot) t answer t'
          → Does (unit_of name) c t (Err answer) c t'
      include_does (tokens, files, unit) h = faulty cause.Include (include tokens files spot unit) h

-- a unit has its script's file
pub has_some : (files : List Source) (script : List ℕ) → HasScript files script → 0 < length files
has_some [] script h = absurd h
has_some (file ∷ files) script h = omega arith

pub ruleset parsed = (nested_does, syntax_does, cut_does)
