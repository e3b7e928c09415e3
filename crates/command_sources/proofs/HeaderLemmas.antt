-- What comes of a header's text does the work of its table.
use Rattle.std.proofs.Common.{ℕ, List, Result, Ok, Err, refl}
use Rattle.nwq_value.specs.Engine.{EngineTable}
use Rattle.nwq_text.specs.Line.{line_number}
use Rattle.nwq_outside.specs.Outside.{Contents}
use Rattle.engine_table.specs.declared.fault.HeaderFault.TheVariants as fault
use Rattle.engine_table.specs.Headers.{HasTable, IsRefused}
use Rattle.command_work.specs.declared.cause.Cause.{Cause}
use Rattle.command_work.specs.declared.cause.Cause.TheVariants as cause
use Rattle.command_work.specs.declared.status.Status.{Status}
use Rattle.command_work.specs.declared.status.Status.TheVariants.{Memory}
use Rattle.command_work.specs.Refusal.{At}
use Rattle.command_work.specs.Work.{Does}
use Rattle.command_work.specs.Parts.{Refuses, cut_here, finds_one, makes_does, refused}
use Rattle.command_sources.specs.Headers.{HeaderFate, Whole, Faulty, IsHeaderFate, whole, bad, header, twice, many, table_by, table_in}

module _ (name bytes : List ℕ) (c : Contents) where
  goes : (fate : HeaderFate) (r : Result EngineTable Status) (t t' : List ℕ) → IsHeaderFate bytes fate → Does (table_by name bytes fate) c t r c t'
      → Does (table_in name bytes) c t r c t'
  unfolding table_in
  goes fate r t t' is does = finds_one (λ (d : Contents) (f : HeaderFate). IsHeaderFate bytes f) (table_by name bytes) fate c c t t' r is does

  pub table_does : (table : EngineTable) (t : List ℕ) → HasTable bytes table → Does (table_in name bytes) c t (Ok table) c t
  table_does table t has = goes (Whole table) (Ok table) t t (whole table has) (refl, (refl, refl))

  module _ (place : ℕ) (answer : Status) (t t' : List ℕ) where
    faulty : (why : Cause) → IsHeaderFate bytes (Faulty why place) → Refuses (At name (line_number bytes place) place why) t answer t'
        → Does (table_in name bytes) c t (Err answer) c t'
    faulty why is h = goes (Faulty why place) (Err answer) t t' is (refused (At name (line_number bytes place) place why) answer c t t' h)

    pub bad_does : IsRefused bytes (fault.Bad place) → Refuses (At name (line_number bytes place) place cause.Bad) t answer t'
        → Does (table_in name bytes) c t (Err answer) c t'
    bad_does is h = faulty cause.Bad (bad place is) h

    pub header_does : IsRefused bytes (fault.Header place) → Refuses (At name (line_number bytes place) place cause.Header) t answer t'
        → Does (table_in name bytes) c t (Err answer) c t'
    header_does is h = faulty cause.Header (header place is) h

    pub twice_does : IsRefused bytes (fault.Twice place) → Refuses (At name (line_number bytes place) place cause.Twice) t answer t'
        → Does (table_in name bytes) c t (Err answer) c t'
    twice_does is h = faulty cause.Twice (twice place is) h

    pub many_does : IsRefused bytes (fault.Many place) → Refuses (At name (line_number bytes place) place cause.Many) t answer t'
        → Does (table_in name bytes) c t (Err answer) c t'
    many_does is h = faulty cause.Many (many place is) h

  pub cut_does : (t : List ℕ) → Does (table_in name bytes) c t (Err Memory) c t
  unfolding table_in
  cut_does t = cut_here (table_in name bytes) Memory c c t t tt tt refl refl

-- the built-in header
pub ruleset built = (cut_here, makes_does)

pub ruleset fates = (table_does, bad_does, header_does, twice_does, many_does, cut_does)
