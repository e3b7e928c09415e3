-- One thing comes of a header.
use Rattle.std.proofs.Common.{◌≡◌, ◌≢◌, ℕ, Bool, true, false, List, codes, bytes_eq, ap}
use Rattle.nwq_value.specs.Engine.{EngineTable}
use Rattle.nwq_value.specs.HeaderTable.{header_table}
use Rattle.engine_table.specs.declared.fault.HeaderFault.{HeaderFault}
use Rattle.engine_table.specs.declared.fault.HeaderFault.TheVariants as fault
use Rattle.engine_table.specs.Headers.{HasTable, IsRefused, OneHeader}
use Rattle.command_work.specs.declared.cause.Cause.TheVariants as cause
use Rattle.command_work.specs.Outcomes.{IsSure, sure_then, sure_file, sure_makes}
use Rattle.command_work.specs.Work.{file_named}
use Rattle.command_sources.specs.Headers.{HeaderFate, Whole, Faulty, IsHeaderFate, whole, bad, header, twice, many, table_by, table_in, table_named, table_unless, table_of_word}
use Rattle.command_sources.specs.Laws.{SureTables}

abbrev fate_of : HeaderFault → HeaderFate
fate_of (fault.Bad place) = Faulty cause.Bad place
fate_of (fault.Header place) = Faulty cause.Header place
fate_of (fault.Twice place) = Faulty cause.Twice place
fate_of (fault.Many place) = Faulty cause.Many place
fate_of fault.NoMemory = Faulty cause.Bad 0

not_bad : (place : ℕ) → fault.Bad place ≢ fault.NoMemory
not_bad place e = let no : ⊥ = cc in no

not_header : (place : ℕ) → fault.Header place ≢ fault.NoMemory
not_header place e = let no : ⊥ = cc in no

not_twice : (place : ℕ) → fault.Twice place ≢ fault.NoMemory
not_twice place e = let no : ⊥ = cc in no

not_many : (place : ℕ) → fault.Many place ≢ fault.NoMemory
not_many place e = let no : ⊥ = cc in no

module _ (one : OneHeader) (bytes : List ℕ) where
  -- a table, or a fault
  data Comes : HeaderFate → Type 0 where
    table : (t : EngineTable) → HasTable bytes t → Comes (Whole t)
    fails : (f : HeaderFault) → f ≢ fault.NoMemory → IsRefused bytes f → Comes (fate_of f)

  comes : {fate : HeaderFate} → IsHeaderFate bytes fate → Comes fate
  comes (whole t h) = table t h
  comes (bad place h) = fails (fault.Bad place) (not_bad place) h
  comes (header place h) = fails (fault.Header place) (not_header place) h
  comes (twice place h) = fails (fault.Twice place) (not_twice place) h
  comes (many place h) = fails (fault.Many place) (not_many place) h

  one_comes : {a b : HeaderFate} → Comes a → Comes b → a ≡ b
  one_comes (table t h) (table u k) = ap Whole (one.one_table bytes t u h k)
  one_comes (table t h) (fails f some k) = absurd (one.not_both bytes t f some h k)
  one_comes (fails f some h) (table t k) = absurd (one.not_both bytes t f some k h)
  one_comes (fails f some h) (fails g other k) = ap fate_of (one.one_fault bytes f g some other h k)

sure_by : (name bytes : List ℕ) (fate : HeaderFate) → IsSure (table_by name bytes fate)
sure_by name bytes (Whole t) = tt
sure_by name bytes (Faulty why place) = tt

module _ (one : OneHeader) where
  sure_in : (name bytes : List ℕ) → IsSure (table_in name bytes)
  unfolding table_in
  sure_in name bytes = (λ c a b p q. one_comes one bytes (comes one bytes p) (comes one bytes q), sure_by name bytes)

  sure_named : (name : List ℕ) → IsSure (table_named name)
  unfolding table_named
  sure_named name = sure_then (file_named name) (table_in name) (sure_file name) (sure_in name)

  sure_unless : (built_in : Bool) (name : List ℕ) → IsSure (table_unless built_in name)
  sure_unless true name = sure_makes header_table
  sure_unless false name = sure_named name

  pub sure_tables : SureTables
  unfolding table_of_word
  sure_tables word = sure_unless (bytes_eq word (codes "-")) word
