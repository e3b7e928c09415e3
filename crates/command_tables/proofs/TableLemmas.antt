-- What comes of the bytes of a table's file does its work.
use Rattle.std.proofs.Common.{ℕ, List, Result, Ok, Err, refl}
use Rattle.nwq_outside.specs.Outside.{Contents}
use Rattle.table_2da.specs.declared.fault.TableFault.TheVariants as fault
use Rattle.table_2da.specs.Grammar.{HasTable, IsFaulty}
use Rattle.table_2da.specs.Table.{PlainTable}
use Rattle.command_work.specs.declared.flaw.AreaFlaw.TheVariants as flaw
use Rattle.command_work.specs.declared.status.Status.{Status}
use Rattle.command_work.specs.declared.status.Status.TheVariants.{Memory}
use Rattle.command_work.specs.Refusal.{BadArea}
use Rattle.command_work.specs.Work.{Does}
use Rattle.command_work.specs.Parts.{Refuses, cut_here, finds_one, refused}
use Rattle.command_tables.specs.Tables.{TableFate, Whole, Faulty, IsTableFate, whole, faulty, table_by, table_in}

module _ (file bytes : List ℕ) (c : Contents) where
  goes : (fate : TableFate) (r : Result PlainTable Status) (t t' : List ℕ) → IsTableFate bytes fate → Does (table_by file fate) c t r c t'
      → Does (table_in file bytes) c t r c t'
  unfolding table_in
  goes fate r t t' is does = finds_one (λ (d : Contents) (f : TableFate). IsTableFate bytes f) (table_by file) fate c c t t' r is does

  pub table_does : (table : PlainTable) (t : List ℕ) → HasTable bytes table → Does (table_in file bytes) c t (Ok table) c t
  table_does table t has = goes (Whole table) (Ok table) t t (whole table has) (refl, (refl, refl))

  pub table_faulty : (line : ℕ) (answer : Status) (t t' : List ℕ) → IsFaulty bytes (fault.Line line) → Refuses (BadArea file (flaw.Line line)) t answer t'
      → Does (table_in file bytes) c t (Err answer) c t'
  table_faulty line answer t t' is h =
      goes (Faulty line) (Err answer) t t' (faulty line is) (refused (BadArea file (flaw.Line line)) answer c t t' h)

  pub table_cut : (t : List ℕ) → Does (table_in file bytes) c t (Err Memory) c t
  unfolding table_in
  table_cut t = cut_here (table_in file bytes) Memory c c t t tt tt refl refl

pub ruleset tables = (table_does, table_faulty, table_cut)
