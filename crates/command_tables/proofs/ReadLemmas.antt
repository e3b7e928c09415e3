-- Tables that are read one after another.
use Rattle.std.proofs.Common.{◌≡◌, ℕ, Bool, IsTrue, List, [], ◌∷◌, ◌++◌, map, length, Result, Ok, Err, refl, sym, ap, subst, ◌∙◌, arith, append_assoc}
use Rattle.std.proofs.lemmas.List.{map-append}
use Rattle.nwq_outside.specs.Outside.{Contents}
use Rattle.table_2da.specs.declared.tables.Named.{Named}
use Rattle.table_2da.specs.Table.{PlainTable}
use Rattle.command_work.specs.declared.status.Status.{Status}
use Rattle.command_work.specs.declared.status.Status.TheVariants.{Memory}
use Rattle.command_work.specs.Work.{Does, then, file_named}
use Rattle.command_work.specs.Parts.{then_ok, then_err, cut_here, makes_does}
use Rattle.command_tables.specs.Tables.{with_table, table_in_file, one_more, all_behind}

-- ---- one table more

pub names_more : (tables more : List Named) (name : List ℕ) (table : PlainTable) → more ≡ with_table tables name table
    → map (λ t. t.name) more ≡ map (λ t. t.name) tables ++ name ∷ []
names_more tables more name table e = ap (map (λ t. t.name)) e ∙ map-append (λ t. t.name) tables (record { name = name; table = table } ∷ [])

-- the name of the file is still to be made
pub table_wanted : (file : List ℕ) (c : Contents) (t : List ℕ) → Does (table_in_file file) c t (Err Memory) c t
unfolding table_in_file file_named
table_wanted file c t = cut_here (table_in_file file) Memory c c t t tt tt refl refl

pub ruleset more_tables = (names_more, cut_here, makes_does)

-- ---- all tables

-- The names of the tables so far and of those that are left are all names, and what is left does
-- from here what the whole does from the start.
pub record SoFar (files_tell sink_tells : Bool) (names rest : List (List ℕ)) (tables : List Named) (c0 c : Contents) (t0 t : List ℕ) : Type 0 where
  pub all : map (λ t. t.name) tables ++ rest ≡ names
  pub by : IsTrue files_tell → IsTrue sink_tells → (r : Result (List Named) Status) (c' : Contents) (t' : List ℕ)
      → Does (all_behind tables rest) c t r c' t' → Does (all_behind [] names) c0 t0 r c' t'

module _ (files_tell sink_tells : Bool) (c0 : Contents) (t0 : List ℕ) where
  pub tables_begin : (names : List (List ℕ)) (tables : List Named) → tables ≡ [] → SoFar files_tell sink_tells names names tables c0 c0 t0 t0
  tables_begin names tables e =
      subst (λ ts. SoFar files_tell sink_tells names names ts c0 c0 t0 t0) (sym e) (record { all = refl; by = λ told also r c' t' does. does })

  module _ (names rest others : List (List ℕ)) (name : List ℕ) (tables : List Named) (c : Contents) (t : List ℕ) where
    by_next : rest ≡ name ∷ others → (r : Result (List Named) Status) (c' : Contents) (t' : List ℕ)
        → Does (then (one_more tables name) (λ more. all_behind more others)) c t r c' t' → Does (all_behind tables rest) c t r c' t'
    unfolding all_behind
    by_next e r c' t' does = subst (λ xs. Does (all_behind tables xs) c t r c' t') (sym e) does

    -- the names behind the tables so far, the next one among them
    pub next_is : SoFar files_tell sink_tells names rest tables c0 c t0 t → rest ≡ name ∷ others → map (λ t. t.name) tables ++ name ∷ others ≡ names
    next_is so e = ap (λ xs. map (λ t. t.name) tables ++ xs) (sym e) ∙ so.all

    pub tables_go_on : (more : List Named) (c1 : Contents) (t1 : List ℕ) → SoFar files_tell sink_tells names rest tables c0 c t0 t
        → rest ≡ name ∷ others
        → map (λ t. t.name) more ≡ map (λ t. t.name) tables ++ name ∷ []
        → (IsTrue files_tell → IsTrue sink_tells → Does (one_more tables name) c t (Ok more) c1 t1)
        → SoFar files_tell sink_tells names others more c0 c1 t0 t1
    tables_go_on more c1 t1 so e named does = record {
      all = ap (λ xs. xs ++ others) named ∙ (append_assoc (map (λ t. t.name) tables) (name ∷ []) others ∙ next_is so e);
      by = λ told also r c' t' on. so.by told also r c' t'
          (by_next e r c' t'
          (then_ok (one_more tables name) (λ ts. all_behind ts others) more c c1 c' t t1 t' r (does told also) on));
    }

    pub tables_stop : (status : Status) (c1 : Contents) (t1 : List ℕ) → SoFar files_tell sink_tells names rest tables c0 c t0 t
        → rest ≡ name ∷ others
        → (IsTrue files_tell → IsTrue sink_tells → Does (one_more tables name) c t (Err status) c1 t1)
        → IsTrue files_tell → IsTrue sink_tells → Does (all_behind [] names) c0 t0 (Err status) c1 t1
    tables_stop status c1 t1 so e does told also =
        so.by told also (Err status) c1 t1
        (by_next e (Err status) c1 t1 (then_err (one_more tables name) (λ ts. all_behind ts others) status c c1 t t1 (does told also)))

  pub tables_done : (names rest : List (List ℕ)) (tables : List Named) (c : Contents) (t : List ℕ)
      → SoFar files_tell sink_tells names rest tables c0 c t0 t → length rest ≡ 0
      → IsTrue files_tell → IsTrue sink_tells → Does (all_behind [] names) c0 t0 (Ok tables) c t
  unfolding all_behind
  tables_done names [] tables c t so e told also = so.by told also (Ok tables) c t (refl, (refl, refl))
  tables_done names (name ∷ rest) tables c t so e told also = absurd (omega arith)
